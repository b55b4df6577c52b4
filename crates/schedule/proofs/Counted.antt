-- How many entries rounds have, and that they are the only ones.
use Rattle.std.proofs.Common.{◌≡◌, ℕ, zero, suc, ◌+◌, ◌*◌, ◌==◌, ◌||◌, Bool, true, false, List, [], ◌∷◌, ◌++◌, length, refl, sym, ap, ◌∙◌, arith, replicate}
use Rattle.std.proofs.lemmas.List.{length-append, length-replicate}
use Rattle.std.proofs.lemmas.Bool.{and_parts, eqb-true}
use Rattle.schedule.specs.Rounds.{main_steps, worker_steps, worker_holds, goes, turns_taken, worker_entry, steps_after, steps_of_round, are_done, AreRounds, ended, round, IsGenerated}

-- the steps of all workers together
abbrev total : List ℕ → ℕ
total [] = 0
total (t ∷ ts) = t + total ts

one_turn : (b : Bool) (t w : ℕ) → length (worker_entry b w) + t ≡ turns_taken b t
one_turn true t w = omega arith
one_turn false t w = omega arith

-- a round has an entry for each step
count_steps : (held : Bool) (w : ℕ) (all : List ℕ) → length (steps_of_round held w all) + total all ≡ total (steps_after held all)
count_steps held w [] = refl
count_steps held w (t ∷ ts) =
    let g = goes held t ts in
    let more = count_steps (held || worker_holds (turns_taken g t)) (w + 1) ts in
    omega (arith, length-append (worker_entry g w) (steps_of_round (held || worker_holds (turns_taken g t)) (w + 1) ts), one_turn g t w, more)

same_length : (held : Bool) (all : List ℕ) → length (steps_after held all) ≡ length all
same_length held [] = refl
same_length held (t ∷ ts) = ap suc (same_length (held || worker_holds (turns_taken (goes held t ts) t)) ts)

done_total : (all : List ℕ) → are_done all ≡ true → total all ≡ 106 * length all
done_total [] e = omega arith
done_total (t ∷ ts) e =
    let p = and_parts (t == worker_steps) (are_done ts) e in
    omega (arith, eqb-true t worker_steps p.0, done_total ts p.1)

count_rounds : {all s : List ℕ} → AreRounds all s → length s + total all ≡ 106 * length all
count_rounds {all = all} (ended e) = omega (arith, done_total all e)
count_rounds {all = all} (round {rest = rest} e more) =
    omega (arith, length-append (steps_of_round false 1 all) rest, count_steps false 1 all, same_length false all, count_rounds more)

no_total : (n : ℕ) → total (replicate n 0) ≡ 0
no_total zero = refl
no_total (suc n) = omega (arith, no_total n)

pub generated_size : (n : ℕ) (schedule : List ℕ) → IsGenerated n schedule → length schedule ≡ 4 + 109 * n
generated_size n schedule g =
    omega (arith, ap length g.is, length-append (replicate (main_steps n) 0) g.rounds, length-replicate {A = ℕ} (main_steps n) 0, length-replicate {A = ℕ} n 0, count_rounds g.are, no_total n)

-- rounds are decided by the steps that were taken
same_rounds : {all s r : List ℕ} → AreRounds all s → AreRounds all r → s ≡ r
same_rounds (ended e) (ended f) = refl
same_rounds (ended e) (round f more) = absurd (let x : true ≡ false = sym e ∙ f in cc)
same_rounds (round e more) (ended f) = absurd (let x : true ≡ false = sym f ∙ e in cc)
same_rounds {all = all} (round e s) (round f r) = ap (λ l. steps_of_round false 1 all ++ l) (same_rounds s r)

pub generated_once : (n : ℕ) (schedule other : List ℕ) → IsGenerated n schedule → IsGenerated n other → schedule ≡ other
generated_once n schedule other g h = g.is ∙ ap (λ l. replicate (main_steps n) 0 ++ l) (same_rounds g.are h.are) ∙ sym h.is
