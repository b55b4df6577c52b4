-- Workers that rest in a round: they are done, or wait for the lock that another holds.
use Rattle.std.proofs.Common.{◌≡◌, ◌⊎◌, inl, inr, ℕ, zero, suc, ◌+◌, ◌==◌, ◌&&◌, ◌||◌, Bool, true, false, not, nat_lt, List, [], ◌∷◌, ◌++◌, length, refl, sym, ap, subst, ◌∙◌, arith, replicate, append-nil}
use Rattle.std.specs.List.{list_all, list_any}
use Rattle.std.proofs.Math.Bool.{or-false, and-false}
use Rattle.std.proofs.lemmas.Bool.{and_parts, and_from, eqb-true, or_cases, not-true}
use Rattle.schedule.specs.Rounds.{worker_steps, would_acquire, worker_holds, goes, turns_taken, worker_entry, steps_after, steps_of_round}

-- where `held` says whether some other worker holds the lock
abbrev pub rests : Bool → ℕ → Bool
rests held taken = not (worker_holds taken) && ((taken == worker_steps) || (would_acquire taken && held))

stays_or : (taken : ℕ) (held : Bool) → ((taken == worker_steps) ≡ true) ⊎ ((would_acquire taken && held) ≡ true) → (nat_lt taken worker_steps && not (would_acquire taken && held)) ≡ false
stays_or taken held (inl done) = subst (λ t. (nat_lt t worker_steps && not (would_acquire t && held)) ≡ false) (sym (eqb-true taken worker_steps done)) refl
stays_or taken held (inr waits) = ap (λ b. nat_lt taken worker_steps && not b) waits ∙ and-false (nat_lt taken worker_steps)

-- a resting worker doesn't step
stays : (taken : ℕ) (held : Bool) → rests held taken ≡ true → (nat_lt taken worker_steps && not (would_acquire taken && held)) ≡ false
stays taken held e =
    let p = and_parts (not (worker_holds taken)) ((taken == worker_steps) || (would_acquire taken && held)) e in
    stays_or taken held (or_cases (taken == worker_steps) (would_acquire taken && held) p.1)

-- nor holds it the lock
no_holder : (taken : ℕ) (held : Bool) → rests held taken ≡ true → worker_holds taken ≡ false
no_holder taken held e = not-true (worker_holds taken) (and_parts (not (worker_holds taken)) ((taken == worker_steps) || (would_acquire taken && held)) e).0

pub none_holds : (held : Bool) (all behind : List ℕ) → list_all (rests held) all ≡ true → list_any worker_holds (all ++ behind) ≡ list_any worker_holds behind
none_holds held [] behind e = refl
none_holds held (t ∷ ts) behind e =
    let p = and_parts (rests held t) (list_all (rests held) ts) e in
    ap (λ b. b || list_any worker_holds (ts ++ behind)) (no_holder t held p.0) ∙ none_holds held ts behind p.1

-- a worker that rests doesn't go
pub no_turn : (before : Bool) (t : ℕ) (ts behind : List ℕ) (held : Bool) → held ≡ (before || list_any worker_holds behind) → list_all (rests held) (t ∷ ts) ≡ true → goes before t (ts ++ behind) ≡ false
no_turn before t ts behind held is e =
    let p = and_parts (rests held t) (list_all (rests held) ts) e in
    ap (λ b. nat_lt t worker_steps && not (would_acquire t && (before || b))) (none_holds held ts behind p.1) ∙ ap (λ b. nat_lt t worker_steps && not (would_acquire t && b)) (sym is) ∙ stays t held p.0

still : (before : Bool) (t : ℕ) (held : Bool) → rests held t ≡ true → (before || worker_holds t) ≡ before
still before t held e = ap (λ b. before || b) (no_holder t held e) ∙ or-false before

-- workers that rest stay where they are
pub after_resting : (before : Bool) (all behind : List ℕ) (held : Bool) → held ≡ (before || list_any worker_holds behind) → list_all (rests held) all ≡ true → steps_after before (all ++ behind) ≡ all ++ steps_after before behind
after_resting before [] behind held is e = refl
after_resting before (t ∷ ts) behind held is e =
    let p = and_parts (rests held t) (list_all (rests held) ts) e in
    ap (λ b. turns_taken b t ∷ steps_after (before || worker_holds (turns_taken b t)) (ts ++ behind)) (no_turn before t ts behind held is e)
    ∙ ap (λ b. t ∷ steps_after b (ts ++ behind)) (still before t held p.0)
    ∙ ap (λ l. t ∷ l) (after_resting before ts behind held is p.1)

pub steps_resting : (before : Bool) (all behind : List ℕ) (held : Bool) (worker : ℕ) → held ≡ (before || list_any worker_holds behind) → list_all (rests held) all ≡ true → steps_of_round before worker (all ++ behind) ≡ steps_of_round before (worker + length all) behind
steps_resting before [] behind held worker is e = ap (λ w. steps_of_round before w behind) (omega arith)
steps_resting before (t ∷ ts) behind held worker is e =
    let p = and_parts (rests held t) (list_all (rests held) ts) e in
    ap (λ b. worker_entry b worker ++ steps_of_round (before || worker_holds (turns_taken b t)) (worker + 1) (ts ++ behind)) (no_turn before t ts behind held is e)
    ∙ ap (λ b. steps_of_round b (worker + 1) (ts ++ behind)) (still before t held p.0)
    ∙ steps_resting before ts behind held (worker + 1) is p.1
    ∙ ap (λ w. steps_of_round before w behind) (omega arith)

-- so many workers that rest alike
pub all_rest : (held : Bool) (n t : ℕ) → rests held t ≡ true → list_all (rests held) (replicate n t) ≡ true
all_rest held zero t e = refl
all_rest held (suc n) t e = and_from (rests held t) (list_all (rests held) (replicate n t)) e (all_rest held n t e)

-- where all behind rest, too, nobody steps any more
pub none_at_all : (held : Bool) (all : List ℕ) → list_all (rests held) all ≡ true → list_any worker_holds all ≡ false
none_at_all held all e = ap (list_any worker_holds) (sym (append-nil all)) ∙ none_holds held all [] e

pub after_last : (before : Bool) (all : List ℕ) → list_all (rests before) all ≡ true → steps_after before all ≡ all
after_last before all e = ap (steps_after before) (sym (append-nil all)) ∙ after_resting before all [] before (sym (or-false before)) e ∙ append-nil all

pub steps_last : (before : Bool) (worker : ℕ) (all : List ℕ) → list_all (rests before) all ≡ true → steps_of_round before worker all ≡ []
steps_last before worker all e = ap (steps_of_round before worker) (sym (append-nil all)) ∙ steps_resting before all [] before worker (sym (or-false before)) e
