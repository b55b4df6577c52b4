-- The rounds as they are made are rounds of the workers.
use Rattle.std.proofs.Common.{◌≡◌, ℕ, zero, suc, ◌+◌, ◌*◌, ◌-◌, ◌<◌, ◌≤◌, ◌&&◌, ◌||◌, Bool, true, false, not, nat_lt, List, [], ◌∷◌, ◌++◌, refl, sym, ap, subst, ◌∙◌, arith, replicate, append-nil}
use Rattle.std.specs.List.{list_any}
use Rattle.std.proofs.Math.Bool.{and-false}
use Rattle.std.proofs.lemmas.Bool.{and_parts, not-true, lt-ltb, ne_eqb}
use Rattle.schedule.specs.Rounds.{worker_steps, would_acquire, worker_holds, goes, turns_taken, worker_entry, steps_after, steps_of_round, are_done, AreRounds, ended, round}
use Rattle.schedule.specs.Made.{by_turns, each_once, each_times, handed, handed_on, handed_back, called, several_rounds}
use Rattle.schedule.proofs.Pairs.{Leads, here, more, joined, all_rounds, first_at, second_at, entries, rest_along, standing, pair_leads}

-- how many steps a worker has taken when it waits for the lock of a call, and when it is about to give it back
abbrev pub waiting : ℕ → ℕ
waiting call = 5 + 13 * call

abbrev pub holding : ℕ → ℕ
holding call = 12 + 13 * call

-- some workers have done with a call, one holds the lock, and the others wait for it
abbrev pub passing : (f a h l b : ℕ) → List ℕ
passing f a h l b = replicate f a ++ (h ∷ replicate l b)

one_before : (f a : ℕ) (rest : List ℕ) → replicate f a ++ (a ∷ rest) ≡ replicate (suc f) a ++ rest
one_before zero a rest = refl
one_before (suc f) a rest = ap (λ r. a ∷ r) (one_before f a rest)

-- the lock goes to the next worker, in seven rounds
pub record Hands (both alone a h b : ℕ) : Type 0 where
  pub rest : rest_along 7 a 106 b h b ≡ true
  pub made : (p q : ℕ) → entries 7 h b p q ≡ by_turns both p q ++ replicate alone q
  pub first : first_at 7 h b ≡ a
  pub second : second_at 7 h b ≡ h

hand : (both alone a h b f l w : ℕ) → Hands both alone a h b → w ≡ f + 1 → Leads (passing f a h (suc l) b) (handed both alone w) (passing (suc f) a h l b)
hand both alone a h b f l w is number =
    let lead = pair_leads 7 f a 0 106 l b h b w (w + 1) (omega (arith, number)) (omega (arith, number)) is.rest in
    let end : standing f a 0 106 l b (first_at 7 h b) (second_at 7 h b) ≡ passing (suc f) a h l b =
    ap (λ x. standing f a 0 106 l b x (second_at 7 h b)) is.first ∙ ap (λ y. standing f a 0 106 l b a y) is.second ∙ one_before f a (h ∷ replicate l b) in
    subst (λ z. Leads (passing f a h (suc l) b) (handed both alone w) z) end (subst (λ s. Leads (passing f a h (suc l) b) s (standing f a 0 106 l b (first_at 7 h b) (second_at 7 h b))) (is.made w (w + 1)) lead)

-- from one worker to the last
pass : (both alone a h b k f w : ℕ) → Hands both alone a h b → w ≡ f + 1 → Leads (passing f a h k b) (handed_on both alone w k) (passing (f + k) a h 0 b)
pass both alone a h b zero f w is number = subst (λ z. Leads (passing f a h 0 b) [] (passing z a h 0 b)) (let e : f ≡ f + 0 = omega arith in e) here
pass both alone a h b (suc k) f w is number =
    joined (hand both alone a h b f k w is number)
    (subst (λ z. Leads (passing (suc f) a h k b) (handed_on both alone (w + 1) k) (passing z a h 0 b)) (let e : suc f + k ≡ f + suc k = omega arith in e) (pass both alone a h b k (suc f) (w + 1) is (omega (arith, number))))

-- from the first worker to the last of n, of which m stand behind the second
pass_all : (both alone a h b m n : ℕ) → Hands both alone a h b → n ≡ 2 + m → Leads (passing 0 a h (suc m) b) (handed_on both alone 1 (n - 1)) (passing (suc m) a h 0 b)
pass_all both alone a h b m n is number =
    subst (λ z. Leads (passing 0 a h (suc m) b) (handed_on both alone 1 (n - 1)) (passing z a h 0 b)) (let e : 0 + suc m ≡ suc m = omega arith in e)
    (subst (λ k. Leads (passing 0 a h (suc m) b) (handed_on both alone 1 k) (passing (0 + suc m) a h 0 b)) (let e : suc m ≡ n - 1 = omega (arith, number) in e) (pass both alone a h b (suc m) 0 1 is refl))

-- the lock goes from the last worker to the first, in eight rounds
pub record Returns (h b next : ℕ) : Type 0 where
  pub rest : rest_along 8 106 b 106 b h ≡ true
  pub made : (n : ℕ) → entries 8 b h 1 n ≡ handed_back n
  pub first : first_at 8 b h ≡ next
  pub second : second_at 8 b h ≡ b

all_behind : (m b : ℕ) → replicate m b ++ (b ∷ []) ≡ replicate (suc m) b
all_behind m b = one_before m b [] ∙ append-nil (replicate (suc m) b)

back : (h b next c m n : ℕ) → Returns h b next → n ≡ 2 + m → Leads (passing (suc m) b h 0 c) (handed_back n) (passing 0 b next (suc m) b)
back h b next c m n is number =
    let lead = pair_leads 8 0 106 m b 0 106 b h 1 n refl (omega (arith, number)) is.rest in
    let end : standing 0 106 m b 0 106 (first_at 8 b h) (second_at 8 b h) ≡ passing 0 b next (suc m) b =
    ap (λ x. standing 0 106 m b 0 106 x (second_at 8 b h)) is.first ∙ ap (λ y. standing 0 106 m b 0 106 next y) is.second ∙ ap (λ r. next ∷ r) (all_behind m b) in
    subst (λ z. Leads (passing (suc m) b h 0 c) (handed_back n) z) end (subst (λ s. Leads (passing (suc m) b h 0 c) s (standing 0 106 m b 0 106 (first_at 8 b h) (second_at 8 b h))) (is.made n) lead)

-- so it is in each call
hands : (call : ℕ) → call < 7 → Hands 6 1 (waiting (suc call)) (holding call) (waiting call)
hands zero h = record { rest = refl; made = λ p q. refl; first = refl; second = refl }
hands (suc zero) h = record { rest = refl; made = λ p q. refl; first = refl; second = refl }
hands (suc (suc zero)) h = record { rest = refl; made = λ p q. refl; first = refl; second = refl }
hands (suc (suc (suc zero))) h = record { rest = refl; made = λ p q. refl; first = refl; second = refl }
hands (suc (suc (suc (suc zero)))) h = record { rest = refl; made = λ p q. refl; first = refl; second = refl }
hands (suc (suc (suc (suc (suc zero))))) h = record { rest = refl; made = λ p q. refl; first = refl; second = refl }
hands (suc (suc (suc (suc (suc (suc zero)))))) h = record { rest = refl; made = λ p q. refl; first = refl; second = refl }
hands (suc (suc (suc (suc (suc (suc (suc n))))))) h = absurd (omega (arith, h))

last_hands : Hands 3 4 106 (holding 7) (waiting 7)
last_hands = record { rest = refl; made = λ p q. refl; first = refl; second = refl }

returns : (call : ℕ) → call < 7 → Returns (holding call) (waiting (suc call)) (holding (suc call))
returns zero h = record { rest = refl; made = λ n. refl; first = refl; second = refl }
returns (suc zero) h = record { rest = refl; made = λ n. refl; first = refl; second = refl }
returns (suc (suc zero)) h = record { rest = refl; made = λ n. refl; first = refl; second = refl }
returns (suc (suc (suc zero))) h = record { rest = refl; made = λ n. refl; first = refl; second = refl }
returns (suc (suc (suc (suc zero)))) h = record { rest = refl; made = λ n. refl; first = refl; second = refl }
returns (suc (suc (suc (suc (suc zero))))) h = record { rest = refl; made = λ n. refl; first = refl; second = refl }
returns (suc (suc (suc (suc (suc (suc zero)))))) h = record { rest = refl; made = λ n. refl; first = refl; second = refl }
returns (suc (suc (suc (suc (suc (suc (suc n))))))) h = absurd (omega (arith, h))

-- the calls from one on to the last
calls_lead : (k call m a b n : ℕ) → call + k ≡ 7 → n ≡ 2 + m → Leads (passing 0 a (holding call) (suc m) (waiting call)) (called k n) (passing 0 b (holding 7) (suc m) (waiting 7))
calls_lead zero call m a b n e number =
    subst (λ c. Leads (passing 0 a (holding call) (suc m) (waiting call)) [] (passing 0 b (holding c) (suc m) (waiting c))) (let i : call ≡ 7 = omega (arith, e) in i) here
calls_lead (suc k) call m a b n e number =
    let below : call < 7 = omega (arith, e) in
    let w = waiting (suc call) in
    joined (joined (pass_all 6 1 w (holding call) (waiting call) m n (hands call below) number) (back (holding call) w (holding (suc call)) (waiting call) m n (returns call below) number))
    (calls_lead k (suc call) m w b n (omega (arith, e)) number)

-- rounds in which each worker steps
all_go : (held : Bool) (w n t : ℕ) → would_acquire t ≡ false → nat_lt t worker_steps ≡ true → (goes held t (replicate n t)) ≡ true
all_go held w n t free left = ap (λ z. nat_lt t worker_steps && not (z && (held || list_any worker_holds (replicate n t)))) free ∙ ap (λ z. z && true) left

after_all : (held : Bool) (n t : ℕ) → would_acquire t ≡ false → nat_lt t worker_steps ≡ true → steps_after held (replicate n t) ≡ replicate n (t + 1)
after_all held zero t free left = refl
after_all held (suc n) t free left =
    ap (λ g. turns_taken g t ∷ steps_after (held || worker_holds (turns_taken g t)) (replicate n t)) (all_go held 0 n t free left) ∙ ap (λ r. (t + 1) ∷ r) (after_all (held || worker_holds (t + 1)) n t free left)

steps_all : (held : Bool) (w n t : ℕ) → would_acquire t ≡ false → nat_lt t worker_steps ≡ true → steps_of_round held w (replicate n t) ≡ each_once w n
steps_all held w zero t free left = refl
steps_all held w (suc n) t free left =
    ap (λ g. worker_entry g w ++ steps_of_round (held || worker_holds (turns_taken g t)) (w + 1) (replicate n t)) (all_go held w n t free left) ∙ ap (λ r. w ∷ r) (steps_all (held || worker_holds (t + 1)) (w + 1) n t free left)

-- in each of so many rounds all may step
abbrev pub free_along : ℕ → ℕ → Bool
free_along zero t = true
free_along (suc k) t = (not (would_acquire t) && nat_lt t worker_steps) && free_along k (t + 1)

-- workers that have something left aren't done
some_left : (n t : ℕ) → nat_lt t worker_steps ≡ true → are_done (replicate (suc n) t) ≡ false
some_left n t left = ap (λ z. z && are_done (replicate n t)) (ne_eqb t worker_steps (λ same. absurd (let e : false ≡ true = subst (λ u. nat_lt u worker_steps ≡ true) same left in cc)))

each_round : (k m t : ℕ) → free_along k t ≡ true → Leads (replicate (suc m) t) (each_times k (suc m)) (replicate (suc m) (t + k))
each_round zero m t e = subst (λ z. Leads (replicate (suc m) t) [] (replicate (suc m) z)) (let i : t ≡ t + 0 = omega arith in i) here
each_round (suc k) m t e =
    let p = and_parts (not (would_acquire t) && nat_lt t worker_steps) (free_along k (t + 1)) e in
    let q = and_parts (not (would_acquire t)) (nat_lt t worker_steps) p.0 in
    let free = not-true (would_acquire t) q.0 in
    let end = replicate (suc m) (t + suc k) in
    let on = subst (λ z. Leads (replicate (suc m) (t + 1)) (each_times k (suc m)) (replicate (suc m) z)) (let i : (t + 1) + k ≡ t + suc k = omega arith in i) (each_round k m (t + 1) p.1) in
    subst (λ z. Leads (replicate (suc m) t) (z ++ each_times k (suc m)) end) (steps_all false 1 (suc m) t free q.1)
    (more (some_left m t q.1) (subst (λ z. Leads z (each_times k (suc m)) end) (sym (after_all false (suc m) t free q.1)) on))

-- the first worker takes the lock of its first call, and goes on alone
first_call : (m : ℕ) → Leads (replicate (suc (suc m)) 5) (replicate 7 1) (passing 0 5 (holding 0) (suc m) (waiting 0))
first_call m = pair_leads 7 0 106 0 106 m 5 5 5 1 2 refl refl refl

-- the last worker gives the lock back, and ends
last_end : (m n : ℕ) → n ≡ 2 + m → Leads (passing (suc m) 106 (holding 7) 0 (waiting 7)) (replicate 3 n) (standing 0 106 m 106 0 106 106 106)
last_end m n number = pair_leads 3 0 106 m 106 0 106 106 (holding 7) 1 n refl (omega (arith, number)) refl

done_alike : (n : ℕ) (behind : List ℕ) → are_done behind ≡ true → are_done (replicate n 106 ++ behind) ≡ true
done_alike zero behind e = e
done_alike (suc n) behind e = done_alike n behind e

-- the rounds of two workers or more
pub several : (n : ℕ) → 2 ≤ n → AreRounds (replicate n 0) (several_rounds n)
several n at_least = made (n - 2) (omega (arith, at_least))
  where
    made : (m : ℕ) → n ≡ 2 + m → AreRounds (replicate n 0) (several_rounds n)
    made m number =
        let size : suc (suc m) ≡ n = omega (arith, number) in
        let begin = subst (λ z. Leads (replicate z 0) (each_times 5 z) (replicate (suc (suc m)) 5)) size (each_round 5 (suc m) 0 refl) in
        let calls = calls_lead 7 0 m 5 5 n refl number in
        all_rounds (joined (joined (joined (joined begin (first_call m)) calls) (pass_all 3 4 106 (holding 7) (waiting 7) m n last_hands number)) (last_end m n number)) (done_alike m (106 ∷ []) refl)

-- the rounds of one worker
alone_goes : (t : ℕ) → t < 106 → goes false t [] ≡ true
alone_goes t left = ap (λ z. z && not (would_acquire t && false)) (lt-ltb t 106 left) ∙ ap (λ z. not z) (and-false (would_acquire t))

one_alone : (k t : ℕ) → t + k ≡ 106 → AreRounds (t ∷ []) (replicate k 1)
one_alone zero t e = subst (λ z. AreRounds (z ∷ []) []) (let i : 106 ≡ t = omega (arith, e) in i) (ended refl)
one_alone (suc k) t e =
    let left : t < 106 = omega (arith, e) in
    let g = alone_goes t left in
    let left_over : are_done (t ∷ []) ≡ false = ap (λ z. z && true) (ne_eqb t 106 (λ same. absurd (omega (arith, same, left)))) in
    subst (λ z. AreRounds (t ∷ []) (z ++ replicate k 1)) (ap (λ b. worker_entry b 1 ++ []) g)
    (round left_over (subst (λ z. AreRounds z (replicate k 1)) (ap (λ b. turns_taken b t ∷ []) (sym g)) (one_alone k (t + 1) (omega (arith, e)))))

pub alone : AreRounds (replicate 1 0) (replicate 106 1)
alone = one_alone 106 0 refl

pub nobody : AreRounds (replicate 0 0) []
nobody = ended refl
