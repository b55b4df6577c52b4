-- Two workers that step side by side while all others rest.
use Rattle.std.proofs.Common.{◌≡◌, ℕ, zero, suc, ◌+◌, ◌==◌, ◌&&◌, ◌||◌, Bool, true, false, not, List, [], ◌∷◌, ◌++◌, refl, sym, ap, subst, ◌∙◌, arith, replicate, nat_lt, append-nil, append_assoc}
use Rattle.std.specs.List.{list_any}
use Rattle.std.proofs.Math.Bool.{or-false, and-false}
use Rattle.std.proofs.lemmas.Bool.{and_parts, not-true}
use Rattle.std.proofs.lemmas.List.{length-replicate}
use Rattle.schedule.specs.Rounds.{worker_steps, would_acquire, worker_holds, goes, turns_taken, worker_entry, steps_after, steps_of_round, are_done, AreRounds, ended, round}
use Rattle.schedule.proofs.Resting.{rests, none_holds, none_at_all, after_resting, steps_resting, after_last, steps_last, all_rest}

-- some rounds lead from these steps to those
pub data Leads : List ℕ → List ℕ → List ℕ → Type 0 where
  here : {all : List ℕ} → Leads all [] all
  more : {all s end : List ℕ} → are_done all ≡ false → Leads (steps_after false all) s end → Leads all (steps_of_round false 1 all ++ s) end

pub joined : {all s middle r end : List ℕ} → Leads all s middle → Leads middle r end → Leads all (s ++ r) end
joined here next = next
joined {all = all} {r = r} {end = end} (more {s = s} e first) next = subst (λ l. Leads all l end) (sym (append_assoc (steps_of_round false 1 all) s r)) (more e (joined first next))

-- rounds that lead to where all are done are all rounds
pub all_rounds : {all s end : List ℕ} → Leads all s end → are_done end ≡ true → AreRounds all s
all_rounds here e = ended e
all_rounds (more e rest) done = round e (all_rounds rest done)

-- what the two have taken after a round, and which of them steps
abbrev pub first_goes : ℕ → ℕ → Bool
first_goes x y = goes false x (y ∷ [])

abbrev pub first_now : ℕ → ℕ → ℕ
first_now x y = turns_taken (first_goes x y) x

abbrev pub second_goes : ℕ → ℕ → Bool
second_goes x y = goes (worker_holds (first_now x y)) y []

abbrev pub second_now : ℕ → ℕ → ℕ
second_now x y = turns_taken (second_goes x y) y

-- after so many rounds
abbrev pub first_at : ℕ → ℕ → ℕ → ℕ
first_at zero x y = x
first_at (suc n) x y = first_at n (first_now x y) (second_now x y)

abbrev pub second_at : ℕ → ℕ → ℕ → ℕ
second_at zero x y = y
second_at (suc n) x y = second_at n (first_now x y) (second_now x y)

abbrev pub entries : ℕ → ℕ → ℕ → (p q : ℕ) → List ℕ
entries zero x y p q = []
entries (suc n) x y p q = (worker_entry (first_goes x y) p ++ worker_entry (second_goes x y) q) ++ entries n (first_now x y) (second_now x y) p q

-- those before the two rest, who have taken a steps, those between them, who have taken b, and those behind them, who have taken c
abbrev pub rest_round : (a b c x y : ℕ) → Bool
rest_round a b c x y = rests (worker_holds x || worker_holds y) a && (rests (worker_holds (first_now x y) || worker_holds y) b && rests (worker_holds (first_now x y) || worker_holds (second_now x y)) c)

-- in each of so many rounds the others rest, and the two aren't both done
abbrev pub rest_along : ℕ → (a b c x y : ℕ) → Bool
rest_along zero a b c x y = true
rest_along (suc n) a b c x y = (rest_round a b c x y && not ((x == worker_steps) && (y == worker_steps))) && rest_along n a b c (first_now x y) (second_now x y)

-- the workers: some before the two, some between them, some behind them
abbrev pub standing : (f a m b l c x y : ℕ) → List ℕ
standing f a m b l c x y = replicate f a ++ (x ∷ (replicate m b ++ (y ∷ replicate l c)))

done_front : (all behind : List ℕ) → are_done behind ≡ false → are_done (all ++ behind) ≡ false
done_front [] behind e = e
done_front (t ∷ ts) behind e = ap (λ b. (t == worker_steps) && b) (done_front ts behind e) ∙ and-false (t == worker_steps)

-- what the conditions of a round say
pub record Conditions (a b c x y : ℕ) : Type 0 where
  pub before : rests (worker_holds x || worker_holds y) a ≡ true
  pub between : rests (worker_holds (first_now x y) || worker_holds y) b ≡ true
  pub behind : rests (worker_holds (first_now x y) || worker_holds (second_now x y)) c ≡ true

conditions : (a b c x y : ℕ) → rest_round a b c x y ≡ true → Conditions a b c x y
conditions a b c x y e =
    let p = and_parts (rests (worker_holds x || worker_holds y) a) (rests (worker_holds (first_now x y) || worker_holds y) b && rests (worker_holds (first_now x y) || worker_holds (second_now x y)) c) e in
    let q = and_parts (rests (worker_holds (first_now x y) || worker_holds y) b) (rests (worker_holds (first_now x y) || worker_holds (second_now x y)) c) p.1 in
    record { before = p.0; between = q.0; behind = q.1 }

-- none of those behind the second of the two holds the lock
last_free : (a b c x y l : ℕ) → Conditions a b c x y → list_any worker_holds (replicate l c) ≡ false
last_free a b c x y l k = none_at_all (worker_holds (first_now x y) || worker_holds (second_now x y)) (replicate l c) (all_rest (worker_holds (first_now x y) || worker_holds (second_now x y)) l c k.behind)

-- who holds the lock among those behind the first of the two: the second alone may
rest_holds : (a b c x y m l : ℕ) → Conditions a b c x y → list_any worker_holds (replicate m b ++ (y ∷ replicate l c)) ≡ (worker_holds y || false)
rest_holds a b c x y m l k =
    none_holds (worker_holds (first_now x y) || worker_holds y) (replicate m b) (y ∷ replicate l c) (all_rest (worker_holds (first_now x y) || worker_holds y) m b k.between) ∙ ap (λ z. worker_holds y || z) (last_free a b c x y l k)

-- a round, from the first of the two on
first_turn : (a b c x y m l : ℕ) → Conditions a b c x y → goes false x (replicate m b ++ (y ∷ replicate l c)) ≡ first_goes x y
first_turn a b c x y m l k = ap (λ z. nat_lt x worker_steps && not (would_acquire x && z)) (rest_holds a b c x y m l k)

second_turn : (a b c x y l : ℕ) → Conditions a b c x y → goes (worker_holds (first_now x y)) y (replicate l c) ≡ second_goes x y
second_turn a b c x y l k = ap (λ z. nat_lt y worker_steps && not (would_acquire y && (worker_holds (first_now x y) || z))) (last_free a b c x y l k)

-- whether another holds the lock, for those before the two and for those between them
held_before : (a b c x y m l : ℕ) → Conditions a b c x y → (worker_holds x || worker_holds y) ≡ (worker_holds x || list_any worker_holds (replicate m b ++ (y ∷ replicate l c)))
held_before a b c x y m l k = ap (λ z. worker_holds x || z) (sym (or-false (worker_holds y)) ∙ sym (rest_holds a b c x y m l k))

held_between : (a b c x y l : ℕ) → Conditions a b c x y → (worker_holds (first_now x y) || worker_holds y) ≡ (worker_holds (first_now x y) || (worker_holds y || list_any worker_holds (replicate l c)))
held_between a b c x y l k = ap (λ z. worker_holds (first_now x y) || z) (sym (or-false (worker_holds y)) ∙ ap (λ z. worker_holds y || z) (sym (last_free a b c x y l k)))

after_second : (a b c x y l : ℕ) → Conditions a b c x y → steps_after (worker_holds (first_now x y)) (y ∷ replicate l c) ≡ second_now x y ∷ replicate l c
after_second a b c x y l k =
    ap (λ g. turns_taken g y ∷ steps_after (worker_holds (first_now x y) || worker_holds (turns_taken g y)) (replicate l c)) (second_turn a b c x y l k)
    ∙ ap (λ r. second_now x y ∷ r) (after_last (worker_holds (first_now x y) || worker_holds (second_now x y)) (replicate l c) (all_rest (worker_holds (first_now x y) || worker_holds (second_now x y)) l c k.behind))

after_first : (a b c x y m l : ℕ) → Conditions a b c x y → steps_after false (x ∷ (replicate m b ++ (y ∷ replicate l c))) ≡ first_now x y ∷ (replicate m b ++ (second_now x y ∷ replicate l c))
after_first a b c x y m l k =
    ap (λ g. turns_taken g x ∷ steps_after (worker_holds (turns_taken g x)) (replicate m b ++ (y ∷ replicate l c))) (first_turn a b c x y m l k)
    ∙ ap (λ r. first_now x y ∷ r) (after_resting (worker_holds (first_now x y)) (replicate m b) (y ∷ replicate l c) (worker_holds (first_now x y) || worker_holds y) (held_between a b c x y l k)
    (all_rest (worker_holds (first_now x y) || worker_holds y) m b k.between) ∙ ap (λ r. replicate m b ++ r) (after_second a b c x y l k))

round_after : (f a m b l c x y : ℕ) → Conditions a b c x y → steps_after false (standing f a m b l c x y) ≡ standing f a m b l c (first_now x y) (second_now x y)
round_after f a m b l c x y k =
    after_resting false (replicate f a) (x ∷ (replicate m b ++ (y ∷ replicate l c))) (worker_holds x || worker_holds y) (held_before a b c x y m l k) (all_rest (worker_holds x || worker_holds y) f a k.before)
    ∙ ap (λ r. replicate f a ++ r) (after_first a b c x y m l k)

steps_second : (a b c x y l w : ℕ) → Conditions a b c x y → steps_of_round (worker_holds (first_now x y)) w (y ∷ replicate l c) ≡ worker_entry (second_goes x y) w
steps_second a b c x y l w k =
    ap (λ g. worker_entry g w ++ steps_of_round (worker_holds (first_now x y) || worker_holds (turns_taken g y)) (w + 1) (replicate l c)) (second_turn a b c x y l k)
    ∙ ap (λ r. worker_entry (second_goes x y) w ++ r) (steps_last (worker_holds (first_now x y) || worker_holds (second_now x y)) (w + 1) (replicate l c) (all_rest (worker_holds (first_now x y) || worker_holds (second_now x y)) l c k.behind))
    ∙ append-nil (worker_entry (second_goes x y) w)

steps_first : (a b c x y m l w v : ℕ) → v ≡ w + 1 + m → Conditions a b c x y → steps_of_round false w (x ∷ (replicate m b ++ (y ∷ replicate l c))) ≡ worker_entry (first_goes x y) w ++ worker_entry (second_goes x y) v
steps_first a b c x y m l w v is k =
    ap (λ g. worker_entry g w ++ steps_of_round (worker_holds (turns_taken g x)) (w + 1) (replicate m b ++ (y ∷ replicate l c))) (first_turn a b c x y m l k)
    ∙ ap (λ r. worker_entry (first_goes x y) w ++ r) (steps_resting (worker_holds (first_now x y)) (replicate m b) (y ∷ replicate l c) (worker_holds (first_now x y) || worker_holds y) (w + 1) (held_between a b c x y l k)
    (all_rest (worker_holds (first_now x y) || worker_holds y) m b k.between)
    ∙ ap (λ u. steps_of_round (worker_holds (first_now x y)) u (y ∷ replicate l c)) (omega (arith, is, length-replicate {A = ℕ} m b))
    ∙ steps_second a b c x y l v k)

round_steps : (f a m b l c x y p q : ℕ) → p ≡ 1 + f → q ≡ 2 + f + m → Conditions a b c x y → steps_of_round false 1 (standing f a m b l c x y) ≡ worker_entry (first_goes x y) p ++ worker_entry (second_goes x y) q
round_steps f a m b l c x y p q first second k =
    steps_resting false (replicate f a) (x ∷ (replicate m b ++ (y ∷ replicate l c))) (worker_holds x || worker_holds y) 1 (held_before a b c x y m l k) (all_rest (worker_holds x || worker_holds y) f a k.before)
    ∙ ap (λ u. steps_of_round false u (x ∷ (replicate m b ++ (y ∷ replicate l c)))) (omega (arith, first, length-replicate {A = ℕ} f a))
    ∙ steps_first a b c x y m l p q (omega (arith, first, second)) k

-- where the two aren't both done, not all are
one_left : (x y m b l c : ℕ) (s t : Bool) → (x == worker_steps) ≡ s → (y == worker_steps) ≡ t → not (s && t) ≡ true → are_done (x ∷ (replicate m b ++ (y ∷ replicate l c))) ≡ false
one_left x y m b l c false t first second e = ap (λ z. z && are_done (replicate m b ++ (y ∷ replicate l c))) first
one_left x y m b l c true t first second e =
    ap (λ z. (x == worker_steps) && z) (done_front (replicate m b) (y ∷ replicate l c) (ap (λ z. z && are_done (replicate l c)) (second ∙ not-true t e))) ∙ and-false (x == worker_steps)

two_left : (f a m b l c x y : ℕ) → not ((x == worker_steps) && (y == worker_steps)) ≡ true → are_done (standing f a m b l c x y) ≡ false
two_left f a m b l c x y e = done_front (replicate f a) (x ∷ (replicate m b ++ (y ∷ replicate l c))) (one_left x y m b l c (x == worker_steps) (y == worker_steps) refl refl e)

-- so many rounds of two workers side by side
pub pair_leads : (n f a m b l c x y p q : ℕ) → p ≡ 1 + f → q ≡ 2 + f + m → rest_along n a b c x y ≡ true
    → Leads (standing f a m b l c x y) (entries n x y p q) (standing f a m b l c (first_at n x y) (second_at n x y))
pair_leads zero f a m b l c x y p q first second e = here
pair_leads (suc n) f a m b l c x y p q first second e =
    let r = and_parts (rest_round a b c x y && not ((x == worker_steps) && (y == worker_steps))) (rest_along n a b c (first_now x y) (second_now x y)) e in
    let s = and_parts (rest_round a b c x y) (not ((x == worker_steps) && (y == worker_steps))) r.0 in
    let k = conditions a b c x y s.0 in
    let end = standing f a m b l c (first_at (suc n) x y) (second_at (suc n) x y) in
    let further : Leads (steps_after false (standing f a m b l c x y)) (entries n (first_now x y) (second_now x y) p q) end =
    subst (λ z. Leads z (entries n (first_now x y) (second_now x y) p q) end) (sym (round_after f a m b l c x y k)) (pair_leads n f a m b l c (first_now x y) (second_now x y) p q first second r.1) in
    subst (λ z. Leads (standing f a m b l c x y) (z ++ entries n (first_now x y) (second_now x y) p q) end) (round_steps f a m b l c x y p q first second k) (more (two_left f a m b l c x y s.1) further)
