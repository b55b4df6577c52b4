-- The units in order, written place by place.
use Rattle.std.proofs.Common.{◌≡◌, ◌≢◌, ℕ, suc, ◌+◌, ◌<◌, ◌≤◌, Bool, true, false, ◌==◌, List, [], ◌∷◌, ◌++◌, length, replicate, refl, sym, ap, subst, ◌∙◌, arith}
use Rattle.std.specs.Prelude.{map, nat_le, if◌then◌else◌}
use Rattle.std.proofs.lemmas.Bool.{eqb-true, eqb-false, ne_eqb, leb-true, leb-false, eq-eqb}
use Rattle.std.proofs.lemmas.Bool.Decides.{nat_tests}
use Rattle.semantics.specs.Units.{Entry, is_commit, units, commit_place, placed, in_order, schedule_of}
use Rattle.reduction.proofs.Shape.{Each, each_more, IsOf, IsFine, fine_above, each_placed, each_in_order}
use Rattle.reduction.proofs.Sorting.{Rises, fine_units, each_units}
use Rattle.serialise.specs.Entries.{entries_of}
use Rattle.serialise.specs.UnitMaps.{UnitMaps, unit_maps, spread}
use Rattle.serialise.specs.declared.step.Step.{Step}
use Rattle.serialise.proofs.Found.{size_at, NoneAt, CommitsApart, size_none, units_apart, maps_found}

-- Insertion of units that commit at different places.

-- each unit commits before the next
abbrev pub Strict : List (List Entry) → Type 0
Strict [] = Unit {0}
Strict (u ∷ us) = Each (λ v. commit_place u < commit_place v) us × Strict us

pub strictly : (m n : ℕ) → m ≢ n → m ≤ n → m < n
strictly m n other low = grind (arith, nat_tests)

strict_placed : (u : List Entry) (us : List (List Entry)) → NoneAt (commit_place u) us → Strict us → Strict (placed u us)
strict_placed u [] none h = (tt, tt)
strict_placed u (v ∷ us) none h = by (nat_le (commit_place u) (commit_place v)) refl (strict_placed u us none.1 h.1)
  where
    by : (b : Bool) → nat_le (commit_place u) (commit_place v) ≡ b → Strict (placed u us) → Strict (if b then u ∷ v ∷ us else v ∷ placed u us)
    by true e later =
        let less = strictly (commit_place u) (commit_place v) none.0 (leb-true (commit_place u) (commit_place v) e) in
        ((less, each_more (λ w. commit_place v < commit_place w) (λ w. commit_place u < commit_place w) (λ w k. omega (arith, less, k)) us h.0), h)
    by false e later = (each_placed (λ w. commit_place v < commit_place w) u us (leb-false (commit_place u) (commit_place v) e) h.0, later)

pub strict_in_order : (us : List (List Entry)) → CommitsApart us → Strict (in_order us)
strict_in_order [] apart = tt
strict_in_order (u ∷ us) apart = strict_placed u (in_order us) (each_in_order (λ v. commit_place u ≢ commit_place v) us apart.0) (strict_in_order us apart.1)

size_placed : (p : ℕ) (u : List Entry) (us : List (List Entry)) → NoneAt (commit_place u) us → size_at (placed u us) p ≡ size_at (u ∷ us) p
size_placed p u [] none = refl
size_placed p u (v ∷ us) none = by (nat_le (commit_place u) (commit_place v)) (size_placed p u us none.1)
  where
    swap : (b g : Bool) → (b ≡ true → g ≡ true → ⊥) → (m : ℕ) → m ≡ (if b then length u else size_at us p) → (if g then length v else m) ≡ (if b then length u else (if g then length v else size_at us p))
    swap true true never m h = absurd (never refl refl)
    swap true false never m h = h
    swap false true never m h = refl
    swap false false never m h = h

    by : (b : Bool) → size_at (placed u us) p ≡ size_at (u ∷ us) p → size_at (if b then u ∷ v ∷ us else v ∷ placed u us) p ≡ size_at (u ∷ v ∷ us) p
    by true rest = refl
    by false rest = swap (commit_place u == p) (commit_place v == p) (λ b g. none.0 (eqb-true (commit_place u) p b ∙ sym (eqb-true (commit_place v) p g))) (size_at (placed u us) p) rest

pub size_in_order : (p : ℕ) (us : List (List Entry)) → CommitsApart us → size_at (in_order us) p ≡ size_at us p
size_in_order p [] apart = refl
size_in_order p (u ∷ us) apart = size_placed p u (in_order us) (each_in_order (λ v. commit_place u ≢ commit_place v) us apart.0)
    ∙ ap (λ (m : ℕ). if commit_place u == p then length u else m) (size_in_order p us apart.1)

-- Units among steps.

-- the thread of the step at a place; the first step has place n
abbrev pub thread_in : (n : ℕ) → List Step → ℕ → ℕ
thread_in n [] p = 0
thread_in n (step ∷ steps) p = if n == p then step.thread else thread_in (n + 1) steps p

-- a unit that commits at one of these steps, and all of whose entries are of that step's thread
pub record IsAt (n : ℕ) (steps : List Step) (u : List Entry) : Type 0 where
  pub low : n ≤ commit_place u
  pub high : commit_place u < n + length steps
  pub own : Each (IsOf (thread_in n steps (commit_place u))) u

abbrev pub IsStep : (n : ℕ) → List Step → Entry → Type 0
IsStep n steps x = (x.thread ≡ thread_in n steps x.place) × (n ≤ x.place) × (x.place < n + length steps)

other_less : (n m : ℕ) → n + 1 ≤ m → n ≢ m
other_less n m low same = omega (arith, low, same)

pub are_steps : (n : ℕ) (steps : List Step) → Each (IsStep n steps) (entries_of n steps)
are_steps n [] = tt
are_steps n (step ∷ steps) = (
  (ap (λ (b : Bool). if b then step.thread else thread_in (n + 1) steps n) (sym (eq-eqb n n refl)), omega arith, omega arith),
  each_more (IsStep (n + 1) steps) (IsStep n (step ∷ steps)) (λ x k. later x.thread x.place k.0 k.1 k.2) (entries_of (n + 1) steps) (are_steps (n + 1) steps),
)
  where
    later : (t p : ℕ) → t ≡ thread_in (n + 1) steps p → n + 1 ≤ p → p < n + 1 + length steps → (t ≡ thread_in n (step ∷ steps) p) × (n ≤ p) × (p < n + suc (length steps))
    later t p is low high = (is ∙ ap (λ (b : Bool). if b then step.thread else thread_in (n + 1) steps p) (sym (ne_eqb n p (other_less n p low))), omega (arith, low), omega (arith, high))

-- what holds of the places of a unit holds of its commit place
commit_of : (Q : ℕ → Type 0) (e : Entry) (u : List Entry) → Each (λ (x : Entry). Q x.place) (e ∷ u) → Q (commit_place (e ∷ u))
commit_of Q e [] h = h.0
commit_of Q e (f ∷ u) h = by (is_commit e.kind) (commit_of Q f u h.1)
  where
    by : (b : Bool) → Q (commit_place (f ∷ u)) → Q (if b then e.place else commit_place (f ∷ u))
    by true later = h.0
    by false later = later

unit_at : (n : ℕ) (steps : List Step) (u : List Entry) → IsFine n u → Each (IsStep n steps) u → IsAt n steps u
unit_at n steps u fine are =
    let all = subst (Each (IsStep n steps)) fine.is are in
    let one = subst (Each (IsOf fine.first.thread)) fine.is fine.one in
    record {
      low = fine_above n u fine;
      high = subst (λ v. commit_place v < n + length steps) (sym fine.is) (commit_of (λ m. m < n + length steps) fine.first fine.rest (each_more (IsStep n steps) (λ (x : Entry). x.place < n + length steps) (λ x k. k.2) (fine.first ∷ fine.rest) all));
      own = each_more (IsOf fine.first.thread) (IsOf (thread_in n steps (commit_place u)))
          (λ x k. k ∙ sym (subst (λ v. thread_in n steps (commit_place v) ≡ fine.first.thread) (sym fine.is) (commit_of (λ m. thread_in n steps m ≡ fine.first.thread) fine.first fine.rest (same fine.first.thread (fine.first ∷ fine.rest) all one)))) u fine.one;
    }
  where
    same : (t : ℕ) (xs : List Entry) → Each (IsStep n steps) xs → Each (IsOf t) xs → Each (λ (x : Entry). thread_in n steps x.place ≡ t) xs
    same t [] are one = tt
    same t (x ∷ xs) are one = (sym (are.0).0 ∙ one.0, same t xs are.1 one.1)

pub units_at : (n : ℕ) (steps : List Step) (us : List (List Entry)) → Each (IsFine n) us → Each (Each (IsStep n steps)) us → Each (IsAt n steps) us
units_at n steps [] fine are = tt
units_at n steps (u ∷ us) fine are = (unit_at n steps u fine.0 are.0, units_at n steps us fine.1 are.1)

-- Units in order, from the first step on.

pub at_later : (n : ℕ) (step : Step) (steps : List Step) (us : List (List Entry)) → Each (λ u. n < commit_place u) us → Each (IsAt n (step ∷ steps)) us → Each (IsAt (n + 1) steps) us
at_later n step steps [] less at = tt
at_later n step steps (u ∷ us) less at =
    let here = less.0 in
    let high = (at.0).high in (
      record {
        low = omega (arith, here);
        high = omega (arith, high);
        own = subst (λ t. Each (IsOf t) u) (ap (λ (b : Bool). if b then step.thread else thread_in (n + 1) steps (commit_place u)) (ne_eqb n (commit_place u) (λ same. omega (arith, here, same)))) (at.0).own;
      },
      at_later n step steps us less.1 at.1,
    )

pub spread_same : (f g : ℕ → ℕ) (n : ℕ) (steps : List Step) → ((p : ℕ) → n ≤ p → f p ≡ g p) → spread f n steps ≡ spread g n steps
spread_same f g n [] same = refl
spread_same f g n (step ∷ steps) same = ap (λ (m : ℕ). replicate m step.thread ++ spread f (n + 1) steps) (same n (omega arith)) ∙ ap (λ l. replicate (g n) step.thread ++ l) (spread_same f g (n + 1) steps (λ p low. same p (omega (arith, low))))

pub threads_of : (t : ℕ) (u : List Entry) → Each (IsOf t) u → replicate (length u) t ≡ map (λ (e : Entry). e.thread) u
threads_of t [] own = refl
threads_of t (e ∷ u) own = ap (λ (m : ℕ). m ∷ replicate (length u) t) (sym own.0) ∙ ap (λ l. e.thread ∷ l) (threads_of t u own.1)

pub spread_is : (n : ℕ) (steps : List Step) (us : List (List Entry)) → Strict us → Each (IsAt n steps) us → spread (size_at us) n steps ≡ schedule_of us
spread_is n [] [] strict at = refl
spread_is n [] (u ∷ us) strict at = let low = (at.0).low in let high = (at.0).high in absurd (omega (arith, low, high))
spread_is n (step ∷ steps) [] strict at = spread_is (n + 1) steps [] tt tt
spread_is n (step ∷ steps) (u ∷ us) strict at = by (n == commit_place u) refl (λ rest. spread_is (n + 1) steps us strict.1 rest) (λ rest. spread_is (n + 1) steps (u ∷ us) strict rest)
  where
    -- the unit commits here
    here : n ≡ commit_place u → (Each (IsAt (n + 1) steps) us → spread (size_at us) (n + 1) steps ≡ schedule_of us) → spread (size_at (u ∷ us)) n (step ∷ steps) ≡ schedule_of (u ∷ us)
    here is rest =
        let less = each_more (λ v. commit_place u < commit_place v) (λ v. n < commit_place v) (λ v k. omega (arith, is, k)) us strict.0 in
        let size : size_at (u ∷ us) n ≡ length u = ap (λ (b : Bool). if b then length u else size_at us n) (ap (λ (m : ℕ). commit_place u == m) is ∙ eq-eqb (commit_place u) (commit_place u) refl) in
        let own : thread_in n (step ∷ steps) (commit_place u) ≡ step.thread = ap (λ (b : Bool). if b then step.thread else thread_in (n + 1) steps (commit_place u)) (ap (λ (m : ℕ). m == commit_place u) is ∙ eq-eqb (commit_place u) (commit_place u) refl) in
        ap (λ (m : ℕ). replicate m step.thread ++ spread (size_at (u ∷ us)) (n + 1) steps) size
        ∙ ap (λ l. l ++ spread (size_at (u ∷ us)) (n + 1) steps) (threads_of step.thread u (subst (λ t. Each (IsOf t) u) own (at.0).own))
        ∙ ap (λ l. map (λ (e : Entry). e.thread) u ++ l) (
        spread_same (size_at (u ∷ us)) (size_at us) (n + 1) steps (λ p low. ap (λ (b : Bool). if b then length u else size_at us p) (ne_eqb (commit_place u) p (λ same. omega (arith, is, low, same))))
        ∙ rest (at_later n step steps us less at.1)
        )

    -- no unit does
    later : n ≢ commit_place u → (Each (IsAt (n + 1) steps) (u ∷ us) → spread (size_at (u ∷ us)) (n + 1) steps ≡ schedule_of (u ∷ us)) → spread (size_at (u ∷ us)) n (step ∷ steps) ≡ schedule_of (u ∷ us)
    later other rest =
        let less = strictly n (commit_place u) other (at.0).low in
        let all : Each (λ v. n < commit_place v) (u ∷ us) = (less, each_more (λ v. commit_place u < commit_place v) (λ v. n < commit_place v) (λ v k. omega (arith, less, k)) us strict.0) in
        ap (λ (m : ℕ). replicate m step.thread ++ spread (size_at (u ∷ us)) (n + 1) steps) (size_none n (u ∷ us) (each_more (λ v. n < commit_place v) (λ v. n ≢ commit_place v) (λ v k same. omega (arith, k, same)) (u ∷ us) all))
        ∙ rest (at_later n step steps (u ∷ us) all at)

    by : (b : Bool) → (n == commit_place u) ≡ b → (Each (IsAt (n + 1) steps) us → spread (size_at us) (n + 1) steps ≡ schedule_of us)
        → (Each (IsAt (n + 1) steps) (u ∷ us) → spread (size_at (u ∷ us)) (n + 1) steps ≡ schedule_of (u ∷ us)) → spread (size_at (u ∷ us)) n (step ∷ steps) ≡ schedule_of (u ∷ us)
    by true is one all = here (eqb-true n (commit_place u) is) one
    by false is one all = later (eqb-false n (commit_place u) is) all

pub rises : (n m : ℕ) → m ≤ n → (steps : List Step) → Rises m (entries_of n steps)
rises n m low [] = tt
rises n m low (step ∷ steps) = (low, rises (n + 1) (suc n) (omega arith) steps)

-- what is spread by the maps of a run are its units in order
pub units_spread : (maps : UnitMaps) (steps : List Step) → maps ≡ unit_maps (entries_of 0 steps) → spread maps.sizes 0 steps ≡ schedule_of (in_order (units (entries_of 0 steps)))
units_spread maps steps is =
    let es = entries_of 0 steps in
    let rise = rises 0 0 (omega arith) steps in
    let apart = units_apart es 0 rise in
    ap (λ (m : UnitMaps). spread m.sizes 0 steps) (is ∙ maps_found es 0 rise)
    ∙ spread_same (size_at (units es)) (size_at (in_order (units es))) 0 steps (λ p low. sym (size_in_order p (units es) apart))
    ∙ spread_is 0 steps (in_order (units es)) (strict_in_order (units es) apart) (each_in_order (IsAt 0 steps) (units es) (units_at 0 steps (units es) (fine_units es 0 rise) (each_units (IsStep 0 steps) es (are_steps 0 steps))))
