-- Lists and maps with equal elements at each place.
use Rattle.std.proofs.Common.{◌≡◌, ℕ, suc, ◌<◌, List, [], ◌∷◌, length, ℤ, refl, sym, subst, ◌∙◌, arith}
use Rattle.std.specs.Prelude.{slice_get}
use Rattle.core_program.specs.Core.{Program}
use Rattle.state.specs.Memory.{Heap, Locks}
use Rattle.state.specs.States.{ThreadOf}
use Rattle.state.specs.Frames.{CellFrame}
use Rattle.compile.specs.declared.stack.Code.{Code}
use Rattle.machine.specs.Reaching.{IsKept}
use Rattle.machine.specs.Counts.{IsCounted}
use Rattle.std.specs.declared.cmp.Ordering.{Ordering}
use Rattle.std.specs.FinMap.{FinMap, entries, len, len-entries, same_entries_map}

-- the elements before this place are equal
abbrev pub SameBelow : {A : Type 0} → List A → List A → ℕ → Type 0
SameBelow xs ys n = (k : ℕ) → k < n → slice_get xs k ≡ slice_get ys k

pub all_same : {A : Type 0} (xs ys : List A) → length xs ≡ length ys → SameBelow xs ys (length xs) → xs ≡ ys
all_same [] [] e h = refl
all_same [] (y ∷ ys) e h = absurd (omega (arith, e))
all_same (x ∷ xs) [] e h = absurd (omega (arith, e))
all_same (x ∷ xs) (y ∷ ys) e h =
    let here = h 0 (omega arith) in
    let first : x ≡ y = cc (here) in
    λ i. first i ∷ all_same xs ys (omega (arith, e)) (λ k less. h (suc k) (omega (arith, less))) i

-- maps with as many entries, of which each is equal
pub same_map : {K X : Type 0} {R : K → K → Ordering} (m n : FinMap R X) → len m ≡ len n → SameBelow (entries m) (entries n) (len m) → m ≡ n
same_map m n e h =
    let many = sym (len-entries m) in
    same_entries_map m n (all_same (entries m) (entries n) (sym (len-entries m) ∙ e ∙ len-entries n) (λ k less. h k (omega (arith, less, len-entries m))))

-- what holds of the machine's state holds of an equal one
pub kept_still : (P : Program) (code : List Code) (entry room : List ℕ) (h h' : Heap) (l l' : Locks) (t t' : List (ThreadOf CellFrame)) (o o' : List ℤ) → h' ≡ h → l' ≡ l → t' ≡ t → o' ≡ o
    → IsKept P code entry room (record { heap = h; locks = l; threads = t; output = o }) → IsKept P code entry room (record { heap = h'; locks = l'; threads = t'; output = o' })
kept_still P code entry room h h' l l' t t' o o' heaps locks threads outputs kept =
    subst (λ X. X) (λ j. IsKept P code entry room (record { heap = sym heaps j; locks = sym locks j; threads = sym threads j; output = sym outputs j })) kept

pub counted_still : (made : ℕ) (h h' : Heap) (l l' : Locks) → h' ≡ h → l' ≡ l → IsCounted made h l → IsCounted made h' l'
counted_still made h h' l l' heaps locks counted = subst (λ X. X) (λ j. IsCounted made (sym heaps j) (sym locks j)) counted
