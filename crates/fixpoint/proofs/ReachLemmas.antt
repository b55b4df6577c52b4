-- Marks of nodes as an assignment of one number each, for the test on reachability.
use Rattle.std.proofs.Common.{◌≡◌, ℕ, ◌<◌, ◌≤◌, true, not, nat_le, max, sum, map, List, [], ◌∷◌, length, suc, zero, Some, unwrap_or, get_or, slice_get, slice_set, ◌∙◌, refl, ap, sym, arith, IsTrue}
use Rattle.std.specs.Option.{option_map}
use Rattle.std.proofs.lemmas.List.{length-map}
use Rattle.std.proofs.lemmas.Option.{slice_get-get_or}
use Rattle.std.proofs.lemmas.Bool.Decides.{nat_tests}
use Rattle.fixpoint.specs.Assignments.{CellNumbers, IsAbove}
use Rattle.fixpoint.proofs.AssignmentLemmas.{IsAbove-refl}

abbrev pub rows : List ℕ → CellNumbers
rows marks = map (λ mark. mark ∷ []) marks

abbrev pub number : CellNumbers → ℕ → ℕ
number x node = sum (unwrap_or (slice_get x node) [])

abbrev pub demand : List (ℕ × ℕ) → CellNumbers → ℕ → ℕ
demand before x node = unwrap_or (option_map (λ pair. max (number x pair.0) (number x pair.1)) (slice_get before node)) 0

pub number-rows : (marks : List ℕ) (node : ℕ) → number (rows marks) node ≡ get_or marks node 0
number-rows [] node = refl
number-rows (mark ∷ marks) zero = omega arith
number-rows (mark ∷ marks) (suc node) = number-rows marks node

pub above-set : (marks : List ℕ) (node mark : ℕ) → get_or marks node 0 ≤ mark → IsAbove (rows (slice_set marks node mark)) (rows marks)
above-set [] node mark low = tt
above-set (own ∷ marks) zero mark low = ((low, tt), IsAbove-refl (rows marks))
above-set (own ∷ marks) (suc node) mark low = ((omega arith, tt), above-set marks node mark low)

number-above : (x : CellNumbers) (marks : List ℕ) (node : ℕ) → IsAbove x (rows marks) → get_or marks node 0 ≤ number x node
number-above x [] node above = omega arith
number-above [] (mark ∷ marks) node above = absurd above
number-above ([] ∷ x) (mark ∷ marks) zero above = absurd above.0
number-above ((n ∷ []) ∷ x) (mark ∷ marks) zero above = omega (arith, above.0.0)
number-above ((n ∷ (m ∷ ns)) ∷ x) (mark ∷ marks) zero above = absurd above.0.1
number-above (row ∷ x) (mark ∷ marks) (suc node) above = number-above x marks node above.1

set-below : (x : CellNumbers) (marks : List ℕ) (node mark : ℕ) → IsAbove x (rows marks) → mark ≤ number x node → IsAbove x (rows (slice_set marks node mark))
set-below x [] node mark above low = above
set-below [] (own ∷ marks) node mark above low = absurd above
set-below ([] ∷ x) (own ∷ marks) node mark above low = absurd above.0
set-below ((n ∷ []) ∷ x) (own ∷ marks) zero mark above low = ((omega (arith, low), tt), above.1)
set-below ((n ∷ (m ∷ ns)) ∷ x) (own ∷ marks) zero mark above low = absurd above.0.1
set-below (row ∷ x) (own ∷ marks) (suc node) mark above low = (above.0, set-below x marks node mark above.1 low)

-- the demand of a node, by the two nodes before it
demand-Some : (before : List (ℕ × ℕ)) (x : CellNumbers) (node : ℕ) (pair : ℕ × ℕ) → slice_get before node ≡ Some pair → demand before x node ≡ max (number x pair.0) (number x pair.1)
demand-Some before x node pair e = rw e refl

pub demand-rows : (before : List (ℕ × ℕ)) (marks : List ℕ) (node mark : ℕ) (pair : ℕ × ℕ) → slice_get before node ≡ Some pair →
    mark ≡ max (get_or marks pair.0 0) (get_or marks pair.1 0) → demand before (rows marks) node ≡ mark
demand-rows before marks node mark pair e is = rw (demand-Some before (rows marks) node pair e, number-rows marks pair.0, number-rows marks pair.1) (sym is)

-- a demand that is not met
pub unmet : (before : List (ℕ × ℕ)) (marks : List ℕ) (node mark : ℕ) (pair : ℕ × ℕ) → slice_get before node ≡ Some pair →
    mark ≡ max (get_or marks pair.0 0) (get_or marks pair.1 0) → get_or marks node 0 < mark → true ≡ not (nat_le (demand before (rows marks) node) (number (rows marks) node))
unmet before marks node mark pair e is low = rw (demand-rows before marks node mark pair e is, number-rows marks node) (grind (arith, nat_tests))

-- a closed assignment above the old marks lies above the new ones
pub under-set : (before : List (ℕ × ℕ)) (x : CellNumbers) (marks : List ℕ) (node mark : ℕ) (pair : ℕ × ℕ) → slice_get before node ≡ Some pair →
    mark ≡ max (get_or marks pair.0 0) (get_or marks pair.1 0) → IsTrue (nat_le (demand before x node) (number x node)) → IsAbove x (rows marks) → IsAbove x (rows (slice_set marks node mark))
under-set before x marks node mark pair e is met above =
    let first = number-above x marks pair.0 above in
    let second = number-above x marks pair.1 above in
    let most : nat_le (max (number x pair.0) (number x pair.1)) (number x node) ≡ true = rw (demand-Some before x node pair e) at met in
    let low : max (number x pair.0) (number x pair.1) ≤ number x node = grind (arith, nat_tests) in
    set-below x marks node mark above (omega (arith, first, second, low, is))

-- the two nodes before a node that is there
pub pair_at : (before : List (ℕ × ℕ)) (marks : List ℕ) (node : ℕ) (pair : ℕ × ℕ) → length before ≡ length marks → node < length (rows marks) →
    pair ≡ get_or before node pair → slice_get before node ≡ Some pair
pair_at before marks node pair paired within is =
    slice_get-get_or before node pair (omega (arith, paired, within, length-map marks (λ (mark : ℕ). mark ∷ []))) ∙ ap Some (sym is)
