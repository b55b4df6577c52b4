-- How many objects a thread has made after a change.
use Rattle.std.proofs.Common.{◌≡◌, ℕ, suc, ◌-◌, ◌≤◌, Bool, true, false, Some, None, refl, sym, ap, ◌∙◌, arith}
use Rattle.std.specs.Prelude.{Option, is_some, nat_lt, if◌then◌else◌}
use Rattle.std.specs.FinMap as M
use Rattle.std.proofs.lemmas.Bool.Decides.{nat_tests}
use Rattle.std.proofs.lemmas.Bool.{ltb-false}
use Rattle.state.specs.declared.value.Address.{Address}
use Rattle.state.specs.declared.value.Value.{Value}
use Rattle.state.specs.Values.{address_eq}
use Rattle.state.specs.Memory.{Object, made_by, next_address, IsNumbered}
use Rattle.state.specs.States.{State}
use Rattle.semantics.specs.Step.{Change, Nothing, FieldIs, ObjectIs, LockIs, Prints, Starts, changed}
use Rattle.semantics.specs.Step.{get}
use Rattle.semantics.specs.Changes.{object_with, objects_after}
use Rattle.semantics.proofs.Changed.{heap_after, same_address}
use Rattle.semantics.proofs.StepCases.{NewIsNext}

-- no object stands where a thread has made one more than so many
two_beyond : (c : Change) (q : State) (t u : ℕ) → NewIsNext q t c → IsNumbered q.heap → M.get (changed c q).heap (record { thread = u; count = suc (made_by u q.heap) }) ≡ None
two_beyond c q t u next numbered = ap (λ (get : Address → Option Object). get (record { thread = u; count = suc (made_by u q.heap) })) (heap_after c q) ∙ by_change c next
  where
    none_of : (o : Option Object) → is_some o ≡ false → o ≡ None
    none_of None e = refl
    none_of (Some o) e = absurd (let k : true ≡ false = e in cc)

    not_below : (n : ℕ) → nat_lt (suc n) n ≡ false
    not_below n = grind (arith, nat_tests)

    was_none : M.get q.heap (record { thread = u; count = suc (made_by u q.heap) }) ≡ None
    was_none = none_of _ (numbered u (suc (made_by u q.heap)) ∙ not_below (made_by u q.heap))

    field_none : (a : Address) (index : ℕ) (v : Value) (b : Bool) → address_eq a (record { thread = u; count = suc (made_by u q.heap) }) ≡ b
        → (if b then object_with index v (M.get q.heap a) else M.get q.heap (record { thread = u; count = suc (made_by u q.heap) })) ≡ None
    field_none a index v true e = ap (object_with index v) (ap (M.get q.heap) (same_address a (record { thread = u; count = suc (made_by u q.heap) }) e) ∙ was_none)
    field_none a index v false e = was_none

    object_none : (a : Address) (o : Object) → a ≡ next_address t q.heap → (b : Bool) → address_eq a (record { thread = u; count = suc (made_by u q.heap) }) ≡ b
        → (if b then Some o else M.get q.heap (record { thread = u; count = suc (made_by u q.heap) })) ≡ None
    object_none a o is true e =
        let same : next_address t q.heap ≡ record { thread = u; count = suc (made_by u q.heap) } = sym is ∙ same_address a (record { thread = u; count = suc (made_by u q.heap) }) e in
        let thread : t ≡ u = ap (λ x. x.thread) same in
        let count : made_by t q.heap ≡ suc (made_by u q.heap) = ap (λ x. x.count) same in
        let alike : made_by t q.heap ≡ made_by u q.heap = ap (λ x. made_by x q.heap) thread in
        absurd (omega (arith, count, alike))
    object_none a o is false e = was_none

    by_change : (c : Change) → NewIsNext q t c → objects_after c (M.get q.heap) (record { thread = u; count = suc (made_by u q.heap) }) ≡ None
    by_change Nothing next = was_none
    by_change (FieldIs a index v) next = field_none a index v (address_eq a (record { thread = u; count = suc (made_by u q.heap) })) refl
    by_change (ObjectIs a o) next = object_none a o next (address_eq a (record { thread = u; count = suc (made_by u q.heap) })) refl
    by_change (LockIs a hold) next = was_none
    by_change (Prints n) next = was_none
    by_change (Starts a m) next = was_none

-- so a thread has made at most one object more
pub made_more : (c : Change) (q : State) (t u : ℕ) → NewIsNext q t c → IsNumbered q.heap → IsNumbered (changed c q).heap → made_by u (changed c q).heap ≤ suc (made_by u q.heap)
made_more c q t u next numbered later = ltb_below (suc (made_by u q.heap)) (made_by u (changed c q).heap) (sym (later u (suc (made_by u q.heap))) ∙ ap is_some (two_beyond c q t u next numbered))
  where
    ltb_below : (n m : ℕ) → nat_lt n m ≡ false → m ≤ n
    ltb_below n m e = ltb-false n m e
