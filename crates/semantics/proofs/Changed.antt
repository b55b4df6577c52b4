-- What a change does, as it is seen of heap, locks and threads.
use Rattle.std.proofs.Common.{◌≡◌, ◌≢◌, ℕ, zero, suc, Bool, true, false, ◌&&◌, ◌==◌, List, [], ◌∷◌, ◌++◌, Some, None, refl, sym, ap, subst, ◌∙◌, arith}
use Rattle.std.specs.Prelude.{Option, slice_get, cond, if◌then◌else◌}
use Rattle.std.proofs.lemmas.Bool.Decides.{nat_tests}
use Rattle.std.specs.FinMap as M
use Rattle.std.specs.FinMap.{get-remove}
use Rattle.std.proofs.lemmas.Bool.{eqb-true, and_parts, eq-eqb}
use Rattle.state.specs.declared.value.Address.{Address}
use Rattle.state.specs.declared.value.Value.{Value}
use Rattle.state.specs.Values.{address_eq}
use Rattle.state.specs.Memory.{Heap, Locks, Object, Hold, with_value, with_object, with_lock}
use Rattle.state.specs.States.{Thread, Ready, State}
use Rattle.state.proofs.Addresses.{address_total, apart, alike}
use Rattle.state.proofs.MemoryLemmas.{get-insert_other, get-insert_same}
use Rattle.semantics.specs.Step.{Change, Nothing, FieldIs, ObjectIs, LockIs, Prints, Starts, changed}
use Rattle.semantics.specs.Changes.{object_with, objects_after, locks_after}

-- Addresses by their test.

pub other_number : (a b : ℕ) → (a == b) ≡ false → b ≢ a
other_number a b e = grind (arith, nat_tests)

pub same_address : (a b : Address) → address_eq a b ≡ true → a ≡ b
same_address a b e =
    let parts = and_parts (a.thread == b.thread) (a.count == b.count) e in
    let first = eqb-true a.thread b.thread parts.0 in
    let second = eqb-true a.count b.count parts.1 in
    λ i. record { thread = first i; count = second i }

pub address_itself : (a : Address) → address_eq a a ≡ true
address_itself a = ap (λ b. b && (a.count == a.count)) (eq-eqb a.thread a.thread refl) ∙ eq-eqb a.count a.count refl

differ : (a b : Address) → address_eq a b ≡ false → b ≢ a
differ a b other same = let e : true ≡ false = sym (address_itself a) ∙ ap (address_eq a) (sym same) ∙ other in absurd cc

differ_turned : (a b : Address) → address_eq b a ≡ false → b ≢ a
differ_turned a b other same = let e : true ≡ false = sym (address_itself b) ∙ ap (address_eq b) same ∙ other in absurd cc

module _ (heap : Heap) where
  inserted_at : (a b : Address) (o : Object) (t : Bool) → address_eq a b ≡ t → M.get (M.insert heap a o) b ≡ (if t then Some o else M.get heap b)
  inserted_at a b o true same = ap (M.get (M.insert heap a o)) (sym (same_address a b same)) ∙ get-insert_same heap a o
  inserted_at a b o false other = get-insert_other heap a b o (differ a b other)

  none_at : (a b : Address) (index : ℕ) (v : Value) → M.get heap a ≡ None → (t : Bool) → address_eq a b ≡ t → M.get heap b ≡ (if t then None else M.get heap b)
  none_at a b index v none true same = ap (M.get heap) (sym (same_address a b same)) ∙ none
  none_at a b index v none false other = refl

  field_at : (a b : Address) (index : ℕ) (v : Value) (found : Option Object) → M.get heap a ≡ found → M.get (with_object a found (with_value index v) heap) b ≡ (if address_eq a b then object_with index v found else M.get heap b)
  field_at a b index v None is = none_at a b index v is (address_eq a b) refl
  field_at a b index v (Some o) is = inserted_at a b (with_value index v o) (address_eq a b) refl

module _ (locks : Locks) where
  removed_at : (a b : Address) (t : Bool) → address_eq b a ≡ t → M.get (M.remove locks a) b ≡ (if t then None else M.get locks b)
  removed_at a b true same =
      ap (M.get (M.remove locks a)) (same_address b a same) ∙ get-remove address_total locks a a ∙ ap (λ x. cond x None (M.get locks a)) (alike a)
  removed_at a b false other = get-remove address_total locks a b ∙ ap (λ x. cond x None (M.get locks b)) (apart a b (differ_turned a b other))

  held_at : (a b : Address) (hold : Hold) (t : Bool) → address_eq b a ≡ t → M.get (M.insert locks a hold) b ≡ (if t then Some hold else M.get locks b)
  held_at a b hold true same = ap (M.get (M.insert locks a hold)) (same_address b a same) ∙ get-insert_same locks a hold
  held_at a b hold false other = get-insert_other locks a b hold (differ_turned a b other)

  lock_at : (a b : Address) (hold : Option Hold) → M.get (with_lock a hold locks) b ≡ (if address_eq b a then hold else M.get locks b)
  lock_at a b None = removed_at a b (address_eq b a) refl
  lock_at a b (Some hold) = held_at a b hold (address_eq b a) refl

heap_at : (c : Change) (q : State) (b : Address) → M.get (changed c q).heap b ≡ objects_after c (M.get q.heap) b
heap_at Nothing q b = refl
heap_at (FieldIs a index v) q b = field_at q.heap a b index v (M.get q.heap a) refl
heap_at (ObjectIs a o) q b = inserted_at q.heap a b o (address_eq a b) refl
heap_at (LockIs a hold) q b = refl
heap_at (Prints n) q b = refl
heap_at (Starts a m) q b = refl

locks_at : (c : Change) (q : State) (b : Address) → M.get (changed c q).locks b ≡ locks_after c (M.get q.locks) b
locks_at Nothing q b = refl
locks_at (FieldIs a index v) q b = refl
locks_at (ObjectIs a o) q b = refl
locks_at (LockIs a hold) q b = lock_at q.locks a b hold
locks_at (Prints n) q b = refl
locks_at (Starts a m) q b = refl

-- the objects and locks after a change
pub heap_after : (c : Change) (q : State) → M.get (changed c q).heap ≡ objects_after c (M.get q.heap)
heap_after c q = λ i b. heap_at c q b i

pub locks_are : (c : Change) (q : State) → M.get (changed c q).locks ≡ locks_after c (M.get q.locks)
locks_are c q = λ i b. locks_at c q b i

-- Threads.

-- the thread of a number after a change: the same, or a new one where there was none
pub data ThreadAfter (c : Change) (before : Option Thread) : Option Thread → Type 0 where
  kept : ThreadAfter c before before
  begun : (a : Address) (m : ℕ) → c ≡ Starts a m → before ≡ None → ThreadAfter c before (Some (Ready a m))

appended_at : (xs : List Thread) (x : Thread) (a : Address) (m u : ℕ) (c : Change) → c ≡ Starts a m → x ≡ Ready a m → ThreadAfter c (slice_get xs u) (slice_get (xs ++ x ∷ []) u)
appended_at [] x a m zero c is same = subst (λ y. ThreadAfter c None (Some y)) (sym same) (begun a m is refl)
appended_at [] x a m (suc u) c is same = kept
appended_at (y ∷ ys) x a m zero c is same = kept
appended_at (y ∷ ys) x a m (suc u) c is same = appended_at ys x a m u c is same

pub thread_after : (c : Change) (q : State) (u : ℕ) → ThreadAfter c (slice_get q.threads u) (slice_get (changed c q).threads u)
thread_after Nothing q u = kept
thread_after (FieldIs a index v) q u = kept
thread_after (ObjectIs a o) q u = kept
thread_after (LockIs a hold) q u = kept
thread_after (Prints n) q u = kept
thread_after (Starts a m) q u = appended_at q.threads (Ready a m) a m u (Starts a m) refl refl
