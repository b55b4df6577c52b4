-- Numbers of objects and of holds along steps.
use Rattle.std.proofs.Common.{◌≡◌, ◌≢◌, ℕ, ◌+◌, ◌-◌, ◌≤◌, ◌<◌, Bool, true, false, List, [], refl, sym, ap, subst, ◌∙◌, arith}
use Rattle.std.specs.Prelude.{Option, Some, None, Result, Ok, Err, OnOk, is_some, nat_lt, cond, slice_get, if◌then◌else◌}
use Rattle.std.specs.FinMap as M
use Rattle.std.specs.FinMap.{get-insert, get-remove, get-empty}
use Rattle.std.specs.Ordering.{eq_by_cmp}
use Rattle.std.specs.declared.alloc.AllocError.{AllocError}
use Rattle.std.proofs.lemmas.Bool.Decides.{nat_tests}
use Rattle.core_program.specs.Core.{Program}
use Rattle.state.specs.declared.value.Address.{Address}
use Rattle.state.specs.declared.value.Value.{Value}
use Rattle.state.specs.Memory.{Heap, Hold, Locks, Object, address_cmp, new_values, made_by, next_address, IsNumbered, with_object, with_field, with_value, with_lock}
use Rattle.state.specs.Stored.{MayTake, taken_by, stored_given_back}
use Rattle.state.specs.States.{fields_of, initial, main_address, new_object}
use Rattle.state.proofs.Addresses.{address_total}
use Rattle.state.proofs.MemoryLemmas.{get-insert_other}
use Rattle.state.proofs.Numbering.{not_less, numbered_new, numbered_written}
use Rattle.semantics.proofs.RunLemmas.{initial_numbered}
use Rattle.machine.specs.declared.deed.Deed.{Deed}
use Rattle.machine.specs.declared.deed.Deed.TheVariants as deed
use Rattle.machine.specs.Counts.{IsCounted}
use Rattle.machine.specs.Listed.{listed}
use Rattle.machine.specs.declared.deed.StepEnd.{StepEnd}
use Rattle.machine.specs.Taken.{step_result}
use Rattle.machine.specs.Deeds.{IsOwned, seen_of, deed_heap, deed_locks}

abbrev at : ℕ → ℕ → Address
at t n = record { thread = t; count = n }

-- so many objects were made at most where there is none of this number
few : (n m : ℕ) → false ≡ nat_lt n m → m ≤ n
few n m e = grind (arith, nat_tests)

past_there : (n : ℕ) → nat_lt (n + 1) n ≡ false
past_there n = grind (arith, nat_tests)

made_below : (heap : Heap) (t n : ℕ) → IsNumbered heap → is_some (M.get heap (at t n)) ≡ false → made_by t heap ≤ n
made_below heap t n numbered gone = few n (made_by t heap) (sym gone ∙ numbered t n)

some_none : {F : Type 0} → true ≡ false → F
some_none e = absurd cc

-- one object more
made_one : (heap : Heap) (t u : ℕ) (o : Object) → IsNumbered heap → made_by u (M.insert heap (next_address t heap) o) ≤ made_by u heap + 1
made_one heap t u o numbered =
    let other : at u (made_by u heap + 1) ≢ next_address t heap = λ same. more (made_by u heap) (made_by t heap) (ap (λ a. a.count) same) (ap (λ x. made_by x heap) (ap (λ a. a.thread) same)) in
    made_below (M.insert heap (next_address t heap) o) u (made_by u heap + 1) (numbered_new heap t o numbered)
    (ap is_some (get-insert_other heap (next_address t heap) (at u (made_by u heap + 1)) o other) ∙ numbered u (made_by u heap + 1) ∙ past_there (made_by u heap))
  where
    more : (n m : ℕ) → n + 1 ≡ m → n ≡ m → ⊥
    more n m a b = omega arith

-- no object more
made_same : (heap : Heap) (a : Address) (u index : ℕ) (v : Value) → IsNumbered heap → made_by u (with_field a index v heap) ≤ made_by u heap
made_same heap a u index v numbered = made_below (with_field a index v heap) u (made_by u heap) (numbered_written heap a index v numbered) (gone (M.get heap a) refl)
  where
    missing : is_some (M.get heap (at u (made_by u heap))) ≡ false
    missing = numbered u (made_by u heap) ∙ not_less (made_by u heap)

    gone : (o : Option Object) → M.get heap a ≡ o → is_some (M.get (with_object a o (with_value index v) heap) (at u (made_by u heap))) ≡ false
    gone None found = missing
    gone (Some x) found =
        let other : at u (made_by u heap) ≢ a = λ same. some_none (sym (ap is_some (ap (M.get heap) same ∙ found)) ∙ missing) in
        ap is_some (get-insert_other heap a (at u (made_by u heap)) (with_value index v x) other) ∙ missing

module _ (n : ℕ) (heap : Heap) (locks : Locks) (counted : IsCounted n heap locks) where
  pub later : IsCounted (n + 1) heap locks
  later = record { numbered = counted.numbered; objects = λ t. omega (arith, counted.objects t); holds = λ a hold there. omega (arith, counted.holds a hold there) }

  one_hold : (b : Bool) (new hold : Hold) (o : Option Hold) → new.count ≤ n + 1 → ((x : Hold) → o ≡ Some x → x.count ≤ n) → cond b (Some new) o ≡ Some hold → hold.count ≤ n + 1
  one_hold true new hold o few before is = let same : new ≡ hold = cc in subst (λ x. x.count ≤ n + 1) same few
  one_hold false new hold o few before is = omega (arith, before hold is)

  no_hold : (b : Bool) (hold : Hold) (o : Option Hold) → ((x : Hold) → o ≡ Some x → x.count ≤ n) → cond b None o ≡ Some hold → hold.count ≤ n + 1
  no_hold true hold o before is = absurd cc
  no_hold false hold o before is = omega (arith, before hold is)

  inserted : (a : Address) (new : Hold) → new.count ≤ n + 1 → (b : Address) (hold : Hold) → M.get (M.insert locks a new) b ≡ Some hold → hold.count ≤ n + 1
  inserted a new few b hold there = one_hold (eq_by_cmp address_cmp b a) new hold (M.get locks b) few (λ x. counted.holds b x) (sym (get-insert address_total locks a new b) ∙ there)

  removed : (a b : Address) (hold : Hold) → M.get (M.remove locks a) b ≡ Some hold → hold.count ≤ n + 1
  removed a b hold there = no_hold (eq_by_cmp address_cmp b a) hold (M.get locks b) (λ x. counted.holds b x) (sym (get-remove address_total locks a b) ∙ there)

  taken_few : (t : ℕ) (a : Address) (o : Option Hold) → M.get locks a ≡ o → (taken_by t o).count ≤ n + 1
  taken_few t a None there = omega arith
  taken_few t a (Some hold) there = omega (arith, counted.holds a hold there)

  given : (a : Address) (c : Bool) (hold : Hold) → M.get locks a ≡ Some hold → (b : Address) (x : Hold)
      → M.get (with_lock a (if c then Some (record hold { count = hold.count - 1 }) else None) locks) b ≡ Some x → x.count ≤ n + 1
  given a true hold held b x there = inserted a (record hold { count = hold.count - 1 }) (omega (arith, counted.holds a hold held)) b x there
  given a false hold held b x there = removed a b x there

  given_some : (a : Address) (o : Option Hold) → M.get locks a ≡ o → (b : Address) (x : Hold) → M.get (with_lock a (stored_given_back o) locks) b ≡ Some x → x.count ≤ n + 1
  given_some a None held b x there = removed a b x there
  given_some a (Some hold) held b x there = given a (nat_lt 1 hold.count) hold held b x there

  -- a deed makes at most one object and takes a lock at most once more
  pub deed_counted : (P : Program) (t : ℕ) (ops : List Value) (d : Deed) → IsCounted (n + 1) (deed_heap P (seen_of t heap locks) t ops d heap) (deed_locks (seen_of t heap locks) t d locks)
  deed_counted P t ops (deed.Fails kind) = later
  deed_counted P t ops (deed.Goes drops gives place) = later
  deed_counted P t ops (deed.Stores x v place) = later
  deed_counted P t ops (deed.Reads a x v place) = later
  deed_counted P t ops (deed.Writes a x index v place) = record { numbered = numbered_written heap a index v counted.numbered; objects = λ u. omega (arith, made_same heap a u index v counted.numbered, counted.objects u); holds = later.holds }
  deed_counted P t ops (deed.Makes c m place) = let o : Object = record { class = c; values = new_values P (fields_of (slice_get P.classes c)) (listed m ops) } in
      record { numbered = numbered_new heap t o counted.numbered; objects = λ u. omega (arith, made_one heap t u o counted.numbered, counted.objects u); holds = later.holds }
  deed_counted P t ops (deed.Enters m k a place begins most) = later
  deed_counted P t ops (deed.Takes a again place) = record { numbered = counted.numbered; objects = later.objects; holds = inserted a (taken_by t (M.get locks a)) (taken_few t a (M.get locks a) refl) }
  deed_counted P t ops (deed.Waits a holder) = later
  deed_counted P t ops (deed.Gives a frees place) = record { numbered = counted.numbered; objects = later.objects; holds = given_some a (M.get locks a) refl }
  deed_counted P t ops (deed.Returns gives) = later
  deed_counted P t ops (deed.Prints k place) = later
  deed_counted P t ops (deed.Starts a m place) = later

pub may_take : (n t : ℕ) (o : Option Hold) → n < 4294967295 → ((hold : Hold) → o ≡ Some hold → hold.count ≤ n) → IsOwned t o → MayTake t o
may_take n t None below few owned = tt
may_take n t (Some hold) below few owned = (owned, omega (arith, few hold refl))

one_is : ◌≡◌ {A = ℕ} 1 0 → ⊥
one_is e = omega arith

pub start_counted : (P : Program) (heap : Heap) (locks : Locks) → heap ≡ (initial P).heap → locks ≡ M.empty → IsCounted 0 heap locks
start_counted P heap locks heap_is locks_is = record {
  numbered = subst IsNumbered (sym heap_is) (initial_numbered P);
  objects = λ t. subst (λ h. made_by t h ≤ 1) (sym heap_is) (first_made t);
  holds = λ a hold there. none_held (sym (ap (λ m. M.get m a) locks_is ∙ get-empty address_cmp a) ∙ there);
}
  where
    first_made : (t : ℕ) → made_by t (initial P).heap ≤ 1
    first_made t = made_below (initial P).heap t 1 (initial_numbered P) (ap is_some (get-insert_other M.empty main_address (at t 1) (new_object P P.main_class []) (λ same. one_is (ap (λ a. a.count) same)) ∙ get-empty address_cmp (at t 1)))

    none_held : {F : Type 0} {hold : Hold} → None ≡ Some hold → F
    none_held e = absurd cc

pub later_ok : (r : Result (Unit {0}) StepEnd) (heap : Heap) (locks : Locks) → OnOk r ((n : ℕ) → IsCounted n heap locks → IsCounted (n + 1) heap locks)
later_ok (Ok u) heap locks = λ n counted. later n heap locks counted
later_ok (Err e) heap locks = tt

pub deed_ok : (r : Result (Unit {0}) AllocError) (s : Result (Unit {0}) StepEnd) (P : Program) (t : ℕ) (ops : List Value) (d : Deed) (heap heap_new : Heap) (locks locks_new : Locks) → s ≡ step_result r
    → OnOk r (heap_new ≡ deed_heap P (seen_of t heap locks) t ops d heap) → OnOk r (locks_new ≡ deed_locks (seen_of t heap locks) t d locks)
    → OnOk s ((n : ℕ) → IsCounted n heap locks → IsCounted (n + 1) heap_new locks_new)
deed_ok (Ok u) s P t ops d heap heap_new locks locks_new is hs ls =
    subst (λ x. OnOk x ((n : ℕ) → IsCounted n heap locks → IsCounted (n + 1) heap_new locks_new)) (sym is)
    (λ n counted. subst (λ h. IsCounted (n + 1) h locks_new) (sym hs) (subst (λ l. IsCounted (n + 1) (deed_heap P (seen_of t heap locks) t ops d heap) l) (sym ls) (deed_counted n heap locks counted P t ops d)))
deed_ok (Err e) s P t ops d heap heap_new locks locks_new is hs ls = subst (λ x. OnOk x ((n : ℕ) → IsCounted n heap locks → IsCounted (n + 1) heap_new locks_new)) (sym is) tt
