-- Changes that touch different things commute.
use Rattle.std.proofs.Common.{◌≡◌, ℕ, zero, suc, ◌<◌, Bool, true, false, List, [], ◌∷◌, ◌++◌, length, refl, sym, ap, ◌∙◌, Some, None, arith, option_map}
use Rattle.std.specs.Prelude.{Option, cond, slice_set}
use Rattle.std.specs.FinMap as M
use Rattle.std.specs.FinMap.{same_map, get-insert, get-remove}
use Rattle.std.specs.Ordering.{eq_by_cmp}
use Rattle.std.proofs.lemmas.List.{length-set}
use Rattle.state.specs.declared.value.Address.{Address}
use Rattle.state.specs.declared.value.Value.{Value}
use Rattle.state.specs.Memory.{Object, Hold, Heap, Locks, address_cmp, with_value, with_object, with_field, with_lock}
use Rattle.state.specs.States.{Thread, Ready, State}
use Rattle.state.proofs.Addresses.{address_total, address_exact, tied}
use Rattle.semantics.specs.Step.{Change, Nothing, FieldIs, ObjectIs, LockIs, Prints, Starts, Move, changed, moved}
use Rattle.reduction.specs.Changes.{AreClear}
use Rattle.reduction.specs.Parts.{on_heap, on_locks, on_threads, on_output, on_object, on_hold}

-- a change is that of each part
pub changed_is : (c : Change) (q : State) → changed c q ≡ record { heap = on_heap c q.heap; locks = on_locks c q.locks; threads = on_threads c q.threads; output = on_output c q.output }
changed_is Nothing q = refl
changed_is (FieldIs a i v) q = refl
changed_is (ObjectIs a o) q = refl
changed_is (LockIs a hold) q = refl
changed_is (Prints n) q = refl
changed_is (Starts a m) q = refl

pub moved_is : (t : ℕ) (m : Move) (q : State) → moved t m q ≡ record { heap = on_heap m.change q.heap; locks = on_locks m.change q.locks; threads = on_threads m.change (slice_set q.threads t m.thread); output = on_output m.change q.output }
moved_is t m q = changed_is m.change (record q { threads = slice_set q.threads t m.thread })

module _ (heap : Heap) (a k : Address) (i : ℕ) (v : Value) where
  written_here : (found : Option Object) → M.get heap a ≡ found → (b : Bool) → eq_by_cmp address_cmp k a ≡ b → M.get (with_object a found (with_value i v) heap) k ≡ cond b (option_map (with_value i v) (M.get heap k)) (M.get heap k)
  written_here None e true same = let none : M.get heap k ≡ None = ap (M.get heap) (tied k a same) ∙ e in none ∙ sym (ap (option_map (with_value i v)) none)
  written_here None e false same = refl
  written_here (Some o) e true same = get-insert address_total heap a (with_value i v o) k ∙ ap (λ b. cond b (Some (with_value i v o)) (M.get heap k)) same ∙ sym (ap (option_map (with_value i v)) (ap (M.get heap) (tied k a same) ∙ e))
  written_here (Some o) e false same = get-insert address_total heap a (with_value i v o) k ∙ ap (λ b. cond b (Some (with_value i v o)) (M.get heap k)) same

  pub get_written : M.get (with_field a i v heap) k ≡ cond (eq_by_cmp address_cmp k a) (option_map (with_value i v) (M.get heap k)) (M.get heap k)
  get_written = written_here (M.get heap a) refl _ refl

-- an object after a change
pub get_heap : (c : Change) (heap : Heap) (k : Address) → M.get (on_heap c heap) k ≡ on_object c k (M.get heap k)
get_heap Nothing heap k = refl
get_heap (FieldIs a i v) heap k = get_written heap a k i v
get_heap (ObjectIs a o) heap k = get-insert address_total heap a o k
get_heap (LockIs a hold) heap k = refl
get_heap (Prints n) heap k = refl
get_heap (Starts a m) heap k = refl

get_lock : (a : Address) (hold : Option Hold) (locks : Locks) (k : Address) → M.get (with_lock a hold locks) k ≡ cond (eq_by_cmp address_cmp k a) hold (M.get locks k)
get_lock a None locks k = get-remove address_total locks a k
get_lock a (Some hold) locks k = get-insert address_total locks a hold k

-- a lock after a change
pub get_locks : (c : Change) (locks : Locks) (k : Address) → M.get (on_locks c locks) k ≡ on_hold c k (M.get locks k)
get_locks Nothing locks k = refl
get_locks (FieldIs a i v) locks k = refl
get_locks (ObjectIs a o) locks k = refl
get_locks (LockIs a hold) locks k = get_lock a hold locks k
get_locks (Prints n) locks k = refl
get_locks (Starts a m) locks k = refl

-- writes at two places of a list
set_apart : {A : Type 0} (xs : List A) (i j : ℕ) (v w : A) → (i ≡ j → ⊥) → slice_set (slice_set xs j w) i v ≡ slice_set (slice_set xs i v) j w
set_apart [] i j v w other = refl
set_apart (x ∷ xs) zero zero v w other = absurd (other refl)
set_apart (x ∷ xs) zero (suc j) v w other = refl
set_apart (x ∷ xs) (suc i) zero v w other = refl
set_apart (x ∷ xs) (suc i) (suc j) v w other = ap (λ ys. x ∷ ys) (set_apart xs i j v w (λ e. other (ap suc e)))

values_apart : (i j : ℕ) (v w : Value) (o : Option Object) → (i ≡ j → ⊥) → option_map (with_value i v) (option_map (with_value j w) o) ≡ option_map (with_value j w) (option_map (with_value i v) o)
values_apart i j v w None other = refl
values_apart i j v w (Some o) other = ap (λ values. Some (record o { values = values })) (set_apart o.values i j v w other)

-- two functions of what stands at an address, by whether it is one address or the other
at_two : {X : Type 0} (f g : X → X) (k a b : Address) (o : X) → (a ≡ b → f (g o) ≡ g (f o))
    → cond (eq_by_cmp address_cmp k a) (f (cond (eq_by_cmp address_cmp k b) (g o) o)) (cond (eq_by_cmp address_cmp k b) (g o) o) ≡ cond (eq_by_cmp address_cmp k b) (g (cond (eq_by_cmp address_cmp k a) (f o) o)) (cond (eq_by_cmp address_cmp k a) (f o) o)
at_two f g k a b o same = by (eq_by_cmp address_cmp k a) refl (eq_by_cmp address_cmp k b) refl
  where
    by : (x : Bool) → eq_by_cmp address_cmp k a ≡ x → (y : Bool) → eq_by_cmp address_cmp k b ≡ y → cond x (f (cond y (g o) o)) (cond y (g o) o) ≡ cond y (g (cond x (f o) o)) (cond x (f o) o)
    by true e true h = same (sym (tied k a e) ∙ tied k b h)
    by true e false h = refl
    by false e true h = refl
    by false e false h = refl

objects_commute : (c d : Change) (k : Address) (o : Option Object) → AreClear c d → on_object c k (on_object d k o) ≡ on_object d k (on_object c k o)
objects_commute (FieldIs a i v) (FieldIs b j w) k o clear = at_two (option_map (with_value i v)) (option_map (with_value j w)) k a b o (λ e. values_apart i j v w o (clear e))
objects_commute (FieldIs a i v) (ObjectIs b p) k o clear = at_two (option_map (with_value i v)) (λ x. Some p) k a b o (λ e. absurd (clear e))
objects_commute (ObjectIs a p) (FieldIs b j w) k o clear = at_two (λ x. Some p) (option_map (with_value j w)) k a b o (λ e. absurd (clear e))
objects_commute (ObjectIs a p) (ObjectIs b r) k o clear = at_two (λ x. Some p) (λ x. Some r) k a b o (λ e. absurd (clear e))
objects_commute (FieldIs a i v) Nothing k o clear = refl
objects_commute (FieldIs a i v) (LockIs b h) k o clear = refl
objects_commute (FieldIs a i v) (Prints n) k o clear = refl
objects_commute (FieldIs a i v) (Starts b m) k o clear = refl
objects_commute (ObjectIs a p) Nothing k o clear = refl
objects_commute (ObjectIs a p) (LockIs b h) k o clear = refl
objects_commute (ObjectIs a p) (Prints n) k o clear = refl
objects_commute (ObjectIs a p) (Starts b m) k o clear = refl
objects_commute Nothing d k o clear = refl
objects_commute (LockIs a h) d k o clear = refl
objects_commute (Prints n) d k o clear = refl
objects_commute (Starts a m) d k o clear = refl

holds_commute : (c d : Change) (k : Address) (o : Option Hold) → AreClear c d → on_hold c k (on_hold d k o) ≡ on_hold d k (on_hold c k o)
holds_commute (LockIs a h) (LockIs b l) k o clear = at_two (λ x. h) (λ x. l) k a b o (λ e. absurd (clear e))
holds_commute (LockIs a h) Nothing k o clear = refl
holds_commute (LockIs a h) (FieldIs b j w) k o clear = refl
holds_commute (LockIs a h) (ObjectIs b p) k o clear = refl
holds_commute (LockIs a h) (Prints n) k o clear = refl
holds_commute (LockIs a h) (Starts b m) k o clear = refl
holds_commute Nothing d k o clear = refl
holds_commute (FieldIs a i v) d k o clear = refl
holds_commute (ObjectIs a p) d k o clear = refl
holds_commute (Prints n) d k o clear = refl
holds_commute (Starts a m) d k o clear = refl

heaps_commute : (c d : Change) (heap : Heap) → AreClear c d → on_heap c (on_heap d heap) ≡ on_heap d (on_heap c heap)
heaps_commute c d heap clear = same_map address_total address_exact _ _ (λ k.
    get_heap c (on_heap d heap) k ∙ ap (on_object c k) (get_heap d heap k) ∙ objects_commute c d k (M.get heap k) clear
    ∙ sym (ap (on_object d k) (get_heap c heap k)) ∙ sym (get_heap d (on_heap c heap) k))

locks_commute : (c d : Change) (locks : Locks) → AreClear c d → on_locks c (on_locks d locks) ≡ on_locks d (on_locks c locks)
locks_commute c d locks clear = same_map address_total address_exact _ _ (λ k.
    get_locks c (on_locks d locks) k ∙ ap (on_hold c k) (get_locks d locks k) ∙ holds_commute c d k (M.get locks k) clear
    ∙ sym (ap (on_hold d k) (get_locks c locks k)) ∙ sym (get_locks d (on_locks c locks) k))

outputs_commute : (c d : Change) (output : _) → AreClear c d → on_output c (on_output d output) ≡ on_output d (on_output c output)
outputs_commute (Prints n) (Prints m) output clear = absurd clear
outputs_commute (Prints n) Nothing output clear = refl
outputs_commute (Prints n) (FieldIs b j w) output clear = refl
outputs_commute (Prints n) (ObjectIs b p) output clear = refl
outputs_commute (Prints n) (LockIs b l) output clear = refl
outputs_commute (Prints n) (Starts b m) output clear = refl
outputs_commute Nothing d output clear = refl
outputs_commute (FieldIs a i v) d output clear = refl
outputs_commute (ObjectIs a p) d output clear = refl
outputs_commute (LockIs a h) d output clear = refl
outputs_commute (Starts a m) d output clear = refl

-- a thread that is there is set before or after another is added
set_append : {A : Type 0} (xs ys : List A) (i : ℕ) (v : A) → i < length xs → slice_set (xs ++ ys) i v ≡ slice_set xs i v ++ ys
set_append [] ys i v there = absurd (omega (arith, there))
set_append (x ∷ xs) ys zero v there = refl
set_append (x ∷ xs) ys (suc i) v there = ap (λ zs. x ∷ zs) (set_append xs ys i v (omega (arith, there)))

set_added : (c : Change) (threads : List Thread) (t : ℕ) (x : Thread) → t < length threads → slice_set (on_threads c threads) t x ≡ on_threads c (slice_set threads t x)
set_added Nothing threads t x there = refl
set_added (FieldIs a i v) threads t x there = refl
set_added (ObjectIs a o) threads t x there = refl
set_added (LockIs a h) threads t x there = refl
set_added (Prints n) threads t x there = refl
set_added (Starts a m) threads t x there = set_append threads (Ready a m ∷ []) t x there

added_commute : (c d : Change) (threads : List Thread) → AreClear c d → on_threads c (on_threads d threads) ≡ on_threads d (on_threads c threads)
added_commute (Starts a m) (Starts b n) threads clear = absurd clear
added_commute (Starts a m) Nothing threads clear = refl
added_commute (Starts a m) (FieldIs b j w) threads clear = refl
added_commute (Starts a m) (ObjectIs b p) threads clear = refl
added_commute (Starts a m) (LockIs b l) threads clear = refl
added_commute (Starts a m) (Prints n) threads clear = refl
added_commute Nothing d threads clear = refl
added_commute (FieldIs a i v) d threads clear = refl
added_commute (ObjectIs a p) d threads clear = refl
added_commute (LockIs a h) d threads clear = refl
added_commute (Prints n) d threads clear = refl

threads_commute : (c d : Change) (threads : List Thread) (t u : ℕ) (x y : Thread) → (t ≡ u → ⊥) → t < length threads → u < length threads → AreClear c d
    → on_threads c (slice_set (on_threads d (slice_set threads u y)) t x) ≡ on_threads d (slice_set (on_threads c (slice_set threads t x)) u y)
threads_commute c d threads t u x y other ht hu clear =
    ap (on_threads c) (set_added d (slice_set threads u y) t x (omega (arith, ht, length-set threads u y)) ∙ ap (on_threads d) (set_apart threads t u x y other))
    ∙ added_commute c d (slice_set (slice_set threads t x) u y) clear
    ∙ sym (ap (on_threads d) (set_added c (slice_set threads t x) u y (omega (arith, hu, length-set threads t x))))

-- two steps of different threads with clear changes commute
pub moved_swap : (q : State) (t u : ℕ) (m n : Move) → (t ≡ u → ⊥) → t < length q.threads → u < length q.threads → AreClear m.change n.change → moved t m (moved u n q) ≡ moved u n (moved t m q)
moved_swap q t u m n other ht hu clear =
    ap (moved t m) (moved_is u n q) ∙ moved_is t m _
    ∙ (λ i. record {
      heap = heaps_commute m.change n.change q.heap clear i;
      locks = locks_commute m.change n.change q.locks clear i;
      threads = threads_commute m.change n.change q.threads t u m.thread n.thread other ht hu clear i;
      output = outputs_commute m.change n.change q.output clear i;
    })
    ∙ sym (ap (moved u n) (moved_is t m q) ∙ moved_is u n _)
