-- A step of one thread leaves what another thread asks as it looks.
use Rattle.std.proofs.Common.{◌≡◌, ◌≢◌, ℕ, ◌-◌, ◌==◌, Bool, true, false, refl, sym, ap, subst, ◌∙◌, Some, None, arith, IsSome}
use Rattle.std.proofs.lemmas.Bool.Decides.{nat_tests}
use Rattle.std.specs.Prelude.{Option, is_some, slice_get, option_map, cond, nat_lt, if◌then◌else◌}
use Rattle.std.specs.FinMap as M
use Rattle.std.specs.Ordering.{eq_by_cmp}
use Rattle.core_program.specs.Core.{Program, Field}
use Rattle.state.specs.declared.value.Address.{Address}
use Rattle.state.specs.declared.value.Value.{Value}
use Rattle.state.specs.declared.value.Value.TheVariants as value
use Rattle.state.specs.declared.value.StepKind.{StepKind}
use Rattle.state.specs.Memory.{Object, Hold, Heap, Locks, address_cmp, made_by, next_address, IsNumbered, lists, field_value, value_in, with_value, with_field, with_lock}
use Rattle.state.proofs.Addresses.{tied, apart}
use Rattle.state.proofs.MemoryLemmas.{get-insert_other, value_in-insert_other}
use Rattle.state.proofs.Numbering.{next_free, numbered_new, numbered_written}
use Rattle.semantics.specs.Step.{Change, FieldIs, LockIs, index_of, object_class, next_at, access_kind}
use Rattle.semantics.specs.Locking.{holds, taken_again, given_back}
use Rattle.semantics.specs.Asks.{Ask, Alone, Reads, Writes, Counts, Takes, Gives, Runs, mine, LooksSame}
use Rattle.reduction.specs.Changes.{IsApart, Did, quiet, was_read, was_written, was_made, was_taken, taken_more, was_given, was_started, was_printed}
use Rattle.reduction.specs.Guards.{HasFinalGuards}
use Rattle.reduction.specs.Orderly.{see_in, IsObjectAt, Refers, HasNoDanglingValue, IsFit}
use Rattle.reduction.specs.Parts.{on_heap, on_locks}
use Rattle.reduction.proofs.Commute.{get_written, get_locks}
use Rattle.reduction.proofs.Chains.{written_other, kind_same}

-- numbers that the same numbers lie below are equal
below_same : (a b : ℕ) → ((n : ℕ) → nat_lt n a ≡ nat_lt n b) → a ≡ b
below_same a b same = let p = same a in let q = same b in grind (arith, nat_tests, p, q)

-- two numbered heaps with the same addresses of a thread have the same number of its objects
made_same : (h k : Heap) (u : ℕ) → IsNumbered h → IsNumbered k → ((n : ℕ) → is_some (M.get h (record { thread = u; count = n })) ≡ is_some (M.get k (record { thread = u; count = n }))) → made_by u h ≡ made_by u k
made_same h k u nh nk same = below_same _ _ (λ n. sym (nh u n) ∙ same n ∙ nk u n)

class_kept : (i : ℕ) (v : Value) (b : Bool) (o : Option Object) → object_class o ≡ object_class (cond b (option_map (with_value i v) o) o)
class_kept i v false o = refl
class_kept i v true None = refl
class_kept i v true (Some o) = refl

there_kept : (i : ℕ) (v : Value) (b : Bool) (o : Option Object) → is_some o ≡ is_some (cond b (option_map (with_value i v) o) o)
there_kept i v false o = refl
there_kept i v true None = refl
there_kept i v true (Some o) = refl

held_is : (u : ℕ) (o : Option Hold) → holds u o ≡ is_some (mine u o)
held_is u None = refl
held_is u (Some hold) = by (hold.holder == u)
  where
    by : (b : Bool) → b ≡ is_some (if b then Some hold else None)
    by true = refl
    by false = refl

not_mine : (u : ℕ) (hold : Hold) → hold.holder ≢ u → mine u (Some hold) ≡ None
not_mine u hold other = ap (λ (b : Bool). if b then Some hold else None) (differs hold.holder u other)
  where
    differs : (a b : ℕ) → a ≢ b → (a == b) ≡ false
    differs a b h = grind (arith, nat_tests)

given_not_mine : (u : ℕ) (hold : Hold) → hold.holder ≢ u → mine u (given_back hold) ≡ None
given_not_mine u hold other = by (nat_lt 1 hold.count)
  where
    by : (b : Bool) → mine u (if b then Some (record hold { count = hold.count - 1 }) else None) ≡ None
    by false = refl
    by true = not_mine u (record hold { count = _ }) other

module _ (P : Program) (guards : HasFinalGuards P) (u : ℕ) (heap : Heap) (locks : Locks) where
  same_look : (ask : Ask) → LooksSame P u (see_in u heap locks) (see_in u heap locks) ask
  same_look Alone = tt
  same_look (Reads a x) = (refl, refl)
  same_look (Writes a x) = (refl, refl)
  same_look Counts = refl
  same_look (Takes a) = refl
  same_look (Gives a) = refl
  same_look (Runs a) = refl

  -- a field that isn't final was written
  module _ (numbered : IsNumbered heap) (a : Address) (x : ℕ) (f : Field) (is : slice_get P.fields x ≡ Some f) (mutable : f.is_final ≡ false) (old v : Value) (has : value_in P heap a x ≡ Some old) where
    written_chain : (w : Value) (z : ℕ) (g : Field) → Unit {0} → slice_get P.fields z ≡ Some g → g.is_final ≡ true → next_at P (see_in u heap locks) u w z ≡ next_at P (see_in u (with_field a f.index v heap) locks) u w z
    written_chain (value.Int n) z g good is_g final = refl
    written_chain (value.Truth b) z g good is_g final = refl
    written_chain value.Null z g good is_g final = refl
    written_chain (value.Ref d) z g good is_g final = sym (written_other P x f is v heap a old has d z (λ _ e. another e))
      where
        another : z ≡ x → ⊥
        another e = let same : Some g ≡ Some f = sym is_g ∙ ap (slice_get P.fields) e ∙ is in let fields : g ≡ f = cc in let c : true ≡ false = sym final ∙ ap (λ (k : Field). k.is_final) fields ∙ mutable in cc

    pub written_kind : (writes : Bool) (b : Address) (y : ℕ) → access_kind P (see_in u heap locks) u writes b (slice_get P.fields y) ≡ access_kind P (see_in u (with_field a f.index v heap) locks) u writes b (slice_get P.fields y)
    written_kind writes b y = kind_same P u (see_in u heap locks) (see_in u (with_field a f.index v heap) locks) (λ w. Unit {0}) written_chain (λ w z n good e. tt) guards (λ g. refl) writes b y (slice_get P.fields y) refl tt

    written_value : (b : Address) (y : ℕ) → (a ≡ b → index_of (slice_get P.fields y) ≡ f.index → IsSome (value_in P heap b y) → ⊥) → value_in P heap b y ≡ value_in P (with_field a f.index v heap) b y
    written_value b y free = sym (written_other P x f is v heap a old has b y (λ e s. free (sym e) (ap (λ z. index_of (slice_get P.fields z)) s ∙ ap index_of is) (subst (λ k. IsSome (value_in P heap k y)) (sym e) (subst (λ z. IsSome (value_in P heap a z)) (sym s) (ap is_some has)))))

    written_look : (ask : Ask) → IsApart P heap (FieldIs a f.index v) ask → LooksSame P u (see_in u heap locks) (see_in u (with_field a f.index v heap) locks) ask
    written_look Alone free = tt
    written_look (Reads b y) free = (written_value b y free, written_kind false b y)
    written_look (Writes b y) free = (ap is_some (written_value b y free), written_kind true b y)
    written_look Counts free = made_same heap (with_field a f.index v heap) u numbered (numbered_written heap a f.index v numbered) (λ n. there_kept f.index v _ _ ∙ sym (ap is_some (get_written heap a (record { thread = u; count = n }) f.index v)))
    written_look (Takes b) free = refl
    written_look (Gives b) free = refl
    written_look (Runs b) free = class_kept f.index v _ (M.get heap b) ∙ sym (ap object_class (get_written heap a b f.index v))

  -- an object was made by another thread
  module _ (numbered : IsNumbered heap) (closed : HasNoDanglingValue heap) (t : ℕ) (other : t ≡ u → ⊥) (o : Object) where
    not_new : (b : Address) → IsObjectAt heap b → b ≢ next_address t heap
    not_new b there e = absurd (let c : true ≡ false = sym there ∙ ap (λ k. is_some (M.get heap k)) e ∙ ap is_some (next_free heap t numbered) in cc)

    made_chain : (w : Value) (z : ℕ) (g : Field) → Refers heap w → slice_get P.fields z ≡ Some g → g.is_final ≡ true → next_at P (see_in u heap locks) u w z ≡ next_at P (see_in u (M.insert heap (next_address t heap) o) locks) u w z
    made_chain (value.Int n) z g good is_g final = refl
    made_chain (value.Truth b) z g good is_g final = refl
    made_chain value.Null z g good is_g final = refl
    made_chain (value.Ref d) z g good is_g final = sym (value_in-insert_other P heap (next_address t heap) d o z (not_new d good))

    has_object : (z : ℕ) (d : Address) (w : Value) (k : Option Object) → M.get heap d ≡ k → field_value P z k (slice_get P.fields z) ≡ Some w → Refers heap w
    has_object z d w None e is = absurd cc
    has_object z d w (Some k) e is = by (slice_get P.fields z) is
      where
        value_of : (b : Bool) (i : ℕ) → (if b then slice_get k.values i else None) ≡ Some w → Refers heap w
        value_of true i is = closed d k e i w is
        value_of false i is = absurd cc

        by : (g : Option Field) → field_value P z (Some k) g ≡ Some w → Refers heap w
        by None is = absurd cc
        by (Some g) is = value_of (lists (slice_get P.classes k.class) g.index z) g.index is

    made_stays : (w : Value) (z : ℕ) (n : Value) → Refers heap w → next_at P (see_in u heap locks) u w z ≡ Some n → Refers heap n
    made_stays (value.Int i) z n good e = absurd cc
    made_stays (value.Truth b) z n good e = absurd cc
    made_stays value.Null z n good e = absurd cc
    made_stays (value.Ref d) z n good e = has_object z d n (M.get heap d) refl e

    made_kind : (writes : Bool) (b : Address) (y : ℕ) → IsObjectAt heap b → access_kind P (see_in u heap locks) u writes b (slice_get P.fields y) ≡ access_kind P (see_in u (M.insert heap (next_address t heap) o) locks) u writes b (slice_get P.fields y)
    made_kind writes b y there = kind_same P u (see_in u heap locks) (see_in u (M.insert heap (next_address t heap) o) locks) (Refers heap) made_chain made_stays guards (λ g. refl) writes b y (slice_get P.fields y) refl there

    made_value : (b : Address) (y : ℕ) → IsObjectAt heap b → value_in P heap b y ≡ value_in P (M.insert heap (next_address t heap) o) b y
    made_value b y there = sym (value_in-insert_other P heap (next_address t heap) b o y (not_new b there))

    made_look : (ask : Ask) → IsFit heap ask → LooksSame P u (see_in u heap locks) (see_in u (M.insert heap (next_address t heap) o) locks) ask
    made_look Alone fit = tt
    made_look (Reads b y) fit = (made_value b y fit, made_kind false b y fit)
    made_look (Writes b y) fit = (ap is_some (made_value b y fit), made_kind true b y fit)
    made_look Counts fit = made_same heap (M.insert heap (next_address t heap) o) u numbered (numbered_new heap t o numbered) (λ n. sym (ap is_some (get-insert_other heap (next_address t heap) (record { thread = u; count = n }) o (λ e. absurd (other (sym (ap (λ (k : Address). k.thread) e)))))))
    made_look (Takes b) fit = refl
    made_look (Gives b) fit = refl
    made_look (Runs b) fit = ap object_class (sym (get-insert_other heap (next_address t heap) b o (not_new b fit)))

  -- a lock was taken or given back by another thread
  module _ (a : Address) (hold : Option Hold) (before : mine u (M.get locks a) ≡ None) (after : mine u hold ≡ None) where
    mine_by : (b : Address) (k : Bool) → eq_by_cmp address_cmp b a ≡ k → mine u (M.get locks b) ≡ mine u (cond k hold (M.get locks b))
    mine_by b true e = ap (λ z. mine u (M.get locks z)) (tied b a e) ∙ before ∙ sym after
    mine_by b false e = refl

    mine_same : (b : Address) → mine u (M.get locks b) ≡ mine u (M.get (with_lock a hold locks) b)
    mine_same b = mine_by b (eq_by_cmp address_cmp b a) refl ∙ sym (ap (mine u) (get_locks (LockIs a hold) locks b))

    lock_kind : (writes : Bool) (b : Address) (y : ℕ) → access_kind P (see_in u heap locks) u writes b (slice_get P.fields y) ≡ access_kind P (see_in u heap (with_lock a hold locks)) u writes b (slice_get P.fields y)
    lock_kind writes b y = kind_same P u (see_in u heap locks) (see_in u heap (with_lock a hold locks)) (λ w. Unit {0}) (λ w z g good is_g final. chain w z) (λ w z n good e. tt) guards
        (λ g. held_is u (M.get locks g) ∙ ap is_some (mine_same g) ∙ sym (held_is u (M.get (with_lock a hold locks) g))) writes b y (slice_get P.fields y) refl tt
      where
        chain : (w : Value) (z : ℕ) → next_at P (see_in u heap locks) u w z ≡ next_at P (see_in u heap (with_lock a hold locks)) u w z
        chain (value.Int n) z = refl
        chain (value.Truth b) z = refl
        chain value.Null z = refl
        chain (value.Ref d) z = refl

    lock_look : (ask : Ask) → IsApart P heap (LockIs a hold) ask → LooksSame P u (see_in u heap locks) (see_in u heap (with_lock a hold locks)) ask
    lock_look Alone free = tt
    lock_look (Reads b y) free = (refl, lock_kind false b y)
    lock_look (Writes b y) free = (refl, lock_kind true b y)
    lock_look Counts free = refl
    lock_look (Takes b) free = sym (get_locks (LockIs a hold) locks b ∙ ap (λ k. cond k hold (M.get locks b)) (apart a b (λ e. absurd (free (sym e)))))
    lock_look (Gives b) free = mine_same b
    lock_look (Runs b) free = refl

  holder_other : (t : ℕ) → (t ≡ u → ⊥) → (hold : Hold) → hold.holder ≡ t → hold.holder ≢ u
  holder_other t other hold by e = absurd (other (sym by ∙ e))

  -- what a thread asks looks the same after a step of another that is apart from it
  pub stable : (t : ℕ) → (t ≡ u → ⊥) → IsNumbered heap → HasNoDanglingValue heap → (asked : Ask) (k : StepKind) (c : Change) → Did P (see_in t heap locks) t asked k c → (ask : Ask) → IsFit heap ask → IsApart P heap c ask
      → LooksSame P u (see_in u heap locks) (see_in u (on_heap c heap) (on_locks c locks)) ask
  stable t other numbered closed _ _ _ (quiet asked idle) ask fit free = same_look ask
  stable t other numbered closed _ _ _ (was_read f v is has) ask fit free = same_look ask
  stable t other numbered closed _ _ _ (was_written {a = a} {x = x} f old v is mutable has) ask fit free = written_look numbered a x f is mutable old v has ask free
  stable t other numbered closed _ _ _ (was_made o) ask fit free = made_look numbered closed t other o ask fit
  stable t other numbered closed _ _ _ (was_taken {a = a} is) ask fit free = lock_look a (Some (record { holder = t; count = 1 })) (ap (mine u) is) (not_mine u (record { holder = t; count = 1 }) (λ e. absurd (other e))) ask free
  stable t other numbered closed _ _ _ (taken_more {a = a} hold is by) ask fit free = lock_look a (Some (taken_again hold)) (ap (mine u) is ∙ not_mine u hold (holder_other t other hold by)) (not_mine u (taken_again hold) (holder_other t other hold by)) ask free
  stable t other numbered closed _ _ _ (was_given {a = a} hold is by) ask fit free = lock_look a (given_back hold) (ap (mine u) is ∙ not_mine u hold (holder_other t other hold by)) (given_not_mine u hold (holder_other t other hold by)) ask free
  stable t other numbered closed _ _ _ (was_started m) ask fit free = same_look ask
  stable t other numbered closed _ _ _ (was_printed n) ask fit free = same_look ask
