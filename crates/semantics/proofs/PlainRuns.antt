-- Runs over lists of entries, which compute, stand for runs over maps, which don't.
use Rattle.std.proofs.Common.{◌≡◌, ℕ, ◌+◌, ℤ, Bool, true, false, not, ◌==◌, List, [], ◌∷◌, ◌++◌, Some, None, refl, sym, ap, ◌∙◌}
use Rattle.std.specs.Prelude.{Option, slice_get, slice_set, map, option_map, option_and_then, count_by, length, T, cond}
use Rattle.std.specs.FinMap as M
use Rattle.std.specs.FinMap.{FinMap, find, put, is_sorted, from_sorted, get-from_sorted, entries-from_sorted, entries-insert, same_entries_map, get-remove, same_map, empty_of_len, len-entries}
use Rattle.std.specs.FinMap.Entries.{is_sorted-put, is_sorted-where_key, where_key, find-where_key}
use Rattle.std.specs.Cmp.{eq_by_cmp_equiv}
use Rattle.std.specs.Ordering.{eq_by_cmp}
use Rattle.core_program.specs.Core.{Program}
use Rattle.state.specs.declared.value.Address.{Address}
use Rattle.state.specs.Memory.{address_cmp, Object, Hold, made_by, with_value, with_object, with_lock}
use Rattle.state.proofs.Addresses.{address_total, address_exact}
use Rattle.state.specs.States.{Thread, Ready, State, initial, new_object, main_address}
use Rattle.semantics.specs.Step.{Shared, Change, Nothing, FieldIs, ObjectIs, LockIs, Prints, Starts, Move, Outcome, Moves, Absent, IsDone, HadFaulted, Waits, turn, seen_by, outcome, changed, moved, state_after}
use Rattle.semantics.specs.Run.{run_from, run, inside, is_inside_some}
use Rattle.semantics.specs.Units.{Entry, entry_then, entries_from, entries}

-- Maps made from sorted entries.

pub turned : {A : Type 0} (b : Bool) (x y : A) → cond (not b) x y ≡ cond b y x
turned true x y = refl
turned false x y = refl

module _ {X : Type 0} where
  -- the entries without the one at an address
  abbrev pub without : Address → List (Address × X) → List (Address × X)
  without a = where_key address_cmp (λ x. not (eq_by_cmp address_cmp a x))

  pub insert-from_sorted : (es : List (Address × X)) (a : Address) (x : X) → T (is_sorted address_cmp es) → M.insert (from_sorted {R = address_cmp} es) a x ≡ from_sorted (put address_cmp a x es)
  insert-from_sorted es a x rising = same_entries_map _ _ (entries-insert address_total _ a x ∙ ap (put address_cmp a x) (entries-from_sorted address_cmp es rising) ∙ sym (entries-from_sorted address_cmp _ (is_sorted-put address_cmp address_total a x es rising)))

  empty-from_sorted : ◌≡◌ {A = FinMap address_cmp X} M.empty (from_sorted [])
  empty-from_sorted = sym (empty_of_len _ (len-entries _ ∙ ap (λ (es : List (Address × X)). length es) (entries-from_sorted address_cmp [] tt)))

  find-without : (es : List (Address × X)) (a q : Address) → find address_cmp q (without a es) ≡ cond (eq_by_cmp address_cmp q a) None (find address_cmp q es)
  find-without es a q = find-where_key address_cmp _ q (λ x tied. ap (λ y. not (eq_by_cmp address_cmp a y)) (sym (address_exact q x tied))) es
      ∙ turned (eq_by_cmp address_cmp a q) _ _ ∙ ap (λ b. cond b None (find address_cmp q es)) ((eq_by_cmp_equiv address_total).symm a q)

  pub remove-from_sorted : (es : List (Address × X)) (a : Address) → T (is_sorted address_cmp es) → M.remove (from_sorted {R = address_cmp} es) a ≡ from_sorted (without a es)
  remove-from_sorted es a rising = same_map address_total address_exact _ _ (λ q.
      get-remove address_total _ a q ∙ ap (cond (eq_by_cmp address_cmp q a) None) (get-from_sorted address_cmp es q rising)
      ∙ sym (get-from_sorted address_cmp _ q (is_sorted-where_key address_cmp _ es rising) ∙ find-without es a q))

-- in an empty heap no thread made an object
pub made_by-empty : (t : ℕ) → made_by t M.empty ≡ 0
made_by-empty t = ap (made_by t) empty-from_sorted ∙ ap (λ (es : List (Address × Object)). count_by (λ a. a.thread == t) (map (λ e. e.0) es)) (entries-from_sorted address_cmp [] tt)

-- Plain states.

-- a state whose maps are lists of entries
pub record Plain : Type 0 where
  pub heap : List (Address × Object)
  pub locks : List (Address × Hold)
  pub threads : List Thread
  pub output : List ℤ

-- the state that it stands for
abbrev pub stands : Plain → State
stands p = record { heap = from_sorted p.heap; locks = from_sorted p.locks; threads = p.threads; output = p.output }

-- its entries rise
pub record Rises (p : Plain) : Type 0 where
  pub heap : T (is_sorted address_cmp p.heap)
  pub locks : T (is_sorted address_cmp p.locks)

abbrev pub plain_seen : ℕ → Plain → Shared
plain_seen t p = record { object_at = λ a. find address_cmp a p.heap; lock_at = λ a. find address_cmp a p.locks; made = count_by (λ a. a.thread == t) (map (λ e. e.0) p.heap) }

seen_same : (t : ℕ) (p : Plain) → Rises p → seen_by t (stands p) ≡ plain_seen t p
seen_same t p rises = λ i. record {
  object_at = λ a. get-from_sorted address_cmp p.heap a rises.heap i;
  lock_at = λ a. get-from_sorted address_cmp p.locks a rises.locks i;
  made = ap (λ (es : List (Address × Object)). count_by (λ a. a.thread == t) (map (λ e. e.0) es)) (entries-from_sorted address_cmp p.heap rises.heap) i;
}

abbrev pub plain_object : Address → Option Object → (Object → Object) → List (Address × Object) → List (Address × Object)
plain_object a None change heap = heap
plain_object a (Some o) change heap = put address_cmp a (change o) heap

abbrev pub plain_lock : Address → Option Hold → List (Address × Hold) → List (Address × Hold)
plain_lock a None locks = without a locks
plain_lock a (Some hold) locks = put address_cmp a hold locks

abbrev pub plain_changed : Change → Plain → Plain
plain_changed Nothing p = p
plain_changed (FieldIs a index v) p = record p { heap = plain_object a (find address_cmp a p.heap) (with_value index v) p.heap }
plain_changed (ObjectIs a o) p = record p { heap = put address_cmp a o p.heap }
plain_changed (LockIs a hold) p = record p { locks = plain_lock a hold p.locks }
plain_changed (Prints n) p = record p { output = p.output ++ n ∷ [] }
plain_changed (Starts a m) p = record p { threads = p.threads ++ Ready a m ∷ [] }

object_same : (a : Address) (o : Option Object) (change : Object → Object) (heap : List (Address × Object)) → T (is_sorted address_cmp heap) → with_object a o change (from_sorted heap) ≡ from_sorted (plain_object a o change heap)
object_same a None change heap rises = refl
object_same a (Some o) change heap rises = insert-from_sorted heap a (change o) rises

object_rises : (a : Address) (o : Option Object) (change : Object → Object) (heap : List (Address × Object)) → T (is_sorted address_cmp heap) → T (is_sorted address_cmp (plain_object a o change heap))
object_rises a None change heap rises = rises
object_rises a (Some o) change heap rises = is_sorted-put address_cmp address_total a (change o) heap rises

lock_same : (a : Address) (o : Option Hold) (locks : List (Address × Hold)) → T (is_sorted address_cmp locks) → with_lock a o (from_sorted locks) ≡ from_sorted (plain_lock a o locks)
lock_same a None locks rises = remove-from_sorted locks a rises
lock_same a (Some hold) locks rises = insert-from_sorted locks a hold rises

lock_rises : (a : Address) (o : Option Hold) (locks : List (Address × Hold)) → T (is_sorted address_cmp locks) → T (is_sorted address_cmp (plain_lock a o locks))
lock_rises a None locks rises = is_sorted-where_key address_cmp _ locks rises
lock_rises a (Some hold) locks rises = is_sorted-put address_cmp address_total a hold locks rises

changed_same : (c : Change) (p : Plain) → Rises p → changed c (stands p) ≡ stands (plain_changed c p)
changed_same Nothing p rises = refl
changed_same (FieldIs a index v) p rises = ap (λ h. record (stands p) { heap = h })
    (ap (λ o. with_object a o (with_value index v) (from_sorted p.heap)) (get-from_sorted address_cmp p.heap a rises.heap) ∙ object_same a _ (with_value index v) p.heap rises.heap)
changed_same (ObjectIs a o) p rises = ap (λ h. record (stands p) { heap = h }) (insert-from_sorted p.heap a o rises.heap)
changed_same (LockIs a hold) p rises = ap (λ l. record (stands p) { locks = l }) (lock_same a hold p.locks rises.locks)
changed_same (Prints n) p rises = refl
changed_same (Starts a m) p rises = refl

changed_rises : (c : Change) (p : Plain) → Rises p → Rises (plain_changed c p)
changed_rises Nothing p rises = rises
changed_rises (FieldIs a index v) p rises = record { heap = object_rises a _ (with_value index v) p.heap rises.heap; locks = rises.locks }
changed_rises (ObjectIs a o) p rises = record { heap = is_sorted-put address_cmp address_total a o p.heap rises.heap; locks = rises.locks }
changed_rises (LockIs a hold) p rises = record { heap = rises.heap; locks = lock_rises a hold p.locks rises.locks }
changed_rises (Prints n) p rises = record { heap = rises.heap; locks = rises.locks }
changed_rises (Starts a m) p rises = record { heap = rises.heap; locks = rises.locks }

abbrev pub plain_moved : ℕ → Move → Plain → Plain
plain_moved t move p = plain_changed move.change (record p { threads = slice_set p.threads t move.thread })

moved_same : (t : ℕ) (move : Move) (p : Plain) → Rises p → moved t move (stands p) ≡ stands (plain_moved t move p)
moved_same t move p rises = changed_same move.change (record p { threads = slice_set p.threads t move.thread }) (record { heap = rises.heap; locks = rises.locks })

moved_rises : (t : ℕ) (move : Move) (p : Plain) → Rises p → Rises (plain_moved t move p)
moved_rises t move p rises = changed_rises move.change (record p { threads = slice_set p.threads t move.thread }) (record { heap = rises.heap; locks = rises.locks })

-- Runs.

abbrev pub plain_outcome : Program → Plain → ℕ → Outcome
plain_outcome P p t = turn P (plain_seen t p) t (slice_get p.threads t)

outcome_same : (P : Program) (p : Plain) (t : ℕ) → Rises p → outcome P (stands p) t ≡ plain_outcome P p t
outcome_same P p t rises = ap (λ see. turn P see t (slice_get p.threads t)) (seen_same t p rises)

abbrev pub plain_after : Plain → ℕ → Outcome → (Plain → Option Plain) → Option Plain
plain_after p t (Moves move) later = later (plain_moved t move p)
plain_after p t _ later = None

abbrev pub plain_run : Program → Plain → List ℕ → Option Plain
plain_run P p [] = Some p
plain_run P p (t ∷ s) = plain_after p t (plain_outcome P p t) (λ next. plain_run P next s)

abbrev pub plain_entry : Program → Plain → (place t : ℕ) → Outcome → (Plain → List Entry) → List Entry
plain_entry P p place t (Moves move) later = record { place = place; thread = t; kind = move.kind; inside = is_inside_some P (slice_get (plain_moved t move p).threads t) } ∷ later (plain_moved t move p)
plain_entry P p place t _ later = []

abbrev pub plain_entries : Program → Plain → ℕ → List ℕ → List Entry
plain_entries P p place [] = []
plain_entries P p place (t ∷ s) = plain_entry P p place t (plain_outcome P p t) (λ next. plain_entries P next (place + 1) s)

pub run_same : (P : Program) (p : Plain) (s : List ℕ) → Rises p → run_from P (stands p) s ≡ option_map stands (plain_run P p s)
run_same P p [] rises = refl
run_same P p (t ∷ s) rises =
    ap (λ o. option_and_then (λ next. run_from P next s) (state_after (stands p) t o)) (outcome_same P p t rises)
    ∙ elim (plain_outcome P p t) as (λ o. option_and_then (λ next. run_from P next s) (state_after (stands p) t o) ≡ option_map stands (plain_after p t o (λ next. plain_run P next s))) [
      | Moves move ↦ ap (λ q. run_from P q s) (moved_same t move p rises) ∙ run_same P (plain_moved t move p) s (moved_rises t move p rises)
      | Absent ↦ refl
      | IsDone ↦ refl
      | HadFaulted kind ↦ refl
      | Waits a holder ↦ refl
    ]

pub entries_same : (P : Program) (p : Plain) (place : ℕ) (s : List ℕ) → Rises p → entries_from P (stands p) place s ≡ plain_entries P p place s
entries_same P p place [] rises = refl
entries_same P p place (t ∷ s) rises =
    ap (λ o. entry_then P (stands p) place t o (λ next. entries_from P next (place + 1) s)) (outcome_same P p t rises)
    ∙ elim (plain_outcome P p t) as (λ o. entry_then P (stands p) place t o (λ next. entries_from P next (place + 1) s) ≡ plain_entry P p place t o (λ next. plain_entries P next (place + 1) s)) [
      | Moves move ↦ ap (λ q. record { place = place; thread = t; kind = move.kind; inside = inside P q t } ∷ entries_from P q (place + 1) s) (moved_same t move p rises)
          ∙ ap (λ es. record { place = place; thread = t; kind = move.kind; inside = is_inside_some P (slice_get (plain_moved t move p).threads t) } ∷ es) (entries_same P (plain_moved t move p) (place + 1) s (moved_rises t move p rises))
      | Absent ↦ refl
      | IsDone ↦ refl
      | HadFaulted kind ↦ refl
      | Waits a holder ↦ refl
    ]

-- The start.

abbrev pub plain_initial : Program → Plain
plain_initial P = record { heap = (main_address, new_object P P.main_class []) ∷ []; locks = []; threads = Ready main_address P.main ∷ []; output = [] }

pub initial_same : (P : Program) → initial P ≡ stands (plain_initial P)
initial_same P = λ i. record {
  heap = (ap (λ m. M.insert m main_address (new_object P P.main_class [])) empty-from_sorted ∙ insert-from_sorted [] main_address (new_object P P.main_class []) tt) i;
  locks = empty-from_sorted i;
  threads = Ready main_address P.main ∷ [];
  output = [];
}

initial_rises : (P : Program) → Rises (plain_initial P)
initial_rises P = record { heap = tt; locks = tt }

-- a run from the start, by computation
pub run_is : (P : Program) (s : List ℕ) → run P s ≡ option_map stands (plain_run P (plain_initial P) s)
run_is P s = ap (λ q. run_from P q s) (initial_same P) ∙ run_same P (plain_initial P) s (initial_rises P)

-- the entries of a run from the start, by computation
pub entries_is : (P : Program) (s : List ℕ) → entries P s ≡ plain_entries P (plain_initial P) 0 s
entries_is P s = ap (λ q. entries_from P q 0 s) (initial_same P) ∙ entries_same P (plain_initial P) 0 s (initial_rises P)
