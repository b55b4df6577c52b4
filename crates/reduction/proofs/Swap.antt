-- The exchange of two neighbouring steps.
use Rattle.std.proofs.Common.{◌≡◌, ◌≢◌, ℕ, zero, suc, ◌<◌, Bool, true, false, List, [], ◌∷◌, ◌++◌, length, refl, sym, ap, subst, ◌∙◌, Some, None, arith, IsSome}
use Rattle.std.specs.Prelude.{Option, is_some, slice_get, slice_set, if◌then◌else◌}
use Rattle.std.specs.FinMap as M
use Rattle.std.proofs.lemmas.Option.{same_Some}
use Rattle.std.proofs.lemmas.List.{length-set}
use Rattle.base.proofs.Lists.{set_other}
use Rattle.core_program.specs.Core.{Program, Field}
use Rattle.state.specs.declared.value.Address.{Address}
use Rattle.state.specs.declared.value.Value.{Value}
use Rattle.state.specs.declared.value.StepKind.{StepKind}
use Rattle.state.specs.declared.value.StepKind.TheVariants.{Other}
use Rattle.state.specs.Memory.{Object, Hold, Heap, Locks, value_in, next_address, IsNumbered}
use Rattle.state.specs.States.{Thread, Ready, State}
use Rattle.state.proofs.Numbering.{next_free}
use Rattle.semantics.specs.Step.{Change, Nothing, FieldIs, ObjectIs, LockIs, Prints, Starts, Move, Moves, Absent, outcome, moved, turn, seen_by, index_of, unless_final, access_kind}
use Rattle.semantics.specs.Locking.{taken_again, given_back}
use Rattle.semantics.specs.Asks.{Ask, Alone, Reads, Writes, Counts, Takes, Gives, Runs, asks}
use Rattle.reduction.specs.Changes.{AreClear, IsApart, IsIdle, Did, quiet, was_read, was_written, was_made, was_taken, taken_more, was_given, was_started, was_printed}
use Rattle.reduction.specs.Guards.{HasFinalGuards}
use Rattle.reduction.specs.Orderly.{see_in, IsOrderly}
use Rattle.reduction.specs.Parts.{on_heap, on_locks, on_threads}
use Rattle.reduction.specs.Swapped.{MayPass, started, Swapped}
use Rattle.semantics.proofs.Looks.{turn_same}
use Rattle.reduction.proofs.Dids.{moves_did}
use Rattle.reduction.proofs.Commute.{moved_is, moved_swap}
use Rattle.reduction.proofs.Stable.{stable}
use Rattle.reduction.proofs.Conflicts.{first_apart, accesses_stay, one_field, object_there, others_stay}

module _ (P : Program) (heap : Heap) (locks : Locks) (numbered : IsNumbered heap) (t u : ℕ) (other : t ≡ u → ⊥) where
  -- a field that has a value is of no new object
  old_object : (a : Address) (x : ℕ) → IsSome (value_in P heap a x) → (n : ℕ) → a ≡ next_address n heap → ⊥
  old_object a x has n e = object_there P heap a x has (ap (M.get heap) e ∙ next_free heap n numbered)

  -- the second step wrote a field
  module _ (b : Address) (y : ℕ) (g : Field) (is_g : slice_get P.fields y ≡ Some g) (mutable : g.is_final ≡ false) (o w : Value) (has_g : value_in P heap b y ≡ Some o) where
    at_field : (a : Address) (x : ℕ) → b ≡ a → index_of (slice_get P.fields x) ≡ g.index → IsSome (value_in P heap a x) → x ≡ y
    at_field a x e i some = one_field P heap b y x (ap is_some has_g) (subst (λ k. IsSome (value_in P heap k x)) (sym e) some) (i ∙ sym (ap index_of is_g))

    -- and the first did nothing to what it asked
    idle_write : (a : Address) (x : ℕ) → unless_final (slice_get P.fields x) (value_in P heap a x) ≡ None → b ≡ a → index_of (slice_get P.fields x) ≡ g.index → IsSome (value_in P heap a x) → ⊥
    idle_write a x idle e i some =
        let s = at_field a x e i some in
        let value : unless_final (slice_get P.fields x) (value_in P heap a x) ≡ value_in P heap a x =
        ap (λ z. unless_final z (value_in P heap a x)) (ap (slice_get P.fields) s ∙ is_g) ∙ ap (λ (k : Bool). if k then None else value_in P heap a x) mutable in
        absurd (let c : false ≡ true = sym (ap is_some (sym value ∙ idle)) ∙ some in cc)

    -- or read it
    read_write : (a : Address) (x : ℕ) (f : Field) → slice_get P.fields x ≡ Some f → MayPass (access_kind P (see_in t heap locks) t false a (Some f)) (access_kind P (see_in u heap locks) u true b (Some g)) → b ≡ a → index_of (slice_get P.fields x) ≡ g.index → IsSome (value_in P heap a x) → ⊥
    read_write a x f is p e i some =
        let s = at_field a x e i some in
        let fields : f ≡ g = same_Some f g (sym is ∙ ap (slice_get P.fields) s ∙ is_g) in
        accesses_stay P heap locks t u other false true a g mutable refl
        (subst (λ z. MayPass (access_kind P (see_in t heap locks) t false a (Some z)) (access_kind P (see_in u heap locks) u true a (Some g))) fields
        (subst (λ k. MayPass (access_kind P (see_in t heap locks) t false a (Some f)) (access_kind P (see_in u heap locks) u true k (Some g))) e p))

  -- a lock isn't held by both, and not free and held
  both_held : (a b : Address) (h k : Hold) → M.get locks a ≡ Some h → h.holder ≡ t → M.get locks b ≡ Some k → k.holder ≡ u → a ≡ b → ⊥
  both_held a b h k at_a by_t at_b by_u e = let same : h ≡ k = same_Some h k (sym at_a ∙ ap (M.get locks) e ∙ at_b) in other (sym by_t ∙ ap (λ (z : Hold). z.holder) same ∙ by_u)

  free_held : (a b : Address) (h : Hold) → M.get locks a ≡ None → M.get locks b ≡ Some h → a ≡ b → ⊥
  free_held a b h free held e = absurd (let c : None ≡ Some h = sym free ∙ ap (M.get locks) e ∙ held in cc)

  -- the second step's change is apart from what the first asked, and clear of the first's change
  abbrev Apart : Ask → Change → Change → Type 0
  Apart asked c d = IsApart P heap d asked × AreClear c d

  idle_alone : (ask : Ask) (l : StepKind) (d : Change) → Did P (see_in u heap locks) u ask l d → Apart (Alone) Nothing d
  idle_alone _ _ _ (quiet ask i) = (tt, tt)
  idle_alone _ _ _ (was_read g w is_g has_g) = (tt, tt)
  idle_alone _ _ _ (was_written {a = b} {x = y} g o w is_g mutable has_g) = (tt, tt)
  idle_alone _ _ _ (was_made o) = (tt, tt)
  idle_alone _ _ _ (was_taken {a = b} fr) = (tt, tt)
  idle_alone _ _ _ (taken_more {a = b} k held by) = (tt, tt)
  idle_alone _ _ _ (was_given {a = b} k held by) = (tt, tt)
  idle_alone _ _ _ (was_started n) = (tt, tt)
  idle_alone _ _ _ (was_printed n) = (tt, tt)

  idle_counts : (ask : Ask) (l : StepKind) (d : Change) → Did P (see_in u heap locks) u ask l d → Apart (Counts) Nothing d
  idle_counts _ _ _ (quiet ask i) = (tt, tt)
  idle_counts _ _ _ (was_read g w is_g has_g) = (tt, tt)
  idle_counts _ _ _ (was_written {a = b} {x = y} g o w is_g mutable has_g) = (tt, tt)
  idle_counts _ _ _ (was_made o) = (tt, tt)
  idle_counts _ _ _ (was_taken {a = b} fr) = (tt, tt)
  idle_counts _ _ _ (taken_more {a = b} k held by) = (tt, tt)
  idle_counts _ _ _ (was_given {a = b} k held by) = (tt, tt)
  idle_counts _ _ _ (was_started n) = (tt, tt)
  idle_counts _ _ _ (was_printed n) = (tt, tt)

  idle_gives : (a : Address) → (ask : Ask) (l : StepKind) (d : Change) → Did P (see_in u heap locks) u ask l d → Apart (Gives a) Nothing d
  idle_gives a _ _ _ (quiet ask i) = (tt, tt)
  idle_gives a _ _ _ (was_read g w is_g has_g) = (tt, tt)
  idle_gives a _ _ _ (was_written {a = b} {x = y} g o w is_g mutable has_g) = (tt, tt)
  idle_gives a _ _ _ (was_made o) = (tt, tt)
  idle_gives a _ _ _ (was_taken {a = b} fr) = (tt, tt)
  idle_gives a _ _ _ (taken_more {a = b} k held by) = (tt, tt)
  idle_gives a _ _ _ (was_given {a = b} k held by) = (tt, tt)
  idle_gives a _ _ _ (was_started n) = (tt, tt)
  idle_gives a _ _ _ (was_printed n) = (tt, tt)

  idle_runs : (a : Address) → (ask : Ask) (l : StepKind) (d : Change) → Did P (see_in u heap locks) u ask l d → Apart (Runs a) Nothing d
  idle_runs a _ _ _ (quiet ask i) = (tt, tt)
  idle_runs a _ _ _ (was_read g w is_g has_g) = (tt, tt)
  idle_runs a _ _ _ (was_written {a = b} {x = y} g o w is_g mutable has_g) = (tt, tt)
  idle_runs a _ _ _ (was_made o) = (tt, tt)
  idle_runs a _ _ _ (was_taken {a = b} fr) = (tt, tt)
  idle_runs a _ _ _ (taken_more {a = b} k held by) = (tt, tt)
  idle_runs a _ _ _ (was_given {a = b} k held by) = (tt, tt)
  idle_runs a _ _ _ (was_started n) = (tt, tt)
  idle_runs a _ _ _ (was_printed n) = (tt, tt)

  idle_reads : (a : Address) (x : ℕ) → value_in P heap a x ≡ None → (ask : Ask) (l : StepKind) (d : Change) → Did P (see_in u heap locks) u ask l d → Apart (Reads a x) Nothing d
  idle_reads a x idle _ _ _ (quiet ask i) = (tt, tt)
  idle_reads a x idle _ _ _ (was_read g w is_g has_g) = (tt, tt)
  idle_reads a x idle _ _ _ (was_written {a = b} {x = y} g o w is_g mutable has_g) = (λ e i some. absurd (let c : false ≡ true = sym (ap is_some idle) ∙ some in cc), tt)
  idle_reads a x idle _ _ _ (was_made o) = (tt, tt)
  idle_reads a x idle _ _ _ (was_taken {a = b} fr) = (tt, tt)
  idle_reads a x idle _ _ _ (taken_more {a = b} k held by) = (tt, tt)
  idle_reads a x idle _ _ _ (was_given {a = b} k held by) = (tt, tt)
  idle_reads a x idle _ _ _ (was_started n) = (tt, tt)
  idle_reads a x idle _ _ _ (was_printed n) = (tt, tt)

  idle_writes : (a : Address) (x : ℕ) → unless_final (slice_get P.fields x) (value_in P heap a x) ≡ None → (ask : Ask) (l : StepKind) (d : Change) → Did P (see_in u heap locks) u ask l d → Apart (Writes a x) Nothing d
  idle_writes a x idle _ _ _ (quiet ask i) = (tt, tt)
  idle_writes a x idle _ _ _ (was_read g w is_g has_g) = (tt, tt)
  idle_writes a x idle _ _ _ (was_written {a = b} {x = y} g o w is_g mutable has_g) = (idle_write b y g is_g mutable o w has_g a x idle, tt)
  idle_writes a x idle _ _ _ (was_made o) = (tt, tt)
  idle_writes a x idle _ _ _ (was_taken {a = b} fr) = (tt, tt)
  idle_writes a x idle _ _ _ (taken_more {a = b} k held by) = (tt, tt)
  idle_writes a x idle _ _ _ (was_given {a = b} k held by) = (tt, tt)
  idle_writes a x idle _ _ _ (was_started n) = (tt, tt)
  idle_writes a x idle _ _ _ (was_printed n) = (tt, tt)

  idle_apart : (asked : Ask) → IsIdle P (see_in t heap locks) t asked → (ask : Ask) (l : StepKind) (d : Change) → Did P (see_in u heap locks) u ask l d → Apart asked Nothing d
  idle_apart Alone idle ask l d did = idle_alone ask l d did
  idle_apart (Reads a x) idle ask l d did = idle_reads a x idle ask l d did
  idle_apart (Writes a x) idle ask l d did = idle_writes a x idle ask l d did
  idle_apart Counts idle ask l d did = idle_counts ask l d did
  idle_apart (Takes a) idle ask l d did = absurd idle
  idle_apart (Gives a) idle ask l d did = idle_gives a ask l d did
  idle_apart (Runs a) idle ask l d did = idle_runs a ask l d did

  read_apart : (a : Address) (x : ℕ) (f : Field) → slice_get P.fields x ≡ Some f → (ask : Ask) (l : StepKind) (d : Change) → Did P (see_in u heap locks) u ask l d → MayPass (access_kind P (see_in t heap locks) t false a (Some f)) l → Apart (Reads a x) Nothing d
  read_apart a x f is _ _ _ (quiet ask i) p = (tt, tt)
  read_apart a x f is _ _ _ (was_read g w is_g has_g) p = (tt, tt)
  read_apart a x f is _ _ _ (was_written {a = b} {x = y} g o w is_g mutable has_g) p = (read_write b y g is_g mutable o w has_g a x f is p, tt)
  read_apart a x f is _ _ _ (was_made o) p = (tt, tt)
  read_apart a x f is _ _ _ (was_taken {a = b} fr) p = (tt, tt)
  read_apart a x f is _ _ _ (taken_more {a = b} k held by) p = (tt, tt)
  read_apart a x f is _ _ _ (was_given {a = b} k held by) p = (tt, tt)
  read_apart a x f is _ _ _ (was_started n) p = (tt, tt)
  read_apart a x f is _ _ _ (was_printed n) p = (tt, tt)

  written_apart : (a : Address) (x : ℕ) (f : Field) (v old : Value) → slice_get P.fields x ≡ Some f → value_in P heap a x ≡ Some old → (ask : Ask) (l : StepKind) (d : Change) → Did P (see_in u heap locks) u ask l d → IsApart P heap (FieldIs a f.index v) ask → Apart (Writes a x) (FieldIs a f.index v) d
  written_apart a x f v old is has _ _ _ (quiet ask i) free = (tt, tt)
  written_apart a x f v old is has _ _ _ (was_read g w is_g has_g) free = (tt, tt)
  written_apart a x f v old is has _ _ _ (was_written {a = b} {x = y} g o w is_g mutable has_g) free = (λ e i some. free (sym e) (ap index_of is_g ∙ sym i ∙ ap index_of is) (ap is_some has_g), λ e i. free e (ap index_of is_g ∙ sym i) (ap is_some has_g))
  written_apart a x f v old is has _ _ _ (was_made o) free = (tt, λ e. old_object a x (ap is_some has) u e)
  written_apart a x f v old is has _ _ _ (was_taken {a = b} fr) free = (tt, tt)
  written_apart a x f v old is has _ _ _ (taken_more {a = b} k held by) free = (tt, tt)
  written_apart a x f v old is has _ _ _ (was_given {a = b} k held by) free = (tt, tt)
  written_apart a x f v old is has _ _ _ (was_started n) free = (tt, tt)
  written_apart a x f v old is has _ _ _ (was_printed n) free = (tt, tt)

  made_apart : (p : Object) → (ask : Ask) (l : StepKind) (d : Change) → Did P (see_in u heap locks) u ask l d → Apart Counts (ObjectIs (next_address t heap) p) d
  made_apart p _ _ _ (quiet ask i) = (tt, tt)
  made_apart p _ _ _ (was_read g w is_g has_g) = (tt, tt)
  made_apart p _ _ _ (was_written {a = b} {x = y} g o w is_g mutable has_g) = (tt, λ e. old_object b y (ap is_some has_g) t (sym e))
  made_apart p _ _ _ (was_made o) = (tt, λ e. other (ap (λ (z : Address). z.thread) e))
  made_apart p _ _ _ (was_taken {a = b} fr) = (tt, tt)
  made_apart p _ _ _ (taken_more {a = b} k held by) = (tt, tt)
  made_apart p _ _ _ (was_given {a = b} k held by) = (tt, tt)
  made_apart p _ _ _ (was_started n) = (tt, tt)
  made_apart p _ _ _ (was_printed n) = (tt, tt)

  taken_apart : (a : Address) (hold : Option Hold) → M.get locks a ≡ None → (ask : Ask) (l : StepKind) (d : Change) → Did P (see_in u heap locks) u ask l d → IsApart P heap (LockIs a hold) ask → Apart (Takes a) (LockIs a hold) d
  taken_apart a hold at _ _ _ (quiet ask i) free = (tt, tt)
  taken_apart a hold at _ _ _ (was_read g w is_g has_g) free = (tt, tt)
  taken_apart a hold at _ _ _ (was_written {a = b} {x = y} g o w is_g mutable has_g) free = (tt, tt)
  taken_apart a hold at _ _ _ (was_made o) free = (tt, tt)
  taken_apart a hold at _ _ _ (was_taken {a = b} fr) free = (λ e. free (sym e), free)
  taken_apart a hold at _ _ _ (taken_more {a = b} k held by) free = (λ e. free (sym e), free)
  taken_apart a hold at _ _ _ (was_given {a = b} k held by) free = (λ e. free_held a b k at held (sym e), λ e. free_held a b k at held e)
  taken_apart a hold at _ _ _ (was_started n) free = (tt, tt)
  taken_apart a hold at _ _ _ (was_printed n) free = (tt, tt)

  more_apart : (a : Address) (hold : Option Hold) (h : Hold) → M.get locks a ≡ Some h → h.holder ≡ t → (ask : Ask) (l : StepKind) (d : Change) → Did P (see_in u heap locks) u ask l d → IsApart P heap (LockIs a hold) ask → Apart (Takes a) (LockIs a hold) d
  more_apart a hold h at by_t _ _ _ (quiet ask i) free = (tt, tt)
  more_apart a hold h at by_t _ _ _ (was_read g w is_g has_g) free = (tt, tt)
  more_apart a hold h at by_t _ _ _ (was_written {a = b} {x = y} g o w is_g mutable has_g) free = (tt, tt)
  more_apart a hold h at by_t _ _ _ (was_made o) free = (tt, tt)
  more_apart a hold h at by_t _ _ _ (was_taken {a = b} fr) free = (λ e. free (sym e), free)
  more_apart a hold h at by_t _ _ _ (taken_more {a = b} k held by) free = (λ e. free (sym e), free)
  more_apart a hold h at by_t _ _ _ (was_given {a = b} k held by) free = (λ e. both_held a b h k at by_t held by (sym e), λ e. both_held a b h k at by_t held by e)
  more_apart a hold h at by_t _ _ _ (was_started n) free = (tt, tt)
  more_apart a hold h at by_t _ _ _ (was_printed n) free = (tt, tt)

  given_apart : (a : Address) (hold : Option Hold) (h : Hold) → M.get locks a ≡ Some h → h.holder ≡ t → (ask : Ask) (l : StepKind) (d : Change) → Did P (see_in u heap locks) u ask l d → Apart (Gives a) (LockIs a hold) d
  given_apart a hold h at by_t _ _ _ (quiet ask i) = (tt, tt)
  given_apart a hold h at by_t _ _ _ (was_read g w is_g has_g) = (tt, tt)
  given_apart a hold h at by_t _ _ _ (was_written {a = b} {x = y} g o w is_g mutable has_g) = (tt, tt)
  given_apart a hold h at by_t _ _ _ (was_made o) = (tt, tt)
  given_apart a hold h at by_t _ _ _ (was_taken {a = b} fr) = (tt, λ e. free_held b a h fr at (sym e))
  given_apart a hold h at by_t _ _ _ (taken_more {a = b} k held by) = (tt, λ e. both_held a b h k at by_t held by e)
  given_apart a hold h at by_t _ _ _ (was_given {a = b} k held by) = (tt, λ e. both_held a b h k at by_t held by e)
  given_apart a hold h at by_t _ _ _ (was_started n) = (tt, tt)
  given_apart a hold h at by_t _ _ _ (was_printed n) = (tt, tt)

  started_apart : (a : Address) (m : ℕ) → (ask : Ask) (l : StepKind) (d : Change) → Did P (see_in u heap locks) u ask l d → MayPass Other l → Apart (Runs a) (Starts a m) d
  started_apart a m _ _ _ (quiet ask i) p = (tt, tt)
  started_apart a m _ _ _ (was_read g w is_g has_g) p = (tt, tt)
  started_apart a m _ _ _ (was_written {a = b} {x = y} g o w is_g mutable has_g) p = (tt, tt)
  started_apart a m _ _ _ (was_made o) p = (tt, tt)
  started_apart a m _ _ _ (was_taken {a = b} fr) p = (tt, tt)
  started_apart a m _ _ _ (taken_more {a = b} k held by) p = (tt, tt)
  started_apart a m _ _ _ (was_given {a = b} k held by) p = (tt, tt)
  started_apart a m _ _ _ (was_started n) p = absurd (others_stay p)
  started_apart a m _ _ _ (was_printed n) p = (tt, tt)

  printed_apart : (z : _) → (ask : Ask) (l : StepKind) (d : Change) → Did P (see_in u heap locks) u ask l d → MayPass Other l → Apart Alone (Prints z) d
  printed_apart z _ _ _ (quiet ask i) p = (tt, tt)
  printed_apart z _ _ _ (was_read g w is_g has_g) p = (tt, tt)
  printed_apart z _ _ _ (was_written {a = b} {x = y} g o w is_g mutable has_g) p = (tt, tt)
  printed_apart z _ _ _ (was_made o) p = (tt, tt)
  printed_apart z _ _ _ (was_taken {a = b} fr) p = (tt, tt)
  printed_apart z _ _ _ (taken_more {a = b} k held by) p = (tt, tt)
  printed_apart z _ _ _ (was_given {a = b} k held by) p = (tt, tt)
  printed_apart z _ _ _ (was_started n) p = (tt, tt)
  printed_apart z _ _ _ (was_printed n) p = absurd (others_stay p)

  -- the second step's change is apart from what the first asked, and clear of the first's change
  second_apart : (asked : Ask) (k : StepKind) (c : Change) → Did P (see_in t heap locks) t asked k c → (ask : Ask) (l : StepKind) (d : Change) → Did P (see_in u heap locks) u ask l d → MayPass k l → IsApart P heap c ask → IsApart P heap d asked × AreClear c d
  second_apart _ _ _ (quiet asked idle) ask l d did p free = idle_apart asked idle ask l d did
  second_apart _ _ _ (was_read {a = a} {x = x} f v is has) ask l d did p free = read_apart a x f is ask l d did p
  second_apart _ _ _ (was_written {a = a} {x = x} f old v is mutable has) ask l d did p free = written_apart a x f v old is has ask l d did free
  second_apart _ _ _ (was_made o) ask l d did p free = made_apart o ask l d did
  second_apart _ _ _ (was_taken {a = a} at) ask l d did p free = taken_apart a (Some (record { holder = t; count = 1 })) at ask l d did free
  second_apart _ _ _ (taken_more {a = a} hold at by) ask l d did p free = more_apart a (Some (taken_again hold)) hold at by ask l d did free
  second_apart _ _ _ (was_given {a = a} hold at by) ask l d did p free = given_apart a (given_back hold) hold at by ask l d did
  second_apart _ _ _ (was_started {a = a} m) ask l d did p free = started_apart a m ask l d did p
  second_apart _ _ _ (was_printed n) ask l d did p free = printed_apart n ask l d did p

-- Threads.

length_there : {A : Type 0} (xs : List A) (i : ℕ) (x : A) → slice_get xs i ≡ Some x → i < length xs
length_there [] i x e = absurd cc
length_there (y ∷ ys) zero x e = omega arith
length_there (y ∷ ys) (suc i) x e = omega (arith, length_there ys i x e)

append_other : {A : Type 0} (xs : List A) (x : A) (i : ℕ) → i ≢ length xs → slice_get (xs ++ x ∷ []) i ≡ slice_get xs i
append_other [] x zero other = absurd (other refl)
append_other [] x (suc i) other = refl
append_other (y ∷ ys) x zero other = refl
append_other (y ∷ ys) x (suc i) other = append_other ys x i (λ e. other (ap suc e))

-- a step starts no thread, or leaves the others where they are
added_other : (c : Change) (threads : List Thread) (u : ℕ) → (started (length threads) c ≡ Some u → ⊥) → slice_get (on_threads c threads) u ≡ slice_get threads u
added_other Nothing threads u other = refl
added_other (FieldIs a i v) threads u other = refl
added_other (ObjectIs a o) threads u other = refl
added_other (LockIs a h) threads u other = refl
added_other (Prints n) threads u other = refl
added_other (Starts a m) threads u other = append_other threads (Ready a m) u (λ e. other (ap Some (sym e)))

-- another thread is as before a step that doesn't start it
pub thread_kept : (q : State) (t u : ℕ) (m : Move) → (t ≡ u → ⊥) → (started (length q.threads) m.change ≡ Some u → ⊥) → slice_get (moved t m q).threads u ≡ slice_get q.threads u
thread_kept q t u m other fresh =
    ap (λ (s : State). slice_get s.threads u) (moved_is t m q)
    ∙ added_other m.change (slice_set q.threads t m.thread) u (subst (λ n. started n m.change ≡ Some u → ⊥) (sym (length-set q.threads t m.thread)) fresh)
    ∙ set_other q.threads t u m.thread (λ e. absurd (other (sym e)))

-- a thread that steps is there
pub stepper : (P : Program) (q : State) (t : ℕ) (m : Move) → outcome P q t ≡ Moves m → t < length q.threads
stepper P q t m e = by (slice_get q.threads t) refl
  where
    by : (o : Option Thread) → slice_get q.threads t ≡ o → t < length q.threads
    by None is = absurd (let c : Absent ≡ Moves m = sym (ap (turn P (seen_by t q) t) is) ∙ e in cc)
    by (Some x) is = length_there q.threads t x is

-- a step of a thread that is there doesn't start it
not_started : (c : Change) (n t : ℕ) → t < n → started n c ≡ Some t → ⊥
not_started Nothing n t lt e = absurd cc
not_started (FieldIs a i v) n t lt e = absurd cc
not_started (ObjectIs a o) n t lt e = absurd cc
not_started (LockIs a h) n t lt e = absurd cc
not_started (Prints k) n t lt e = absurd cc
not_started (Starts a m) n t lt e = let same : n ≡ t = same_Some n t e in omega (arith, lt, same)

-- two neighbouring steps that may pass each other change places
pub swapped : (P : Program) → HasFinalGuards P → (q : State) → IsOrderly P q → (t u : ℕ) → (t ≡ u → ⊥) → (m n : Move) → outcome P q t ≡ Moves m → outcome P (moved t m q) u ≡ Moves n → MayPass m.kind n.kind
    → (started (length q.threads) m.change ≡ Some u → ⊥) → Swapped P q t m u n
swapped P guards q orderly t u other m n first second p fresh =
    let xt = slice_get q.threads t in
    let xu = slice_get q.threads u in
    let did_t = moves_did P (see_in t q.heap q.locks) t xt m first in
    let after : turn P (see_in u (on_heap m.change q.heap) (on_locks m.change q.locks)) u xu ≡ Moves n =
    sym (ap (λ (s : State). turn P (seen_by u s) u xu) (moved_is t m q)) ∙ sym (ap (turn P (seen_by u (moved t m q)) u) (thread_kept q t u m other fresh)) ∙ second in
    let did_after = moves_did P (see_in u (on_heap m.change q.heap) (on_locks m.change q.locks)) u xu n after in
    let free = first_apart P guards q.heap q.locks orderly.numbered t u other (asks P xt) m.kind m.change did_t (asks P xu) n.kind n.change did_after p in
    let look = stable P guards u q.heap q.locks t other orderly.numbered orderly.closed (asks P xt) m.kind m.change did_t (asks P xu) (orderly.fit u) free in
    let before : outcome P q u ≡ Moves n = turn_same P u (see_in u q.heap q.locks) (see_in u (on_heap m.change q.heap) (on_locks m.change q.locks)) xu look ∙ after in
    let did_u = moves_did P (see_in u q.heap q.locks) u xu n before in
    let back = second_apart P q.heap q.locks orderly.numbered t u other (asks P xt) m.kind m.change did_t (asks P xu) n.kind n.change did_u p free in
    let turned : u ≡ t → ⊥ = λ e. other (sym e) in
    let look_back = stable P guards t q.heap q.locks u turned orderly.numbered orderly.closed (asks P xu) n.kind n.change did_u (asks P xt) (orderly.fit t) back.0 in
    let there = stepper P q t m first in
    let later : outcome P (moved u n q) t ≡ Moves m =
    ap (turn P (seen_by t (moved u n q)) t) (thread_kept q u t n turned (not_started n.change (length q.threads) t there))
    ∙ ap (λ (s : State). turn P (seen_by t s) t xt) (moved_is u n q)
    ∙ sym (turn_same P t (see_in t q.heap q.locks) (see_in t (on_heap n.change q.heap) (on_locks n.change q.locks)) xt look_back) ∙ first in
    record {
      before = before;
      later = later;
      same = moved_swap q t u m n other there (stepper P q u n before) back.1;
      clear = back.1;
    }
