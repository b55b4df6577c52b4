-- What a step does to what all threads share, and which changes meet nowhere.
use Rattle.std.specs.Prelude.{◌≡◌, ℕ, true, false, Some, None, IsSome, slice_get}
use Rattle.core_program.specs.Core.{Program, Field}
use Rattle.state.specs.declared.value.Address.{Address}
use Rattle.state.specs.declared.value.Value.{Value}
use Rattle.state.specs.declared.value.StepKind.{StepKind}
use Rattle.state.specs.declared.value.StepKind.TheVariants.{Both, Right, Other}
use Rattle.state.specs.Memory.{Object, Hold, Heap, value_in}
use Rattle.semantics.specs.Step.{Change, Nothing, FieldIs, ObjectIs, LockIs, Prints, Starts, index_of, unless_final, Shared, value_at, access_kind}
use Rattle.semantics.specs.Locking.{taken_again, given_back, release_kind}
use Rattle.semantics.specs.Asks.{Ask, Alone, Reads, Writes, Counts, Takes, Gives, Runs}

-- the two changes touch different things
abbrev pub AreClear : Change → Change → Type 0
AreClear (FieldIs a i v) (FieldIs b j w) = a ≡ b → i ≡ j → ⊥
AreClear (FieldIs a i v) (ObjectIs b o) = a ≡ b → ⊥
AreClear (ObjectIs a o) (FieldIs b j w) = a ≡ b → ⊥
AreClear (ObjectIs a o) (ObjectIs b p) = a ≡ b → ⊥
AreClear (LockIs a h) (LockIs b k) = a ≡ b → ⊥
AreClear (Prints n) (Prints m) = ⊥
AreClear (Starts a m) (Starts b n) = ⊥
AreClear _ _ = Unit {0}

-- the step did nothing to what it asked
abbrev pub IsIdle : Program → Shared → ℕ → Ask → Type 0
IsIdle P see t (Reads a x) = value_at P see t a x ≡ None
IsIdle P see t (Writes a x) = unless_final (slice_get P.fields x) (value_at P see t a x) ≡ None
IsIdle P see t (Takes a) = ⊥
IsIdle P see t _ = Unit {0}

-- what a step of a thread did, by what it asked: its kind and its change
pub data Did (P : Program) (see : Shared) (t : ℕ) : Ask → StepKind → Change → Type 0 where
  quiet : (ask : Ask) → IsIdle P see t ask → Did P see t ask Both Nothing
  was_read : {a : Address} {x : ℕ} (f : Field) (v : Value) → slice_get P.fields x ≡ Some f → value_at P see t a x ≡ Some v → Did P see t (Reads a x) (access_kind P see t false a (Some f)) Nothing
  was_written : {a : Address} {x : ℕ} (f : Field) (old v : Value) → slice_get P.fields x ≡ Some f → f.is_final ≡ false → value_at P see t a x ≡ Some old
      → Did P see t (Writes a x) (access_kind P see t true a (Some f)) (FieldIs a f.index v)
  was_made : (o : Object) → Did P see t Counts Both (ObjectIs (record { thread = t; count = see.made }) o)
  was_taken : {a : Address} → see.lock_at a ≡ None → Did P see t (Takes a) Right (LockIs a (Some (record { holder = t; count = 1 })))
  taken_more : {a : Address} (hold : Hold) → see.lock_at a ≡ Some hold → hold.holder ≡ t → Did P see t (Takes a) Both (LockIs a (Some (taken_again hold)))
  was_given : {a : Address} (hold : Hold) → see.lock_at a ≡ Some hold → hold.holder ≡ t → Did P see t (Gives a) (release_kind (given_back hold)) (LockIs a (given_back hold))
  was_started : {a : Address} (m : ℕ) → Did P see t (Runs a) Other (Starts a m)
  was_printed : (n : _) → Did P see t Alone Other (Prints n)

-- a change of another thread leaves what is asked alone: no field that has a value is written, and no lock is changed that is to be taken
abbrev pub IsApart : Program → Heap → Change → Ask → Type 0
IsApart P heap (FieldIs a i v) (Reads b x) = a ≡ b → index_of (slice_get P.fields x) ≡ i → IsSome (value_in P heap b x) → ⊥
IsApart P heap (FieldIs a i v) (Writes b x) = a ≡ b → index_of (slice_get P.fields x) ≡ i → IsSome (value_in P heap b x) → ⊥
IsApart P heap (LockIs a h) (Takes b) = a ≡ b → ⊥
IsApart P heap _ _ = Unit {0}
