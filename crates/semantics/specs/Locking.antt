-- What becomes of a hold of a lock, and the kinds of steps that depend on it.
use Rattle.std.specs.Prelude.{ℕ, ◌+◌, ◌-◌, Bool, true, false, ◌==◌, nat_lt, Option, Some, None, if◌then◌else◌}
use Rattle.state.specs.declared.value.StepKind.{StepKind}
use Rattle.state.specs.declared.value.StepKind.TheVariants.{Both, Left, Other, Bare}
use Rattle.state.specs.Memory.{Hold}

-- whether this thread holds a lock
abbrev pub holds : ℕ → Option Hold → Bool
holds t None = false
holds t (Some hold) = hold.holder == t

-- a hold that was taken once more
abbrev pub taken_again : Hold → Hold
taken_again hold = record hold { count = hold.count + 1 }

-- a hold that was given back once, none where the lock is free then
abbrev pub given_back : Hold → Option Hold
given_back hold = if nat_lt 1 hold.count then Some (record hold { count = hold.count - 1 }) else None

-- of a release: Left where it frees the lock
abbrev pub release_kind : Option Hold → StepKind
release_kind None = Left
release_kind (Some hold) = Both

-- of an access to a guarded field: Bare without the lock, but for a read where the guard guards writes only;
-- with the lock Both, but for such a guard's write, since others may read at the same time
abbrev pub guarded_kind : (writes_only writes held : Bool) → StepKind
guarded_kind false writes held = if held then Both else Bare
guarded_kind true false held = if held then Both else Other
guarded_kind true true held = if held then Other else Bare
