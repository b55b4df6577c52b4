-- The exchange in runs of typed programs, and what the kinds mean.
use Rattle.std.proofs.Common.{◌≡◌, ◌≢◌, ℕ, true, ◌||◌, length, ap, Some}
use Rattle.std.proofs.lemmas.Bool.{or_right}
use Rattle.core_program.specs.Core.{Program}
use Rattle.core_program.specs.Typed.{IsTyped}
use Rattle.state.specs.declared.value.StepKind.{StepKind}
use Rattle.state.specs.declared.value.StepKind.TheVariants.{Both, Right, Left, Other, Bare}
use Rattle.state.specs.States.{State}
use Rattle.semantics.specs.Step.{Move, Moves, outcome, moved}
use Rattle.semantics.specs.Words.{moves_right, moves_left}
use Rattle.reduction.specs.Neighbours.{MovesRight, MovesLeft}
use Rattle.reduction.specs.Addresses.{HasNoDanglingAddress}
use Rattle.reduction.specs.Swapped.{MayPass, started, Swapped}
use Rattle.reduction.proofs.SoundRuns.{final_guards, sound_orderly}
use Rattle.reduction.proofs.Swap.{swapped}

pub exchange : (P : Program) → IsTyped P → (q : State) → HasNoDanglingAddress q → (t u : ℕ) → t ≢ u → (m n : Move) → outcome P q t ≡ Moves m → outcome P (moved t m q) u ≡ Moves n → MayPass m.kind n.kind
    → started (length q.threads) m.change ≢ Some u → Swapped P q t m u n
exchange P typed q sound t u other m n first second p fresh = swapped P (final_guards P typed) q (sound_orderly P q sound) t u (λ e. absurd (other e)) m n first second p (λ e. absurd (fresh e))

-- what moves isn't Bare
right_not_bare : (k : StepKind) → moves_right k ≡ true → k ≢ Bare
right_not_bare Both e = λ b. cc
right_not_bare Right e = λ b. cc
right_not_bare Left e = absurd cc
right_not_bare Other e = absurd cc
right_not_bare Bare e = absurd cc

left_not_bare : (k : StepKind) → moves_left k ≡ true → k ≢ Bare
left_not_bare Both e = λ b. cc
left_not_bare Left e = λ b. cc
left_not_bare Right e = absurd cc
left_not_bare Other e = absurd cc
left_not_bare Bare e = absurd cc

pub right_mover : (P : Program) → IsTyped P → (q : State) → HasNoDanglingAddress q → (t : ℕ) (m : Move) → outcome P q t ≡ Moves m → moves_right m.kind ≡ true → MovesRight P q t m
right_mover P typed q sound t m first is = λ u n other second bare fresh.
    exchange P typed q sound t u other m n first second (record { not_bare = right_not_bare m.kind is; also_not_bare = bare; passes = ap (λ b. b || moves_left n.kind) is }) fresh

pub left_mover : (P : Program) → IsTyped P → (q : State) → HasNoDanglingAddress q → (u : ℕ) (n : Move) → moves_left n.kind ≡ true → MovesLeft P q u n
left_mover P typed q sound u n is = λ t m other first second bare fresh.
    exchange P typed q sound t u other m n first second (record { not_bare = bare; also_not_bare = left_not_bare n.kind is; passes = or_right (moves_right m.kind) (moves_left n.kind) is }) fresh
