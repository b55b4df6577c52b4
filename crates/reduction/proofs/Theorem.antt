-- Guards held and reducible words, for accepted programs.
use Rattle.std.proofs.Common.{◌≡◌, ℕ, Bool, List, Some, false}
use Rattle.std.specs.Prelude.{slice_get}
use Rattle.core_program.specs.Core.{Program}
use Rattle.core_program.specs.Typed.{IsTyped}
use Rattle.rules.specs.Near.{MethodPaths, AreRelevant, rel_of}
use Rattle.rules.specs.Effect.{Assignment}
use Rattle.rules.specs.Rules.{IsAdmissible, IsAccepted}
use Rattle.state.specs.declared.value.StepKind.TheVariants.{Bare}
use Rattle.state.specs.Memory.{IsNumbered}
use Rattle.state.specs.States.{State, initial}
use Rattle.semantics.specs.Step.{Move, Moves, outcome, moved, kind_of}
use Rattle.semantics.specs.Run.{run}
use Rattle.semantics.specs.Units.{Entry, entries, units, word_of}
use Rattle.semantics.specs.Words.{IsReducible}
use Rattle.reduction.specs.Safe.{IsSafe, flags_after}
use Rattle.reduction.proofs.Admissible.{accepted, main_free}
use Rattle.reduction.proofs.SafeSteps.{initial_safe, step_safe}
use Rattle.reduction.proofs.SafeRuns.{never_bare, run_words}

pub held : (P : Program) → IsTyped P → IsAccepted P → (s : List ℕ) (q : State) → run P s ≡ Some q → (t : ℕ) → kind_of P q t ≡ Some Bare → ⊥
held P typed a s q is t bare = never_bare P (rel_of a.sets) a.assignment (accepted P a.sets a.assignment typed a.relevant a.admissible) (main_free P typed) s q is t bare

pub words : (P : Program) → IsTyped P → IsAccepted P → (s : List ℕ) (n : ℕ) (u : List Entry) → slice_get (units (entries P s)) n ≡ Some u → IsReducible (word_of u)
words P typed a s n u is = run_words P (rel_of a.sets) a.assignment (accepted P a.sets a.assignment typed a.relevant a.admissible) (main_free P typed) s n u is

pub starts_safe : (P : Program) (sets : List MethodPaths) (A : Assignment) → IsTyped P → IsSafe P (rel_of sets) A (initial P) (λ t. false)
starts_safe P sets A typed = initial_safe P (rel_of sets) A (main_free P typed)

pub stays_safe : (P : Program) (sets : List MethodPaths) (A : Assignment) → IsTyped P → AreRelevant P sets → IsAdmissible P (rel_of sets) A → (q : State) (flags : ℕ → Bool) (t : ℕ) (move : Move)
    → IsNumbered q.heap → IsSafe P (rel_of sets) A q flags → outcome P q t ≡ Moves move → IsSafe P (rel_of sets) A (moved t move q) (flags_after P q flags t move.kind)
stays_safe P sets A typed relevant admissible q flags t move numbered safe is = step_safe P (rel_of sets) A (accepted P sets A typed relevant admissible) q flags t move numbered safe is
