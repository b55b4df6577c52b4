-- What the kinds of a system's steps mean, after Lipton (1975).
use Rattle.std.specs.Prelude.{◌≡◌, ◌≢◌, ℕ, true}
use Rattle.state.specs.declared.value.StepKind.{StepKind}
use Rattle.state.specs.declared.value.StepKind.TheVariants.{Bare}
use Rattle.semantics.specs.Words.{moves_right, moves_left}
use Rattle.reduction.specs.Systems.{System, Steps, IsThreadOfSystem}

-- the other order: u's step comes first and t's after it, each of the same kind, and they lead to the same state
pub record Swaps {S O : Type 0} (M : System S O) (q : S) (t : ℕ) (k : StepKind) (u : ℕ) (l : StepKind) (r : S) : Type 0 where
  pub between : S
  pub before : Steps M q u l between
  pub later : Steps M between t k r

-- The kinds of steps mean what they say, in all states of which some fact holds that each step keeps.
pub record HasMovers {S O : Type 0} (M : System S O) (IsSound : S → Type 0) : Type 0 where
  -- a step keeps the fact
  pub sound : (q r : S) (t : ℕ) (k : StepKind) → IsSound q → Steps M q t k r → IsSound r
  -- a thread that steps is there
  pub stepper : (q r : S) (t : ℕ) (k : StepKind) → Steps M q t k r → IsThreadOfSystem M q t
  -- no thread goes away
  pub stays : (q r : S) (t u : ℕ) (k : StepKind) → Steps M q t k r → IsThreadOfSystem M q u → IsThreadOfSystem M r u
  -- a step leaves what is another thread's own
  pub own : (q r : S) (t u : ℕ) (k : StepKind) → t ≢ u → Steps M q t k r → IsThreadOfSystem M q u → M.own r u ≡ M.own q u
  -- a step that moves right changes places with any step of another thread that comes next, unless that one is Bare
  pub right : (q mid r : S) (t u : ℕ) (k l : StepKind) → IsSound q → t ≢ u → Steps M q t k mid → Steps M mid u l r →
      moves_right k ≡ true → l ≢ Bare → Swaps M q t k u l r
  -- a step that moves left changes places with any step of another thread that came just before it, unless that one is Bare or started the thread
  pub left : (q mid r : S) (t u : ℕ) (k l : StepKind) → IsSound q → t ≢ u → Steps M q t k mid → Steps M mid u l r →
      moves_left l ≡ true → k ≢ Bare → IsThreadOfSystem M q u → Swaps M q t k u l r
