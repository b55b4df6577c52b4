-- The contexts in which methods are called, and ordered programs.
use Rattle.std.specs.Prelude.{◌≡◌, ◌⊎◌, ◌<◌, ◌≤◌, ℕ, false, List, Some, Contains, slice_get}
use Rattle.paths.specs.Paths.{PathData}
use Rattle.algebra.specs.HeldPaths.{Held}
use Rattle.core_program.specs.Core.{Program, Class, Method}
use Rattle.core_program.specs.Dispatch.{Overrides}
use Rattle.levels.specs.Walks.{Comes, Bad, body_visits}

-- a method may run where another is called: it is that method, or overrides it
abbrev pub MayRun : Program → ℕ → ℕ → Type 0
MayRun P k m = (k ≡ m) ⊎ Overrides P k m

-- the method runs for `run` of some class
abbrev pub RunsFirst : Program → ℕ → Type 0
RunsFirst P m = (c : ℕ) × (class : Class) × (slice_get P.classes c ≡ Some class) × (class.run ≡ Some m)

-- a program with its relevant paths, and levels of its classes
module _ (P : Program) (rel : ℕ → List PathData) (level : ℕ → ℕ) where
  -- the contexts: a method with a set of held paths and the level under which it is called; the least family with these
  pub data Context : ℕ → Held → ℕ → Type 0 where
    -- `main`, and each method that a thread begins with
    at_main : Context P.main (λ q. false) 0
    at_start : {m : ℕ} → RunsFirst P m → Context m (λ q. false) 0
    -- each method that may run where the walk of a context comes to a call
    at_call : {m : ℕ} {H : Held} {under : ℕ} {k : ℕ} (method : Method) (callee : ℕ) (known : ℕ → Held) (later : ℕ) → Context m H under → slice_get P.methods m ≡ Some method
        → Contains (body_visits P rel level method H under) (Comes callee known later) → MayRun P k callee → Context k (known k) later

  -- a `synchronized` of a method, at its place there, on a lock of this class, is bad in the walk of a context, under this level
  abbrev pub IsBadAt : (m place class under : ℕ) → Type 0
  IsBadAt m place class under = (method : Method) × (H : Held) × (at : ℕ) × Context m H at × (slice_get P.methods m ≡ Some method) × Contains (body_visits P rel level method H at) (Bad place class under)

  -- no walk of a context has a bad one
  abbrev pub IsOrdered : Type 0
  IsOrdered = (m place class under : ℕ) → IsBadAt m place class under → ⊥

  -- the first method with a bad `synchronized`, the class of the first of these in written order, and the greatest level with which a walk comes to it badly
  pub record IsFirstBad (m class under : ℕ) : Type 0 where
    pub place : ℕ
    pub bad : IsBadAt m place class under
    pub earlier : (k n c u : ℕ) → k < m → IsBadAt k n c u → ⊥
    pub first : (n c u : ℕ) → IsBadAt m n c u → place ≤ n
    pub greatest : (c u : ℕ) → IsBadAt m place c u → u ≤ under
