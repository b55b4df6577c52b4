-- The verdict of the rules on a well-formed source.
use Rattle.std.specs.Prelude.{◌≡◌, ℕ, List, Some, length, slice_get}
use Rattle.algebra.specs.declared.basic.Basic.{Basic}
use Rattle.algebra.specs.HeldPaths.{Held}
use Rattle.classes.specs.Table.{table_of}
use Rattle.conditions.specs.Conditions.{Cond, IsCanonical, value_of}
use Rattle.core_program.specs.Core.{Program}
use Rattle.infer.specs.Least.{IsLeast}
use Rattle.infer.specs.Verdicts.{IsFirstBroken, IsBrokenByAll}
use Rattle.report.specs.Verdicts.{broken_line}
use Rattle.rules.specs.Effect.{Assignment}
use Rattle.rules.specs.Near.{MethodPaths, AreRelevant, AreFew, rel_of}
use Rattle.rules.specs.Rules.{IsAccepted}
use Rattle.syntax.specs.Trees.{ProgramTree}
use Rattle.sources.specs.declared.refusal.Ending.{Ending}
use Rattle.sources.specs.declared.refusal.Ending.TheVariants.{Inadmissible}
use Rattle.sources.specs.Checking.{IsWellFormedSource, NoSource}

-- the relevant sets of a program, and the least closed assignment over them
pub record HasLeast (P : Program) (sets : List MethodPaths) (A : Assignment) : Type 0 where
  pub relevant : AreRelevant P sets
  pub few : AreFew sets
  pub least : IsLeast P (rel_of sets) A

-- trees that show an assignment: one for each method, canonical, with what is assigned at every set of held paths
pub record Show (P : Program) (A : Assignment) (trees : List Cond) : Type 0 where
  pub count : length trees ≡ length P.methods
  pub canonical : (m : ℕ) (tree : Cond) → slice_get trees m ≡ Some tree → IsCanonical tree
  pub values : (m : ℕ) (tree : Cond) → slice_get trees m ≡ Some tree → (H : Held) → value_of tree H ≡ A m H

-- the program is accepted, and the trees show its least closed assignment
pub record IsShownLeast (P : Program) (trees : List Cond) : Type 0 where
  pub sets : List MethodPaths
  pub assignment : Assignment
  pub least : HasLeast P sets assignment
  pub accepted : IsAccepted P
  pub shown : Show P assignment trees

-- the least closed assignment breaks the bound of this method, and of none before it; no assignment is admissible, and every
-- closed one breaks that method's bound
pub record IsRefuted (P : Program) (m : ℕ) (declared found : Basic) : Type 0 where
  pub sets : List MethodPaths
  pub assignment : Assignment
  pub least : HasLeast P sets assignment
  pub none : IsAccepted P → ⊥
  pub first : IsFirstBroken P assignment m declared found
  pub broken : IsBrokenByAll P (rel_of sets) m

-- the line that refuses bytes that are no accepted source: why they are no well-formed one, else the first broken bound
pub data NoAccepted (file : List ℕ) : Ending → List ℕ → Type 0 where
  no_source : {ending : Ending} {line : List ℕ} → NoSource file ending line → NoAccepted file ending line
  refuted : (tree : ProgramTree) (P : Program) (m : ℕ) (declared found : Basic) → IsWellFormedSource file tree P → IsRefuted P m declared found
      → NoAccepted file Inadmissible (broken_line (table_of tree) m declared found)
