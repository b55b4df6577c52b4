-- The least closed assignment that trees show, and how it ends for a program.
use Rattle.std.specs.Prelude.{◌≡◌, List}
use Rattle.conditions.specs.Conditions.{Cond}
use Rattle.core_program.specs.Core.{Program}
use Rattle.explain.specs.Shown.{shown}
use Rattle.rules.specs.Near.{MethodPaths}
use Rattle.sources.specs.declared.refusal.Ending.{Ending}
use Rattle.sources.specs.Verdicts.{HasLeast}
use Rattle.explain_commands.specs.declared.words.Order.TheVariants.{Why}
use Rattle.explain_commands.specs.Broken.{broken_methods, ending_for}
use Rattle.explain_commands.specs.Orders.{IsProgramVerdict}

-- the trees show the least closed assignment over these relevant sets, and it ends so by the bounds that methods declare
pub record IsLeastJudged (P : Program) (sets : List MethodPaths) (trees : List Cond) (ending : Ending) : Type 0 where
  pub least : HasLeast P sets (shown trees)
  pub ending_is : ending ≡ ending_for (broken_methods P (shown trees))
  pub verdict : IsProgramVerdict Why P ending
