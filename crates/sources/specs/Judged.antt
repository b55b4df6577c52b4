-- The least closed assignment of an accepted program, by nodes of a table.
use Rattle.std.specs.Prelude.{◌≡◌, ◌↔◌, true, List, Result, IfErr, OnOk, is_ok, length}
use Rattle.core_program.specs.Core.{Program}
use Rattle.infer.specs.declared.bounds.Broken.{Broken}
use Rattle.infer.specs.Verdicts.{assignment_of, HoldBounds, IsFirstBroken, IsBrokenByAll}
use Rattle.conditions.specs.declared.table.Node.{Node}
use Rattle.conditions.specs.Nodes.{Items}
use Rattle.conditions.specs.Shown.{AreAmongFirst, node_value}
use Rattle.rules.specs.Effect.{Assignment}
use Rattle.rules.specs.Near.{MethodPaths, rel_of}
use Rattle.rules.specs.Rules.{IsAccepted}
use Rattle.sources.specs.Verdicts.{HasLeast}

-- what the nodes of a table assign to the methods
abbrev pub by_nodes : Items → List Node → Assignment
by_nodes items nodes = assignment_of node_value items nodes

-- the program is accepted, and the nodes, one for each method, assign what its least closed assignment does
pub record IsJudgedSource (P : Program) (items : Items) (nodes : List Node) : Type 0 where
  pub sets : List MethodPaths
  pub least : HasLeast P sets (by_nodes items nodes)
  pub accepted : IsAccepted P
  pub count : length nodes ≡ length P.methods
  pub known : AreAmongFirst (length items) nodes

-- the nodes, one for each method, assign what the least closed assignment over these relevant sets does; and the verdict is that every
-- method keeps its bound in it, and the program is accepted; or else which method is the first that doesn't, as in each closed assignment
pub record IsJudgement (P : Program) (sets : List MethodPaths) (items : Items) (nodes : List Node) (verdict : Result (Unit {0}) Broken) : Type 0 where
  pub least : HasLeast P sets (by_nodes items nodes)
  pub count : length nodes ≡ length P.methods
  pub known : AreAmongFirst (length items) nodes
  pub accepted : (is_ok verdict ≡ true) ↔ IsAccepted P
  pub holds : OnOk verdict (HoldBounds P (by_nodes items nodes))
  pub broken : IfErr verdict (λ b. IsFirstBroken P (by_nodes items nodes) b.method b.declared b.found)
  pub by_all : IfErr verdict (λ b. IsBrokenByAll P (rel_of sets) b.method)
