-- The rule of a part.
use Rattle.std.proofs.Common.{◌≡◌, IfSome, map, subst, sym}
use Rattle.algebra.specs.HeldPaths.{Held}
use Rattle.conditions.specs.Conditions.{cond_of}
use Rattle.core_program.specs.Views.{program_of}
use Rattle.effects.specs.Accesses.{branching_value}
use Rattle.book_check.specs.Conclusions.{conclusions, table_value}
use Rattle.effects.specs.Rules.{rule_of}
use Rattle.effects.specs.Bodies.{part_of}
use Rattle.book_check.proofs.branching.part_value.Goals as goal

pub returns-in-Expr : goal.returns-in-Expr
returns-in-Expr g c = λ rel A.
    subst (λ p. IfSome c.expr_value.result (λ x. (H : Held) →
    rule_of (program_of c.args.program.now) rel A (part_of p) (conclusions (table_value (map cond_of c.args.table.now)) (g.F.Nodes.nodes c.args.premises)) H ≡ branching_value x H))
    (sym c.in-Expr.is) (c.expr_value.ensures rel A)

pub returns-in-Stmt : goal.returns-in-Stmt
returns-in-Stmt g c = λ rel A.
    subst (λ p. IfSome c.stmt_value.result (λ x. (H : Held) →
    rule_of (program_of c.args.program.now) rel A (part_of p) (conclusions (table_value (map cond_of c.args.table.now)) (g.F.Nodes.nodes c.args.premises)) H ≡ branching_value x H))
    (sym c.in-Stmt.is) (c.stmt_value.ensures rel A)
