-- A block in memory is a block as plain data.
use Rattle.std.proofs.Common.{sym, ap, ◌∙◌, map, rules}
use Rattle.core_program.specs.Core.{BlockS}
use Rattle.core_program.specs.Views.{stmt_of, stmts_from}
use Rattle.core_program.proofs.ViewLemmas.{stmt_of-Block}
use Rattle.effects.specs.Rules.{stmt_rule_in}
use Rattle.effects.proofs.Values.{value_same}
use Rattle.effects.proofs.rule_of_part.stmt_rule.Goals as goal

pub returns-in-Block-clause-value : goal.returns-in-Block-clause-value
returns-in-Block-clause-value g c =
    let P = g.C.Context.plain c.args.context.now in
    let after = g.C.Context.after c.args.context.now in
    let vs = map (g.G.Algebra.value c.args.algebra.now) c.args.values.now in
    let e = ap stmt_of c.in-Block.is ∙ stmt_of-Block c.in-Block.body in
    value_same g.G.Algebra.value c.block.new.algebra c.block.result
    (stmt_rule_in P after (BlockS (stmts_from c.in-Block.body.items)) vs)
    (stmt_rule_in P after (stmt_of c.args.s.now) vs)
    (λ H. ap (λ x. stmt_rule_in P after x vs H) (sym e))
    (search rules)
