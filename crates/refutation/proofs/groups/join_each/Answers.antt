-- One place more, and all of them.
use Rattle.std.proofs.Common.{slice_set, refl, ◌∙◌, arith}
use Rattle.algebra.specs.declared.basic.Basic.TheVariants.{Const}
use Rattle.refutation.proofs.GroupTables.{joined_next, joined_all_of}
use Rattle.refutation.proofs.groups.join_each.Goals as goal

pub loop-at-preserved : goal.loop-at-preserved
loop-at-preserved c =
    joined_next c.loop-at.at c.args.table.now c.args.other.now c.loop-at.table (slice_set c.loop-at.table c.loop-at.at c.join.result) Const Const c.join.result c.loop-at-test.true c.requires c.loop-at.invariant c.join.ensures refl

pub returns : goal.returns
returns c =
    c.loop-at.invariant ∙ joined_all_of c.loop-at.at c.args.table.now c.args.other.now (omega (arith, c.loop-at-test.false)) c.requires
