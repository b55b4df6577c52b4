-- Blocks and synchronized parts in memory.
use Rattle.std.proofs.Common.{ap, ◌∙◌}
use Rattle.algebra.specs.HeldPaths.{has_path}
use Rattle.core_program.specs.Views.{stmt_of, program_of}
use Rattle.core_program.proofs.ViewLemmas.{stmt_of-Block}
use Rattle.rules.specs.Near.{rel_of}
use Rattle.effects.proofs.PartsAtSet.{block_read, sync_read}
use Rattle.effects.proofs.walk_at.+statement_effect.Goals as goal

pub stmt_effect-returns-in-Block : goal.stmt_effect-returns-in-Block
stmt_effect-returns-in-Block g t c =
    block_read (program_of c.args.program.now) (rel_of c.args.sets.now) (g.A.Assigned.assigned c.args.assigned.now) (has_path c.args.held.now)
    (stmt_of c.args.s.now) c.as_slice.result.now c.in-Block.body.items c.block_effect.result
    (ap stmt_of c.in-Block.is ∙ stmt_of-Block c.in-Block.body) c.as_slice.ensures.value c.block_effect.ensures

pub stmt_effect-returns-in_ok-taken-in-Sync : goal.stmt_effect-returns-in_ok-taken-in-Sync
stmt_effect-returns-in_ok-taken-in-Sync g t c =
    sync_read (program_of c.args.program.now) (rel_of c.args.sets.now) (g.A.Assigned.assigned c.args.assigned.now) c.args.held.now
    (stmt_of c.args.s.now) c.in-Sync.path c.deref-in-Sync.result.now c.in-Sync.a.value c.in_ok-more-in-Sync.more.items c.as_slice-in-Sync.result.now c.has.result
    c.in_ok-taken-in-Sync.taken c.lift.result
    (ap stmt_of c.in-Sync.is) c.deref-in-Sync.ensures c.has.ensures c.if-has.false c.in_ok-more-in-Sync.ensures c.as_slice-in-Sync.ensures.value
    c.in_ok-taken-in-Sync.ensures c.lift.ensures
