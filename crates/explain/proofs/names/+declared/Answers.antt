use Rattle.std.proofs.Common.{ap, ◌∙◌}
use Rattle.core_program.specs.Views.{program_of, stmt_of}
use Rattle.core_program.proofs.ViewLemmas.{stmt_of-Block}
use Rattle.explain.proofs.NameLemmas.{block_declares}
use Rattle.explain.proofs.names.+declared.Goals as goal

pub add_aliases-returns-in-Block : goal.add_aliases-returns-in-Block
add_aliases-returns-in-Block t c =
    block_declares (program_of c.args.program.now) c.args.known.now.items (stmt_of c.args.s.now) c.as_slice.result.now c.in-Block.body.items c.add_each.new.known.items c.add_each.result
    (ap stmt_of c.in-Block.is ∙ stmt_of-Block c.in-Block.body) c.as_slice.ensures.value c.add_each.ensures
