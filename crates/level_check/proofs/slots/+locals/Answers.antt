use Rattle.std.proofs.Common.{ap, ◌∙◌, arith}
use Rattle.std.proofs.lemmas.Grind.{common_steps}
use Rattle.core_program.specs.Views.{stmt_of}
use Rattle.core_program.proofs.ViewLemmas.{stmt_of-Block}
use Rattle.levels.specs.SlotTypes.{local_types}
use Rattle.level_check.proofs.slots.+locals.Goals as goal

pub add_locals-returns-in-Block : goal.add_locals-returns-in-Block
add_locals-returns-in-Block t c =
    let e = ap (λ x. local_types (stmt_of x)) c.in-Block.is ∙ ap local_types (stmt_of-Block c.in-Block.body) in
    grind (arith, common_steps)
