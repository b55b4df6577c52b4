use Rattle.std.proofs.Common.{ap, sym, ◌∙◌}
use Rattle.core_program.proofs.ViewLemmas.{stmt_of-Block}
use Rattle.core_program.specs.Views.{stmt_of, stmts_from}
use Rattle.explain.specs.Finalising.{assigns, some_assigns}
use Rattle.explain.proofs.finals.+assigning.Goals as goal

pub assigns-returns-in-Block : goal.assigns-returns-in-Block
assigns-returns-in-Block t c =
    c.some_assigns.ensures
    ∙ ap (λ z. some_assigns c.args.slot (stmts_from z)) c.as_slice.ensures.value
    ∙ sym (ap (assigns c.args.slot) (ap stmt_of c.in-Block.is ∙ stmt_of-Block c.in-Block.body))
