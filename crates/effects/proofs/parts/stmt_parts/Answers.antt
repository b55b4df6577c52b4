-- The statements of a block in memory are those of a block as plain data.
use Rattle.std.proofs.Common.{sym, ap, ◌∙◌}
use Rattle.core_program.specs.Views.{stmt_of, stmts_from}
use Rattle.core_program.proofs.ViewLemmas.{stmt_of-Block}
use Rattle.effects.specs.Parts.{StmtP, block_parts, parts_of}
use Rattle.effects.proofs.parts.stmt_parts.Goals as goal

pub returns-in-Block : goal.returns-in-Block
returns-in-Block c =
    let e = ap stmt_of c.in-Block.is ∙ stmt_of-Block c.in-Block.body in
    ap (λ ss. block_parts (stmts_from ss)) c.as_slice.ensures.value ∙ sym (ap (λ x. parts_of (StmtP x)) e)
