-- A block in memory is a block as plain data.
use Rattle.std.proofs.Common.{sym, ap, ◌∙◌, not}
use Rattle.core_program.specs.Views.{stmt_of, stmts_from}
use Rattle.core_program.proofs.ViewLemmas.{stmt_of-Block}
use Rattle.effects.specs.Parts.{StmtP}
use Rattle.book_check.specs.BookWork.{all_keep, makes_tree}
use Rattle.book_check.proofs.WorkLemmas.{all_keep_is}
use Rattle.book_check.proofs.book_work.stmt_makes_tree.Goals as goal

pub returns-in-Block : goal.returns-in-Block
returns-in-Block c =
    let e = ap stmt_of c.in-Block.is ∙ stmt_of-Block c.in-Block.body in
    ap not (c.all_keep_paths.ensures ∙ all_keep_is c.as_slice.result.now ∙ ap (λ ss. all_keep (stmts_from ss)) c.as_slice.ensures.value)
    ∙ sym (ap (λ s. makes_tree (StmtP s)) e)
