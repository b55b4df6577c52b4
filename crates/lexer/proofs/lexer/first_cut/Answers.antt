use Rattle.std.proofs.Common.{sym}
use Rattle.std.proofs.lemmas.Result.{err_from_is_err_and}
use Rattle.lexer.specs.Tokens.{no_piece, a_bad_piece}
use Rattle.lexer.proofs.Fronts.{nothing_found}
use Rattle.lexer.proofs.lexer.first_cut.Goals as goal

pub returns-in_default-clause-fault : goal.returns-in_default-clause-fault
returns-in_default-clause-fault c =
    no_piece c.requires.some
    (nothing_found c.args.text.now c.as_bytes.result.now c.find_front.result c.requires.some c.as_bytes.ensures.value c.find_front.ensures c.in_default.is)

pub returns-in_err-token-clause-fault : goal.returns-in_err-token-clause-fault
returns-in_err-token-clause-fault c =
    let p = err_from_is_err_and c.from_residual.result c.from_residual.ensures.1 in
    rw (p.1, p.2) (a_bad_piece c.in-Some.front.kind c.split.ensures.longest (sym c.in_err-token.ensures))
