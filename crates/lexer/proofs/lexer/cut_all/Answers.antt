use Rattle.std.proofs.Common.{sym, ◌∙◌}
use Rattle.lexer.proofs.Lexing.{lexed_more, lexed_all, nothing_left}
use Rattle.lexer.proofs.lexer.cut_all.Goals as goal

pub loop-rest-preserved : goal.loop-rest-preserved
loop-rest-preserved c =
    lexed_more c.args.text.now c.loop-rest.rest.now c.in_ok-cut.cut.rest.now c.in_ok-cut.cut.piece.now c.loop-rest.at c.in_ok-cut.cut.token c.loop-rest.tokens.items
    c.keep.new.tokens.items c.loop-rest.invariant c.in_ok-cut.ensures.cut c.in_ok-cut.ensures.text c.in_ok-keep.ensures

pub returns-clause-tokens : goal.returns-clause-tokens
returns-clause-tokens c =
    lexed_all c.args.text.now c.loop-rest.rest.now c.loop-rest.at c.loop-rest.tokens.items c.loop-rest.invariant
    (nothing_left c.loop-rest.rest.now (sym c.is_empty.ensures ∙ c.loop-rest-test.false))
