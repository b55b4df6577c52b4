use Rattle.std.proofs.Common.{◌==◌, ◌∙◌, sym, ap}
use Rattle.parser.specs.Lexemes.{terminal_number}
use Rattle.parser.proofs.Ranks.{found_ranked}
use Rattle.parser.proofs.lexeme.search_rank.Goals as goal

pub returns-in-Some : goal.returns-in-Some
returns-in-Some c = λ t. found_ranked c.args.token.now c.in-Some.found (sym c.searched.ensures ∙ c.in-Some.is) t ∙ ap (λ r. r == terminal_number t) (sym c.rank.ensures)
