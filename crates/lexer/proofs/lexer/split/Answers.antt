use Rattle.lexer.proofs.Fronts.{found, found_split}
use Rattle.lexer.proofs.lexer.split.Goals as goal

pub split_at-requires : goal.split_at-requires
split_at-requires c = (found c.args.text.now c.args.front c.requires).edge c.utf8.text

pub returns-clause-longest : goal.returns-clause-longest
returns-clause-longest c =
    found_split c.args.text.now c.split_at.result.0.now c.split_at.result.1.now c.args.front c.requires c.split_at.ensures.front c.split_at.ensures.back
