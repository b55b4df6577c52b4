use Rattle.lexer.specs.Tokens.{IsSlice}
use Rattle.syntax.proofs.Naming.{each_name, names_are_tokens}
use Rattle.syntax.proofs.laws.name_laws.Goals as goal

pub returns-clause-of_tokens : goal.returns-clause-of_tokens
returns-clause-of_tokens c = λ tree ts g. names_are_tokens tree ts g.0

pub returns-clause-slices : goal.returns-clause-slices
returns-clause-slices c = λ source tree ts h g. each_name (IsSlice source) tree ts g.0 (c.token_laws.ensures.slices source ts h)
