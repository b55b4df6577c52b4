use Rattle.std.proofs.Common.{map}
use Rattle.syntax.specs.Views.{class_of}
use Rattle.parser.proofs.Whole.{named_right}
use Rattle.parser.proofs.parser.read.Goals as goal

pub returns-in-Ok-clause-names : goal.returns-in-Ok-clause-names
returns-in-Ok-clause-names c = named_right c.args.tokens.now (map class_of c.in-Ok.classes.items) _ c.in-Ok.ensures
