use Rattle.parser.proofs.Whole.{one_place, one_tree}
use Rattle.parser.proofs.parser.parse_laws.Goals as goal

pub returns : goal.returns
returns c = record { one_tree = one_tree; one_place = one_place }
