use Rattle.logs.proofs.Spelled.{spelled}
use Rattle.logs.proofs.laws_of_lines.lines_are_spelled.Goals as goal

pub returns : goal.returns
returns c = spelled
