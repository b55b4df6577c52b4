-- The node's machine runs the program.
use Rattle.witness.proofs.direct.has_come.Goals as goal

pub is_alone-requires : goal.is_alone-requires
is_alone-requires c = c.requires.node
