-- A name is text.
use Rattle.level_check.proofs.Parts.{word_text}
use Rattle.level_check.proofs.names.class_of.Goals as goal

pub unreachable-requires : goal.unreachable-requires
unreachable-requires c = (c.in_default.ensures {u = tt}).cases.0 (word_text c.args.name.now c.requires)
