use Rattle.sources.proofs.Trees.{no_tree_end, parse_told}
use Rattle.sources.proofs.reading.no_tree.Goals as goal

pub refuse-requires-clause-told : goal.refuse-requires-clause-told
refuse-requires-clause-told c = parse_told c.args.tokens.now c.args.fault c.args.place c.offset_of-at.result c.requires.stands

pub returns : goal.returns
returns c = no_tree_end c.args.text.now c.args.tokens.now c.args.fault c.args.place c.offset_of-at.result c.refuse.result c.utf8.text c.requires.cut c.requires.stands c.offset_of-at.ensures c.refuse.ensures.line
