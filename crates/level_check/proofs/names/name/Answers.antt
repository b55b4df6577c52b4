use Rattle.level_check.proofs.Parts.{named_by}
use Rattle.level_check.proofs.names.name.Goals as goal

pub returns : goal.returns
returns c = named_by c.args.text.now c.in_ok-rest.rest.now c.word_length-length.result c.word_length-length.ensures.length c.if-length-eq0.false c.in_ok-rest.ensures
