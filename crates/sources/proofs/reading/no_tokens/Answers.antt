use Rattle.report.specs.SourceFaults.{lex_kind, lex_offset_of}
use Rattle.sources.specs.Programs.{NoProgram, no_tokens}
use Rattle.sources.proofs.Told.{lex_told, right_fault}
use Rattle.sources.proofs.reading.no_tokens.Goals as goal

pub refuse-requires-clause-told : goal.refuse-requires-clause-told
refuse-requires-clause-told c = lex_told c.args.text.now c.args.fault c.requires.first

pub returns : goal.returns
returns c =
    let text = c.args.text.now in
    let fault = c.args.fault in
    right_fault (NoProgram text) text (lex_offset_of fault) (lex_kind fault) c.refuse.result (no_tokens fault c.utf8.text c.requires.first) c.refuse.ensures.line
