-- Each clause from one record of what was found and said.
use Rattle.std.proofs.Common.{map, option_map, string_bytes, subst, arith}
use Rattle.edge.specs.Said.{SaysText}
use Rattle.witness_commands.proofs.Runs.{IsDone, exact, answered, front, unreadable, over_limit, quiet, to_bytes, complete, failing, no_nine, no_eight}
use Rattle.witness_commands.proofs.Stages.{sentence_at}
use Rattle.witness_commands.proofs.program.run.Given.{Over}
use Rattle.witness_commands.proofs.program.run.Goals as goal

the_row : (g : Over) (c : goal.After-drop-said g) → IsDone (map string_bytes c.args.words.now) c.say-in-Ok.result (g.F.Folder.told c.args.folder.now) (g.F.Folder.faults c.args.folder.now) (g.F.Folder.faults c.perform.new.folder)
    (g.K.Sink.written c.args.sink.now) (g.K.Sink.written c.say-in-Ok.new.sink) (g.K.Sink.faults c.args.sink.now) (g.K.Sink.faults c.say-in-Ok.new.sink)
the_row g c = record {
  source = c.in-Some.source.now;
  schedule = option_map (λ name. name.now) c.in-Some.schedule;
  is_row = c.in-Some.ensures;
  status = c.in-Ok.said.status;
  out = c.in-Ok.said.text.items;
  outcome = c.in-Ok.ensures;
  said = subst (λ text. SaysText c.say-in-Ok.result c.in-Ok.said.status text (g.K.Sink.written c.args.sink.now) (g.K.Sink.written c.say-in-Ok.new.sink) (g.K.Sink.faults c.args.sink.now) (g.K.Sink.faults c.say-in-Ok.new.sink))
      c.as_slice.ensures.value c.say-in-Ok.ensures;
}

pub returns-in-Ok-clause-usage : goal.returns-in-Ok-clause-usage
returns-in-Ok-clause-usage g c = λ none. absurd (none c.in-Some.source.now (option_map (λ name. name.now) c.in-Some.schedule) c.in-Some.ensures)

pub returns-in-Err-clause-usage : goal.returns-in-Err-clause-usage
returns-in-Err-clause-usage g c = λ none. absurd (none c.in-Some.source.now (option_map (λ name. name.now) c.in-Some.schedule) c.in-Some.ensures)

pub returns-in-Ok-clause-exact : goal.returns-in-Ok-clause-exact
returns-in-Ok-clause-exact g c = λ source schedule file text asked. exact _ _ _ _ _ _ _ _ _ (the_row g c) source schedule file text asked

pub returns-in-Ok-clause-text : goal.returns-in-Ok-clause-text
returns-in-Ok-clause-text g c = λ source schedule file text asked. answered _ _ _ _ _ _ _ _ _ (the_row g c) source schedule file text asked

pub returns-in-Ok-clause-front : goal.returns-in-Ok-clause-front
returns-in-Ok-clause-front g c = λ source schedule file text asked. front _ _ _ _ _ _ _ _ _ (the_row g c) source schedule file text asked

pub returns-in-Ok-clause-cannot_read : goal.returns-in-Ok-clause-cannot_read
returns-in-Ok-clause-cannot_read g c = λ source schedule is six. unreadable _ _ _ _ _ _ _ _ _ (the_row g c) source schedule is six

pub returns-in-Ok-clause-too_large : goal.returns-in-Ok-clause-too_large
returns-in-Ok-clause-too_large g c = λ source schedule is ten. over_limit _ _ _ _ _ _ _ _ _ (the_row g c) source schedule is ten

pub returns-in-Ok-clause-quiet : goal.returns-in-Ok-clause-quiet
returns-in-Ok-clause-quiet g c = quiet _ _ _ _ _ _ _ _ _ (the_row g c)

pub returns-in-Ok-clause-bytes : goal.returns-in-Ok-clause-bytes
returns-in-Ok-clause-bytes g c = λ source schedule is. to_bytes _ _ _ _ _ _ _ _ _ (the_row g c) source schedule is

pub returns-in-Ok-clause-complete : goal.returns-in-Ok-clause-complete
returns-in-Ok-clause-complete g c = λ source schedule file text asked one other sink_calm. complete _ _ _ _ _ _ _ _ _ (the_row g c) source schedule file text asked one other sink_calm

pub returns-in-Ok-clause-sentence : goal.returns-in-Ok-clause-sentence
returns-in-Ok-clause-sentence g c = λ source schedule file text asked within two. sentence_at source schedule file text (g.K.Sink.written c.args.sink.now) (g.K.Sink.written c.say-in-Ok.new.sink) c.say-in-Ok.result
    (answered _ _ _ _ _ _ _ _ _ (the_row g c) source schedule file text asked) two

pub returns-in-Err-clause-sentence : goal.returns-in-Err-clause-sentence
returns-in-Err-clause-sentence g c = λ source schedule file text asked within two. absurd (omega (arith, two))

pub returns-in_default-clause-sentence : goal.returns-in_default-clause-sentence
returns-in_default-clause-sentence g c = λ source schedule file text asked within two. absurd (c.in_default.ensures source schedule asked.is_row)

pub returns-in-Ok-clause-usage_only : goal.returns-in-Ok-clause-usage_only
returns-in-Ok-clause-usage_only g c = λ nine. absurd (no_nine _ _ _ _ _ _ _ _ _ (the_row g c) nine)

pub returns-in-Ok-clause-cannot_write : goal.returns-in-Ok-clause-cannot_write
returns-in-Ok-clause-cannot_write g c = λ seven. failing _ _ _ _ _ _ _ _ _ (the_row g c) seven

pub returns-in-Ok-clause-no_memory : goal.returns-in-Ok-clause-no_memory
returns-in-Ok-clause-no_memory g c = λ eight. absurd (no_eight _ _ _ _ _ _ _ _ _ (the_row g c) eight)
