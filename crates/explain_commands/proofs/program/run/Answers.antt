-- Each clause from one record of what was found and said.
use Rattle.std.proofs.Common.{◌≡◌, [], ◌∷◌, ◌∙◌, ap, arith, length, map, string_bytes, subst, refl, inl, sym}
use Rattle.std.proofs.lemmas.List.{length-map}
use Rattle.edge.specs.Said.{SaysText}
use Rattle.explain_commands.proofs.Several.{alone, one_row}
use Rattle.explain_commands.proofs.Runs.{IsDone, cannot_write, never, files, files_complete, files_cut, exact, answered, front, unreadable, over_limit, quiet, to_bytes, cut_short, complete}
use Rattle.explain_commands.proofs.Telling.{sentence_of, calm_file}
use Rattle.explain_commands.proofs.program.run.Given.{Over}
use Rattle.explain_commands.proofs.program.run.Goals as goal

the_row : (g : Over) (c : goal.After-drop-outcome g) → IsDone (map string_bytes c.args.words.now) c.say-in-Ok.result (g.F.Folder.told c.args.folder.now) (g.F.Folder.faults c.args.folder.now) (g.F.Folder.faults c.perform_all.new.folder)
    (g.K.Sink.written c.args.sink.now) (g.K.Sink.written c.say-in-Ok.new.sink) (g.K.Sink.faults c.args.sink.now) (g.K.Sink.faults c.say-in-Ok.new.sink)
the_row g c = record {
  order = c.in-Some.order;
  names = map string_bytes c.in-Some.names.now;
  are_names = c.in-Some.ensures;
  status = c.in-Ok.outcome.status;
  text = string_bytes c.in-Ok.outcome.text;
  outcomes = c.in-Ok.ensures.outcomes;
  said = subst (λ text. SaysText c.say-in-Ok.result c.in-Ok.outcome.status text (g.K.Sink.written c.args.sink.now) (g.K.Sink.written c.say-in-Ok.new.sink) (g.K.Sink.faults c.args.sink.now) (g.K.Sink.faults c.say-in-Ok.new.sink))
      c.as_bytes.ensures.value c.say-in-Ok.ensures;
}

pub returns-in-Ok-clause-usage : goal.returns-in-Ok-clause-usage
returns-in-Ok-clause-usage g c = λ none. absurd (none c.in-Some.order (map string_bytes c.in-Some.names.now) c.in-Some.ensures)

pub returns-in-Err-clause-usage : goal.returns-in-Err-clause-usage
returns-in-Err-clause-usage g c = λ none. absurd (none c.in-Some.order (map string_bytes c.in-Some.names.now) c.in-Some.ensures)

pub returns-in-Ok-clause-exact : goal.returns-in-Ok-clause-exact
returns-in-Ok-clause-exact g c = λ order name file asked. exact _ _ _ _ _ _ _ _ _ (the_row g c) order name file asked

pub returns-in-Ok-clause-text : goal.returns-in-Ok-clause-text
returns-in-Ok-clause-text g c = λ order name file asked. answered _ _ _ _ _ _ _ _ _ (the_row g c) order name file asked

pub returns-in-Ok-clause-front : goal.returns-in-Ok-clause-front
returns-in-Ok-clause-front g c = λ order name file asked. front _ _ _ _ _ _ _ _ _ (the_row g c) order name file asked

pub returns-in-Ok-clause-cannot_read : goal.returns-in-Ok-clause-cannot_read
returns-in-Ok-clause-cannot_read g c = λ order name is six. unreadable _ _ _ _ _ _ _ _ _ (the_row g c) order name is six

pub returns-in-Ok-clause-too_large : goal.returns-in-Ok-clause-too_large
returns-in-Ok-clause-too_large g c = λ order name is ten. over_limit _ _ _ _ _ _ _ _ _ (the_row g c) order name is ten

pub returns-in-Ok-clause-quiet : goal.returns-in-Ok-clause-quiet
returns-in-Ok-clause-quiet g c = quiet _ _ _ _ _ _ _ _ _ (the_row g c)

pub returns-in-Ok-clause-bytes : goal.returns-in-Ok-clause-bytes
returns-in-Ok-clause-bytes g c = λ order name is. to_bytes _ _ _ _ _ _ _ _ _ (the_row g c) order name is

pub returns-in-Ok-clause-complete : goal.returns-in-Ok-clause-complete
returns-in-Ok-clause-complete g c = λ order name file asked calm sink_calm. complete _ _ _ _ _ _ _ _ _ (the_row g c) order name file asked calm sink_calm

pub returns-in-Ok-clause-sentence : goal.returns-in-Ok-clause-sentence
returns-in-Ok-clause-sentence g c = sentence_of _ (λ order name file asked calm. complete _ _ _ _ _ _ _ _ _ (the_row g c) order name file asked (calm_file _ name calm) calm.sink)

pub returns-in-Err-clause-sentence : goal.returns-in-Err-clause-sentence
returns-in-Err-clause-sentence g c = sentence_of _ (λ order name file asked calm. inl refl)

pub returns-in_default-clause-sentence : goal.returns-in_default-clause-sentence
returns-in_default-clause-sentence g c = sentence_of _ (λ order name file asked calm. absurd (c.in_default.ensures order (name ∷ []) (alone _ order name asked.is_row)))

pub returns-in-Ok-clause-cut_short : goal.returns-in-Ok-clause-cut_short
returns-in-Ok-clause-cut_short g c = λ order name is seven. cut_short _ _ _ _ _ _ _ _ _ (the_row g c) order name is seven

pub returns-in-Ok-clause-files : goal.returns-in-Ok-clause-files
returns-in-Ok-clause-files g c = λ order names are. files _ _ _ _ _ _ _ _ _ (the_row g c) order names are

pub returns-in-Ok-clause-files_cut : goal.returns-in-Ok-clause-files_cut
returns-in-Ok-clause-files_cut g c = λ order names are seven. files_cut _ _ _ _ _ _ _ _ _ (the_row g c) order names are seven

pub returns-in-Ok-clause-files_complete : goal.returns-in-Ok-clause-files_complete
returns-in-Ok-clause-files_complete g c = λ order names are told calm sink_calm. files_complete _ _ _ _ _ _ _ _ _ (the_row g c) order names are told calm sink_calm

pub returns-in-Ok-clause-opened : goal.returns-in-Ok-clause-opened
returns-in-Ok-clause-opened g c = λ order names are.
    let same = one_row (map string_bytes c.args.words.now) c.in-Some.order order (map string_bytes c.in-Some.names.now) names c.in-Some.ensures are in
    let long : length names ≡ length c.in-Some.names.now = ap length (sym same.names_are) ∙ length-map c.in-Some.names.now string_bytes in
    omega (arith, long, c.perform_all.ensures.opened)

pub returns-in-Ok-clause-opens_none : goal.returns-in-Ok-clause-opens_none
returns-in-Ok-clause-opens_none g c = λ none. absurd (none c.in-Some.order (map string_bytes c.in-Some.names.now) c.in-Some.ensures)

pub returns-in-Err-clause-opens_none : goal.returns-in-Err-clause-opens_none
returns-in-Err-clause-opens_none g c = λ none. absurd (none c.in-Some.order (map string_bytes c.in-Some.names.now) c.in-Some.ensures)

pub returns-in-Err-clause-opened : goal.returns-in-Err-clause-opened
returns-in-Err-clause-opened g c = λ order names are.
    let same = one_row (map string_bytes c.args.words.now) c.in-Some.order order (map string_bytes c.in-Some.names.now) names c.in-Some.ensures are in
    let long : length names ≡ length c.in-Some.names.now = ap length (sym same.names_are) ∙ length-map c.in-Some.names.now string_bytes in
    omega (arith, long, c.perform_all.ensures.opened)

pub returns-in-Ok-clause-usage_only : goal.returns-in-Ok-clause-usage_only
returns-in-Ok-clause-usage_only g c = λ nine. absurd (never _ _ _ _ _ _ _ _ _ (the_row g c) 9 (omega arith) (λ e. omega (arith, e)) (λ e. omega (arith, e)) (λ e. omega (arith, e)) nine)

pub returns-in-Ok-clause-no_memory : goal.returns-in-Ok-clause-no_memory
returns-in-Ok-clause-no_memory g c = λ eight. absurd (never _ _ _ _ _ _ _ _ _ (the_row g c) 8 (omega arith) (λ e. omega (arith, e)) (λ e. omega (arith, e)) (λ e. omega (arith, e)) eight)

pub returns-in-Ok-clause-cannot_write : goal.returns-in-Ok-clause-cannot_write
returns-in-Ok-clause-cannot_write g c = λ seven. cannot_write _ _ _ _ _ _ _ _ _ (the_row g c) seven

pub returns-in_default-clause-cannot_read : goal.returns-in_default-clause-cannot_read
returns-in_default-clause-cannot_read g c = λ order name is six. absurd (c.in_default.ensures order (name ∷ []) (alone _ order name is))

pub returns-in_default-clause-too_large : goal.returns-in_default-clause-too_large
returns-in_default-clause-too_large g c = λ order name is ten. absurd (c.in_default.ensures order (name ∷ []) (alone _ order name is))

pub returns-in_default-clause-bytes : goal.returns-in_default-clause-bytes
returns-in_default-clause-bytes g c = λ order name is. absurd (c.in_default.ensures order (name ∷ []) (alone _ order name is))

pub returns-in_default-clause-cut_short : goal.returns-in_default-clause-cut_short
returns-in_default-clause-cut_short g c = λ order name is seven. absurd (c.in_default.ensures order (name ∷ []) (alone _ order name is))

pub returns-in_default-clause-exact : goal.returns-in_default-clause-exact
returns-in_default-clause-exact g c = λ order name file asked. absurd (c.in_default.ensures order (name ∷ []) (alone _ order name asked.is_row))

pub returns-in_default-clause-text : goal.returns-in_default-clause-text
returns-in_default-clause-text g c = λ order name file asked. absurd (c.in_default.ensures order (name ∷ []) (alone _ order name asked.is_row))

pub returns-in_default-clause-front : goal.returns-in_default-clause-front
returns-in_default-clause-front g c = λ order name file asked seven. absurd (c.in_default.ensures order (name ∷ []) (alone _ order name asked.is_row))

pub returns-in_default-clause-complete : goal.returns-in_default-clause-complete
returns-in_default-clause-complete g c = λ order name file asked calm sink_calm. absurd (c.in_default.ensures order (name ∷ []) (alone _ order name asked.is_row))
