use Rattle.std.proofs.Common.{◌≡◌, ℕ, ◌+◌, ◌≤◌, length, map, string_bytes, subst, inl, inr}
use Rattle.commands.specs.Commands.{row_of_words, exit_status}
use Rattle.commands.specs.Rows.{Row}
use Rattle.commands.proofs.OneRow.{one_row}
use Rattle.edge.specs.Said.{SaysText}
use Rattle.commands.proofs.Headlines.{headline_of}
use Rattle.commands.proofs.Certified.{books_of}
use Rattle.commands.proofs.OpenCalled.{open_calls_of}
use Rattle.commands.proofs.Refuted.{refutations_of}
use Rattle.commands.proofs.Ordered.{no_circles_of}
use Rattle.commands.proofs.Replayed.{replayed_calls_of}
use Rattle.commands.proofs.Endings.{exact_yield}
use Rattle.commands.proofs.Runs.{IsDone, exact, answered, front, unreadable, over_limit, quiet, to_bytes, cut_short, complete}
use Rattle.commands.proofs.program.run.Given.{Over}
use Rattle.commands.proofs.program.run.Goals as goal

-- files were opened for the row that the words are
opened_by : (before now : ℕ) (its row : Row) → its ≡ row → now ≤ before + length its.names → now ≤ before + length row.names
opened_by before now its row is few = subst (λ r. now ≤ before + length r.names) is few

the_row : (g : Over) (c : goal.After-drop-outcome g) → IsDone (map string_bytes c.args.words.now) c.say-in-Ok.result (g.F.Folder.told c.args.folder.now) (g.F.Folder.faults c.args.folder.now) (g.F.Folder.faults c.perform.new.folder)
    (g.K.Sink.written c.args.sink.now) (g.K.Sink.written c.say-in-Ok.new.sink) (g.K.Sink.faults c.args.sink.now) (g.K.Sink.faults c.say-in-Ok.new.sink)
the_row g c = record {
  row = row_of_words c.in-Some.row;
  is_row = c.in-Some.ensures;
  status = c.in-Ok.outcome.status;
  text = c.in-Ok.outcome.text.items;
  outcome = c.in-Ok.ensures.outcome;
  said = subst (λ text. SaysText c.say-in-Ok.result (exit_status c.in-Ok.outcome.status) text (g.K.Sink.written c.args.sink.now) (g.K.Sink.written c.say-in-Ok.new.sink) (g.K.Sink.faults c.args.sink.now) (g.K.Sink.faults c.say-in-Ok.new.sink))
      c.as_slice.ensures.value c.say-in-Ok.ensures;
}

pub returns-in-Ok-clause-usage : goal.returns-in-Ok-clause-usage
returns-in-Ok-clause-usage g c = λ none. absurd (none (row_of_words c.in-Some.row) c.in-Some.ensures)

pub returns-in-Err-clause-usage : goal.returns-in-Err-clause-usage
returns-in-Err-clause-usage g c = λ none. absurd (none (row_of_words c.in-Some.row) c.in-Some.ensures)

pub returns-in-Ok-clause-exact : goal.returns-in-Ok-clause-exact
returns-in-Ok-clause-exact g c = λ row files asked. exact _ _ _ _ _ _ _ _ _ (the_row g c) row files asked

pub returns-in-Ok-clause-text : goal.returns-in-Ok-clause-text
returns-in-Ok-clause-text g c = λ row files asked. answered _ _ _ _ _ _ _ _ _ (the_row g c) row files asked

pub returns-in-Ok-clause-front : goal.returns-in-Ok-clause-front
returns-in-Ok-clause-front g c = λ row files asked. front _ _ _ _ _ _ _ _ _ (the_row g c) row files asked

pub returns-in-Ok-clause-cannot_read : goal.returns-in-Ok-clause-cannot_read
returns-in-Ok-clause-cannot_read g c = λ row is six. unreadable _ _ _ _ _ _ _ _ _ (the_row g c) row is six

pub returns-in-Ok-clause-too_large : goal.returns-in-Ok-clause-too_large
returns-in-Ok-clause-too_large g c = λ row is ten. over_limit _ _ _ _ _ _ _ _ _ (the_row g c) row is ten

pub returns-in-Ok-clause-quiet : goal.returns-in-Ok-clause-quiet
returns-in-Ok-clause-quiet g c = quiet _ _ _ _ _ _ _ _ _ (the_row g c)

pub returns-in-Ok-clause-bytes : goal.returns-in-Ok-clause-bytes
returns-in-Ok-clause-bytes g c = λ row is. to_bytes _ _ _ _ _ _ _ _ _ (the_row g c) row is

pub returns-in-Ok-clause-complete : goal.returns-in-Ok-clause-complete
returns-in-Ok-clause-complete g c = λ row files asked calm sink_calm. complete _ _ _ _ _ _ _ _ _ (the_row g c) row files asked calm sink_calm

pub returns-in-Ok-clause-headline : goal.returns-in-Ok-clause-headline
returns-in-Ok-clause-headline g c = headline_of _ (λ row files asked calm. complete _ _ _ _ _ _ _ _ _ (the_row g c) row files asked calm.files calm.sink)

pub returns-in-Err-clause-headline : goal.returns-in-Err-clause-headline
returns-in-Err-clause-headline g c = headline_of _ (λ row files asked calm. inl c.code.ensures)

pub returns-in_default-clause-headline : goal.returns-in_default-clause-headline
returns-in_default-clause-headline g c = headline_of _ (λ row files asked calm. absurd (c.in_default.ensures row asked.is_row))

pub returns-in-Ok-clause-books : goal.returns-in-Ok-clause-books
returns-in-Ok-clause-books g c = books_of _ (λ row files asked. exact _ _ _ _ _ _ _ _ _ (the_row g c) row files asked) (λ row files asked calm. complete _ _ _ _ _ _ _ _ _ (the_row g c) row files asked calm.files calm.sink)

pub returns-in-Err-clause-books : goal.returns-in-Err-clause-books
returns-in-Err-clause-books g c = books_of _ (λ row files asked. exact_yield row files c.code.result (inr (inr c.code.ensures))) (λ row files asked calm. inl c.code.ensures)

pub returns-in_default-clause-books : goal.returns-in_default-clause-books
returns-in_default-clause-books g c = books_of _ (λ row files asked. absurd (c.in_default.ensures row asked.is_row)) (λ row files asked calm. absurd (c.in_default.ensures row asked.is_row))

pub returns-in-Ok-clause-open_calls : goal.returns-in-Ok-clause-open_calls
returns-in-Ok-clause-open_calls g c = open_calls_of _ (λ row files asked calm. complete _ _ _ _ _ _ _ _ _ (the_row g c) row files asked calm.files calm.sink)

pub returns-in-Err-clause-open_calls : goal.returns-in-Err-clause-open_calls
returns-in-Err-clause-open_calls g c = open_calls_of _ (λ row files asked calm. inl c.code.ensures)

pub returns-in_default-clause-open_calls : goal.returns-in_default-clause-open_calls
returns-in_default-clause-open_calls g c = open_calls_of _ (λ row files asked calm. absurd (c.in_default.ensures row asked.is_row))

pub returns-in-Ok-clause-refutations : goal.returns-in-Ok-clause-refutations
returns-in-Ok-clause-refutations g c = refutations_of _ (λ row files asked. exact _ _ _ _ _ _ _ _ _ (the_row g c) row files asked) (λ row files asked calm. complete _ _ _ _ _ _ _ _ _ (the_row g c) row files asked calm.files calm.sink)

pub returns-in-Err-clause-refutations : goal.returns-in-Err-clause-refutations
returns-in-Err-clause-refutations g c = refutations_of _ (λ row files asked. exact_yield row files c.code.result (inr (inr c.code.ensures))) (λ row files asked calm. inl c.code.ensures)

pub returns-in_default-clause-refutations : goal.returns-in_default-clause-refutations
returns-in_default-clause-refutations g c = refutations_of _ (λ row files asked. absurd (c.in_default.ensures row asked.is_row)) (λ row files asked calm. absurd (c.in_default.ensures row asked.is_row))

pub returns-in-Ok-clause-no_circles : goal.returns-in-Ok-clause-no_circles
returns-in-Ok-clause-no_circles g c = no_circles_of _ (λ row files asked. exact _ _ _ _ _ _ _ _ _ (the_row g c) row files asked) (λ row files asked calm. complete _ _ _ _ _ _ _ _ _ (the_row g c) row files asked calm.files calm.sink)

pub returns-in-Err-clause-no_circles : goal.returns-in-Err-clause-no_circles
returns-in-Err-clause-no_circles g c = no_circles_of _ (λ row files asked. exact_yield row files c.code.result (inr (inr c.code.ensures))) (λ row files asked calm. inl c.code.ensures)

pub returns-in_default-clause-no_circles : goal.returns-in_default-clause-no_circles
returns-in_default-clause-no_circles g c = no_circles_of _ (λ row files asked. absurd (c.in_default.ensures row asked.is_row)) (λ row files asked calm. absurd (c.in_default.ensures row asked.is_row))

pub returns-in-Ok-clause-replayed_calls : goal.returns-in-Ok-clause-replayed_calls
returns-in-Ok-clause-replayed_calls g c = replayed_calls_of _ (λ row files asked calm. complete _ _ _ _ _ _ _ _ _ (the_row g c) row files asked calm.files calm.sink)

pub returns-in-Err-clause-replayed_calls : goal.returns-in-Err-clause-replayed_calls
returns-in-Err-clause-replayed_calls g c = replayed_calls_of _ (λ row files asked calm. inl c.code.ensures)

pub returns-in_default-clause-replayed_calls : goal.returns-in_default-clause-replayed_calls
returns-in_default-clause-replayed_calls g c = replayed_calls_of _ (λ row files asked calm. absurd (c.in_default.ensures row asked.is_row))

pub returns-in-Ok-clause-cut_short : goal.returns-in-Ok-clause-cut_short
returns-in-Ok-clause-cut_short g c = λ row is seven. cut_short _ _ _ _ _ _ _ _ _ (the_row g c) row is seven

pub returns-in-Ok-clause-opened : goal.returns-in-Ok-clause-opened
returns-in-Ok-clause-opened g c = λ row is. opened_by _ _ _ _ (one_row _ (row_of_words c.in-Some.row) row c.in-Some.ensures is) c.in-Ok.ensures.opened

pub returns-in-Err-clause-opened : goal.returns-in-Err-clause-opened
returns-in-Err-clause-opened g c = λ row is. opened_by _ _ _ _ (one_row _ (row_of_words c.in-Some.row) row c.in-Some.ensures is) c.perform.ensures.opened

pub returns-in_default-clause-opened : goal.returns-in_default-clause-opened
returns-in_default-clause-opened g c = λ row is. absurd (c.in_default.ensures row is)
