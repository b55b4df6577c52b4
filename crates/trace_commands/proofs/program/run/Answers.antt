-- Each status exactly, and the sentence.
use Rattle.std.proofs.Common.{Bor, List, None, Some, map, option_map, refl, string_bytes, ℕ}
use Rattle.trace_commands.proofs.Exactness.{none_alone, none_by_text, run_alone, run_by_text}
use Rattle.trace_commands.proofs.Serials.{serial_run}
use Rattle.trace_commands.proofs.program.run.Goals as goal

pub returns-in-Ok-clause-serial : goal.returns-in-Ok-clause-serial
returns-in-Ok-clause-serial g c = λ log guards row zero.
    serial_run c.serial_texts_have_serial_logs.ensures (map string_bytes c.args.words.now) log c.in-Some.row.log.now guards (option_map {T = Bor (List ℕ)} {U = List ℕ} (λ n. n.now) c.in-Some.row.guards)
    (g.F.Folder.told c.args.folder.now) (g.F.Folder.faults c.args.folder.now) (g.F.Folder.faults c.perform.new.folder) c.in-Ok.outcome.status c.in-Ok.outcome.text.items c.as_slice.result.now
    (g.K.Sink.written c.args.sink.now) (g.K.Sink.written c.say-in-Ok.new.sink) (g.K.Sink.faults c.args.sink.now) (g.K.Sink.faults c.say-in-Ok.new.sink) c.say-in-Ok.result row c.in-Some.ensures
    c.in-Ok.ensures c.say-in-Ok.ensures zero

pub returns-in-Ok-clause-exact : goal.returns-in-Ok-clause-exact
returns-in-Ok-clause-exact g c = λ log name bytes text asked.
    run_by_text (map string_bytes c.args.words.now) (g.F.Folder.told c.args.folder.now) (g.F.Folder.faults c.args.folder.now) (g.F.Folder.faults c.perform.new.folder) c.in-Some.row.log.now
    (option_map {T = Bor (List ℕ)} {U = List ℕ} (λ n. n.now) c.in-Some.row.guards) c.in-Some.ensures log name bytes text
    c.say-in-Ok.result c.in-Ok.outcome.status c.in-Ok.outcome.text.items c.as_slice.result.now (g.K.Sink.written c.args.sink.now) (g.K.Sink.written c.say-in-Ok.new.sink) (g.K.Sink.faults c.args.sink.now)
    (g.K.Sink.faults c.say-in-Ok.new.sink) asked c.in-Ok.ensures c.say-in-Ok.ensures

pub returns-in-Ok-clause-guessed : goal.returns-in-Ok-clause-guessed
returns-in-Ok-clause-guessed g c = λ log bytes asked.
    run_alone (map string_bytes c.args.words.now) (g.F.Folder.told c.args.folder.now) (g.F.Folder.faults c.args.folder.now) (g.F.Folder.faults c.perform.new.folder) c.in-Some.row.log.now
    (option_map {T = Bor (List ℕ)} {U = List ℕ} (λ n. n.now) c.in-Some.row.guards) c.in-Some.ensures log bytes
    c.say-in-Ok.result c.in-Ok.outcome.status c.in-Ok.outcome.text.items c.as_slice.result.now (g.K.Sink.written c.args.sink.now) (g.K.Sink.written c.say-in-Ok.new.sink) (g.K.Sink.faults c.args.sink.now)
    (g.K.Sink.faults c.say-in-Ok.new.sink) asked c.in-Ok.ensures c.say-in-Ok.ensures

pub returns-in-Err-clause-exact : goal.returns-in-Err-clause-exact
returns-in-Err-clause-exact g c = λ log name bytes text asked. none_by_text text bytes 8 refl

pub returns-in-Err-clause-guessed : goal.returns-in-Err-clause-guessed
returns-in-Err-clause-guessed g c = λ log bytes asked. none_alone bytes 8 refl

pub returns-in_default-clause-exact : goal.returns-in_default-clause-exact
returns-in_default-clause-exact g c = λ log name bytes text asked. absurd (c.in_default.ensures log (Some name) asked.row)

pub returns-in_default-clause-guessed : goal.returns-in_default-clause-guessed
returns-in_default-clause-guessed g c = λ log bytes asked. absurd (c.in_default.ensures log None asked.row)
