use Rattle.std.proofs.Common.{sym, subst, ◌∙◌}
use Rattle.core_program.specs.Views.{program_of}
use Rattle.machine.specs.CodeMachine.{code_outcome}
use Rattle.machine.specs.Taken.{state_in, IsTaken}
use Rattle.machine.proofs.Taking.{ends_taken, may_fail, fails_taken, is_ready, enters_taken, starts_running, starts_taken, does_top, does_running, does_can, does_taken, does_room, enters_room, does_counted}
use Rattle.machine.proofs.Counting.{later, later_ok}
use Rattle.machine.proofs.turn.take_turn.Goals as goal

pub returns-in-Ends-clause-taken : goal.returns-in-Ends-clause-taken
returns-in-Ends-clause-taken c code entry room decided =
    ends_taken (program_of c.args.program.now) code entry room c.args.thread c.args.shared.now.heap c.args.shared.now.locks c.args.threads.now.items c.args.shared.now.output.items c.in-Ends.end (sym c.in-Ends.is ∙ decided)

pub fails-requires : goal.fails-requires
fails-requires c =
    let code = c.requires.decided.0 in let entry = c.requires.decided.1 in let room = c.requires.decided.2 in let decided = c.requires.decided.3 in
    may_fail (program_of c.args.program.now) code entry room c.args.thread c.args.shared.now.heap c.args.shared.now.locks c.args.threads.now.items c.args.shared.now.output.items c.in-Fails.kind (sym c.in-Fails.is ∙ decided)

pub returns-in-Fails-clause-taken : goal.returns-in-Fails-clause-taken
returns-in-Fails-clause-taken c code entry room decided =
    fails_taken (program_of c.args.program.now) code entry room c.args.thread c.args.shared.now.heap c.args.shared.now.locks c.args.threads.now.items c.args.shared.now.output.items c.in-Fails.kind c.fails.new.threads.items (sym c.in-Fails.is ∙ decided) c.fails.ensures.faulted

pub enters-requires : goal.enters-requires
enters-requires c =
    let code = c.requires.decided.0 in let entry = c.requires.decided.1 in let room = c.requires.decided.2 in let decided = c.requires.decided.3 in
    is_ready (program_of c.args.program.now) code entry room c.args.thread c.args.shared.now.heap c.args.shared.now.locks c.args.threads.now.items c.args.shared.now.output.items c.in-Enters.address c.in-Enters.method c.in-Enters.entry c.in-Enters.room (sym c.in-Enters.is ∙ decided)

pub returns-in-Enters-clause-taken : goal.returns-in-Enters-clause-taken
returns-in-Enters-clause-taken c code entry room decided =
    subst (λ r. IsTaken c.args.thread r (state_in c.args.shared.now.heap c.args.shared.now.locks c.enters.new.threads.items c.args.shared.now.output.items) (state_in c.args.shared.now.heap c.args.shared.now.locks c.args.threads.now.items c.args.shared.now.output.items)
    (code_outcome (program_of c.args.program.now) code entry room (state_in c.args.shared.now.heap c.args.shared.now.locks c.args.threads.now.items c.args.shared.now.output.items) c.args.thread)) (sym c.answer.ensures)
    (enters_taken (program_of c.args.program.now) code entry room c.args.thread c.args.shared.now.heap c.args.shared.now.locks c.args.threads.now.items c.args.shared.now.output.items c.enters.result c.in-Enters.address c.in-Enters.method c.in-Enters.entry c.in-Enters.room c.enters.new.threads.items (sym c.in-Enters.is ∙ decided) c.enters.ensures.ok c.enters.ensures.err)

pub starts-requires : goal.starts-requires
starts-requires c =
    let code = c.requires.decided.0 in let entry = c.requires.decided.1 in let room = c.requires.decided.2 in let decided = c.requires.decided.3 in
    starts_running (program_of c.args.program.now) code entry room c.args.thread c.args.shared.now.heap c.args.shared.now.locks c.args.threads.now.items c.args.shared.now.output.items c.in-Starts.address c.in-Starts.method c.in-Starts.place (sym c.in-Starts.is ∙ decided)

pub returns-in-Starts-clause-taken : goal.returns-in-Starts-clause-taken
returns-in-Starts-clause-taken c code entry room decided =
    subst (λ r. IsTaken c.args.thread r (state_in c.args.shared.now.heap c.args.shared.now.locks c.starts.new.threads.items c.args.shared.now.output.items) (state_in c.args.shared.now.heap c.args.shared.now.locks c.args.threads.now.items c.args.shared.now.output.items)
    (code_outcome (program_of c.args.program.now) code entry room (state_in c.args.shared.now.heap c.args.shared.now.locks c.args.threads.now.items c.args.shared.now.output.items) c.args.thread)) (sym c.answer-in-Starts.ensures)
    (starts_taken (program_of c.args.program.now) code entry room c.args.thread c.args.shared.now.heap c.args.shared.now.locks c.args.threads.now.items c.args.shared.now.output.items c.starts.result c.in-Starts.address c.in-Starts.method c.in-Starts.place c.starts.new.threads.items (sym c.in-Starts.is ∙ decided) c.starts.ensures.ok c.starts.ensures.err)

pub does-requires-clause-top : goal.does-requires-clause-top
does-requires-clause-top c =
    let code = c.requires.decided.0 in let entry = c.requires.decided.1 in let room = c.requires.decided.2 in let decided = c.requires.decided.3 in
    does_top (program_of c.args.program.now) code entry room c.args.thread c.args.shared.now.heap c.args.shared.now.locks c.args.threads.now.items c.args.shared.now.output.items c.in-Does.deed (sym c.in-Does.is ∙ decided)

pub does-requires-clause-running : goal.does-requires-clause-running
does-requires-clause-running c =
    let code = c.requires.decided.0 in let entry = c.requires.decided.1 in let room = c.requires.decided.2 in let decided = c.requires.decided.3 in
    does_running (program_of c.args.program.now) code entry room c.args.thread c.args.shared.now.heap c.args.shared.now.locks c.args.threads.now.items c.args.shared.now.output.items c.in-Does.deed (sym c.in-Does.is ∙ decided)

pub does-requires-clause-can : goal.does-requires-clause-can
does-requires-clause-can c =
    let code = c.requires.decided.0 in let entry = c.requires.decided.1 in let room = c.requires.decided.2 in let decided = c.requires.decided.3 in
    does_can (program_of c.args.program.now) code entry room c.args.thread c.args.shared.now.heap c.args.shared.now.locks c.args.threads.now.items c.args.shared.now.output.items c.in-Does.deed (sym c.in-Does.is ∙ decided)

pub returns-in-Does-clause-taken : goal.returns-in-Does-clause-taken
returns-in-Does-clause-taken c code entry room decided =
    subst (λ r. IsTaken c.args.thread r (state_in c.does.new.shared.heap c.does.new.shared.locks c.does.new.threads.items c.does.new.shared.output.items) (state_in c.args.shared.now.heap c.args.shared.now.locks c.args.threads.now.items c.args.shared.now.output.items)
    (code_outcome (program_of c.args.program.now) code entry room (state_in c.args.shared.now.heap c.args.shared.now.locks c.args.threads.now.items c.args.shared.now.output.items) c.args.thread)) (sym c.answer-in-Does.ensures)
    (does_taken (program_of c.args.program.now) code entry room c.args.thread c.args.shared.now.heap c.args.shared.now.locks c.args.threads.now.items c.args.shared.now.output.items c.does.result c.in-Does.deed c.does.new.shared.heap c.does.new.shared.locks c.does.new.threads.items c.does.new.shared.output.items (sym c.in-Does.is ∙ decided)
    c.does.ensures.threads c.does.ensures.heap c.does.ensures.locks c.does.ensures.output c.does.ensures.threads_kept c.does.ensures.heap_kept c.does.ensures.locks_kept c.does.ensures.output_kept)

pub returns-in-Fails-clause-roomy : goal.returns-in-Fails-clause-roomy
returns-in-Fails-clause-roomy c code entry room decided sized = c.fails.ensures.roomy room

pub returns-in-Enters-clause-roomy : goal.returns-in-Enters-clause-roomy
returns-in-Enters-clause-roomy c code entry room decided sized =
    c.enters.ensures.roomy room (enters_room (program_of c.args.program.now) code entry room c.args.thread c.args.shared.now.heap c.args.shared.now.locks c.args.threads.now.items c.args.shared.now.output.items c.in-Enters.address c.in-Enters.method c.in-Enters.entry c.in-Enters.room
    (sym c.in-Enters.is ∙ decided) sized).1

pub returns-in-Starts-clause-roomy : goal.returns-in-Starts-clause-roomy
returns-in-Starts-clause-roomy c code entry room decided sized = c.starts.ensures.roomy room

pub returns-in-Does-clause-roomy : goal.returns-in-Does-clause-roomy
returns-in-Does-clause-roomy c code entry room decided sized =
    c.does.ensures.roomy room (does_room (program_of c.args.program.now) code entry room c.args.thread c.args.shared.now.heap c.args.shared.now.locks c.args.threads.now.items c.args.shared.now.output.items c.in-Does.deed
    (sym c.in-Does.is ∙ decided))

pub returns-in-Fails-clause-counted : goal.returns-in-Fails-clause-counted
returns-in-Fails-clause-counted c n counted = later n c.args.shared.now.heap c.args.shared.now.locks counted

pub returns-in-Enters-clause-counted : goal.returns-in-Enters-clause-counted
returns-in-Enters-clause-counted c = later_ok c.answer.result c.args.shared.now.heap c.args.shared.now.locks

pub returns-in-Starts-clause-counted : goal.returns-in-Starts-clause-counted
returns-in-Starts-clause-counted c = later_ok c.answer-in-Starts.result c.args.shared.now.heap c.args.shared.now.locks

pub returns-in-Does-clause-counted : goal.returns-in-Does-clause-counted
returns-in-Does-clause-counted c =
    let code = c.requires.decided.0 in let entry = c.requires.decided.1 in let room = c.requires.decided.2 in let decided = c.requires.decided.3 in
    does_counted (program_of c.args.program.now) code entry room c.args.thread c.args.shared.now.heap c.args.shared.now.locks c.args.threads.now.items c.args.shared.now.output.items c.does.result c.answer-in-Does.result c.in-Does.deed c.does.new.shared.heap c.does.new.shared.locks
    (sym c.in-Does.is ∙ decided) c.answer-in-Does.ensures c.does.ensures.heap c.does.ensures.locks
