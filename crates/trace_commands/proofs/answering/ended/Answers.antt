-- The last line has no end; or a thread is inside a block; or the log is serial.
use Rattle.std.proofs.Common.{◌≡◌, ◌≢◌, refl, subst, ℕ}
use Rattle.logs.specs.Numbers.{number_of_word}
use Rattle.logs.specs.State.{known_of}
use Rattle.logs.specs.Stops.{stand_of}
use Rattle.trace_commands.proofs.TraceCommandsAnswering.{serial_answers}
use Rattle.trace_commands.proofs.Ways.{cut_off_all, open_all, row_none, row_some}
use Rattle.trace_commands.proofs.answering.ended.Goals as goal

pub returns-then-not-is_empty : goal.returns-then-not-is_empty
returns-then-not-is_empty c = λ guard bytes leads.
    cut_off_all guard c.args.log.now bytes (stand_of c.args.walk.now) c.no_line.result c.line.result leads
    (row_some c.is_empty.result c.row.result.now c.args.walk.now.row.items c.is_empty.ensures c.if-not-is_empty.true c.row.ensures) c.line.ensures c.no_line.ensures

pub returns-in-Some : goal.returns-in-Some
returns-in-Some c = λ guard bytes leads.
    open_all guard c.args.log.now bytes (stand_of c.args.walk.now) c.open_block.result c.in-Some.thread.now leads
    (row_none c.is_empty.result c.row.result.now c.args.walk.now.row.items c.is_empty.ensures c.if-not-is_empty.false c.row.ensures)
    (subst (λ j. (known_of j).depth (number_of_word c.in-Some.thread.now) ≢ 0) c.judge.ensures c.in-Some.ensures) c.open_block.ensures

pub returns-in_ok-text-in-None : goal.returns-in_ok-text-in-None
returns-in_ok-text-in-None c = λ guard bytes leads.
    serial_answers guard c.args.log.now bytes 0 c.in_ok-text-in-None.text.items (stand_of c.args.walk.now) leads
    (row_none c.is_empty.result c.row.result.now c.args.walk.now.row.items c.is_empty.ensures c.if-not-is_empty.false c.row.ensures)
    (subst (λ j. (t : ℕ) → (known_of j).depth t ≡ 0) c.judge.ensures c.in-None.ensures) refl c.in_ok-text-in-None.ensures.items
