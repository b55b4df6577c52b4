-- A thread that is there goes on by its turn.
use Rattle.std.proofs.Common.{sym, ap, ◌∙◌}
use Rattle.logs.specs.Turns.{blocks_after as depth_in}
use Rattle.logs.specs.LogJudgeEvents.{event_of, log_line_of}
use Rattle.logs.specs.Noting.{note_in}
use Rattle.logs.specs.State.{known_of}
use Rattle.logs.specs.Said.{deed_data, said_data}
use Rattle.logs.proofs.Noted.{noted_in}
use Rattle.logs.proofs.judge.Judge.enter.Goals as goal

pub returns-in-Ok-put-clause-noted : goal.returns-in-Ok-put-clause-noted
returns-in-Ok-put-clause-noted c = λ guard.
    let there = sym c.is_there.ensures ∙ c.if-not-is_there.false in
    let deep = ap (λ d. depth_in (event_of (deed_data c.args.said.now.deed)) d) (sym c.phase-before.ensures.depth) ∙ c.in-Ok.ensures in
    noted_in guard (known_of c.args.self.now) (log_line_of (said_data c.args.said.now)) c.in-Ok.depth there deep
    ∙ ap (λ cells. note_in guard (record { cells = cells; depth = (known_of c.args.self.now).depth; committed = (known_of c.args.self.now).committed }) (log_line_of (said_data c.args.said.now)) c.in-Ok.depth)
    (sym c.in-Ok-put.ensures)
