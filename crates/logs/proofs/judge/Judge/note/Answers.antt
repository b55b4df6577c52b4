-- How a line ends, by what came of each step.
use Rattle.std.proofs.Common.{not, ◌==◌, option_map, sym, ap, ◌∙◌}
use Rattle.logs.specs.Judging as logs
use Rattle.logs.specs.Said.{said_data}
use Rattle.logs.specs.LogJudgeEvents.{log_line_of}
use Rattle.logs.specs.State.{known_of}
use Rattle.logs.specs.Views.{guards_data, turn_data}
use Rattle.logs.proofs.Noting.{impossible_in, cut_in, goes_in}
use Rattle.logs.proofs.judge.Judge.note.Goals as goal

pub returns-in-Err : goal.returns-in-Err
returns-in-Err c = c.in-Err.ensures.noted (guards_data c.args.guards.now)

pub returns-in_default : goal.returns-in_default
returns-in_default c =
    impossible_in (guards_data c.args.guards.now) (known_of c.enter.new.self) (log_line_of (said_data c.args.said.now)) c.in-Ok.ready.depth
    (logs.line_noted (guards_data c.args.guards.now) (known_of c.args.self.now) (log_line_of (said_data c.args.said.now))) (c.in-Ok.ensures.noted (guards_data c.args.guards.now))
    (sym (ap (λ o. option_map turn_data o) c.in_default.is) ∙ c.in-Ok-turn_of.ensures)

pub returns-then-not-fits : goal.returns-then-not-fits
returns-then-not-fits c =
    cut_in (guards_data c.args.guards.now) (known_of c.enter.new.self) (log_line_of (said_data c.args.said.now)) c.in-Ok.ready.depth
    (logs.line_noted (guards_data c.args.guards.now) (known_of c.args.self.now) (log_line_of (said_data c.args.said.now))) (c.in-Ok.ensures.noted (guards_data c.args.guards.now))
    (turn_data c.in-Some.turn) (not (c.in-Ok.ready.before.commit == 0))
    (sym (ap (λ o. option_map turn_data o) c.in-Some.is) ∙ c.in-Ok-turn_of.ensures) c.in-Ok.ensures.before (sym c.fits.ensures ∙ c.if-not-fits.true)

pub returns-in-Ok-make : goal.returns-in-Ok-make
returns-in-Ok-make c =
    goes_in (guards_data c.args.guards.now) (known_of c.enter.new.self) (log_line_of (said_data c.args.said.now)) c.in-Ok.ready.depth
    (logs.line_noted (guards_data c.args.guards.now) (known_of c.args.self.now) (log_line_of (said_data c.args.said.now))) (c.in-Ok.ensures.noted (guards_data c.args.guards.now))
    (turn_data c.in-Some.turn) (not (c.in-Ok.ready.before.commit == 0)) (known_of c.make.new.self)
    (sym (ap (λ o. option_map turn_data o) c.in-Some.is) ∙ c.in-Ok-turn_of.ensures) c.in-Ok.ensures.before (sym c.fits.ensures ∙ c.if-not-fits.false) c.in-Ok-make.ensures
