-- What is known after a turn.
use Rattle.std.proofs.Common.{ap, ◌∙◌, refl, not, ◌==◌, ◌&&◌, ◌||◌}
use Rattle.logs.specs.Judging.{put_known}
use Rattle.semantics.specs.Units.{is_commit}
use Rattle.logs.specs.Said.{said_data}
use Rattle.logs.specs.LogJudgeEvents.{log_line_of}
use Rattle.logs.specs.Views.{known_cells, content_data, turn_data}
use Rattle.logs.proofs.Putting.{after_is}
use Rattle.logs.proofs.judge.Judge.make.Goals as goal

pub returns-in-Ok-put : goal.returns-in-Ok-put
returns-in-Ok-put c = after_is c.args.self.now c.put.new.self c.put-2.new.self (log_line_of (said_data c.args.said.now)) c.args.ready.depth (turn_data c.args.turn)
    (record { depth = c.args.ready.depth; commit = c.commit_after-commit.result })
    (c.in-Ok.ensures ∙ ap (λ cell. put_known cell (content_data c.args.turn.content) (known_cells c.args.self.now.cells)) c.cell_of.ensures)
    c.in-Ok-put.ensures refl
    (c.commit_after-commit.ensures ∙ ap (λ b. not (c.args.ready.depth == 0) && (b || is_commit c.args.turn.kind)) c.requires.before)
