-- The turn by what is known of its cell, or else assumed.
use Rattle.std.proofs.Common.{◌≡◌, IfOk, option_map, ap, ◌∙◌, subst}
use Rattle.logs.specs.Said.{said_data}
use Rattle.logs.specs.LogJudgeEvents.{log_line_of}
use Rattle.logs.specs.Views.{known_cells, content_data, guards_data, turn_data}
use Rattle.logs.proofs.Turned.{turn_known, turn_assumed}
use Rattle.logs.proofs.judge.turn_of.Goals as goal

pub returns-in-Some : goal.returns-in-Some
returns-in-Some c = subst (λ x. IfOk c.turn_by.result (λ turn. option_map turn_data turn ≡ x))
    (turn_known (guards_data c.args.guards.now) (known_cells c.args.cells.now) (log_line_of (said_data c.args.said.now)) c.kind_of-kind.result (content_data c.in-Some.found.now) c.kind_of-kind.ensures
    (c.in-Some.ensures ∙ ap (known_cells c.args.cells.now) c.cell_of.ensures)) c.turn_by.ensures

pub returns-in_ok-found-in-None : goal.returns-in_ok-found-in-None
returns-in_ok-found-in-None c = subst (λ x. IfOk c.turn_by-in-None.result (λ turn. option_map turn_data turn ≡ x))
    (turn_assumed (guards_data c.args.guards.now) (known_cells c.args.cells.now) (log_line_of (said_data c.args.said.now)) c.kind_of-kind.result (content_data c.in_ok-found-in-None.found) c.kind_of-kind.ensures
    (c.in-None.ensures ∙ ap (known_cells c.args.cells.now) c.cell_of.ensures) c.in_ok-found-in-None.ensures) c.turn_by-in-None.ensures
