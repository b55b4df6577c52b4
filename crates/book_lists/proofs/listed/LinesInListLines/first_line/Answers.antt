-- The first line's node tells how many are below it, and the other lines' nodes stand behind those.
use Rattle.std.proofs.Common.{◌≡◌, []}
use Rattle.book_lists.specs.Listed.{unlisted_lines}
use Rattle.book_lists.proofs.ListLaws.{first_line_of, first_line_room, if_none, no_first_body, no_first_line}
use Rattle.book_lists.proofs.listed.LinesInListLines.first_line.Goals as goal

pub split_at-requires : goal.split_at-requires
split_at-requires c = first_line_room c.args.self.lines.now c.in_ok-head.lines.now c.args.self.nodes.now c.in_ok-body.behind.now c.in_ok-head.head.now c.in_ok-body.body.now c.in_ok-head.ensures.cases.0 c.in_ok-body.ensures.cases.0 c.requires.kept

pub returns-in_err-head-clause-none : goal.returns-in_err-head-clause-none
returns-in_err-head-clause-none c =
    if_none c.from_residual.result (unlisted_lines c.args.self.lines.now c.args.self.nodes.now ≡ []) (no_first_line c.args.self.lines.now c.args.self.nodes.now c.in_err-head.ensures.cases)

pub returns-in_err-body-clause-none : goal.returns-in_err-body-clause-none
returns-in_err-body-clause-none c =
    if_none c.from_residual-in_err-body.result (unlisted_lines c.args.self.lines.now c.args.self.nodes.now ≡ [])
    (no_first_body c.args.self.lines.now c.in_ok-head.lines.now c.args.self.nodes.now c.in_ok-head.head.now c.in_ok-head.ensures.cases.0 c.in_err-body.ensures.cases)

pub returns-clause-some : goal.returns-clause-some
returns-clause-some c = (first_line_of c.args.self.lines.now c.in_ok-head.lines.now c.args.self.nodes.now c.in_ok-body.behind.now c.split_at.result.0.now c.split_at.result.1.now c.in_ok-head.head.now c.in_ok-body.body.now c.in_ok-head.ensures.cases.0 c.in_ok-body.ensures.cases.0 c.requires.kept c.split_at.ensures.front c.split_at.ensures.back).is

pub returns-clause-premises_kept : goal.returns-clause-premises_kept
returns-clause-premises_kept c = (first_line_of c.args.self.lines.now c.in_ok-head.lines.now c.args.self.nodes.now c.in_ok-body.behind.now c.split_at.result.0.now c.split_at.result.1.now c.in_ok-head.head.now c.in_ok-body.body.now c.in_ok-head.ensures.cases.0 c.in_ok-body.ensures.cases.0 c.requires.kept c.split_at.ensures.front c.split_at.ensures.back).inner_are

pub returns-clause-rest_kept : goal.returns-clause-rest_kept
returns-clause-rest_kept c = (first_line_of c.args.self.lines.now c.in_ok-head.lines.now c.args.self.nodes.now c.in_ok-body.behind.now c.split_at.result.0.now c.split_at.result.1.now c.in_ok-head.head.now c.in_ok-body.body.now c.in_ok-head.ensures.cases.0 c.in_ok-body.ensures.cases.0 c.requires.kept c.split_at.ensures.front c.split_at.ensures.back).rest_are
