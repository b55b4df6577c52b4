-- The first node of a list tells how many are below it.
use Rattle.std.proofs.Common.{◌≡◌}
use Rattle.books.specs.Derivations.{no_nodes}
use Rattle.book_lists.specs.Listed.{unlisted}
use Rattle.book_lists.proofs.ListLaws.{first_of, first_room, if_none, no_first}
use Rattle.book_lists.proofs.listed.InListNodes.first.Goals as goal

pub split_at-requires : goal.split_at-requires
split_at-requires c = first_room c.args.self.nodes.now c.in_ok-first.behind.now c.in_ok-first.first.now c.in_ok-first.ensures.cases.0 c.requires.kept

pub returns-in_err-first-clause-none : goal.returns-in_err-first-clause-none
returns-in_err-first-clause-none c = if_none c.from_residual.result (unlisted c.args.self.nodes.now ≡ no_nodes) (no_first c.args.self.nodes.now c.in_err-first.ensures.cases)

pub returns-clause-some : goal.returns-clause-some
returns-clause-some c = (first_of c.args.self.nodes.now c.in_ok-first.behind.now c.split_at.result.0.now c.split_at.result.1.now c.in_ok-first.first.now c.in_ok-first.ensures.cases.0 c.requires.kept c.split_at.ensures.front c.split_at.ensures.back).is

pub returns-clause-premises_kept : goal.returns-clause-premises_kept
returns-clause-premises_kept c = (first_of c.args.self.nodes.now c.in_ok-first.behind.now c.split_at.result.0.now c.split_at.result.1.now c.in_ok-first.first.now c.in_ok-first.ensures.cases.0 c.requires.kept c.split_at.ensures.front c.split_at.ensures.back).inner_are

pub returns-clause-rest_kept : goal.returns-clause-rest_kept
returns-clause-rest_kept c = (first_of c.args.self.nodes.now c.in_ok-first.behind.now c.split_at.result.0.now c.split_at.result.1.now c.in_ok-first.first.now c.in_ok-first.ensures.cases.0 c.requires.kept c.split_at.ensures.front c.split_at.ensures.back).rest_are
