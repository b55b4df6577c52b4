use Rattle.std.proofs.Common.{ap, ◌∙◌}
use Rattle.places.specs.Feeds.{feeds_from}
use Rattle.places.proofs.LineFeeds.{found_ok, found_err}
use Rattle.places.proofs.index.LineIndex.feeds_found.Goals as goal

pub returns-in-Ok : goal.returns-in-Ok
returns-in-Ok c =
    found_ok c.args.self.now c.as_slice.result.now c.args.at c.in-Ok.count c.binary_search.result c.binary_search.ensures.position
    (c.as_slice.ensures.value ∙ (c.self.invariant.feeds_are ∙ ap (feeds_from 0) c.self.view_is)) c.in-Ok.is

pub returns-in-Err : goal.returns-in-Err
returns-in-Err c =
    found_err c.args.self.now c.as_slice.result.now c.args.at c.in-Err.count c.binary_search.result c.binary_search.ensures.position
    (c.as_slice.ensures.value ∙ (c.self.invariant.feeds_are ∙ ap (feeds_from 0) c.self.view_is)) c.in-Err.is
