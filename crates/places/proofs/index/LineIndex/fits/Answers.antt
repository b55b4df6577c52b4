use Rattle.std.proofs.Common.{ap, ◌∙◌}
use Rattle.places.specs.Feeds.{feeds_from}
use Rattle.places.proofs.LineFeeds.{placed}
use Rattle.places.proofs.index.LineIndex.fits.Goals as goal

pub returns-then-stands_behind : goal.returns-then-stands_behind
returns-then-stands_behind c = λ passes.
    placed c.args.self.now c.as_slice-feeds.result.now c.args.at c.args.count (c.as_slice-feeds.ensures.value ∙ (c.self.invariant.feeds_are ∙ ap (feeds_from 0) c.self.view_is))
    (c.stands_behind.ensures c.if-stands_behind.true) (c.stands_before.ensures.within passes) (c.stands_before.ensures.next passes)
