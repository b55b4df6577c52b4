use Rattle.std.proofs.Common.{ap, ◌∙◌, arith}
use Rattle.places.specs.Feeds.{feeds_from}
use Rattle.places.proofs.LineFeeds.{begin_first, begin_later, begin_there}
use Rattle.places.proofs.index.LineIndex.line_begin.Goals as goal

pub index-requires : goal.index-requires
index-requires c =
    let within = begin_there c.args.self.now c.self.inside.feeds.items c.args.at c.args.before (c.self.invariant.feeds_are ∙ ap (feeds_from 0) c.self.view_is)
    c.requires.counted (omega (arith, c.in_default)) in
    omega (arith, within, c.self.inside.feeds.ok)

pub overflow_add-result : goal.overflow_add-result
overflow_add-result c =
    let begins = begin_later c.args.self.now c.self.inside.feeds.items c.args.at c.args.before c.index.result.now
    (c.self.invariant.feeds_are ∙ ap (feeds_from 0) c.self.view_is) c.requires.within c.requires.counted (omega (arith, c.in_default)) c.index.ensures in
    omega (arith, begins, c.ranges.at.fits)

pub returns-in-0 : goal.returns-in-0
returns-in-0 c = begin_first c.args.self.now c.args.at c.args.before c.requires.within c.requires.counted c.in-0.is

pub returns-in_default : goal.returns-in_default
returns-in_default c =
    begin_later c.args.self.now c.self.inside.feeds.items c.args.at c.args.before c.index.result.now
    (c.self.invariant.feeds_are ∙ ap (feeds_from 0) c.self.view_is) c.requires.within c.requires.counted (omega (arith, c.in_default)) c.index.ensures
