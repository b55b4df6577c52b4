-- Where a path is left, both of its parts decide.
use Rattle.std.proofs.Common.{ap}
use Rattle.std.specs.Option.{option_copied}
use Rattle.conditions.specs.Conditions.{cond_of}
use Rattle.book_check.proofs.SplitLemmas.{high_stops, low_decides}
use Rattle.book_check.proofs.pairs.+pair_below.Goals as goal

pub returns-then-not-branch : goal.returns-then-not-branch
returns-then-not-branch t c =
    high_stops (option_copied c.least.result) c.in-Some-least.path.now (cond_of c.args.t.now) (cond_of c.args.u.now) (cond_of c.args.d.now)
    (cond_of c.branches-first.result.0.now) (cond_of c.branches-second.result.0.now) (cond_of c.branches-third.result.0.now) c.in_ok-pair_below.field-0
    c.least.ensures (ap option_copied c.in-Some-least.is) c.requires.first c.requires.second c.requires.third
    c.branches-first.ensures.held c.branches-second.ensures.held c.branches-third.ensures.held c.if-not-branch.true c.in_ok-pair_below.ensures

pub returns : goal.returns
returns t c =
    low_decides (option_copied c.least.result) c.in-Some-least.path.now (cond_of c.args.t.now) (cond_of c.args.u.now) (cond_of c.args.d.now)
    (cond_of c.branches-first.result.0.now) (cond_of c.branches-second.result.0.now) (cond_of c.branches-third.result.0.now)
    (cond_of c.branches-first.result.1.now) (cond_of c.branches-second.result.1.now) (cond_of c.branches-third.result.1.now)
    c.in_ok-pair_below.field-0 c.pair_below-2.result
    c.least.ensures (ap option_copied c.in-Some-least.is) c.requires.first c.requires.second c.requires.third
    c.branches-first.ensures.held c.branches-second.ensures.held c.branches-third.ensures.held
    c.branches-first.ensures.free c.branches-second.ensures.free c.branches-third.ensures.free c.if-not-branch.false c.in_ok-pair_below.ensures c.pair_below-2.ensures
