-- From the nearest to all.
use Rattle.book_check.specs.Overs.{AreAboveNearest, AreOversBelow}
use Rattle.book_check.proofs.OverLemmas.{all_below, tells}
use Rattle.book_check.proofs.overs.are_below.Goals as goal

pub returns : goal.returns
returns c =
    let j = c.args.judge.now in
    tells c.are_above_nearest.result (AreAboveNearest j c.in_ok-near.near) (AreOversBelow j)
    (all_below j c.requires.typed c.requires.relevant c.in_ok-near.near c.in_ok-near.ensures) c.are_above_nearest.ensures
