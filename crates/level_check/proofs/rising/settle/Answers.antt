-- What is kept from the state where it began, whatever rose first, and that no link asks for more.
use Rattle.std.proofs.Common.{refl, subst}
use Rattle.std.specs.Prelude.{OnOk}
use Rattle.fixpoint.specs.Assignments.{AreAllMet}
use Rattle.level_check.specs.Greatest.{at_start}
use Rattle.level_check.specs.Rises.{marks_of, are_links_met}
use Rattle.level_check.proofs.Settled.{settled}
use Rattle.level_check.proofs.rising.settle.Goals as goal

pub returns : goal.returns
returns c =
    let s = c.args.cells.now in
    let before = c.raise_in_order.ensures s (c.raise_each.ensures s (refl, refl, λ d u is. at_start is)) in
    let after = c.least.ensures.keeps s before in
    let new = c.least.new.rising.levels.items in
    settled c.least.result s.rows.items s.levels.items new after.1 after.2
    (subst (λ rows. OnOk c.least.result (AreAllMet (are_links_met rows) (marks_of new))) before.0 c.least.ensures.closed)
