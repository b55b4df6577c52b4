-- None yet, one method more, and all.
use Rattle.std.proofs.Common.{◌≡◌, Some, length, sym, ap, ◌∙◌, arith}
use Rattle.std.proofs.lemmas.List.{length-map}
use Rattle.core_program.specs.Overridden.{next_overridden}
use Rattle.core_program.specs.Views.{method_of}
use Rattle.rules.specs.Search.{rows_of}
use Rattle.rules.proofs.Leading.{rows_nearest}
use Rattle.rules.proofs.OverridingLemmas.{have_none, have_more}
use Rattle.rules.proofs.nearest.nearest_overriders.Goals as goal

pub loop-place-init : goal.loop-place-init
loop-place-init c = have_none (λ over m. next_overridden c.args.program.now over ≡ Some m) c.new-rows.result.items c.new-rows.ensures.items

pub loop-place-preserved : goal.loop-place-preserved
loop-place-preserved c = have_more (λ over m. next_overridden c.args.program.now over ≡ Some m) (rows_of c.loop-place.rows.items) (rows_of c.add_next.new.rows.items)
    c.loop-place.place c.in_ok-method_at.field-0 c.in_ok-method_at.ensures c.in_ok-add_next.ensures c.loop-place.invariant

pub returns : goal.returns
returns c =
    let long = sym (length-map c.methods-count.result.now method_of) ∙ ap length c.methods-count.ensures in
    rows_nearest c.args.program.now (rows_of c.loop-place.rows.items) c.loop-place.place (omega (arith, c.loop-place-test.false, long)) c.loop-place.invariant
