-- None yet, one method more, and all.
use Rattle.std.proofs.Common.{length, sym, ap, ◌∙◌, arith}
use Rattle.std.proofs.lemmas.List.{length-map}
use Rattle.core_program.specs.Dispatch.{Overrides}
use Rattle.core_program.specs.Views.{program_of, method_of}
use Rattle.rules.specs.Search.{rows_of}
use Rattle.rules.proofs.OverridingLemmas.{have_none, have_more, rows_exact}
use Rattle.rules.proofs.overriding.overriding_rows.Goals as goal

pub loop-place-init : goal.loop-place-init
loop-place-init c = have_none (λ over m. Overrides (program_of c.args.program.now) over m) c.new-rows.result.items c.new-rows.ensures.items

pub loop-place-preserved : goal.loop-place-preserved
loop-place-preserved c = have_more (λ over m. Overrides (program_of c.args.program.now) over m) (rows_of c.loop-place.rows.items) (rows_of c.add_overridden.new.rows.items)
    c.loop-place.place c.in_ok-method_at.field-0 c.in_ok-method_at.ensures c.in_ok-add_overridden.ensures c.loop-place.invariant

pub returns : goal.returns
returns c =
    let long = sym (length-map c.methods-count.result.now method_of) ∙ ap length c.methods-count.ensures in
    rows_exact (program_of c.args.program.now) (rows_of c.loop-place.rows.items) c.loop-place.place (omega (arith, c.loop-place-test.false, long)) c.loop-place.invariant
