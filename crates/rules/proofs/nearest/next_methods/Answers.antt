-- One method more, and all.
use Rattle.std.proofs.Common.{length, sym, ap, ◌∙◌, arith}
use Rattle.std.proofs.lemmas.List.{length-map}
use Rattle.core_program.specs.Views.{method_of}
use Rattle.rules.proofs.RangeLemmas.{nexts_more, nexts_all}
use Rattle.rules.proofs.nearest.next_methods.Goals as goal

pub loop-place-preserved : goal.loop-place-preserved
loop-place-preserved c = nexts_more c.args.program.now c.loop-place.place c.in_ok-method_at.field-0 c.loop-place.nexts.items c.push.new.self.items c.number.result c.in_ok-method_at.ensures
    (c.number.ensures ∙ c.next_of.ensures) c.in_ok-push.ensures.items c.loop-place.invariant

pub returns : goal.returns
returns c =
    let long = sym (length-map c.methods-place-end.result.now method_of) ∙ ap length c.methods-place-end.ensures in
    nexts_all c.args.program.now c.loop-place.place c.loop-place.nexts.items (omega (arith, c.loop-place-test.false, c.loop-place.auto.place-end, long)) c.loop-place.invariant
