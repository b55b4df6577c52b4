-- One method more, and none that is left.
use Rattle.std.proofs.Common.{◌≡◌, true, length, refl, sym, subst, ◌∙◌, arith}
use Rattle.core_program.specs.Views.{program_of}
use Rattle.rules.specs.Passing.{rows_pass}
use Rattle.rules.proofs.CallerLookups.{same_count}
use Rattle.rules.proofs.PassingLemmas.{pass_more, pass_all}
use Rattle.rules.proofs.passing.do_pass.Goals as goal

pub loop-place-preserved : goal.loop-place-preserved
loop-place-preserved c =
    let P = program_of c.args.program.now in
    let count = length c.methods-count.result.now in
    pass_more P c.args.near.now c.loop-place.place c.loop-place.place count c.of.result.now (rows_pass P c.args.near.now 0 count)
    c.loop-place-test.true refl c.of.ensures (sym c.row_passes.ensures ∙ c.if-not-row_passes.false) c.loop-place.invariant

pub returns : goal.returns
returns c told =
    let P = program_of c.args.program.now in
    let count = length c.methods-count.result.now in
    subst (λ n. rows_pass P c.args.near.now 0 n ≡ true) (same_count c.methods-count.result.now P.methods c.methods-count.ensures)
    (pass_all P c.args.near.now c.loop-place.place count (rows_pass P c.args.near.now 0 count) (omega (arith, c.loop-place-test.false)) c.loop-place.invariant)
