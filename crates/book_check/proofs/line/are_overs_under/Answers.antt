-- What is known, or what comparing all of them tells.
use Rattle.std.proofs.Common.{ℕ, refl, subst}
use Rattle.std.specs.Prelude.{Contains}
use Rattle.core_program.specs.Views.{method_of}
use Rattle.book_check.specs.Good.{IsUnderIn}
use Rattle.book_check.specs.Judges.{judge_assignment, judge_program, judge_rel, judge_value}
use Rattle.book_check.specs.Overs.{AreOversAt, AreOversUnder}
use Rattle.book_check.proofs.LineLemmas.{ok_iff, overs_below}
use Rattle.book_check.proofs.line.are_overs_under.Goals as goal

pub returns-in-Below-clause-under : goal.returns-in-Below-clause-under
returns-in-Below-clause-under c =
    let known = subst (AreOversAt c.args.steps.now.judge.now c.args.steps.now.method (method_of c.args.method.now) c.args.own) c.in-Below.is c.requires.overs in
    (λ e. known, λ below. refl)

pub returns-in-Unknown-clause-under : goal.returns-in-Unknown-clause-under
returns-in-Unknown-clause-under c =
    let j = c.args.steps.now.judge.now in
    let m = c.args.steps.now.method in
    let method = method_of c.args.method.now in
    let P = judge_program j in
    let A = judge_assignment j in
    let own = judge_value j c.args.own in
    let known = subst (AreOversAt j m method c.args.own) c.in-Unknown.is c.requires.overs in
    ok_iff c.are_under_in.result ((n : ℕ) → Contains c.of.result.now n → IsUnderIn c.rel-rel.result.now c.as_slice-required.result.now (A n) own) (AreOversUnder j m method own)
    (overs_below P c.in-Unknown.rows known m c.of.result.now (judge_rel j m) c.rel-rel.result.now method.requires_ c.as_slice-required.result.now A own c.of.ensures c.rel-rel.ensures c.as_slice-required.ensures.value)
    c.are_under_in.ensures.under
