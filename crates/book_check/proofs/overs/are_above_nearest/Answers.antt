-- One method more, and all of them.
use Rattle.std.proofs.Common.{◌<◌, ℕ, Some, arith, drop, sym, ◌∙◌, ap, subst, slice_get, ◌≡◌}
use Rattle.core_program.specs.Core.{Method}
use Rattle.core_program.specs.Views.{method_of}
use Rattle.book_check.specs.Judges.{judge_program}
use Rattle.book_check.specs.Overs.{IsAboveNearest}
use Rattle.book_check.proofs.OverLemmas.{above_more, above_all}
use Rattle.book_check.proofs.PassLemmas.{method_front, methods_end}
use Rattle.book_check.proofs.overs.are_above_nearest.Goals as goal

pub methods-preserved : goal.methods-preserved
methods-preserved c =
    let j = c.args.judge.now in
    let inv = c.methods.invariant in
    let methods = (judge_program j).methods in
    let method = method_of c.in-Some.method.now in
    let front = method_front methods c.methods.m c.methods.rest.now c.in-Some.others.now c.in-Some.method.now inv.methods c.in-Some.ensures.cases.0 in
    let one = c.in_ok-m.ensures in
    record {
      methods = sym front.behind ∙ ap (λ k. drop k methods) (sym one);
      within = omega (arith, front.below, one);
      before = subst (λ n. (k : ℕ) (other : Method) → k < n → slice_get methods k ≡ Some other → IsAboveNearest j c.args.near.now k other) (sym one)
          (above_more j c.args.near.now c.methods.m method front.here (c.in_ok-is_above_nearest.ensures c.if-not-branch.false) inv.before);
    }

pub returns : goal.returns
returns c = λ e.
    let j = c.args.judge.now in
    let inv = c.methods.invariant in
    above_all j c.args.near.now c.methods.m (methods_end (judge_program j).methods c.methods.m c.methods.rest.now inv.methods c.in_default.ensures.cases inv.within) inv.before
