-- The tree of the line with this number is the method's.
use Rattle.std.proofs.Common.{◌∙◌, subst, sym}
use Rattle.core_program.specs.Views.{method_of}
use Rattle.book_check.specs.Good.{IsTabled}
use Rattle.book_check.proofs.OverLemmas.{above_of}
use Rattle.book_check.proofs.overs.is_above_nearest.Goals as goal

pub returns : goal.returns
returns c =
    let j = c.args.judge.now in
    let tabled = subst (IsTabled c.rel-rel.result.now) c.tree_or-tree.ensures.tree (c.is_tabled.ensures.0 c.if-not-is_tabled.false) in
    above_of j c.args.near.now c.args.m (method_of c.args.method.now) c.in-Some.number c.rel-rel.result.now c.as_slice-required.result.now c.of-nearest.result.now
    (sym c.line_number.ensures ∙ c.in-Some.is) tabled c.rel-rel.ensures c.as_slice-required.ensures.value c.of-nearest.ensures c.are_under_in.result c.are_under_in.ensures.under
