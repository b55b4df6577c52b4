-- At or below the method's tree at each part of its relevant paths, where it counts as an error if a required path isn't held.
use Rattle.std.proofs.Common.{◌∙◌}
use Rattle.algebra.specs.HeldPaths.{Held}
use Rattle.conditions.specs.Conditions.{cond_of, value_of}
use Rattle.rules.specs.Rules.{AtMost, held_in}
use Rattle.book_check.specs.Good.{IsUnderIn}
use Rattle.book_check.specs.Judges.{judge_assignment, judge_value}
use Rattle.book_check.proofs.LineLemmas.{under_in_is, ok_iff}
use Rattle.book_check.proofs.line.is_under_in.Goals as goal

pub returns-clause-under : goal.returns-clause-under
returns-clause-under c =
    let rel = c.args.rel.now in
    let there = value_of (cond_of c.in_ok-there.there) in
    let here = value_of (cond_of c.in_ok-here.here) in
    let own = value_of (cond_of c.in_ok-own.own) in
    let A = judge_assignment c.args.steps.now.judge.now in
    let V = judge_value c.args.steps.now.judge.now in
    ok_iff c.below.result ((H : Held) → AtMost (there H) (here H)) (IsUnderIn rel c.args.required.now (A c.args.over) (V c.args.own))
    (under_in_is rel c.args.required.now there here own (A c.args.over) (V c.args.own)
    (λ H. c.in_ok-there.ensures.value H ∙ c.line_tree-tree.ensures.value (held_in rel H)) (λ H. c.in_ok-here.ensures.value H ∙ c.in_ok-wherever.ensures.value (held_in rel H)) (λ H. c.in_ok-own.ensures.value H))
    c.below.ensures.below
