-- At or below the method's tree, which counts as an error where a required path isn't held.
use Rattle.algebra.specs.HeldPaths.{Held}
use Rattle.conditions.specs.Conditions.{cond_of, value_of}
use Rattle.rules.specs.Rules.{AtMost}
use Rattle.book_check.specs.Good.{IsUnder}
use Rattle.book_check.specs.Judges.{judge_value}
use Rattle.book_check.proofs.LineLemmas.{under_is, ok_iff}
use Rattle.book_check.proofs.line.is_under.Goals as goal

pub returns-clause-under : goal.returns-clause-under
returns-clause-under c =
    let body = value_of (cond_of c.tree_or-body.result.now) in
    let own = value_of (cond_of c.in_ok-own.own) in
    let wherever = value_of (cond_of c.in_ok-wherever.wherever) in
    let V = judge_value c.args.steps.now.judge.now in
    ok_iff c.below.result ((H : Held) → AtMost (body H) (wherever H)) (IsUnder c.args.required.now (V c.args.body) (V c.args.own))
    (under_is c.args.required.now body wherever own (V c.args.body) (V c.args.own) (λ H. c.tree_or-body.ensures.value H) (λ H. c.in_ok-wherever.ensures.value H) (λ H. c.in_ok-own.ensures.value H))
    c.below.ensures.below
