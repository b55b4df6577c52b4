-- One step more, or none.
use Rattle.std.proofs.Common.{subst}
use Rattle.std.specs.Prelude.{IfSome}
use Rattle.witness.specs.Nodes.{IsAdvanced}
use Rattle.witness.specs.Searching.{IsLone}
use Rattle.witness.proofs.PassedLemmas.{passed_none, passed_one, passed_still}
use Rattle.witness.proofs.passing.pass.Goals as goal

pub steps-init : goal.steps-init
steps-init c = passed_none c.args.search.now c.args.node.now c.requires

pub steps-preserved : goal.steps-preserved
steps-preserved c =
    passed_one c.args.search.now c.args.node.now c.steps.node c.advance.new.node c.in-Some.thread c.steps.invariant
    (subst (λ o. IfSome o (IsLone c.args.search.now c.steps.node)) c.in-Some.is c.lone.ensures)
    (subst (IsAdvanced c.steps.node c.in-Some.thread c.advance.new.node) c.if-not-branch.false c.in_ok-advance.ensures)

pub returns-then-not-branch : goal.returns-then-not-branch
returns-then-not-branch c =
    passed_still c.args.search.now c.args.node.now c.steps.node c.advance.new.node c.in-Some.thread c.steps.invariant
    (subst (IsAdvanced c.steps.node c.in-Some.thread c.advance.new.node) c.if-not-branch.true c.in_ok-advance.ensures)
