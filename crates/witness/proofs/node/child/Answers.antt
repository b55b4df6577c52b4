-- The node behind a step.
use Rattle.std.proofs.Common.{◌≡◌, ◌+◌, sym, ap, subst, ◌∙◌}
use Rattle.std.specs.Prelude.{IfSome}
use Rattle.machine.specs.Standing.{program_run}
use Rattle.witness.specs.Walks.{allows}
use Rattle.witness.specs.Tables.{count_at}
use Rattle.witness.specs.Nodes.{HasStepped}
use Rattle.witness.proofs.node.child.Goals as goal

pub returns-in_ok-behind-in-Some : goal.returns-in_ok-behind-in-Some
returns-in_ok-behind-in-Some c =
    let made = c.in_ok-machine.ensures in
    let old = c.args.node.now.machine in (
      ap (λ xs. allows c.args.counted (count_at xs) c.args.thread) (sym c.as_slice.ensures.value) ∙ sym c.allows.ensures ∙ c.if-not-allows.false,
      sym c.may_step.ensures ∙ c.if-not-may_step.false,
      record {
        machine = c.in-Some.machine;
        behind = c.in_ok-behind-in-Some.ensures.behind;
        runs = subst (λ o. IfSome o (λ m. m.program ≡ old.program)) c.in-Some.is made.program;
        coded = subst (λ o. IfSome o (λ m. m.code ≡ old.code)) c.in-Some.is made.code;
        made = subst (λ o. IfSome o (λ m. m.made ≡ old.made + 1)) c.in-Some.is made.made;
        steps = λ q stands. subst (HasStepped (program_run old) q c.args.thread) c.in-Some.is (made.step q stands);
      },
      c.in_ok-behind-in-Some.ensures.from,
      c.in_ok-behind-in-Some.ensures.steps,
    )
