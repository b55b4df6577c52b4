-- What was found of one file more, and of all.
use Rattle.std.proofs.Common.{◌≡◌, ℕ, List, ◌∙◌, refl, string_bytes, subst, arith}
use Rattle.explain_commands.specs.Outcomes.{IsExplainOutcome}
use Rattle.explain_commands.proofs.Several.{all_so_far, more_so_far, none_so_far, same_told}
use Rattle.explain_commands.proofs.program.perform_all.Goals as goal

pub loop-name-init : goal.loop-name-init
loop-name-init g c = (λ other. refl, none_so_far c.args.order (g.F.Folder.told c.args.folder.now) c.args.names.now (g.F.Folder.faults c.args.folder.now) (string_bytes c.new-text.result) c.new-text.ensures.bytes, omega arith)

pub loop-name-preserved : goal.loop-name-preserved
loop-name-preserved g c =
    let told = g.F.Folder.told c.args.folder.now in
    let next = c.in_ok-next.ensures.outcome in
    let step = c.add_lines.ensures in
    let mid = g.F.Folder.faults c.loop-name.folder in
    let now = g.F.Folder.faults c.add_lines.new.folder in
    let same : (other : List ℕ) → g.F.Folder.told c.loop-name.folder other ≡ told other = c.loop-name.invariant.0 in (
      λ other. step.told other ∙ same other,
      more_so_far c.args.order told c.args.names.now c.loop-name.name-index c.name-item.result (g.F.Folder.faults c.args.folder.now) mid now c.loop-name.status c.in_ok-next.next c.worse-status.result
          (string_bytes c.loop-name.text) (string_bytes c.add_lines.new.text) next.0 c.loop-name-test.true c.name-item.is
          (same_told (g.F.Folder.told c.loop-name.folder) told same c.args.order (string_bytes c.name-item.result) mid now c.in_ok-next.next next.0
          (subst (λ n. IsExplainOutcome c.args.order n (g.F.Folder.told c.loop-name.folder) mid now c.in_ok-next.next next.0) c.as_str.ensures.value next.1))
          step.never_fall next.2 c.worse-status.ensures c.loop-name.invariant.1,
      omega (arith, step.opened, c.loop-name.invariant.2),
    )

pub returns-clause-outcomes : goal.returns-clause-outcomes
returns-clause-outcomes g c =
    all_so_far c.args.order (g.F.Folder.told c.args.folder.now) c.args.names.now c.loop-name.name-index (g.F.Folder.faults c.args.folder.now) (g.F.Folder.faults c.loop-name.folder) c.loop-name.status (string_bytes c.loop-name.text)
    c.loop-name-test.false c.loop-name.invariant.1
