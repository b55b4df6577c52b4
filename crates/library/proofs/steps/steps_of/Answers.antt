use Rattle.std.proofs.Common.{length, sym, ap, subst, ◌≡◌, ◌∙◌}
use Rattle.core_program.specs.Views.{program_of}
use Rattle.semantics.specs.Step.{Moves, outcome, moved}
use Rattle.library.specs.Seen.{IsSeen}
use Rattle.library.proofs.Neighbours.{seen_is, stands_long}
use Rattle.library.proofs.steps.steps_of.Goals as goal

pub returns : goal.returns
returns c q m n stands first second =
    let t = c.args.first in
    let u = c.args.second in
    let one = c.in_ok-first_kind.first_kind in
    let two = c.in_ok-second_kind.second_kind in
    let later = c.in_ok-step_on.ensures.stands q m stands first in
    let second_later = subst (λ P. outcome P (moved t m q) u ≡ Moves n) (sym (ap program_of c.in_ok-step_on.ensures.program)) second in
    subst (λ b. IsSeen (record { first = one; second = two; starts = b }) q m u n) (sym c.is_started-starts.ensures)
    (seen_is q t u m n one two _ _ (ap length c.threads-before.ensures ∙ stands_long c.args.machine.now q stands) (ap length c.threads.ensures ∙ stands_long c.step_on.new.machine (moved t m q) later)
    (c.in_ok-first_kind.ensures q m stands first) (c.in_ok-second_kind.ensures (moved t m q) n later second_later))
