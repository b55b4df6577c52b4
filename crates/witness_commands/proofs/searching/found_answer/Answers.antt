-- The text of a witness.
use Rattle.std.proofs.Common.{◌≤◌, ◌++◌, length, refl, ap, subst, ◌∙◌}
use Rattle.schedule.specs.Comments.{commented}
use Rattle.schedule.specs.Text.{IsSchedule}
use Rattle.schedule.specs.Written.{written}
use Rattle.witness_commands.proofs.searching.found_answer.Goals as goal

pub returns : goal.returns
returns c =
    let found = c.args.found.now in
    let made = c.in_ok-text.ensures in
    let its = c.as_slice.ensures.value in
    let line = c.as_bytes.ensures.value ∙ c.in_ok-line.ensures in
    let text = made.text ∙ ap (λ s. written s ++ commented c.as_bytes.result.now) its ∙ ap (λ l. written found.schedule.items ++ commented l) line in
    (refl, text, subst (λ s. length s ≤ 200000 → IsSchedule c.in_ok-text.text.items s) its made.spells)
