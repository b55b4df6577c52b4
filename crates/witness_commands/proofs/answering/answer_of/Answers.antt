-- The status and the text for each verdict.
use Rattle.std.proofs.Common.{◌≤◌, length, refl, ap, sym, subst, ◌∙◌, string_bytes}
use Rattle.schedule.specs.Text.{IsSchedule}
use Rattle.schedule.specs.Written.{written}
use Rattle.witness_commands.specs.Answers.{IsSaid}
use Rattle.witness_commands.proofs.answering.answer_of.Goals as goal

pub returns-in_ok-write_schedule-in-Kept : goal.returns-in_ok-write_schedule-in-Kept
returns-in_ok-write_schedule-in-Kept c =
    let order = c.in-Kept.order.items in
    let bytes = ap (λ v. v.items) c.into_bytes.ensures.value in
    let wrote = c.in_ok-write_schedule-in-Kept.ensures in
    let spells = subst (λ s. length s ≤ 200000 → IsSchedule (string_bytes c.in_ok-write_schedule-in-Kept.field-0) s) c.as_slice.ensures.value wrote.reads_back in
    subst (λ v. IsSaid v 0 c.into_bytes.result.items) (sym c.in-Kept.is)
    (refl, bytes ∙ wrote.text ∙ ap written c.as_slice.ensures.value, subst (λ o. length order ≤ 200000 → IsSchedule o order) (sym bytes) spells)

pub returns-in_ok-broken_line-in-Broken : goal.returns-in_ok-broken_line-in-Broken
returns-in_ok-broken_line-in-Broken c =
    subst (λ v. IsSaid v 2 c.into_bytes-in-Broken.result.items) (sym c.in-Broken.is) (refl, ap (λ v. v.items) c.into_bytes-in-Broken.ensures.value ∙ c.in_ok-broken_line-in-Broken.ensures)

pub returns-in_ok-undecided_line-in-Undecided : goal.returns-in_ok-undecided_line-in-Undecided
returns-in_ok-undecided_line-in-Undecided c =
    subst (λ v. IsSaid v 16 c.into_bytes-in-Undecided.result.items) (sym c.in-Undecided.is) (refl, ap (λ v. v.items) c.into_bytes-in-Undecided.ensures.value ∙ c.in_ok-undecided_line-in-Undecided.ensures)
