-- An entry at the front, with its count or without, and the fault of a count.
use Rattle.std.proofs.Common.{◌≡◌, ◌∙◌, Some, sym, subst, drop}
use Rattle.schedule.specs.Text.{BeginsWithCount}
use Rattle.schedule.specs.Faults.{count_fault}
use Rattle.schedule.proofs.FrontLemmas.{single_front, group_front, count_behind, star_rest, star_tail}
use Rattle.schedule.proofs.reader.read_entry.Goals as goal

pub returns-then-ends_entry-clause-entry : goal.returns-then-ends_entry-clause-entry
returns-then-ends_entry-clause-entry c =
    single_front c.args.text.now c.in-Some.thread c.number_within-number.result.length c.number_within-number.ensures.length c.number_within-number.ensures.inside
    (sym c.in-Some.is ∙ c.number_within-number.ensures.value) (sym c.ends_entry.ensures ∙ c.if-ends_entry.true)

pub returns-in-Ok-clause-entry : goal.returns-in-Ok-clause-entry
returns-in-Ok-clause-entry c =
    let text = c.args.text.now in
    let size = c.number_within-number.result.length in
    group_front text (drop 1 (drop size text)) c.in-Some.thread size c.in-Ok.count c.in-Ok.digits c.number_within-number.ensures.length c.number_within-number.ensures.inside
    (sym c.in-Some.is ∙ c.number_within-number.ensures.value)
    (star_rest text size (sym c.ends_entry.ensures ∙ c.if-ends_entry.false) c.if-rest-ne42.false)
    (subst (λ t. BeginsWithCount t c.in-Ok.count c.in-Ok.digits) (star_tail text size) c.in-Ok.ensures.count)

pub returns-in-Err-clause-fault : goal.returns-in-Err-clause-fault
returns-in-Err-clause-fault c =
    let text = c.args.text.now in
    let size = c.number_within-number.result.length in
    count_behind text (drop 1 (drop size text)) c.in-Some.thread size c.in-Err.offset c.requires c.number_within-number.ensures.length
    (sym c.in-Some.is ∙ c.number_within-number.ensures.value)
    (sym c.ends_entry.ensures ∙ c.if-ends_entry.false)
    (star_rest text size (sym c.ends_entry.ensures ∙ c.if-ends_entry.false) c.if-rest-ne42.false)
    (subst (λ t. count_fault t ≡ Some c.in-Err.offset) (star_tail text size) c.in-Err.ensures.fault)
