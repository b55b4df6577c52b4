-- The number at the front is the count.
use Rattle.std.proofs.Common.{◌∙◌, sym}
use Rattle.schedule.proofs.FrontLemmas.{count_front}
use Rattle.schedule.proofs.reader.read_count.Goals as goal

pub returns-then-ends_entry-clause-count : goal.returns-then-ends_entry-clause-count
returns-then-ends_entry-clause-count c =
    count_front c.args.text.now c.in-Some.count c.number_within-number.result.length c.number_within-number.ensures.length c.number_within-number.ensures.inside
    (sym c.in-Some.is ∙ c.number_within-number.ensures.value) (sym c.ends_entry.ensures ∙ c.if-ends_entry.true)
