-- What was found, from how the reading ended.
use Rattle.std.proofs.Common.{None, ap, subst, Err}
use Rattle.std.proofs.lemmas.Result.{IfOk-weaker}
use Rattle.witness_commands.specs.Answers.{AnswersSearch}
use Rattle.witness_commands.specs.Outcomes.{IsWitnessOutcome, IsUnreadLine, read}
use Rattle.witness_commands.proofs.ReadingLemmas.{source_ends, source_read}
use Rattle.witness_commands.proofs.program.search.Goals as goal

pub returns-in-Err : goal.returns-in-Err
returns-in-Err g c =
    let told = g.F.Folder.told c.args.folder.now in
    let before = g.F.Folder.faults c.args.folder.now in
    let now = g.F.Folder.faults c.read_file.new.folder in
    let source = c.args.source.now in
    let ended = c.in-Err.ensures in
    IfOk-weaker c.unread.result (λ o. IsUnreadLine source c.in-Err.end o.status o.text.items) (λ o. IsWitnessOutcome source None told before now o.status o.text.items)
    (λ o says. source_ends told before now source None c.in-Err.end o.status o.text.items
    (record { fault = λ is. ended.fault (ap Err is); others = ended.others; large = λ is. ended.too_large (ap Err is); calm = ended.calm_end }) says)
    c.unread.ensures

pub returns-in-Ok : goal.returns-in-Ok
returns-in-Ok g c =
    let told = g.F.Folder.told c.args.folder.now in
    let before = g.F.Folder.faults c.args.folder.now in
    let now = g.F.Folder.faults c.read_file.new.folder in
    let source = c.args.source.now in
    let its = c.in-Ok.ensures in
    let file = c.in-Ok.bytes.items in
    IfOk-weaker c.seek_in_file.result (λ o. AnswersSearch c.as_slice.result.now o.status o.text.items) (λ o. IsWitnessOutcome source None told before now o.status o.text.items)
    (λ o answer. read file None (source_read told before now source file its.calm its.whole its.within)
    (subst (λ f. AnswersSearch f o.status o.text.items) c.as_slice.ensures.value answer))
    c.seek_in_file.ensures
