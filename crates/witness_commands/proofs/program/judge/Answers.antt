-- What was found, from how the readings ended.
use Rattle.std.proofs.Common.{Some, refl, ap, subst, Err}
use Rattle.std.proofs.lemmas.Result.{IfOk-weaker}
use Rattle.lexer.specs.Limits.{longest_source}
use Rattle.sources.specs.Limits.{longest_second_file}
use Rattle.witness_commands.specs.Answers.{AnswersSchedule}
use Rattle.witness_commands.specs.Outcomes.{IsWitnessOutcome, IsUnreadLine, read}
use Rattle.witness_commands.proofs.ReadingLemmas.{earlier, source_ends, schedule_ends, both_read}
use Rattle.sources.proofs.Exact.{told_within}
use Rattle.witness_commands.proofs.program.judge.Goals as goal

pub returns-in-Err : goal.returns-in-Err
returns-in-Err g c =
    let told = g.F.Folder.told c.args.folder.now in
    let before = g.F.Folder.faults c.args.folder.now in
    let now = g.F.Folder.faults c.read_file.new.folder in
    let source = c.args.source.now in
    let schedule = c.args.schedule.now in
    let ended = c.in-Err.ensures in
    IfOk-weaker c.unread.result (λ o. IsUnreadLine source c.in-Err.end o.status o.text.items) (λ o. IsWitnessOutcome source (Some schedule) told before now o.status o.text.items)
    (λ o says. source_ends told before now source (Some schedule) c.in-Err.end o.status o.text.items
    (record { fault = λ is. ended.fault (ap Err is); others = ended.others; large = λ is. ended.too_large (ap Err is); calm = ended.calm_end }) says)
    c.unread.ensures

pub returns-in-Err-read_file : goal.returns-in-Err-read_file
returns-in-Err-read_file g c =
    let told = g.F.Folder.told c.args.folder.now in
    let after = g.F.Folder.told c.read_file.new.folder in
    let before = g.F.Folder.faults c.args.folder.now in
    let mid = g.F.Folder.faults c.read_file.new.folder in
    let now = g.F.Folder.faults c.read_file-2.new.folder in
    let source = c.args.source.now in
    let schedule = c.args.schedule.now in
    let first = c.in-Ok.ensures in
    let ended = c.in-Err-read_file.ensures in
    IfOk-weaker c.unread-in-Err-read_file.result (λ o. IsUnreadLine schedule c.in-Err-read_file.end o.status o.text.items) (λ o. IsWitnessOutcome source (Some schedule) told before now o.status o.text.items)
    (λ o says. schedule_ends told before now source (Some schedule) schedule refl (told_within (told source) c.in-Ok.bytes.items longest_source first.whole first.within) c.in-Err-read_file.end o.status o.text.items
    (earlier told after before mid now longest_second_file schedule c.in-Err-read_file.end first.told first.calm
    (record { fault = λ is. ended.fault (ap Err is); others = ended.others; large = λ is. ended.too_large (ap Err is); calm = ended.calm_end })) says)
    c.unread-in-Err-read_file.ensures

pub returns : goal.returns
returns g c =
    let told = g.F.Folder.told c.args.folder.now in
    let after = g.F.Folder.told c.read_file.new.folder in
    let before = g.F.Folder.faults c.args.folder.now in
    let mid = g.F.Folder.faults c.read_file.new.folder in
    let now = g.F.Folder.faults c.read_file-2.new.folder in
    let source = c.args.source.now in
    let schedule = c.args.schedule.now in
    let one = c.in-Ok.ensures in
    let other = c.in-Ok-read_file.ensures in
    let file = c.in-Ok.bytes.items in
    let text = c.in-Ok-read_file.bytes.items in
    IfOk-weaker c.judge_files.result (λ o. AnswersSchedule c.as_slice.result.now c.as_slice-2.result.now o.status o.text.items) (λ o. IsWitnessOutcome source (Some schedule) told before now o.status o.text.items)
    (λ o answer. read file (Some text) (both_read told after before mid now source schedule file text one.told one.calm other.calm one.whole other.whole one.within other.within)
    (subst (λ f. AnswersSchedule f text o.status o.text.items) c.as_slice.ensures.value (subst (λ t. AnswersSchedule c.as_slice.result.now t o.status o.text.items) c.as_slice-2.ensures.value answer)))
    c.judge_files.ensures
