-- A cell whose demand was met waits no longer, and after its rise the cells that look at it wait.
use Rattle.std.proofs.Common.{◌≡◌, ◌<◌, length, ◌++◌, slice_set, false, true, subst, sym, ◌∙◌}
use Rattle.std.proofs.lemmas.List.{length-set}
use Rattle.fixpoint.proofs.AssignmentLemmas.{between_none, length-above, met_now}
use Rattle.fixpoint.proofs.WaitLemmas.{waiting_met, waiting_risen, on_ok}
use Rattle.fixpoint.specs.Assignments.{IsBetween}
use Rattle.fixpoint.specs.Waiting.{IsNoted, AreWaiting}
use Rattle.fixpoint.proofs.rounds.ask.Goals as goal

pub returns-in_err-raise-clause-between : goal.returns-in_err-raise-clause-between
returns-in_err-raise-clause-between g c =
    let met = g.R.Rising.met c.args.rising.now in
    let x = g.R.Rising.marks c.args.rising.now in
    subst (λ y. IsBetween met x y) (sym c.in_err-raise.ensures.err) (between_none met x)

pub returns-then-not-branch-clause-between : goal.returns-then-not-branch-clause-between
returns-then-not-branch-clause-between g c =
    let met = g.R.Rising.met c.args.rising.now in
    let x = g.R.Rising.marks c.args.rising.now in
    subst (λ y. IsBetween met x y) (sym (c.in_ok-raise.ensures.kept c.if-not-branch.true)) (between_none met x)

pub returns-then-not-branch-clause-waiting : goal.returns-then-not-branch-clause-waiting
returns-then-not-branch-clause-waiting g c = λ rest waiting.
    let met = g.R.Rising.met c.args.rising.now in
    let x = g.R.Rising.marks c.args.rising.now in
    let below : c.args.cell < length c.args.waits.now = subst (λ n. c.args.cell < n) (sym c.requires.size) c.requires.within in
    subst (λ y. AreWaiting met y (slice_set c.args.waits.now c.args.cell false) (rest ++ c.args.next.now.items)) (sym (c.in_ok-raise.ensures.kept c.if-not-branch.true))
    (waiting_met met x c.args.waits.now c.args.cell rest c.args.next.now.items waiting below (met_now (met x c.args.cell) (sym c.if-not-branch.true ∙ c.in_ok-raise.ensures.exact)))

pub note_readers-requires : goal.note_readers-requires
note_readers-requires g c =
    length-set c.args.waits.now c.args.cell false ∙ c.requires.size
    ∙ sym (length-above (g.R.Rising.marks c.raise.new.self) (g.R.Rising.marks c.args.rising.now) (c.in_ok-raise.ensures.rises c.if-not-branch.false))

pub returns-clause-waiting : goal.returns-clause-waiting
returns-clause-waiting g c =
    let met = g.R.Rising.met c.args.rising.now in
    let x = g.R.Rising.marks c.args.rising.now in
    let below : c.args.cell < length c.args.waits.now = subst (λ n. c.args.cell < n) (sym c.requires.size) c.requires.within in
    let raised = c.if-not-branch.false in
    let answers = c.in_ok-raise.ensures in
    on_ok c.note_readers.result (λ noted rest waiting.
    waiting_risen met x c.args.waits.now c.args.cell rest c.args.next.now.items waiting (g.R.Rising.looks c.args.rising.now) (g.R.Rising.marks c.raise.new.self) c.note_readers.new.waits c.note_readers.new.next.items
    below (answers.rises raised) (answers.others raised) (subst (λ looks. IsNoted (λ k. looks k c.args.cell ≡ true) (slice_set c.args.waits.now c.args.cell false) c.note_readers.new.waits c.args.next.now.items c.note_readers.new.next.items) answers.same_looks noted))
    c.note_readers.ensures.noted
