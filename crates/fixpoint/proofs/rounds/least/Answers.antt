-- Where it begins all cells wait, and after each round those that were noted.
use Rattle.std.proofs.Common.{◌≡◌, ◌∙◌, length, drop, refl, ap, subst, sym}
use Rattle.fixpoint.specs.Waiting.{AreWaiting}
use Rattle.fixpoint.proofs.AssignmentLemmas.{between_none}
use Rattle.fixpoint.proofs.WaitLemmas.{between_on, all_wait, none_waits, written}
use Rattle.fixpoint.proofs.rounds.least.Goals as goal

pub returns-in_err-waits-clause-between : goal.returns-in_err-waits-clause-between
returns-in_err-waits-clause-between g c = between_none (g.R.Rising.met c.args.rising.now) (g.R.Rising.marks c.args.rising.now)

pub returns-in_err-note_all-clause-between : goal.returns-in_err-note_all-clause-between
returns-in_err-note_all-clause-between g c = between_none (g.R.Rising.met c.args.rising.now) (g.R.Rising.marks c.args.rising.now)

pub rounds-init : goal.rounds-init
rounds-init g c =
    let met = g.R.Rising.met c.args.rising.now in
    let x = g.R.Rising.marks c.args.rising.now in
    let flags = c.deref_mut.ensures.value in
    let noted = c.in_ok-note_all.ensures in
    let size : c.in_ok-waits.waits.len ≡ length c.note_all.new.waits = c.in_ok-waits.waits.ok.0 ∙ sym (noted.size ∙ ap length flags) in
    record {
      same = refl;
      between = between_none met x;
      keeps = λ earlier kept. kept;
      waiting = subst (λ waits. AreWaiting met x waits c.note_all.new.next.items) (sym (written c.note_all.new.waits (drop (length c.note_all.new.waits) c.in_ok-waits.waits.items) c.in_ok-waits.waits.len size))
          (all_wait met x c.cells.result c.deref_mut.result.now c.note_all.new.waits c.new-cells.result.items c.note_all.new.next.items c.cells.ensures (flags ∙ c.in_ok-waits.ensures) c.new-cells.ensures.items noted.noted);
    }

pub returns-in_err-cells-clause-between : goal.returns-in_err-cells-clause-between
returns-in_err-cells-clause-between g c =
    between_on (g.R.Rising.met c.args.rising.now) (g.R.Rising.met c.rounds.rising) (g.R.Rising.marks c.args.rising.now) (g.R.Rising.marks c.rounds.rising) (g.R.Rising.marks c.ask_each.new.rising)
    c.rounds.invariant.same c.rounds.invariant.between c.in_err-cells.ensures.between

pub rounds-preserved : goal.rounds-preserved
rounds-preserved g c =
    let met = g.R.Rising.met c.args.rising.now in
    let now = g.R.Rising.met c.rounds.rising in
    let before = c.rounds.invariant in
    let asked = c.in_ok-cells.ensures in
    let size : c.rounds.waits.len ≡ length c.ask_each.new.waits = c.rounds.waits.ok.0 ∙ sym (asked.size ∙ ap length c.deref_mut-in-rounds.ensures.value) in
    record {
      same = asked.same_met ∙ before.same;
      between = between_on met now (g.R.Rising.marks c.args.rising.now) (g.R.Rising.marks c.rounds.rising) (g.R.Rising.marks c.ask_each.new.rising) before.same before.between asked.between;
      keeps = λ earlier kept. asked.keeps earlier (before.keeps earlier kept);
      waiting = subst (λ waits. AreWaiting met (g.R.Rising.marks c.ask_each.new.rising) waits c.in_ok-cells.cells.items)
          (sym (written c.ask_each.new.waits (drop (length c.ask_each.new.waits) c.rounds.waits.items) c.rounds.waits.len size))
          (subst (λ m. AreWaiting m (g.R.Rising.marks c.ask_each.new.rising) c.ask_each.new.waits c.in_ok-cells.cells.items) before.same asked.waiting);
    }

pub returns-clause-closed : goal.returns-clause-closed
returns-clause-closed g c =
    none_waits (g.R.Rising.met c.args.rising.now) (g.R.Rising.marks c.rounds.rising) c.rounds.waits.items c.rounds.cells.items c.rounds.cells.len c.rounds.invariant.waiting (sym c.is_empty.ensures ∙ c.rounds-test.false) c.rounds.cells.ok.0
