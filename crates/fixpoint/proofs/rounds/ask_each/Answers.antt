-- One cell more was asked.
use Rattle.std.proofs.Common.{◌∙◌, ◌+◌, ◌++◌, ◌≤◌, refl, ap, subst, sym, drop, arith}
use Rattle.std.proofs.lemmas.List.{append-nil}
use Rattle.fixpoint.specs.Waiting.{AreWaiting, more}
use Rattle.fixpoint.proofs.AssignmentLemmas.{between_none}
use Rattle.fixpoint.proofs.WaitLemmas.{between_on, first_within, waiting_more}
use Rattle.fixpoint.proofs.rounds.ask_each.Goals as goal

pub loop-cell-init : goal.loop-cell-init
loop-cell-init g c =
    let met = g.R.Rising.met c.args.rising.now in
    let x = g.R.Rising.marks c.args.rising.now in
    let none = c.new-next.ensures.items in
    record {
      same = refl;
      between = between_none met x;
      keeps = λ earlier kept. kept;
      size = refl;
      waiting = subst (λ xs. AreWaiting met x c.args.waits.now xs) (sym (ap (λ xs. c.args.cells.now ++ xs) none ∙ append-nil c.args.cells.now)) c.requires;
      room = subst (λ xs. g.R.Rising.left c.args.rising.now + more xs ≤ g.R.Rising.left c.args.rising.now) (sym none) (omega arith);
    }

pub ask-requires-clause-within : goal.ask-requires-clause-within
ask-requires-clause-within g c =
    first_within (g.R.Rising.met c.args.rising.now) (g.R.Rising.marks c.loop-cell.rising) c.loop-cell.waits c.args.cells.now c.loop-cell.cell-index c.loop-cell.next.items c.loop-cell-test.true c.loop-cell.invariant.waiting

pub returns-in_err-ask-clause-between : goal.returns-in_err-ask-clause-between
returns-in_err-ask-clause-between g c =
    between_on (g.R.Rising.met c.args.rising.now) (g.R.Rising.met c.loop-cell.rising) (g.R.Rising.marks c.args.rising.now) (g.R.Rising.marks c.loop-cell.rising) (g.R.Rising.marks c.ask.new.rising)
    c.loop-cell.invariant.same c.loop-cell.invariant.between c.in_err-ask.ensures.between

pub loop-cell-preserved : goal.loop-cell-preserved
loop-cell-preserved g c =
    let met = g.R.Rising.met c.args.rising.now in
    let now = g.R.Rising.met c.loop-cell.rising in
    let before = c.loop-cell.invariant in
    let asked = c.in_ok-ask.ensures in
    record {
      same = asked.same_met ∙ before.same;
      between = between_on met now (g.R.Rising.marks c.args.rising.now) (g.R.Rising.marks c.loop-cell.rising) (g.R.Rising.marks c.ask.new.rising) before.same before.between asked.between;
      keeps = λ earlier kept. asked.keeps earlier (before.keeps earlier kept);
      size = asked.size ∙ before.size;
      waiting = waiting_more met now (g.R.Rising.marks c.loop-cell.rising) (g.R.Rising.marks c.ask.new.rising) c.loop-cell.waits c.ask.new.waits c.args.cells.now c.loop-cell.next.items c.ask.new.next.items c.loop-cell.cell-index
          before.same c.loop-cell-test.true before.waiting (asked.waiting (drop (c.loop-cell.cell-index + 1) c.args.cells.now));
      room = omega (arith, before.room, asked.room);
    }
