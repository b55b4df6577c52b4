-- One premise more.
use Rattle.std.proofs.Common.{sym, subst, map}
use Rattle.effects.specs.Rules.{AreAllKnown}
use Rattle.book_check.specs.Charges.{known_value, IsKnownTree}
use Rattle.book_check.specs.Judges.{judge_value}
use Rattle.book_check.proofs.PremiseLemmas.{known_pushed, values_more}
use Rattle.book_check.proofs.rule_values.premises.Goals as goal

pub loop-number-preserved : goal.loop-number-preserved
loop-number-preserved c =
    let l = c.loop-number in
    let trees = c.args.trees.now in
    record {
      known = subst (AreAllKnown IsKnownTree trees) (sym c.in_ok-push.ensures.items)
          (known_pushed IsKnownTree trees l.found.items c.in_ok-tree.tree l.invariant.known c.in_ok-tree.ensures.known);
      values = values_more (known_value trees) (judge_value c.args.judge.now) l.found.items c.push.new.self.items c.in_ok-tree.tree c.args.numbers.now l.number-index
          (map (judge_value c.args.judge.now) c.args.numbers.now) c.loop-number-test.true c.in_ok-tree.ensures.value c.in_ok-push.ensures.items l.invariant.values;
    }
