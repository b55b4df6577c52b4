-- One value more.
use Rattle.std.proofs.Common.{map}
use Rattle.book_check.specs.Judges.{judge_value}
use Rattle.effects.specs.Rules.{in_sequence}
use Rattle.book_check.proofs.ChainLemmas.{more_at}
use Rattle.book_check.proofs.chain.sequence_at.Goals as goal

pub numbers-preserved : goal.numbers-preserved
numbers-preserved c = λ H holds.
    more_at (judge_value c.args.judge.now) c.numbers.rest.now c.in-Some.others.now c.in-Some.number.now c.numbers.all c.in_ok-next.next c.seq-all.result
    (in_sequence (map (judge_value c.args.judge.now) c.args.numbers.now) H) H
    c.in-Some.ensures.cases.0 (c.in_ok-next.ensures H holds) c.seq-all.ensures (c.numbers.invariant H holds)
