-- A synchronized part whose value the lock doesn't change.
use Rattle.std.proofs.Common.{sym, ap, ◌∙◌, map}
use Rattle.algebra.specs.Values.{sync_of}
use Rattle.conditions.specs.Conditions.{cond_of}
use Rattle.book_check.specs.Judges.{judge_table, judge_value}
use Rattle.effects.specs.Rules.{lock_value}
use Rattle.book_check.proofs.ChainLemmas.{sync_held}
use Rattle.book_check.proofs.PairLemmas.{tabled_same}
use Rattle.book_check.proofs.chain.locked_at.Goals as goal

pub returns : goal.returns
returns c = λ H holds.
    let j = c.args.judge.now in
    let lock = c.args.lock.now in
    let t = cond_of c.in_ok-tree.tree.now in
    let same = tabled_same (judge_table j) c.in_ok-number.number.now t c.in_ok-tree.ensures.tree in
    ap (λ ns. lock_value lock (map (judge_value j) ns) H) c.in_ok-number.ensures.cases.0
    ∙ (λ i. sync_of lock (λ K. sym (same K) i) H)
    ∙ sync_held lock t H c.in_ok-basic.basic (c.in_ok-basic.ensures H holds) (c.is_lifted.ensures c.if-not-is_lifted.false)
