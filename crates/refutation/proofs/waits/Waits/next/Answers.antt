-- Who was passed over doesn't wait.
use Rattle.std.proofs.Common.{◌≡◌, ◌<◌, ◌≤◌, ℕ, false, Some, arith, slice_get, subst}
use Rattle.refutation.proofs.Ranges.{before_asleep, behind_asleep_or, passed_more}
use Rattle.refutation.proofs.waits.Waits.next.Goals as goal

pub loop-at-init : goal.loop-at-init
loop-at-init c =
    let inside = c.self.inside in
    let m = c.max-at.ensures in
    record {
      after = omega (arith, m);
      asleep = λ k from below.
          let early : k < inside.first = omega (arith, m, from, below) in
          before_asleep inside.flags.items inside.first inside.end c.self.invariant k (let s = c.self.invariant.starts in omega (arith, s, early)) early;
    }

pub loop-at-preserved : goal.loop-at-preserved
loop-at-preserved c =
    let inside = c.self.inside in
    let before = c.loop-at.invariant in
    record {
      after = let a = before.after in omega (arith, a);
      asleep = passed_more inside.flags.items c.args.from c.loop-at.at c.index.result.now (let e = c.self.invariant.ends in omega (arith, e, c.loop-at-test.true)) c.index.ensures c.if-index.false before.asleep;
    }

pub returns-clause-asleep : goal.returns-clause-asleep
returns-clause-asleep c =
    let inside = c.self.inside in
    subst (λ ws. (m : ℕ) → c.args.from ≤ m → m < c.len.result → slice_get ws m ≡ Some false) c.self.view_is
    (λ m from below. behind_asleep_or inside.flags.items inside.first inside.end c.self.invariant m c.args.from c.loop-at.at (omega (arith, below, c.len.ensures, inside.flags.ok)) c.loop-at-test.false from c.loop-at.invariant.asleep)
