use Rattle.std.proofs.Common.{◌≡◌, subst, arith}
use Rattle.std.specs.Prelude.{MatchOption, Some, None}
use Rattle.state.proofs.Grids.{row_here, row_later}
use Rattle.state.proofs.grid.nth_entry.Goals as goal

pub overflow_cast-thread : goal.overflow_cast-thread
overflow_cast-thread g c = omega (arith, c.requires)

pub returns-then-left-filled : goal.returns-then-left-filled
returns-then-left-filled g c =
    subst (λ o. MatchOption c.entry_of.result (o ≡ None) (λ e. o ≡ Some (e.0, e.1.now)))
    (row_here c.args.rows.now c.loop-thread.thread c.loop-thread.left c.filled.result c.index-rows-thread.result _ c.loop-thread-test.true c.index-rows-thread.is c.filled.ensures c.if-left-filled.true c.loop-thread.invariant)
    c.entry_of.ensures

pub loop-thread-preserved : goal.loop-thread-preserved
loop-thread-preserved g c =
    let same : c.filled-left.result ≡ c.filled.result = omega arith in
    row_later c.args.rows.now c.loop-thread.thread c.loop-thread.left c.filled.result c.filled-left.result c.index-rows-thread.result _ c.loop-thread-test.true c.index-rows-thread.is c.filled.ensures c.if-left-filled.false same c.loop-thread.invariant
