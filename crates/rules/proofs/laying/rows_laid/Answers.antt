-- One row more.
use Rattle.std.proofs.Common.{◌+◌, ◌++◌, ◌∷◌, [], take, ap, ◌∙◌, arith}
use Rattle.std.specs.Prelude.{Vec}
use Rattle.std.specs.declared.alloc.Global.{Global}
use Rattle.std.proofs.lemmas.List.{map-append}
use Rattle.base.proofs.Lists.{next_take}
use Rattle.rules.specs.Search.{rows_of}
use Rattle.rules.proofs.RangeLemmas.{row_laid}
use Rattle.rules.proofs.laying.rows_laid.Goals as goal

pub loop-row-preserved : goal.loop-row-preserved
loop-row-preserved c =
    let rows = c.args.rows.now in
    let i = c.loop-row.row-index in
    let row = c.row-item.result in
    let order = c.loop-row.order.items in
    let next = ap rows_of (next_take rows i row c.loop-row-test.true c.row-item.is) ∙ map-append (λ (r : Vec _ Global). r.items) (take i rows) (row ∷ []) in
    let r = row_laid (rows_of (take i rows)) (rows_of (take (i + 1) rows)) row.items order c.extend_from_slice.new.self.items c.loop-row.ranges.items c.push.new.self.items
    (record { first = c.len.result; count = c.len-in-loop-row.result }) c.loop-row.invariant.so_far c.loop-row.invariant.within
    (omega (arith, c.len.ensures, c.loop-row.order.ok.0)) (omega (arith, c.len-in-loop-row.ensures, row.ok.0))
    (c.in_ok-extend_from_slice.ensures.items ∙ ap (λ z. order ++ z) c.as_slice.ensures.value) c.in_ok-push.ensures.items next in
    record { so_far = r.0; within = r.1 }
