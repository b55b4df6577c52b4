use Rattle.std.proofs.Common.{◌<◌, length, subst, arith}
use Rattle.core_program.specs.Views.{program_of}
use Rattle.rules.specs.Search.{GrowsByNext, IsLed, row_at, rows_of}
use Rattle.rules.proofs.SearchLemmas.{done_none, done_more, least_family, read_at}
use Rattle.rules.proofs.search.near_paths.Goals as goal

pub loop-next-init : goal.loop-next-init
loop-next-init c = done_none (program_of c.args.program.now) c.args.clauses.now (rows_of c.in_ok-links.links.items) (rows_of c.in_ok-family.family.near.items) c.in_ok-family.family.queue.items c.in_ok-family.ensures

pub loop-next-preserved : goal.loop-next-preserved
loop-next-preserved c =
    let o = c.loop-next.family.queue.ok in
    let below : c.loop-next.next < length c.loop-next.family.queue.items = omega (arith, c.loop-next-test.true, c.len.ensures, o) in
    done_more (program_of c.args.program.now) c.args.clauses.now (rows_of c.in_ok-links.links.items) c.loop-next.next (rows_of c.loop-next.family.near.items) (rows_of c.follow_all.new.self.near.items) c.loop-next.family.queue.items c.follow_all.new.self.queue.items c.copy-place.result c.in_ok-links.ensures c.loop-next.invariant below
    (read_at c.loop-next.family.queue.items c.loop-next.next c.index.result.now c.copy-place.result below c.index.ensures c.copy-place.ensures)
    (subst (λ l. GrowsByNext c.loop-next.family.queue.items (IsLed (program_of c.args.program.now) (row_at (rows_of l) c.copy-place.result.method) c.copy-place.result) (rows_of c.follow_all.new.self.near.items) c.follow_all.new.self.queue.items) c.as_slice.ensures.value c.in_ok-follow_all.ensures)

pub returns : goal.returns
returns c =
    let o = c.loop-next.family.queue.ok in
    least_family (program_of c.args.program.now) c.args.clauses.now (rows_of c.in_ok-links.links.items) c.loop-next.next (rows_of c.loop-next.family.near.items) c.loop-next.family.queue.items c.in_ok-links.ensures c.loop-next.invariant (omega (arith, c.loop-next-test.false, c.len.ensures, o))
