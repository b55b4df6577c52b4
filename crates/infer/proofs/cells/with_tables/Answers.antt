-- One table more.
use Rattle.std.proofs.Common.{◌+◌, drop, ap, subst, slice_get, ◌∙◌}
use Rattle.rules.specs.Rules.{held_in}
use Rattle.infer.specs.Bodies.{rel_at, known_paths, assigned_at}
use Rattle.infer.specs.Tables.{chosen, table_or_empty}
use Rattle.infer.proofs.RunLemmas.{IsJoined, joined_more, next_of}
use Rattle.infer.proofs.TableParts.{bits_same}
use Rattle.infer.proofs.cells.with_tables.Goals as goal

pub loop-method-preserved : goal.loop-method-preserved
loop-method-preserved g c =
    let k = g.G.Algebra.IsKnown in
    let v = g.G.Algebra.value in
    let walk = c.args.walk.now in
    let here = known_paths walk c.args.required.now in
    let ns = c.args.methods.now in
    let n = c.method-item.result in
    let rest = drop (c.loop-method.method-index + 1) ns in
    let so_far = subst (IsJoined k v (rel_at walk) (assigned_at walk) here c.args.algebra.now c.args.value ns c.loop-method.algebra c.loop-method.greatest)
    (next_of ns c.loop-method.method-index n c.loop-method-test.true c.method-item.is) c.loop-method.invariant in
    joined_more k v (rel_at walk) (assigned_at walk) here c.args.algebra.now c.args.value ns c.loop-method.algebra c.value_here.new.algebra c.join.new.self c.loop-method.greatest c.in_ok-own.own c.in_ok-greatest.greatest n rest so_far
    c.in_ok-own.ensures.keeps (λ H. c.in_ok-own.ensures.value H ∙ ap (λ bits. chosen bits (table_or_empty (slice_get walk.tables.now n))) (bits_same (held_in here H) (rel_at walk n)))
    c.in_ok-greatest.ensures.keeps c.in_ok-greatest.ensures.known c.in_ok-greatest.ensures.value
