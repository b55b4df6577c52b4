use Rattle.std.proofs.Common.{ap, subst, ◌∙◌}
use Rattle.std.specs.Prelude.{◌∷◌, [], map, slice_set, true}
use Rattle.std.proofs.lemmas.List.{map-append}
use Rattle.core_program.specs.Views.{method_of, program_of}
use Rattle.rules.specs.Near.{rel_of}
use Rattle.rules.specs.Search.{row_at}
use Rattle.explain.specs.Views.{explained_data}
use Rattle.explain.specs.Programs.{IsToldNext}
use Rattle.explain.proofs.Following.{follows_first, follows_more}
use Rattle.explain.proofs.program.follow.Goals as goal

pub loop-init : goal.loop-init
loop-init g c =
    follows_first (program_of c.args.basis.now.walk.now.program.now) (rel_of c.args.basis.now.walk.now.sets.now) (g.A.Assigned.assigned c.args.basis.now.walk.now.assigned.now) (row_at c.args.basis.now.over.now) c.args.basis.now.grounds.now c.args.most c.args.first c.args.told.now.items
    (map explained_data c.args.all.now.items)

pub loop-preserved : goal.loop-preserved
loop-preserved g c =
    let P = program_of c.args.basis.now.walk.now.program.now in
    let A = g.A.Assigned.assigned c.args.basis.now.walk.now.assigned.now in
    let method = method_of c.in-Some.found.method.now in
    follows_more P (rel_of c.args.basis.now.walk.now.sets.now) A (row_at c.args.basis.now.over.now) c.args.basis.now.grounds.now c.args.most c.loop.counter c.args.first c.args.told.now.items (map explained_data c.args.all.now.items)
    c.loop.next c.loop.told.items (map explained_data c.loop.all.items) c.in-Some.found.id method (explained_data c.in_ok-x.x) c.led_to-next.result
    (slice_set c.loop.told.items c.id.inside.0 true) (map explained_data c.push.new.self.items) c.loop-test.true c.loop.invariant
    (subst (λ t. IsToldNext P A t c.loop.next c.in-Some.found.id method) c.as_slice.ensures.value c.in-Some.ensures.some)
    c.in_ok-x.ensures c.led_to-next.ensures (ap (λ k. slice_set c.loop.told.items k true) c.id.view_is)
    (ap (map explained_data) c.in_ok-push.ensures.items ∙ map-append explained_data c.loop.all.items (c.in_ok-x.x ∷ []))
