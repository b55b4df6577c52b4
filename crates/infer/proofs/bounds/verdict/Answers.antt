use Rattle.std.proofs.Common.{◌∙◌, ap, sym, length, refl}
use Rattle.algebra.specs.HeldPaths.{has_path}
use Rattle.core_program.specs.Views.{program_of, method_of}
use Rattle.infer.specs.Verdicts.{assignment_of}
use Rattle.infer.proofs.LeastLemmas.{least_accepts}
use Rattle.rules.proofs.CallerLookups.{same_count}
use Rattle.infer.proofs.VerdictLemmas.{value_at, seen, first_broken, bounds_more, bounds_all, not_accepted, broken_by_all}
use Rattle.infer.proofs.bounds.verdict.Goals as goal

pub returns-then-not-below-clause-broken : goal.returns-then-not-below-clause-broken
returns-then-not-below-clause-broken g c =
    let P = program_of c.args.program.now in
    let A = assignment_of g.G.Algebra.value c.args.algebra.now c.args.inferred.now.methods.items in
    let method = c.method-item.result in
    let count = c.requires.count ∙ sym (same_count c.methods-method-items.result.now P.methods c.methods-method-items.ensures) in
    let found = c.at-found.ensures ∙ ap (λ ps. g.G.Algebra.value c.args.algebra.now c.index.result.now (has_path ps)) c.as_slice.ensures.value
    ∙ value_at g.G.Algebra.value c.args.algebra.now c.args.inferred.now.methods.items c.loop-m.m (length c.methods-method-items.result.now) c.index.result.now (has_path method.requires_.items) count c.loop-m-test.true c.index.ensures in
    let here = seen P A c.methods-method-items.result.now c.methods-method-items.ensures c.loop-m.m method c.bound_of-declared.result c.at-found.result c.loop-m-test.true c.method-item.is c.bound_of-declared.ensures found in
    let broken = first_broken P A c.loop-m.m (method_of method) c.bound_of-declared.result c.at-found.result here (sym c.below.ensures ∙ c.if-not-below.true) c.loop-m.invariant in
    broken

pub returns-then-not-below-clause-accepted : goal.returns-then-not-below-clause-accepted
returns-then-not-below-clause-accepted g c =
    let P = program_of c.args.program.now in
    let A = assignment_of g.G.Algebra.value c.args.algebra.now c.args.inferred.now.methods.items in
    let method = c.method-item.result in
    let count = c.requires.count ∙ sym (same_count c.methods-method-items.result.now P.methods c.methods-method-items.ensures) in
    let found = c.at-found.ensures ∙ ap (λ ps. g.G.Algebra.value c.args.algebra.now c.index.result.now (has_path ps)) c.as_slice.ensures.value
    ∙ value_at g.G.Algebra.value c.args.algebra.now c.args.inferred.now.methods.items c.loop-m.m (length c.methods-method-items.result.now) c.index.result.now (has_path method.requires_.items) count c.loop-m-test.true c.index.ensures in
    let here = seen P A c.methods-method-items.result.now c.methods-method-items.ensures c.loop-m.m method c.bound_of-declared.result c.at-found.result c.loop-m-test.true c.method-item.is c.bound_of-declared.ensures found in
    let broken = first_broken P A c.loop-m.m (method_of method) c.bound_of-declared.result c.at-found.result here (sym c.below.ensures ∙ c.if-not-below.true) c.loop-m.invariant in
    λ sets typed relevant few least. (λ ok. absurd cc, λ accepted. absurd (not_accepted P A typed c.loop-m.m c.bound_of-declared.result c.at-found.result broken sets relevant few least accepted))

pub returns-then-not-below-clause-refuted : goal.returns-then-not-below-clause-refuted
returns-then-not-below-clause-refuted g c =
    let P = program_of c.args.program.now in
    let A = assignment_of g.G.Algebra.value c.args.algebra.now c.args.inferred.now.methods.items in
    let method = c.method-item.result in
    let count = c.requires.count ∙ sym (same_count c.methods-method-items.result.now P.methods c.methods-method-items.ensures) in
    let found = c.at-found.ensures ∙ ap (λ ps. g.G.Algebra.value c.args.algebra.now c.index.result.now (has_path ps)) c.as_slice.ensures.value
    ∙ value_at g.G.Algebra.value c.args.algebra.now c.args.inferred.now.methods.items c.loop-m.m (length c.methods-method-items.result.now) c.index.result.now (has_path method.requires_.items) count c.loop-m-test.true c.index.ensures in
    let here = seen P A c.methods-method-items.result.now c.methods-method-items.ensures c.loop-m.m method c.bound_of-declared.result c.at-found.result c.loop-m-test.true c.method-item.is c.bound_of-declared.ensures found in
    let broken = first_broken P A c.loop-m.m (method_of method) c.bound_of-declared.result c.at-found.result here (sym c.below.ensures ∙ c.if-not-below.true) c.loop-m.invariant in
    λ sets typed relevant least. broken_by_all P A typed c.loop-m.m c.bound_of-declared.result c.at-found.result broken sets relevant least

pub loop-m-preserved : goal.loop-m-preserved
loop-m-preserved g c =
    let P = program_of c.args.program.now in
    let A = assignment_of g.G.Algebra.value c.args.algebra.now c.args.inferred.now.methods.items in
    let method = c.method-item.result in
    let count = c.requires.count ∙ sym (same_count c.methods-method-items.result.now P.methods c.methods-method-items.ensures) in
    let found = c.at-found.ensures ∙ ap (λ ps. g.G.Algebra.value c.args.algebra.now c.index.result.now (has_path ps)) c.as_slice.ensures.value
    ∙ value_at g.G.Algebra.value c.args.algebra.now c.args.inferred.now.methods.items c.loop-m.m (length c.methods-method-items.result.now) c.index.result.now (has_path method.requires_.items) count c.loop-m-test.true c.index.ensures in
    let here = seen P A c.methods-method-items.result.now c.methods-method-items.ensures c.loop-m.m method c.bound_of-declared.result c.at-found.result c.loop-m-test.true c.method-item.is c.bound_of-declared.ensures found in
    bounds_more P A c.loop-m.m (method_of method) c.bound_of-declared.result c.at-found.result here (sym c.below.ensures ∙ c.if-not-below.false) c.loop-m.invariant

pub returns-clause-holds : goal.returns-clause-holds
returns-clause-holds g c =
    let P = program_of c.args.program.now in
    let A = assignment_of g.G.Algebra.value c.args.algebra.now c.args.inferred.now.methods.items in
    let bounds = bounds_all P A c.methods-method-items.result.now c.methods-method-items.ensures c.loop-m.m c.loop-m-test.false c.loop-m.invariant in
    bounds

pub returns-clause-accepted : goal.returns-clause-accepted
returns-clause-accepted g c =
    let P = program_of c.args.program.now in
    let A = assignment_of g.G.Algebra.value c.args.algebra.now c.args.inferred.now.methods.items in
    let bounds = bounds_all P A c.methods-method-items.result.now c.methods-method-items.ensures c.loop-m.m c.loop-m-test.false c.loop-m.invariant in
    λ sets typed relevant few least. (λ ok. (least_accepts P sets A typed relevant few least).0 bounds, λ accepted. refl)
