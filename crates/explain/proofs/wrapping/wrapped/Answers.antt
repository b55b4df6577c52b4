-- A lock that isn't held is taken around the body.
use Rattle.std.proofs.Common.{◌≡◌, false, ◌∷◌, ap, sym, ◌∙◌}
use Rattle.algebra.specs.Basics.{lift_of}
use Rattle.algebra.specs.HeldPaths.{has_path, with_path}
use Rattle.core_program.specs.Views.{method_of, program_of}
use Rattle.rules.specs.Effect.{effect, sync_effect}
use Rattle.rules.specs.Near.{rel_of}
use Rattle.explain.proofs.wrapping.wrapped.Goals as goal

pub returns : goal.returns
returns g c =
    let P = program_of c.args.walk.now.program.now in let rel = rel_of c.args.walk.now.sets.now in let A = g.A.Assigned.assigned c.args.walk.now.assigned.now in
    let m = method_of c.args.method.now in
    let p = c.args.lock.now in
    let H = has_path m.requires_ in
    let free : H p ≡ false = sym (c.has.ensures ∙ ap (λ h. has_path h p) c.as_slice-held.ensures.value) ∙ c.if-has.false in
    c.lift.ensures
    ∙ ap lift_of (c.in_ok-taken.ensures ∙ ap (λ ps. effect P rel A m.body (has_path ps)) (c.as_slice.ensures.value ∙ c.in_ok-more.ensures ∙ ap (λ h. p ∷ h) c.as_slice-held.ensures.value))
    ∙ ap (λ t. sync_effect t (effect P rel A m.body H) (effect P rel A m.body (with_path p H))) (sym free)
