use Rattle.std.proofs.Common.{◌≡◌, Some, None, drop, subst}
use Rattle.core_program.specs.Views.{program_of}
use Rattle.rules.specs.Near.{rel_of}
use Rattle.explain.specs.Explaining.{first_wrong, wrong_of}
use Rattle.explain.specs.Views.{visits_of}
use Rattle.explain.proofs.Reasons.{wrong_taken}
use Rattle.explain.proofs.errors.wrong.Goals as goal

pub returns-in-Some : goal.returns-in-Some
returns-in-Some g c =
    let P = program_of c.args.walk.now.program.now in
    let rel = rel_of c.args.walk.now.sets.now in
    let found = subst (λ z. first_wrong (drop c.in_ok-place.place (visits_of z)) ≡ wrong_of P rel (visits_of z)) c.as_slice.ensures.value c.in_ok-place.ensures in
    wrong_taken (visits_of c.args.errors.items) c.in_ok-place.place (Some c.in-Some.error) (wrong_of P rel (visits_of c.args.errors.items)) c.in-Some.ensures found

pub returns-in-None : goal.returns-in-None
returns-in-None g c =
    let P = program_of c.args.walk.now.program.now in
    let rel = rel_of c.args.walk.now.sets.now in
    let found = subst (λ z. first_wrong (drop c.in_ok-place.place (visits_of z)) ≡ wrong_of P rel (visits_of z)) c.as_slice.ensures.value c.in_ok-place.ensures in
    wrong_taken (visits_of c.args.errors.items) c.in_ok-place.place None (wrong_of P rel (visits_of c.args.errors.items)) c.in-None.ensures found
