use Rattle.std.proofs.Common.{ap, sym, ◌∙◌}
use Rattle.algebra.specs.HeldPaths.{has_path}
use Rattle.core_program.specs.Views.{program_of}
use Rattle.rules.specs.Near.{rel_of}
use Rattle.explain.specs.Explaining.{is_error_of_part}
use Rattle.explain.specs.Views.{part_of_walk}
use Rattle.explain.proofs.Reasons.{own_found}
use Rattle.explain.proofs.errors.own_place.Goals as goal

pub returns-then-branch : goal.returns-then-branch
returns-then-branch g c =
    let P = program_of c.args.walk.now.program.now in
    let rel = rel_of c.args.walk.now.sets.now in
    let error = c.index-errors-place.result in
    own_found P rel c.args.errors.now c.loop-place.place error c.loop-place-test.true c.index-errors-place.is c.loop-place.invariant
    (sym (c.in_ok-is_own.ensures ∙ ap (λ z. is_error_of_part P rel (part_of_walk error.part) (has_path z)) c.as_slice.ensures.value) ∙ c.if-branch.true)
