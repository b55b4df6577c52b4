use Rattle.core_program.specs.Views.{program_of}
use Rattle.rules.specs.Near.{rel_of}
use Rattle.explain.specs.Explaining.{is_error_of_part}
use Rattle.explain.proofs.Reasons.{Left}
use Rattle.explain.proofs.errors.own_place.Given as goal

-- no error before this place comes from its part itself
abbrev pub invariant-loop-place : goal.invariant-loop-place
invariant-loop-place g l = Left (λ v. is_error_of_part (program_of l.walk.program.now) (rel_of l.walk.sets.now) v.part v.held) l.errors l.place
