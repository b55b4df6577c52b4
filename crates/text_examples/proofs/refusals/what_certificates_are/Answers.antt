use Rattle.std.proofs.Common.{refl, [], ◌∷◌}
use Rattle.algebra.specs.declared.basic.Basic.TheVariants.{Const, Mover}
use Rattle.refutation.specs.Wrongs.{placed_at, justified_at}
use Rattle.core_examples.specs.Bodies.{one_path}
use Rattle.text_examples.specs.Twice.{twice_program, of_twice, certificate_line, inc_atomic, inc_mover, twice_compound}
use Rattle.text_examples.proofs.Lines.{all_pass, pass_before, are_lines}
use Rattle.text_examples.proofs.refusals.what_certificates_are.Goals as goal

pub returns-clause-certificate : goal.returns-clause-certificate
returns-clause-certificate c = record { each = are_lines twice_program of_twice (inc_atomic ∷ inc_mover ∷ twice_compound ∷ []) refl refl; broken = refl }

pub returns-clause-place : goal.returns-clause-place
returns-clause-place c = (
  1,
  refl,
  record {
    line = certificate_line 0 Mover (one_path ∷ []);
    is = refl;
    fails = refl;
    before = pass_before (placed_at twice_program of_twice) 1 (inc_atomic ∷ certificate_line 0 Mover (one_path ∷ []) ∷ []) refl;
  },
)

pub returns-clause-place_before_step : goal.returns-clause-place_before_step
returns-clause-place_before_step c = (
  1,
  refl,
  record {
    line = certificate_line 3 Const [];
    is = refl;
    fails = refl;
    before = pass_before (placed_at twice_program of_twice) 1 (twice_compound ∷ certificate_line 3 Const [] ∷ []) refl;
  },
)

pub returns-clause-step : goal.returns-clause-step
returns-clause-step c = (
  0,
  refl,
  all_pass (placed_at twice_program of_twice) (twice_compound ∷ []) refl,
  record {
    line = twice_compound;
    is = refl;
    fails = refl;
    before = pass_before (justified_at twice_program of_twice (twice_compound ∷ [])) 0 (twice_compound ∷ []) refl;
  },
)

pub returns-clause-step_from_the_lock : goal.returns-clause-step_from_the_lock
returns-clause-step_from_the_lock c = (
  1,
  refl,
  all_pass (placed_at twice_program of_twice) (inc_mover ∷ twice_compound ∷ []) refl,
  record {
    line = twice_compound;
    is = refl;
    fails = refl;
    before = pass_before (justified_at twice_program of_twice (inc_mover ∷ twice_compound ∷ [])) 1 (inc_mover ∷ twice_compound ∷ []) refl;
  },
)

pub returns-clause-no_bound : goal.returns-clause-no_bound
returns-clause-no_bound c = (all_pass (placed_at twice_program of_twice) (inc_atomic ∷ []) refl, all_pass (justified_at twice_program of_twice (inc_atomic ∷ [])) (inc_atomic ∷ []) refl, refl)

pub returns-clause-nothing : goal.returns-clause-nothing
returns-clause-nothing c = (all_pass (placed_at twice_program of_twice) [] refl, all_pass (justified_at twice_program of_twice []) [] refl, refl)
