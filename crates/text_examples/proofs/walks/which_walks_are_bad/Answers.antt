use Rattle.std.proofs.Common.{refl, arith, false, [], ◌∷◌, Some, inl}
use Rattle.core_program.specs.Core.{EmptyS}
use Rattle.core_examples.specs.Seen.{here, there}
use Rattle.levels.specs.Contexts.{Context, at_main, at_start, at_call}
use Rattle.rules.specs.Effect.{held_under}
use Rattle.text_examples.specs.Walked.{buffers, of_buffers, all_one, to_path, from_path, held_in_append, held_once}
use Rattle.text_examples.proofs.Found.{first_lock, second_lock}
use Rattle.text_examples.proofs.walks.which_walks_are_bad.Goals as goal

in_run : Context buffers of_buffers all_one 2 (λ q. false) 0
in_run = at_start (1, _, refl, refl)

in_append : Context buffers of_buffers all_one 1 held_in_append 0
in_append = at_call _ 1 (λ k. held_under (of_buffers k) (Some to_path) (Some from_path ∷ []) (λ q. false)) 0 in_run refl (0, omega arith, refl) (inl refl)

pub returns-clause-main : goal.returns-clause-main
returns-clause-main c = at_main

pub returns-clause-start : goal.returns-clause-start
returns-clause-start c = in_run

pub returns-clause-call : goal.returns-clause-call
returns-clause-call c = in_append

pub returns-clause-bad : goal.returns-clause-bad
returns-clause-bad c = (_, held_in_append, 0, in_append, refl, (0, omega arith, refl))

pub returns-clause-circle : goal.returns-clause-circle
returns-clause-circle c = record {
  first = 0;
  second = 1;
  others = [];
  waits = (
    there,
    record { frame = _; below = []; running = refl; part = EmptyS; rest = []; acquires = refl; operand = refl; hold = held_once 1; held = second_lock; by = refl; another = λ e. absurd (omega arith) },
    (here, record { frame = _; below = []; running = refl; part = EmptyS; rest = []; acquires = refl; operand = refl; hold = held_once 0; held = first_lock; by = refl; another = λ e. absurd (omega arith) }),
  );
}
