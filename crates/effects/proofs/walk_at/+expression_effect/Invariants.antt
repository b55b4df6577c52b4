use Rattle.std.proofs.Common.{◌≡◌, drop}
use Rattle.algebra.specs.Basics.{seq_of}
use Rattle.algebra.specs.HeldPaths.{has_path}
use Rattle.core_program.specs.Views.{program_of, exprs_from}
use Rattle.rules.specs.Near.{rel_of}
use Rattle.rules.specs.Effect.{exprs_effect}
use Rattle.effects.proofs.walk_at.+expression_effect.Given as goal

-- the effect so far and that of the rest are that of all
abbrev pub invariant-exprs_effect-loop-e : goal.invariant-exprs_effect-loop-e
invariant-exprs_effect-loop-e g l =
    let P = program_of l.program in let rel = rel_of l.sets in let A = g.A.Assigned.assigned l.assigned in
    seq_of l.so_far (exprs_effect P rel A (exprs_from (drop l.e-index l.es)) (has_path l.held)) ≡ exprs_effect P rel A (exprs_from l.es) (has_path l.held)
