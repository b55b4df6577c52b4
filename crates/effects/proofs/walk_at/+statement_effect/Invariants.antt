use Rattle.std.proofs.Common.{◌≡◌, drop}
use Rattle.algebra.specs.Basics.{seq_of}
use Rattle.algebra.specs.HeldPaths.{has_path}
use Rattle.core_program.specs.Views.{program_of, stmts_from}
use Rattle.rules.specs.Near.{rel_of}
use Rattle.rules.specs.Effect.{block_effect}
use Rattle.effects.proofs.walk_at.+statement_effect.Given as goal

-- the effect so far and that of the rest, at the set that the statements so far leave, are that of all
abbrev pub invariant-block_effect-loop-s : goal.invariant-block_effect-loop-s
invariant-block_effect-loop-s g l =
    let P = program_of l.program in let rel = rel_of l.sets in let A = g.A.Assigned.assigned l.assigned in
    seq_of l.so_far (block_effect P rel A (stmts_from (drop l.s-index l.body)) (has_path l.now.items)) ≡ block_effect P rel A (stmts_from l.body) (has_path l.held)
