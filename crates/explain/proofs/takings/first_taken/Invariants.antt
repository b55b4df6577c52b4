use Rattle.std.proofs.Common.{◌≡◌, drop}
use Rattle.algebra.specs.HeldPaths.{has_path}
use Rattle.core_program.specs.Locks.{path_of}
use Rattle.core_program.specs.Views.{expr_of, exprs_from, program_of}
use Rattle.rules.specs.Mentions.{paths_of}
use Rattle.rules.specs.Near.{rel_of}
use Rattle.rules.specs.Search.{row_at}
use Rattle.explain.proofs.Taken.{first_named, is_named}
use Rattle.explain.proofs.takings.first_taken.Given as goal

-- the first lock among those that are left is the first among all
abbrev pub invariant-pairs : goal.invariant-pairs
invariant-pairs g l =
    let P = program_of l.walk.program.now in let rel = rel_of l.walk.sets.now in let A = g.A.Assigned.assigned l.walk.assigned.now in
    let test = is_named P rel A (row_at l.over l.callee) l.callee (path_of P (expr_of l.call.receiver.now)) (paths_of P (exprs_from l.call.args.now)) (has_path l.held) (has_path l.known.items) in
    first_named test (drop l.path-index l.path-items) ≡ first_named test l.path-items
