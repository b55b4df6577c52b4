use Rattle.std.proofs.Common.{◌≡◌, drop}
use Rattle.algebra.specs.declared.basic.Basic.TheVariants.{Mover}
use Rattle.algebra.specs.Basics.{below_of}
use Rattle.algebra.specs.HeldPaths.{has_path, with_path}
use Rattle.paths.specs.Paths.{PathData}
use Rattle.core_program.specs.Locks.{path_of}
use Rattle.core_program.specs.Views.{expr_of, exprs_from, program_of}
use Rattle.rules.specs.Effect.{call_of}
use Rattle.rules.specs.Mentions.{paths_of}
use Rattle.rules.specs.Near.{rel_of}
use Rattle.explain.specs.Helping.{first_path}
use Rattle.explain.proofs.NameLemmas.{names_in}
use Rattle.explain.proofs.deeds.call_help.Given as goal

-- the first name that helps among those that are left is the first among all
abbrev pub invariant-loop-name : goal.invariant-loop-name
invariant-loop-name g l =
    let P = program_of l.walk.program.now in
    let test = λ (p : PathData). below_of (call_of P (rel_of l.walk.sets.now) (g.A.Assigned.assigned l.walk.assigned.now) l.callee (path_of P (expr_of l.receiver)) (paths_of P (exprs_from l.args)) (with_path p (has_path l.held))) Mover in
    first_path test (names_in (drop l.name-index l.name-items)) ≡ first_path test (names_in l.name-items)
