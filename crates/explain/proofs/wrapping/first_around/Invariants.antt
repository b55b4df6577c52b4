use Rattle.std.proofs.Common.{◌≡◌, drop}
use Rattle.algebra.specs.Basics.{below_of}
use Rattle.paths.specs.Paths.{PathData}
use Rattle.core_program.specs.Views.{method_of, program_of}
use Rattle.rules.specs.Near.{rel_of}
use Rattle.explain.specs.Helping.{first_path}
use Rattle.explain.specs.Around.{wrapped}
use Rattle.explain.proofs.wrapping.first_around.Given as goal

-- the first lock that helps among those that are left is the first among all
abbrev pub invariant-loop-lock : goal.invariant-loop-lock
invariant-loop-lock g l =
    let P = program_of l.walk.program.now in
    let test = λ (p : PathData). below_of (wrapped P (rel_of l.walk.sets.now) (g.A.Assigned.assigned l.walk.assigned.now) (method_of l.method) p) l.limit in
    first_path test (drop l.lock-index l.locks) ≡ first_path test l.locks
