use Rattle.std.proofs.Common.{◌≡◌, drop, map}
use Rattle.core_program.specs.Views.{method_of, program_of}
use Rattle.explain.specs.Strict.{keep_from}
use Rattle.explain.proofs.strict.keep_strictly.Given as goal

-- what is said of the methods that are left is said of all
abbrev pub invariant-loop-m : goal.invariant-loop-m
invariant-loop-m g l =
    let P = program_of l.walk.program.now in let A = g.A.Assigned.assigned l.walk.assigned.now in
    keep_from P A l.m (map method_of (drop l.m l.method-items)) ≡ keep_from P A 0 (map method_of l.method-items)
