use Rattle.std.proofs.Common.{◌≡◌, ◌++◌, [], drop, map}
use Rattle.core_program.specs.Views.{method_of, program_of}
use Rattle.explain.specs.Unguarded.{first_writes, writes_from}
use Rattle.explain.proofs.unguarded.bare_writes.Given as goal

-- what is kept so far, and then of the methods that are left, is what is kept of all
abbrev pub invariant-loop-m : goal.invariant-loop-m
invariant-loop-m g l =
    let P = program_of l.walk.program.now in
    (l.writes.items ++ first_writes l.writes.items (writes_from P l.m (map method_of (drop l.m l.method-items)))) ≡ first_writes [] (writes_from P 0 (map method_of l.method-items))
