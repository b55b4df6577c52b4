use Rattle.std.proofs.Common.{◌≡◌, ◌++◌, List, drop}
use Rattle.core_program.specs.Views.{program_of}
use Rattle.explain.specs.declared.unguarded.BareWrite.{BareWrite}
use Rattle.explain.specs.Unguarded.{first_writes, writes_of}
use Rattle.explain.specs.Views.{visits_of}
use Rattle.explain.proofs.unguarded.add_each.Given as goal

-- what is kept so far, and then of the parts that are left, is what is kept of all
abbrev pub invariant-loop-part : goal.invariant-loop-part
invariant-loop-part l =
    (rest : List BareWrite) → (l.writes.items ++ first_writes l.writes.items (writes_of (program_of l.program) l.id (visits_of (drop l.part-index l.parts)) ++ rest))
    ≡ (l.fn.writes.items ++ first_writes l.fn.writes.items (writes_of (program_of l.program) l.id (visits_of l.parts) ++ rest))
