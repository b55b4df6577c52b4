use Rattle.std.proofs.Common.{◌≡◌, drop}
use Rattle.std.specs.Prelude.{slice_get}
use Rattle.std.specs.List.{list_all}
use Rattle.algebra.specs.HeldPaths.{has_path}
use Rattle.core_program.specs.Views.{program_of}
use Rattle.rules.specs.Near.{rel_of}
use Rattle.rules.specs.Rules.{held_in}
use Rattle.explain.specs.Takings.{takes_in}
use Rattle.explain.proofs.takings.overs_take.Given as goal

-- what is said of the methods that are left is said of all
abbrev pub invariant-loop-over : goal.invariant-loop-over
invariant-loop-over g l =
    let P = program_of l.walk.program.now in let rel = rel_of l.walk.sets.now in let A = g.A.Assigned.assigned l.walk.assigned.now in
    list_all (λ n. takes_in P rel A l.lock (slice_get P.methods n) (held_in (rel n) (has_path l.held))) (drop l.over-index l.overs)
    ≡ list_all (λ n. takes_in P rel A l.lock (slice_get P.methods n) (held_in (rel n) (has_path l.held))) l.overs
