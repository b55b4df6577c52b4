use Rattle.core_program.specs.Views.{program_of}
use Rattle.rules.specs.Near.{rel_of}
use Rattle.refutation.specs.Wrongs.{PassBefore, placed_at}
use Rattle.refutation.proofs.check.unplaced.Given as goal

-- the lines so far have their places
abbrev pub invariant-loop-at : goal.invariant-loop-at
invariant-loop-at l = PassBefore (placed_at (program_of l.program) (rel_of l.sets)) l.lines l.at
