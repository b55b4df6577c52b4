use Rattle.std.proofs.Common.{◌≡◌, ◌++◌, ◌∷◌, drop, map}
use Rattle.core_program.specs.Views.{program_of, core_class_of}
use Rattle.level_check.specs.Cells.{runs_of}
use Rattle.level_check.proofs.explore.first_methods.Given as goal

-- the methods so far, and then those of the classes that are left, are all
abbrev pub invariant-loop-class : goal.invariant-loop-class
invariant-loop-class l = l.methods.items ++ runs_of (map (core_class_of l.program) (drop l.class-index l.class-items)) ≡ (program_of l.program).main ∷ runs_of (map (core_class_of l.program) l.class-items)
