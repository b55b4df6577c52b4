use Rattle.std.proofs.Common.{drop, map}
use Rattle.core_program.specs.Views.{core_class_of, program_of}
use Rattle.explain.proofs.EntryMarks.{AreMarkedBefore}
use Rattle.explain.proofs.entries.entry_marks.Given as goal

-- what is marked so far, and what is to be marked for the classes that are left, is all
abbrev pub invariant-loop-class : goal.invariant-loop-class
invariant-loop-class l = AreMarkedBefore (program_of l.program) l.marks.items (map (core_class_of l.program) (drop l.class-index l.class-items))
