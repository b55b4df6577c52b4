use Rattle.std.proofs.Common.{◌≡◌, drop, map}
use Rattle.std.specs.List.{list_any}
use Rattle.core_program.specs.Views.{core_class_of}
use Rattle.explain.specs.Strict.{is_run}
use Rattle.explain.proofs.entries.runs.Given as goal

-- what is said of the classes that are left is said of all
abbrev pub invariant-loop-class : goal.invariant-loop-class
invariant-loop-class l = list_any (λ c. is_run l.id c.run) (map (core_class_of l.program) (drop l.class-index l.class-items)) ≡ list_any (λ c. is_run l.id c.run) (map (core_class_of l.program) l.class-items)
