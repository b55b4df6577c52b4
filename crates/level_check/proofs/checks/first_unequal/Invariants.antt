use Rattle.std.proofs.Common.{◌≡◌, ◌<◌, ℕ}
use Rattle.core_program.specs.Views.{program_of}
use Rattle.level_check.specs.Faults.{Differs}
use Rattle.level_check.proofs.checks.first_unequal.Given as goal

abbrev pub invariant-loop-class : goal.invariant-loop-class
invariant-loop-class l = (l.id ≡ l.class-index) × ((d : ℕ) → d < l.class-index → Differs (program_of l.program) l.levels d → ⊥)
