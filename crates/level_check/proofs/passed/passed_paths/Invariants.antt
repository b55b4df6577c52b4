use Rattle.std.proofs.Common.{◌≡◌, ◌∷◌, ◌++◌, drop}
use Rattle.core_program.specs.Locks.{path_of}
use Rattle.core_program.specs.Views.{program_of, expr_of, exprs_from}
use Rattle.rules.specs.Mentions.{paths_of}
use Rattle.level_check.proofs.passed.passed_paths.Given as goal

-- the paths so far and those of the rest are those of all
abbrev pub invariant-loop-arg : goal.invariant-loop-arg
invariant-loop-arg l =
    l.paths.items ++ paths_of (program_of l.program) (exprs_from (drop l.arg-index l.arg-items)) ≡ path_of (program_of l.program) (expr_of l.call.receiver.now) ∷ paths_of (program_of l.program) (exprs_from l.call.args.now)
