use Rattle.std.proofs.Common.{◌≡◌, ◌++◌, drop}
use Rattle.level_check.specs.Passed.{passed_names}
use Rattle.level_check.proofs.passed.names_in_callee.Given as goal

-- the names so far and those from the slots that are left are all
abbrev pub invariant-loop-place : goal.invariant-loop-place
invariant-loop-place l = l.names.items ++ passed_names l.place (drop l.place l.passed.items) l.held ≡ passed_names 0 l.passed.items l.held
