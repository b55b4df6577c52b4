use Rattle.std.proofs.Common.{◌≡◌, ◌++◌, drop, map, string_bytes}
use Rattle.classes.specs.Views.{table_data}
use Rattle.conditions.specs.Conditions.{cond_of}
use Rattle.sources.specs.Check.{report_from}
use Rattle.sources.proofs.check_command.report.Given as goal

-- the lines so far and those of the rest are those of all
abbrev pub invariant-loop-m : goal.invariant-loop-m
invariant-loop-m l = string_bytes l.text ++ report_from (table_data l.table) l.m (map cond_of (drop l.m l.trees)) ≡ report_from (table_data l.table) 0 (map cond_of l.trees)
