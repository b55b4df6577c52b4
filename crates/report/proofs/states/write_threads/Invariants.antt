use Rattle.std.proofs.Common.{◌≡◌, ◌++◌, drop, map, string_bytes}
use Rattle.classes.specs.Views.{table_data}
use Rattle.report.specs.States.{sight_by_methods, threads_text}
use Rattle.report.proofs.states.write_threads.Given as goal

-- the lines so far and those of the rest are those of all
abbrev pub invariant-loop-number : goal.invariant-loop-number
invariant-loop-number l =
    string_bytes l.text ++ threads_text (table_data l.table) l.number (map (sight_by_methods (λ f. f.method)) (drop l.number l.threads))
    ≡ string_bytes l.fn.text ++ threads_text (table_data l.table) 0 (map (sight_by_methods (λ f. f.method)) l.threads)
