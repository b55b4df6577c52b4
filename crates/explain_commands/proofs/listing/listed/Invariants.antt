use Rattle.std.proofs.Common.{◌≡◌, ◌++◌, drop, map, string_bytes}
use Rattle.classes.specs.Views.{table_data}
use Rattle.core_program.specs.Views.{method_of, program_of}
use Rattle.explain_commands.specs.Explained.{page_of}
use Rattle.explain_commands.specs.Listed.{lines_from}
use Rattle.rules.specs.Near.{rel_of}
use Rattle.syntax.specs.Views.{member_of}
use Rattle.explain_commands.proofs.listing.listed.Given as goal

-- the lines so far and those of the rest are those of all
abbrev pub invariant-loop-k : goal.invariant-loop-k
invariant-loop-k g l =
    let P = program_of l.walk.program.now in
    let rel = rel_of l.walk.sets.now in
    let A = g.A.Assigned.assigned l.walk.assigned.now in
    let pages = page_of l.told.file.now l.told.index.now (table_data l.told.source.now.table) (map (λ m. member_of m.now) l.told.methods.now.items) in
    string_bytes l.text ++ lines_from P rel A pages l.k (map method_of (drop l.k l.method-items)) ≡ lines_from P rel A pages 0 (map method_of l.method-items)
