use Rattle.std.proofs.Common.{◌≡◌, ◌++◌, drop, map, string_bytes}
use Rattle.classes.specs.Views.{table_data}
use Rattle.explain_commands.specs.Explained.{page_of}
use Rattle.explain_commands.specs.Warned.{warning_lines}
use Rattle.syntax.specs.Views.{member_of}
use Rattle.explain_commands.proofs.warning.add_lines.Given as goal

-- the lines so far and those of the rest are those of all
abbrev pub invariant-loop-write : goal.invariant-loop-write
invariant-loop-write l =
    let pages = page_of l.told.file.now l.told.index.now (table_data l.told.source.now.table) (map (λ m. member_of m.now) l.told.methods.now.items) in
    string_bytes l.text ++ warning_lines pages (drop l.write-index l.writes) ≡ string_bytes l.fn.text ++ warning_lines pages l.writes
