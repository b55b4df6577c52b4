-- The writes that were found.
use Rattle.std.proofs.Common.{◌≡◌, ◌++◌, length, map, string_bytes, subst, sym, ◌∙◌, OnOk}
use Rattle.classes.specs.Views.{table_data}
use Rattle.core_program.specs.Views.{program_of}
use Rattle.syntax.specs.Views.{member_of}
use Rattle.explain_commands.specs.Explained.{page_of}
use Rattle.explain_commands.specs.Warned.{AreByMethods, warning_lines}
use Rattle.explain_commands.proofs.Warnings.{writes_there}
use Rattle.explain_commands.proofs.warning.add_warnings.Goals as goal

pub add_lines-requires : goal.add_lines-requires
add_lines-requires g c =
    let n = length c.args.told.now.methods.now.items in
    let P = program_of c.args.walk.now.program.now in
    subst (AreByMethods n) (sym (c.as_slice.ensures.value ∙ c.in_ok-writes.ensures)) (writes_there P n c.requires.there)

pub returns : goal.returns
returns g c =
    let told = c.args.told.now in
    let pages = page_of told.file.now told.index.now (table_data told.source.now.table) (map (λ m. member_of m.now) told.methods.now.items) in
    subst (λ ws. OnOk c.add_lines.result (string_bytes c.add_lines.new.text ≡ string_bytes c.args.text.now ++ warning_lines pages ws))
    (c.as_slice.ensures.value ∙ c.in_ok-writes.ensures) c.add_lines.ensures
