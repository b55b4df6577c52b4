use Rattle.std.proofs.Common.{◌≡◌, inl, inr, sym, ◌∙◌}
use Rattle.std.proofs.lemmas.Result.{IfOk-weaker}
use Rattle.classes.specs.Families.{tree_of, rows_data, class_headings, AreHeadings}
use Rattle.classes.specs.Overriding.{headings_at}
use Rattle.classes.proofs.Alone.{none_inherit}
use Rattle.classes.proofs.overriding.headings_where_inherited.Goals as goal

pub returns-then-has_heirs : goal.returns-then-has_heirs
returns-then-has_heirs c =
    let tree = tree_of c.args.family.now in
    IfOk-weaker c.all_headings.result (λ rows. class_headings (rows_data rows.items) ≡ headings_at tree) (λ rows. AreHeadings tree (class_headings (rows_data rows.items)))
    (λ rows known. inl known) c.all_headings.ensures

pub returns-else-has_heirs : goal.returns-else-has_heirs
returns-else-has_heirs c = inr (none_inherit (tree_of c.args.family.now) c.args.family.now.above.items c.requires.above (sym c.has_heirs.ensures ∙ c.if-has_heirs.false))
