-- On circles nothing is noted; else those that are well are passed.
use Rattle.std.proofs.Common.{sym, ap, ◌∙◌}
use Rattle.classes.specs.Families.{tree_of, rows_data, class_headings}
use Rattle.classes.specs.Noted.{noted}
use Rattle.classes.proofs.AlikeLemmas.{none_on_circle, off_circle}
use Rattle.classes.proofs.clashes.note_bad_overrides.Goals as goal

pub returns-then-is_on_circle : goal.returns-then-is_on_circle
returns-then-is_on_circle c =
    sym (ap (noted c.args.first)
    (none_on_circle (tree_of c.args.inheritance.now.family.now) (class_headings (rows_data c.args.inheritance.now.headings.now)) c.args.number (sym c.is_on_circle.ensures ∙ c.if-is_on_circle.true)))

pub returns : goal.returns
returns c =
    c.note_clashes_after.ensures
    ∙ ap (noted c.args.first) (off_circle (tree_of c.args.inheritance.now.family.now) (class_headings (rows_data c.args.inheritance.now.headings.now)) c.args.inheritance.now.well.now c.args.number
    (sym c.is_on_circle.ensures ∙ c.if-is_on_circle.false) c.requires.well)
