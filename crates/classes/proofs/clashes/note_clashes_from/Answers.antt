-- The methods that are left.
use Rattle.std.proofs.Common.{map, sym, ap, ◌∙◌}
use Rattle.std.proofs.lemmas.List.{drop-map}
use Rattle.classes.specs.Families.{tree_of, heading_data, rows_data, class_headings}
use Rattle.classes.specs.Faults.{override_faults}
use Rattle.classes.specs.Lines.{ancestors_of}
use Rattle.classes.specs.Noted.{noted}
use Rattle.classes.proofs.clashes.note_clashes_from.Goals as goal

pub returns-then-well-own : goal.returns-then-well-own
returns-then-well-own c =
    c.note_clashes.ensures
    ∙ ap (λ l. noted c.args.first (override_faults (class_headings (rows_data c.args.inheritance.now.headings.now)) (ancestors_of (tree_of c.args.inheritance.now.family.now) c.args.number) l))
    (ap (map heading_data) c.behind.ensures ∙ sym (drop-map heading_data c.args.well c.args.own.now))
