-- A fault that isn't told.
use Rattle.std.proofs.Common.{◌≡◌, false, sym, subst, ◌∙◌}
use Rattle.classes.specs.declared.fault.ClassFault.TheVariants.{BadOverride}
use Rattle.classes.specs.Families.{tree_of, heading_data, rows_data, class_headings}
use Rattle.classes.specs.First.{is_told}
use Rattle.classes.specs.Faults.{class_fault_place}
use Rattle.classes.specs.Lines.{ancestors_of}
use Rattle.classes.specs.Overriding.{overrides_badly}
use Rattle.classes.proofs.ClashLemmas.{untold}
use Rattle.classes.proofs.clashes.note_clash.Goals as goal

pub returns-then-not-is_told : goal.returns-then-not-is_told
returns-then-not-is_told c =
    untold c.args.first (BadOverride c.args.one.now.name.now.at)
    (overrides_badly (class_headings (rows_data c.args.inheritance.now.headings.now)) (ancestors_of (tree_of c.args.inheritance.now.family.now) c.args.number) (heading_data c.args.one.now))
    (subst (λ n. is_told class_fault_place c.args.first (BadOverride n.at) ≡ false) c.name.view_is (sym c.is_told.ensures ∙ c.if-not-is_told.true))
