use Rattle.std.proofs.Common.{refl, ◌∙◌}
use Rattle.std.proofs.lemmas.Option.{slice_get_past, slice_get_read}
use Rattle.classes.specs.Families.{tree_of}
use Rattle.classes.proofs.OwnLemmas.{declared_here, declared_nowhere}
use Rattle.classes.proofs.family.Family.declares_field.Goals as goal

pub returns-in-Some : goal.returns-in-Some
returns-in-Some c =
    c.contains.ensures
    ∙ declared_here c.args.self.now.own.now (tree_of c.args.self.now) c.args.number c.in-Some.own.now c.args.text.now c.requires.own
    (slice_get_read c.args.self.now.own.now _ c.args.number c.in-Some.own.now refl c.in-Some.ensures.lookup.3.0 c.in-Some.ensures.lookup.1)

pub returns-in-None : goal.returns-in-None
returns-in-None c =
    declared_nowhere c.args.self.now.own.now (tree_of c.args.self.now) c.args.number c.args.text.now c.requires.own
    (slice_get_past c.args.self.now.own.now c.args.number c.in-None.ensures.lookup.3)
