use Rattle.std.proofs.Common.{map, refl, sym, ◌∙◌}
use Rattle.std.proofs.lemmas.Bool.{eqb-true}
use Rattle.std.proofs.lemmas.Option.{slice_get_read}
use Rattle.syntax.specs.Views.{member_of}
use Rattle.classes.specs.Families.{tree_of}
use Rattle.classes.proofs.OwnLemmas.{fields_differ}
use Rattle.classes.proofs.members.have_fields_apart.Goals as goal

pub returns-in-Some : goal.returns-in-Some
returns-in-Some c = λ e.
    fields_differ c.args.family.now.own.now (tree_of c.args.family.now) c.args.number c.in-Some.own.now (map member_of c.args.members.now) c.requires.family.own
    (slice_get_read c.args.family.now.own.now _ c.args.number c.in-Some.own.now refl c.in-Some.ensures.lookup.3.0 c.in-Some.ensures.lookup.1) c.requires.members
    (sym c.len.ensures ∙ eqb-true c.len.result c.count_fields.result e ∙ c.count_fields.ensures)
