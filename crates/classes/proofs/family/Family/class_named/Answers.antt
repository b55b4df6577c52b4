use Rattle.std.proofs.Common.{◌∙◌}
use Rattle.classes.specs.Members.{class_names}
use Rattle.classes.specs.Families.{tree_of}
use Rattle.classes.proofs.Places.{found_by}
use Rattle.classes.proofs.family.Family.class_named.Goals as goal

pub returns : goal.returns
returns c =
    c.number_of.ensures
    ∙ found_by (class_names (tree_of c.args.self.now)) _ _ c.args.text.now c.requires.names (c.as_slice.ensures.value ∙ c.requires.firsts)
