-- What is noted along the whole walk.
use Rattle.classes.specs.Families.{tree_of, rows_data, class_headings}
use Rattle.classes.proofs.AlikeLemmas.{well_of_walk}
use Rattle.classes.proofs.alike.well_overriding.Goals as goal

pub returns : goal.returns
returns c =
    well_of_walk (tree_of c.args.family.now) c.args.family.now.above.items c.as_slice.result.now (class_headings (rows_data c.args.rows.now)) _ _ _
    c.in_ok-steps.steps.items c.as_slice-2.result.now c.take_steps.new.well.items c.in_ok-well.well.items
    c.requires.above c.as_slice.ensures.value c.in_ok-steps.ensures c.as_slice-2.ensures.value (c.in_ok-well.ensures.items_if_clones_equal (λ y same. same)) c.in_ok-take_steps.ensures
