use Rattle.classes.specs.Families.{place_data}
use Rattle.classes.proofs.Meanings.{runs_out}
use Rattle.classes.proofs.overriding.are_same_places.Goals as goal

pub returns-in_default : goal.returns-in_default
returns-in_default c =
    runs_out place_data c.args.one.now c.loop-field.rest.now c.loop-field.field-index _ c.loop-field-test.true c.loop-field.invariant c.in_default.ensures.cases
