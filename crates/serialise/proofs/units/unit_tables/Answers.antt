use Rattle.serialise.specs.UnitMaps.{maps_of}
use Rattle.serialise.proofs.Found.{sizes_low}
use Rattle.serialise.proofs.units.unit_tables.Goals as goal

pub note-requires : goal.note-requires
note-requires c = sizes_low (maps_of c.loop-place.tables) c.loop-place.place c.args.steps.now c.loop-place.invariant.1 c.requires
