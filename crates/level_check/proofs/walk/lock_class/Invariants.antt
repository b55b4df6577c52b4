use Rattle.std.proofs.Common.{◌≡◌, drop}
use Rattle.std.specs.Prelude.{slice_get}
use Rattle.core_program.specs.Views.{program_of}
use Rattle.levels.specs.Walks.{last_type}
use Rattle.level_check.proofs.walk.lock_class.Given as goal

-- the fields that are left lead on from this type
abbrev pub invariant-loop-field : goal.invariant-loop-field
invariant-loop-field l = last_type (program_of l.walk.program.now) l.ty (drop l.field-index l.field-items) ≡ last_type (program_of l.walk.program.now) (slice_get l.walk.slots.now l.path.root) l.path.fields
