use Rattle.std.proofs.Common.{◌≡◌, ◌++◌, drop, map}
use Rattle.core_program.specs.Views.{field_of}
use Rattle.explain.proofs.final_fields.same_fields.Given as goal

-- the fields so far and those of the rest are all
abbrev pub invariant-loop-field : goal.invariant-loop-field
invariant-loop-field l = map field_of l.made.items ++ map field_of (drop l.field-index l.fields) ≡ map field_of l.fields
