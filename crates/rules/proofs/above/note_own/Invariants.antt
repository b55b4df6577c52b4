-- What is noted so far is right.
use Rattle.std.proofs.Common.{◌≡◌, ◌≤◌, length}
use Rattle.std.specs.Prelude.{slice_get}
use Rattle.core_program.specs.Views.{kept_classes}
use Rattle.rules.specs.Above.{AreRight, own_end, own_first, nearest_above}
use Rattle.rules.proofs.above.note_own.Given as goal

abbrev pub invariant-loop-place : goal.invariant-loop-place
invariant-loop-place l = record {
  low : own_first (slice_get (kept_classes l.program) l.class) ≤ l.place;
  end : l.place-end ≡ own_end (length l.program.names.items) (slice_get (kept_classes l.program) l.class);
  right : AreRight (nearest_above l.program) l.noted;
}
