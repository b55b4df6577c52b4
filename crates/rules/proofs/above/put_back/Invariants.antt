-- What was known above the own methods so far is in the table again.
use Rattle.std.proofs.Common.{◌≡◌, ◌≤◌, length, Some}
use Rattle.std.specs.Prelude.{slice_get}
use Rattle.core_program.specs.Views.{kept_classes}
use Rattle.rules.specs.Above.{above_class, own_end, own_first, nearest_from, own_with}
use Rattle.rules.proofs.AboveLemmas.{Turning}
use Rattle.rules.proofs.above.put_back.Given as goal

abbrev pub invariant-loop-place : goal.invariant-loop-place
invariant-loop-place l = record {
  low : own_first (slice_get (kept_classes l.program) l.class) ≤ l.place;
  end : l.place-end ≡ own_end (length l.program.names.items) (slice_get (kept_classes l.program) l.class);
  turning : Turning (own_with l.program l.class) (nearest_from l.program (Some l.class)) (nearest_from l.program (above_class l.program l.class)) l.place l.current;
}
