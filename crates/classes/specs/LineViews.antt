-- What a walk keeps of a line of classes, as plain data.
use Rattle.std.specs.Prelude.{map, reverse}
use Rattle.classes.specs.declared.alike.Standing as code
use Rattle.classes.specs.declared.alike.Standing.TheVariants as kept
use Rattle.classes.specs.declared.alike.Saved as code_saved
use Rattle.classes.specs.declared.alike.Line.{Line}
use Rattle.classes.specs.Families.{heading_data}
use Rattle.classes.specs.Alike.{Standing, Nowhere, Alike, Apart, Saved, LineState}

abbrev pub standing_data : code.Standing → Standing
standing_data kept.Nowhere = Nowhere
standing_data (kept.Alike h) = Alike (heading_data h.now)
standing_data kept.Apart = Apart

abbrev pub saved_data : code_saved.Saved → Saved
saved_data s = record { number = s.number; known = standing_data s.known }

-- the last one stands first
abbrev pub line_state : Line → LineState
line_state l = record { known = map standing_data l.known.items; saved = reverse (map saved_data l.saved.items) }
