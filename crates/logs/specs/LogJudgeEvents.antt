-- What a line says, as a line of the system of logs: each word stands for its number.
use Rattle.std.specs.Prelude.{Some, None}
use Rattle.logs.specs.Events as logs
use Rattle.logs.specs.Said.{DeedData, Take, Give, Read, Write, Change, Start, Join, Stop, Begin, End, SaidData}
use Rattle.logs.specs.Numbers.{number_of_word}

abbrev pub event_of : DeedData → logs.Event
event_of (Take l) = logs.Take (number_of_word l)
event_of (Give l) = logs.Give (number_of_word l)
event_of (Read p v) = logs.Access (number_of_word p) (Some v) None
event_of (Write p v) = logs.Access (number_of_word p) None (Some v)
event_of (Change p v w) = logs.Access (number_of_word p) (Some v) (Some w)
event_of (Start t) = logs.Start (number_of_word t)
event_of (Join t) = logs.Join (number_of_word t)
event_of Stop = logs.Stop
event_of (Begin b) = logs.Begin (number_of_word b)
event_of End = logs.End

abbrev pub log_line_of : SaidData → logs.LogLine
log_line_of s = record { thread = number_of_word s.thread; event = event_of s.deed }
