use Rattle.std.proofs.Common.{◌≡◌, ◌≤◌, ◌<◌, ◌^◌, ◌-◌, length, take}
use Rattle.std.specs.Char.{is_ascii_digit}
use Rattle.std.specs.List.{prefix_len}
use Rattle.std.specs.Str.Parse.{digits_value}
use Rattle.schedule.proofs.numbers.leading_digits.Given as goal

abbrev pub invariant-digits : goal.invariant-digits
invariant-digits l = (l.length ≤ prefix_len is_ascii_digit l.text) × (l.value ≡ digits_value 10 (take l.length l.text)) × (l.value < 2 ^ 64)

abbrev pub decreases-digits : goal.decreases-digits
decreases-digits l = length l.text - l.length
