use Rattle.std.proofs.Common.{length, ◌≡◌, ◌≤◌, ◌++◌, string_bytes}
use Rattle.schedule.specs.Written.{written}
use Rattle.schedule.proofs.writer.write_schedule.Given as goal

abbrev pub invariant-groups : goal.invariant-groups
invariant-groups l = record {
  done : string_bytes l.text ++ written l.rest ≡ written l.schedule;
  within : length l.rest ≤ length l.schedule;
}

abbrev pub decreases-groups : goal.decreases-groups
decreases-groups l = length l.rest
