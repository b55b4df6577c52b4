use Rattle.std.proofs.Common.{◌≡◌, drop}
use Rattle.log_guess.specs.Places.{guards_from}
use Rattle.log_guess.proofs.given.Giving.feed.Given as goal

abbrev pub invariant-loop-byte : goal.invariant-loop-byte
invariant-loop-byte l = record {
  read : guards_from l.initial.self l.bytes ≡ guards_from l.self (drop l.byte-index l.bytes);
}
