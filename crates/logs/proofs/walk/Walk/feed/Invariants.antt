use Rattle.std.proofs.Common.{◌≡◌, ◌<◌, drop}
use Rattle.logs.specs.Views.{guards_data}
use Rattle.logs.specs.Stops.{stand_of}
use Rattle.logs.specs.Walks.{walked}
use Rattle.logs.proofs.walk.Walk.feed.Given as goal

abbrev pub invariant-loop-byte : goal.invariant-loop-byte
invariant-loop-byte l = record {
  line : 0 < l.self.line;
  walked : walked (guards_data l.guards) (stand_of l.initial.self) l.bytes ≡ walked (guards_data l.guards) (stand_of l.self) (drop l.byte-index l.bytes);
}
