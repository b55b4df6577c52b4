use Rattle.std.proofs.Common.{length, take, ◌-◌, ◌≡◌, ◌+◌, ◌≤◌}
use Rattle.std.specs.Io.KnownBytes.{Appends}
use Rattle.edge.proofs.transfer.write_all.Given as goal

abbrev pub invariant-pieces : goal.invariant-pieces
invariant-pieces g l = record {
  within : l.written ≤ length l.bytes;
  grew : Appends (g.K.Sink.written l.initial.sink) (g.K.Sink.written l.sink) (take l.written l.bytes);
  calm : g.K.Sink.faults l.sink ≡ g.K.Sink.faults l.initial.sink;
  counted : g.K.Sink.calls l.sink ≤ g.K.Sink.calls l.initial.sink + l.written;
}

abbrev pub decreases-pieces : goal.decreases-pieces
decreases-pieces g l = length l.bytes - l.written
