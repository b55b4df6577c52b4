use Rattle.std.proofs.Common.{◌+◌, ◌-◌, ◌++◌, refl, arith, string_bytes}
use Rattle.schedule.specs.Sources.{repeated}
use Rattle.schedule.proofs.Growing.{one_less}
use Rattle.schedule.proofs.making.write_times.Goals as goal

pub loop-piece-preserved : goal.loop-piece-preserved
loop-piece-preserved c =
    let piece = c.args.piece.now in
    one_less (λ m. repeated m piece) piece (λ m. refl) (string_bytes c.args.text.now ++ repeated c.args.count piece) (string_bytes c.loop-piece.text) (string_bytes c.push_str.new.self) c.args.count c.loop-piece._piece
    (omega (arith, c.loop-piece-test.true)) c.loop-piece.invariant c.in_ok-push_str.ensures.bytes
