use Rattle.std.proofs.Common.{◌-◌, vec_len, refl, arith}
use Rattle.std.specs.Prelude.{None}
use Rattle.state.specs.Frames.{settled}
use Rattle.state.proofs.FrameLemmas.{on_last}
use Rattle.state.proofs.threads.settle_last.Goals as goal

pub returns-in-Some : goal.returns-in-Some
returns-in-Some c = on_last c.args.frames.now.items (vec_len c.args.frames.now - 1) c.in-Some.frame.now c.drop_to.new.self (settled c.args.drops None c.args.place) (omega (arith, c.in-Some.ensures.variant.0 refl)) c.in-Some.ensures.value c.drop_to.ensures
