use Rattle.std.proofs.Common.{◌-◌, Some, vec_len, refl, arith}
use Rattle.state.specs.Frames.{with_given}
use Rattle.state.proofs.FrameLemmas.{given_last, on_last_ok, last_spare}
use Rattle.state.proofs.threads.push_last.Goals as goal

pub returns-in-Some-clause-ok : goal.returns-in-Some-clause-ok
returns-in-Some-clause-ok c = given_last c.push.result c.args.frames.now.items (vec_len c.args.frames.now - 1) c.in-Some.frame.now c.push.new.self c.args.value (omega (arith, c.in-Some.ensures.variant.0 refl)) c.in-Some.ensures.value c.push.ensures.ok

pub returns-in-Some-clause-frames : goal.returns-in-Some-clause-frames
returns-in-Some-clause-frames c = on_last_ok c.push.result c.args.frames.now.items (vec_len c.args.frames.now - 1) c.in-Some.frame.now c.push.new.self (with_given (Some c.args.value)) (omega (arith, c.in-Some.ensures.variant.0 refl)) c.in-Some.ensures.value c.push.ensures.ok

pub returns-in-Some-clause-spare : goal.returns-in-Some-clause-spare
returns-in-Some-clause-spare c spare = c.push.ensures.spare (last_spare c.args.frames.now.items (vec_len c.args.frames.now - 1) c.in-Some.frame.now c.args.value (omega (arith, c.in-Some.ensures.variant.0 refl)) c.in-Some.ensures.value spare)
