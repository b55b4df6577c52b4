use Rattle.std.proofs.Common.{string_bytes}
use Rattle.explain_text.proofs.Texts.{next, pushed, pushes, wrote}
use Rattle.explain_text.proofs.deeds.write_deed.Goals as goal

pub returns-in_ok-write_path-in-Locks : goal.returns-in_ok-write_path-in-Locks
returns-in_ok-write_path-in-Locks c =
    rw c.in-Locks.is
    (pushes c.push_str-in-Locks-2.result _ _ (next _ (wrote (string_bytes c.args.out.now) _ c.in_ok-push_str-in-Locks.ensures.bytes) c.in_ok-write_path-in-Locks.ensures) c.push_str-in-Locks-2.ensures.bytes)

pub returns-in-Starts : goal.returns-in-Starts
returns-in-Starts c = rw c.in-Starts.is (pushed c.push_str-in-Starts.result _ _ c.push_str-in-Starts.ensures.bytes)
