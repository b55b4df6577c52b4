use Rattle.std.proofs.Common.{string_bytes}
use Rattle.explain_text.proofs.Texts.{next, pushes, wrote}
use Rattle.explain_text.proofs.deeds.write_takes.Goals as goal

pub returns-in_ok-write_path-in-Some : goal.returns-in_ok-write_path-in-Some
returns-in_ok-write_path-in-Some c =
    rw c.in-Some.is
    (pushes c.push_str-in-Some.result _ _ (next _ (wrote (string_bytes c.args.out.now) _ c.in_ok-push_str-in-Some.ensures.bytes) c.in_ok-write_path-in-Some.ensures) c.push_str-in-Some.ensures.bytes)
