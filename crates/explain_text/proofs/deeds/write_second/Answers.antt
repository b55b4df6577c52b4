use Rattle.std.proofs.Common.{string_bytes}
use Rattle.explain_text.proofs.Texts.{ends, wrote}
use Rattle.explain_text.proofs.deeds.write_second.Goals as goal

pub returns-in_ok-push_str-in-Some : goal.returns-in_ok-push_str-in-Some
returns-in_ok-push_str-in-Some c = rw c.in-Some.is (ends c.write_path.result _ _ (wrote (string_bytes c.args.out.now) _ c.in_ok-push_str-in-Some.ensures.bytes) c.write_path.ensures)
