use Rattle.std.proofs.Common.{string_bytes}
use Rattle.explain_text.proofs.Texts.{ends, wrote}
use Rattle.explain_text.proofs.deeds.write_guard.Goals as goal

pub returns-in_ok-push_str-in-WriteNamed : goal.returns-in_ok-push_str-in-WriteNamed
returns-in_ok-push_str-in-WriteNamed c = rw c.in-WriteNamed.is (ends c.write_path.result _ _ (wrote (string_bytes c.args.out.now) _ c.in_ok-push_str-in-WriteNamed.ensures.bytes) c.write_path.ensures)
