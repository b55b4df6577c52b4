use Rattle.std.proofs.Common.{string_bytes}
use Rattle.explain_text.proofs.Texts.{ends, next, wrote}
use Rattle.explain_text.proofs.causes.write_requires.Goals as goal

pub returns : goal.returns
returns c =
    ends c.write_path.result _ _
    (next _ (next _ (wrote (string_bytes c.args.out.now) _ c.in_ok-push_str.ensures.bytes) c.in_ok-write_title.ensures.title) c.in_ok-push_str-2.ensures.bytes)
    c.write_path.ensures.path
