use Rattle.std.proofs.Common.{string_bytes}
use Rattle.explain_text.proofs.Texts.{next, pushes, wrote}
use Rattle.explain_text.proofs.steps.write_around_text.Goals as goal

pub returns : goal.returns
returns c =
    let first = next _ (wrote (string_bytes c.args.out.now) _ c.in_ok-push_str.ensures.bytes) c.in_ok-write_path.ensures in
    let second = next _ (next _ first c.in_ok-push_str-2.ensures.bytes) c.in_ok-write_title.ensures.title in
    pushes c.push_str-4.result _ _ (next _ second c.in_ok-push_str-3.ensures.bytes) (rw c.name.ensures at c.push_str-4.ensures.bytes)
