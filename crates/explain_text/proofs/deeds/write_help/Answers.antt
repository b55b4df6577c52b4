use Rattle.std.proofs.Common.{string_bytes}
use Rattle.explain_text.proofs.Texts.{ends, next, pushed, wrote}
use Rattle.explain_text.proofs.deeds.write_help.Goals as goal

pub returns-in_ok-push_str-in-Hold-2 : goal.returns-in_ok-push_str-in-Hold-2
returns-in_ok-push_str-in-Hold-2 c =
    rw c.in-Hold.is
    (ends c.write_second.result _ _
    (next _ (next _ (wrote (string_bytes c.args.out.now) _ c.in_ok-push_str-in-Hold.ensures.bytes) c.in_ok-write_path-in-Hold.ensures) c.in_ok-push_str-in-Hold-2.ensures.bytes)
    c.write_second.ensures)

pub returns-in_ok-push_str-in-Unnamed : goal.returns-in_ok-push_str-in-Unnamed
returns-in_ok-push_str-in-Unnamed c = rw c.in-Unnamed.is (ends c.write_lack.result _ _ (wrote (string_bytes c.args.out.now) _ c.in_ok-push_str-in-Unnamed.ensures.bytes) c.write_lack.ensures)

pub returns-in_ok-push_str-in-ReceiverUnnamed : goal.returns-in_ok-push_str-in-ReceiverUnnamed
returns-in_ok-push_str-in-ReceiverUnnamed c =
    rw c.in-ReceiverUnnamed.is
    (ends c.write_lack-in-ReceiverUnnamed.result _ _ (wrote (string_bytes c.args.out.now) _ c.in_ok-push_str-in-ReceiverUnnamed.ensures.bytes) c.write_lack-in-ReceiverUnnamed.ensures)

pub returns-in-NoneNamed : goal.returns-in-NoneNamed
returns-in-NoneNamed c = rw c.in-NoneNamed.is (pushed c.push_str-in-NoneNamed.result _ _ c.push_str-in-NoneNamed.ensures.bytes)
