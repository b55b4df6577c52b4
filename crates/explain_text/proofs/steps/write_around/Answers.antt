use Rattle.std.proofs.Common.{string_bytes}
use Rattle.explain_text.proofs.Texts.{next, pushes, wrote}
use Rattle.explain_text.proofs.steps.write_around.Goals as goal

-- the method's place, the words, and the code
pub returns : goal.returns
returns g c =
    pushes c.push_str.result _ _
    (next _ (wrote (string_bytes c.args.out.now) _ (rw c.name_offset.ensures at c.in_ok-begin_line.ensures)) c.in_ok-write_around_text.ensures)
    c.push_str.ensures.bytes
