use Rattle.std.proofs.Common.{refl, string_bytes}
use Rattle.std.proofs.lemmas.Result.{on_ok_weaker}
use Rattle.explain_text.proofs.Texts.{next, wrote}
use Rattle.explain_text.proofs.blocks.write_block.Goals as goal

-- the head, and what was written behind it
pub returns : goal.returns
returns g c =
    on_ok_weaker c.write_why.result
    (λ w. (
      _,
      (next w.0 (wrote (string_bytes c.args.out.now) _ c.in_ok-write_head.ensures) w.1).told,
      record { more = w.0; text_is = refl; why = w.2 },
    )) c.write_why.ensures
