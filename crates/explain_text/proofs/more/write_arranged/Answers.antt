use Rattle.std.proofs.Common.{refl, string_bytes}
use Rattle.std.proofs.lemmas.Result.{on_ok_weaker}
use Rattle.explain_text.proofs.Texts.{next, wrote}
use Rattle.explain_text.proofs.more.write_arranged.Goals as goal

-- the lines of the method, and what was written behind them
pub returns : goal.returns
returns g c =
    let w = c.in_ok-write_block.ensures in
    on_ok_weaker c.write_more.result (λ is. (_, (next _ (wrote (string_bytes c.args.out.now) w.0 w.1) is).told, record { block = w.0; is = w.2; text_is = refl })) c.write_more.ensures
