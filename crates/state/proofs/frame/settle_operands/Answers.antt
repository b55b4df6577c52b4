use Rattle.std.proofs.Common.{◌≡◌, ◌-◌, length, reverse, sym, ap, subst, ◌∙◌, arith}
use Rattle.std.specs.Prelude.{OnOk}
use Rattle.state.specs.Values.{dropped}
use Rattle.state.specs.Frames.{frame_given}
use Rattle.state.proofs.Operands.{dropped-reverse, put_on}
use Rattle.state.proofs.frame.settle_operands.Goals as goal

pub returns-in-None-clause-ok : goal.returns-in-None-clause-ok
returns-in-None-clause-ok c =
    let kept : c.saturating_sub-kept.result ≡ length c.args.operands.now.items - c.args.drops = omega (arith, c.saturating_sub-kept.ensures, c.len.ensures) in
    ap reverse c.truncate.ensures.items ∙ sym (dropped-reverse c.args.drops c.saturating_sub-kept.result c.args.operands.now.items kept)
    ∙ sym (ap (λ o. frame_given o (dropped c.args.drops (reverse c.args.operands.now.items))) c.in-None.is)

pub returns-in-Some-clause-ok : goal.returns-in-Some-clause-ok
returns-in-Some-clause-ok c =
    let kept : c.saturating_sub-kept.result ≡ length c.args.operands.now.items - c.args.drops = omega (arith, c.saturating_sub-kept.ensures, c.len.ensures) in
    subst (λ o. OnOk c.put_at.result (reverse c.put_at.new.operands.items ≡ frame_given o (dropped c.args.drops (reverse c.args.operands.now.items)))) (sym c.in-Some.is)
    (put_on c.put_at.result c.put_at.new.operands.items c.args.operands.now.items c.args.drops c.saturating_sub-kept.result c.in-Some.value kept c.put_at.ensures.ok)
