-- One method more is laid.
use Rattle.std.proofs.Common.{Some, refl, arith}
use Rattle.rules.proofs.RangeLemmas.{laid_down}
use Rattle.rules.proofs.laying.go_down.Goals as goal

pub returns : goal.returns
returns c nexts ranges laid =
    laid_down nexts c.args.node c.len.result c.args.order.now.items c.push.new.self.items c.args.begun.now c.put_begun.new.begun ranges (Some c.len.result) c.in_ok-method_at.field-0
    c.in_ok-method_at.ensures c.in_ok-push.ensures.items (omega (arith, c.len.ensures, c.push.new.self.ok.0)) refl c.put_begun.ensures.here c.put_begun.ensures.others laid
