use Rattle.std.proofs.Common.{sym, subst, ◌∙◌}
use Rattle.std.proofs.lemmas.Option.{none-some}
use Rattle.typing.specs.Order.{IsAncestorOrder}
use Rattle.typing.proofs.Ordering.{one_ordered}
use Rattle.typing.proofs.order.put_top.Goals as goal

pub returns-clause-ordered : goal.returns-clause-ordered
returns-clause-ordered c = λ above count alone ordered.
    subst (λ z. IsAncestorOrder above count c.put.new.values.items z) (sym c.in_ok-push.ensures.items)
    (one_ordered above count c.args.marks.now.items c.put.new.values.items c.args.order.now.items c.args.class c.requires.within c.put.ensures (λ d is. absurd (none-some d (sym alone ∙ is))) ordered)
