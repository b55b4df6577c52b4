use Rattle.std.proofs.Common.{arith, ap, map}
use Rattle.syntax.specs.Heights.{height, heights}
use Rattle.syntax.specs.Views.{expr_tree, exprs_from}
use Rattle.parser.proofs.Loops.{heights_pushed}
use Rattle.parser.proofs.+expression.Goals as goal

pub expression::next_argument-returns-clause-height : goal.expression::next_argument-returns-clause-height
expression::next_argument-returns-clause-height t c =
    let pushed = heights_pushed c.args.so_far.items.items c.into_inner.result in
    let items = ap (λ z. heights (exprs_from (map expr_tree z))) c.in_ok-push.ensures.items in
    let same = ap (λ e. height (expr_tree e)) c.into_inner.ensures in
    omega (arith, pushed, items, same, c.max.ensures, c.requires.height, c.in_ok-argument.ensures.height)
