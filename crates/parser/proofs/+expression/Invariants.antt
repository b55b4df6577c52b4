use Rattle.std.proofs.Common.{◌≡◌, ◌+◌, ◌-◌, ◌<◌, ◌≤◌, map, length, ◌*◌}
use Rattle.syntax.specs.Heights.{height as height_of, heights}
use Rattle.syntax.specs.Tokens.{is}
use Rattle.syntax.specs.declared.terminal.Terminal.TheVariants as T
use Rattle.syntax.specs.Views.{expr_tree, exprs_from}
use Rattle.parser.specs.Combine.{comma_step, loop}
use Rattle.parser.specs.Words.{is_op}
use Rattle.parser.specs.Expressions.{arguments as arguments_at, below, chain_with, levels_from, dots as dots_at, member_step, op_step}
use Rattle.parser.proofs.+expression.Given as goal

abbrev pub decreases-expression::argument_list : goal.decreases-expression::argument_list
decreases-expression::argument_list l = 40 * l.high + 11

abbrev pub decreases-expression::arguments_in_parentheses : goal.decreases-expression::arguments_in_parentheses
decreases-expression::arguments_in_parentheses l = 40 * l.high + 12

abbrev pub decreases-expression::chain : goal.decreases-expression::chain
decreases-expression::chain l = 40 * l.high + 30

abbrev pub decreases-expression::dots : goal.decreases-expression::dots
decreases-expression::dots l = 40 * l.high + 16

abbrev pub decreases-expression::member : goal.decreases-expression::member
decreases-expression::member l = 40 * l.high + 15

abbrev pub decreases-expression::member_rest : goal.decreases-expression::member_rest
decreases-expression::member_rest l = 40 * l.high + 14

abbrev pub decreases-expression::negated : goal.decreases-expression::negated
decreases-expression::negated l = 40 * l.high + 18

abbrev pub decreases-expression::new_rest : goal.decreases-expression::new_rest
decreases-expression::new_rest l = 40 * l.high + 13

abbrev pub decreases-expression::next_argument : goal.decreases-expression::next_argument
decreases-expression::next_argument l = 40 * l.high + 10

abbrev pub decreases-levels::operation : goal.decreases-levels::operation
decreases-levels::operation l = 40 * l.high + 10

abbrev pub decreases-levels::operators : goal.decreases-levels::operators
decreases-levels::operators l = 40 * l.high + 11

abbrev pub decreases-levels::operations : goal.decreases-levels::operations
decreases-levels::operations l = 40 * l.high + 20

abbrev pub decreases-expression::parenthesised : goal.decreases-expression::parenthesised
decreases-expression::parenthesised l = 40 * l.high + 13

abbrev pub decreases-expression::postfix : goal.decreases-expression::postfix
decreases-expression::postfix l = 40 * l.high + 18

abbrev pub decreases-expression::primary : goal.decreases-expression::primary
decreases-expression::primary l = 40 * l.high + 17

abbrev pub decreases-expression::unary : goal.decreases-expression::unary
decreases-expression::unary l = 40 * l.high + 19

abbrev pub invariant-expression::argument_list-loop-alloc : goal.invariant-expression::argument_list-loop-alloc
invariant-expression::argument_list-loop-alloc l = record {
  told : loop (is T.Comma) (comma_step (below l.high 6)) (map expr_tree l.list.items.items) l.list.rest.now ≡ arguments_at l.high (below l.high) l.tokens;
  height : l.list.height ≡ heights (exprs_from (map expr_tree l.list.items.items));
  limit : l.list.height < l.high;
}

abbrev pub decreases-expression::argument_list-loop-alloc : goal.decreases-expression::argument_list-loop-alloc
decreases-expression::argument_list-loop-alloc l = length l.list.rest.now

abbrev pub invariant-expression::dots-loop-alloc : goal.invariant-expression::dots-loop-alloc
invariant-expression::dots-loop-alloc l = record {
  told : loop (is T.Dot) (member_step l.high (below l.high)) (expr_tree l.whole.tree.value) l.whole.rest.now ≡ dots_at l.high (below l.high) (expr_tree l.fn.front.tree.value) l.fn.front.rest.now;
  height : l.whole.height ≡ height_of (expr_tree l.whole.tree.value);
  limit : l.whole.height ≤ l.high;
}

abbrev pub decreases-expression::dots-loop-alloc : goal.decreases-expression::dots-loop-alloc
decreases-expression::dots-loop-alloc l = l.high - l.whole.height

abbrev pub invariant-levels::operators-loop-alloc : goal.invariant-levels::operators-loop-alloc
invariant-levels::operators-loop-alloc l = record {
  told : loop (is_op l.levels) (op_step l.high (below l.high) (l.levels - 1)) (expr_tree l.whole.tree.value) l.whole.rest.now
      ≡ loop (is_op l.levels) (op_step l.high (below l.high) (l.levels - 1)) (expr_tree l.fn.front.tree.value) l.fn.front.rest.now;
  height : l.whole.height ≡ height_of (expr_tree l.whole.tree.value);
  limit : l.whole.height ≤ l.high;
}

abbrev pub decreases-levels::operators-loop-alloc : goal.decreases-levels::operators-loop-alloc
decreases-levels::operators-loop-alloc l = l.high - l.whole.height

abbrev pub invariant-levels::operations-loop-done : goal.invariant-levels::operations-loop-done
invariant-levels::operations-loop-done l = record {
  told : levels_from l.high (below l.high) (l.levels - l.done) l.done (expr_tree l.whole.tree.value) l.whole.rest.now ≡ chain_with l.high (below l.high) l.levels l.tokens;
  height : l.whole.height ≡ height_of (expr_tree l.whole.tree.value);
  limit : l.whole.height ≤ l.high;
}

abbrev pub decreases-levels::operations-loop-done : goal.decreases-levels::operations-loop-done
decreases-levels::operations-loop-done l = l.levels - l.done
