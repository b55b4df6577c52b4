-- An item behind the basics is a decision of the list.
use Rattle.std.proofs.Common.{◌≡◌, ◌-◌, sym, ap, ◌∙◌, subst, arith}
use Rattle.std.specs.Option.{option_copied}
use Rattle.conditions.specs.Nodes.{tree_at, item_tree, AreBefore}
use Rattle.conditions.proofs.Decisions.{item_at}
use Rattle.conditions.proofs.rows.Rows.item.Goals as goal

pub returns-in_default-clause-tree : goal.returns-in_default-clause-tree
returns-in_default-clause-tree c =
    subst (λ i. tree_at c.args.self.now c.args.n ≡ item_tree c.args.self.now i) (sym c.copy_of.ensures)
    (item_at c.self.inside.decisions.keys c.args.self.now c.unwrap.result.now c.args.n (c.args.n - 5) c.self.view_is c.self.invariant
    (omega (arith, c.in_default)) (sym c.get_index.ensures.key ∙ ap option_copied c.unwrap.ensures)).0

pub returns-in_default-clause-before : goal.returns-in_default-clause-before
returns-in_default-clause-before c =
    subst (AreBefore c.args.n) (sym c.copy_of.ensures)
    (item_at c.self.inside.decisions.keys c.args.self.now c.unwrap.result.now c.args.n (c.args.n - 5) c.self.view_is c.self.invariant
    (omega (arith, c.in_default)) (sym c.get_index.ensures.key ∙ ap option_copied c.unwrap.ensures)).1
