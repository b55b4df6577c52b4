use Rattle.std.proofs.Common.{◌∙◌, Some, ap, option_map}
use Rattle.core_program.specs.Views.{stmt_of}
use Rattle.typing.specs.Rulings.{both}
use Rattle.typing.specs.Stmts.{if_node}
use Rattle.typing.specs.Views.{boxed_expr}
use Rattle.typing.proofs.Blocks.{one_branch}
use Rattle.typing.proofs.nodes.if_alone.Goals as goal

pub returns-clause-node : goal.returns-clause-node
returns-clause-node c =
    let condition = option_map boxed_expr c.args.condition in
    let then = option_map stmt_of c.args.then.node in
    c.if_node.ensures
    ∙ ap (λ z. option_map if_node (both condition (both z (Some (stmt_of c.in_ok-other.other.value))))) c.in_ok-then.ensures
    ∙ ap (λ z. option_map if_node (both condition (both then (Some (stmt_of z))))) c.in_ok-other.ensures.ok
    ∙ one_branch condition then
