-- The rest under the names from before the local was declared.
use Rattle.std.proofs.Common.{◌≡◌, true, sym, ap, ◌∙◌}
use Rattle.std.specs.Option.{option_copied}
use Rattle.conditions.specs.Conditions.{cond_of}
use Rattle.core_program.specs.Core.{LocalS}
use Rattle.core_program.specs.Locks.{path_of}
use Rattle.core_program.specs.Views.{expr_of, stmt_of, program_of}
use Rattle.rules.specs.Effect.{after_local, after_stmt}
use Rattle.conditions.specs.Shown.{node_value}
use Rattle.derive.proofs.CalledLemmas.{value_as, before_value}
use Rattle.derive.proofs.surroundings.before.Goals as goal

pub returns-clause-value : goal.returns-clause-value
returns-clause-value c =
    let P = program_of c.args.program.now in
    let arm = c.in-Local-default-true-default-default in
    let e = expr_of arm.value.value in
    let local : stmt_of c.args.s.now ≡ LocalS arm.slot true arm.ty e = ap stmt_of arm.is ∙ ap (λ b. LocalS arm.slot b arm.ty e) (sym arm.is_final-is ∙ arm.is_final-test) in
    let path_is = c.path_of-path.ensures ∙ ap (λ x. path_of P (expr_of x)) c.deref.ensures in
    value_as c.named.new.table c.named.result _ _
    (λ H. before_value (cond_of c.in_ok-tree.tree) arm.slot (option_copied c.as_ref.result) (path_of P e) H (c.as_ref.ensures.value ∙ path_is)
    ∙ c.in_ok-tree.ensures.value (after_local H arm.slot (path_of P e))
    ∙ ap (λ s. node_value c.args.table.now c.args.rest (after_stmt P s H)) (sym local))
    c.named.ensures.value
