use Rattle.std.proofs.Common.{sym, ap, ◌∙◌, ◌++◌}
use Rattle.core_program.specs.Core.{LocalS}
use Rattle.core_program.specs.Locks.{path_of}
use Rattle.core_program.specs.Views.{expr_of, stmt_of}
use Rattle.infer.specs.Bodies.{program_at}
use Rattle.infer.specs.Names.{names_from_slot}
use Rattle.effects.proofs.Values.{value_same}
use Rattle.infer.proofs.Locals.{left_renamed}
use Rattle.infer.proofs.local.before.Goals as goal

pub returns-clause-value : goal.returns-clause-value
returns-clause-value g c =
    let P = program_at c.args.walk.now in
    let arm = c.in-Local-default-true-default-default in
    let o = c.path_of-path.result in
    let path_is = c.path_of-path.ensures ∙ ap (λ e. path_of P (expr_of e)) c.deref.ensures in
    let first = c.in_ok-add_names.ensures ∙ (λ i. c.new-pairs.ensures.items i ++ names_from_slot arm.slot (c.as_ref.ensures.value i) (c.rel.ensures i)) in
    let second = c.in_ok-add_names-2.ensures ∙ (λ i. first i ++ names_from_slot arm.slot (c.as_ref-2.ensures.value i) (c.loc.ensures i)) in
    value_same g.G.Algebra.value _ c.rename.result _ _
    (λ H. ap (g.G.Algebra.value c.args.algebra.now c.args.rest)
    (left_renamed P c.args.walk.now.sets.now c.args.walk.now.method (stmt_of c.args.s.now) arm.slot arm.ty (expr_of arm.value.value) o c.add_names-2.new.pairs.items H
    (ap stmt_of arm.is ∙ ap (λ b. LocalS arm.slot b arm.ty (expr_of arm.value.value)) (sym arm.is_final-is ∙ arm.is_final-test)) path_is second))
    c.rename.ensures.value
