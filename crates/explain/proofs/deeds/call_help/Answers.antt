use Rattle.std.proofs.Common.{Some, sym, ap, ◌∙◌}
use Rattle.core_program.specs.Locks.{path_of}
use Rattle.core_program.specs.Views.{expr_of, exprs_from, program_of}
use Rattle.rules.specs.Mentions.{paths_of}
use Rattle.rules.specs.Near.{rel_of}
use Rattle.explain.proofs.NameLemmas.{one_helps, none_helps}
use Rattle.explain.proofs.deeds.call_help.Goals as goal

pub returns-then-branch : goal.returns-then-branch
returns-then-branch g c =
    let P = program_of c.args.walk.now.program.now in
    ap Some c.copy.ensures
    ∙ one_helps _ c.as_slice-name-items.result.now c.loop-name.name-index (path_of P (expr_of c.args.receiver.now)) (paths_of P (exprs_from c.args.args.now)) (rel_of c.args.walk.now.sets.now c.args.callee)
    c.loop-name.invariant (c.as_slice-name-items.ensures.value ∙ c.renaming.view_is ∙ c.in_ok-renaming.ensures)
    c.loop-name-item.result c.in-Some.name c.loop-name-test.true c.loop-name-item.is c.in-Some.is (sym c.in_ok-moves_with.ensures ∙ c.if-branch.true)

pub returns : goal.returns
returns g c =
    let P = program_of c.args.walk.now.program.now in
    none_helps _ c.as_slice-name-items.result.now c.loop-name.name-index (path_of P (expr_of c.args.receiver.now)) (paths_of P (exprs_from c.args.args.now)) (rel_of c.args.walk.now.sets.now c.args.callee)
    c.loop-name.invariant (c.as_slice-name-items.ensures.value ∙ c.renaming.view_is ∙ c.in_ok-renaming.ensures) c.loop-name-test.false
