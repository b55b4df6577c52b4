-- A call that lacks a path which its callee requires.
use Rattle.std.proofs.Common.{◌≡◌, not, ap, sym, ◌∙◌}
use Rattle.std.specs.List.{list_all}
use Rattle.algebra.specs.HeldPaths.{has_path}
use Rattle.core_program.proofs.ViewLemmas.{expr_of-Call}
use Rattle.core_program.specs.Locks.{path_of}
use Rattle.core_program.specs.Views.{expr_of, exprs_from, program_of}
use Rattle.effects.specs.Parts.{ExprP}
use Rattle.rules.specs.Effect.{held_under}
use Rattle.rules.specs.Mentions.{paths_of}
use Rattle.rules.specs.Near.{rel_of}
use Rattle.explain.specs.Explaining.{is_error_of_part}
use Rattle.explain.proofs.errors.is_own_expr.Goals as goal

pub returns-in_ok-known-in-Call : goal.returns-in_ok-known-in-Call
returns-in_ok-known-in-Call g c =
    let P = program_of c.args.walk.now.program.now in let rel = rel_of c.args.walk.now.sets.now in let H = has_path c.args.held.now in
    let m = c.in-Call.callee in
    let known : has_path c.as_slice-in-Call.result.now ≡ held_under (rel m) (path_of P (expr_of c.in-Call.receiver.value)) (paths_of P (exprs_from c.in-Call.args.items)) H =
    ap has_path c.as_slice-in-Call.ensures.value ∙ c.in_ok-known-in-Call.ensures
    ∙ (λ i. held_under (rel m) (path_of P (expr_of (c.deref.ensures i))) (paths_of P (exprs_from (c.as_slice.ensures.value i))) H) in
    ap not (c.has_all.ensures ∙ (λ i. list_all (known i) (c.required_of.ensures i)))
    ∙ ap (λ z. is_error_of_part P rel (ExprP z) H) (sym (ap expr_of c.in-Call.is ∙ expr_of-Call c.in-Call.receiver c.in-Call.callee c.in-Call.args))
