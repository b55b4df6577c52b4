-- The walk through each kind of expression, and through arguments.
use Rattle.std.proofs.Common.{◌≡◌, ap, sym, ◌∙◌, arith, subst}
use Rattle.std.proofs.Math.ListN.{drop_of_length-le}
use Rattle.std.proofs.lemmas.Result.{IfOk-weaker}
use Rattle.algebra.specs.HeldPaths.{has_path}
use Rattle.core_program.proofs.ViewLemmas.{expr_of-Call, expr_of-New}
use Rattle.core_program.specs.Locks.{path_of}
use Rattle.core_program.specs.Views.{expr_of, exprs_from, program_of}
use Rattle.rules.specs.Effect.{call_of}
use Rattle.rules.specs.Mentions.{paths_of}
use Rattle.rules.specs.Near.{rel_of}
use Rattle.explain.specs.Walked.{InsideExpr, WalkedExpr, WalkedExprs, WalkedTwo}
use Rattle.explain.proofs.Measures.{expr_measure, exprs_measure, expr_lighter}
use Rattle.explain.proofs.Walking.{entered_expr, binary_walked, and_walked, or_walked, call_known, new_walked, start_exprs, more_exprs, end_exprs}
use Rattle.explain.proofs.walk.+expressions.Goals as goal

pub walk_expr-returns : goal.walk_expr-returns
walk_expr-returns g t c =
    let P = program_of c.args.walk.now.program.now in let rel = rel_of c.args.walk.now.sets.now in let A = g.A.Assigned.assigned c.args.walk.now.assigned.now in
    entered_expr P rel A (expr_of c.args.e.now) (has_path c.args.held.now) c.args.looped c.args.found.now c.enter.new.self c.inside_expr.new.found c.leave.new.self c.in_ok-effect.effect c.leave.result c.in_ok-place.place
    c.in_ok-place.ensures.place c.in_ok-place.ensures.basics c.enter.ensures.steps c.enter.ensures.heavy c.in_ok-effect.ensures
    c.leave.ensures.effect c.leave.ensures.basics c.leave.ensures.steps c.leave.ensures.heavy

pub inside_expr-returns-in-Binary : goal.inside_expr-returns-in-Binary
inside_expr-returns-in-Binary g t c =
    let P = program_of c.args.walk.now.program.now in let rel = rel_of c.args.walk.now.sets.now in let A = g.A.Assigned.assigned c.args.walk.now.assigned.now in
    let H = has_path c.args.held.now in let loop = c.args.looped in let old = c.args.found.now in let new = c.walk_pair.new.found in
    let e = expr_of c.in-Binary.a.value in let f = expr_of c.in-Binary.b.value in
    IfOk-weaker c.walk_pair.result (λ d. WalkedTwo P rel A (expr_of c.deref.result.now) (expr_of c.deref-in-Binary.result.now) H loop old d new) (λ d. InsideExpr P rel A (expr_of c.args.e.now) c.args.place H loop old d new)
    (λ d w. subst (λ z. InsideExpr P rel A z c.args.place H loop old d new) (sym (ap expr_of c.in-Binary.is))
    (binary_walked P rel A _ e f H loop c.args.place d c.requires
    (subst (λ z. WalkedExpr P rel A (expr_of z) H loop old w.first w.between) c.deref.ensures w.one)
    (subst (λ z. WalkedExpr P rel A (expr_of z) H loop w.between w.second new) c.deref-in-Binary.ensures w.other) w.is))
    c.walk_pair.ensures

pub inside_expr-returns-in-And : goal.inside_expr-returns-in-And
inside_expr-returns-in-And g t c =
    let P = program_of c.args.walk.now.program.now in let rel = rel_of c.args.walk.now.sets.now in let A = g.A.Assigned.assigned c.args.walk.now.assigned.now in
    let H = has_path c.args.held.now in let loop = c.args.looped in let old = c.args.found.now in let new = c.walk_pair-in-And.new.found in
    let e = expr_of c.in-And.a.value in let f = expr_of c.in-And.b.value in
    IfOk-weaker c.walk_pair-in-And.result (λ d. WalkedTwo P rel A (expr_of c.deref-in-And.result.now) (expr_of c.deref-in-And-2.result.now) H loop old d new) (λ d. InsideExpr P rel A (expr_of c.args.e.now) c.args.place H loop old d new)
    (λ d w. subst (λ z. InsideExpr P rel A z c.args.place H loop old d new) (sym (ap expr_of c.in-And.is))
    (and_walked P rel A e f H loop c.args.place d c.requires
    (subst (λ z. WalkedExpr P rel A (expr_of z) H loop old w.first w.between) c.deref-in-And.ensures w.one)
    (subst (λ z. WalkedExpr P rel A (expr_of z) H loop w.between w.second new) c.deref-in-And-2.ensures w.other) w.is))
    c.walk_pair-in-And.ensures

pub inside_expr-returns-in-Or : goal.inside_expr-returns-in-Or
inside_expr-returns-in-Or g t c =
    let P = program_of c.args.walk.now.program.now in let rel = rel_of c.args.walk.now.sets.now in let A = g.A.Assigned.assigned c.args.walk.now.assigned.now in
    let H = has_path c.args.held.now in let loop = c.args.looped in let old = c.args.found.now in let new = c.walk_pair-in-Or.new.found in
    let e = expr_of c.in-Or.a.value in let f = expr_of c.in-Or.b.value in
    IfOk-weaker c.walk_pair-in-Or.result (λ d. WalkedTwo P rel A (expr_of c.deref-in-Or.result.now) (expr_of c.deref-in-Or-2.result.now) H loop old d new) (λ d. InsideExpr P rel A (expr_of c.args.e.now) c.args.place H loop old d new)
    (λ d w. subst (λ z. InsideExpr P rel A z c.args.place H loop old d new) (sym (ap expr_of c.in-Or.is))
    (or_walked P rel A e f H loop c.args.place d c.requires
    (subst (λ z. WalkedExpr P rel A (expr_of z) H loop old w.first w.between) c.deref-in-Or.ensures w.one)
    (subst (λ z. WalkedExpr P rel A (expr_of z) H loop w.between w.second new) c.deref-in-Or-2.ensures w.other) w.is))
    c.walk_pair-in-Or.ensures

pub walk_pair-returns : goal.walk_pair-returns
walk_pair-returns g t c = record {
  between = c.walk_expr.new.found;
  first = c.in_ok-first.first;
  second = c.in_ok-second.second;
  one = c.in_ok-first.ensures;
  other = c.in_ok-second.ensures;
  is = c.seq.ensures;
}

pub inside_expr-returns-in_ok-own-in-Call : goal.inside_expr-returns-in_ok-own-in-Call
inside_expr-returns-in_ok-own-in-Call g t c =
    let P = program_of c.args.walk.now.program.now in let rel = rel_of c.args.walk.now.sets.now in let A = g.A.Assigned.assigned c.args.walk.now.assigned.now in
    let H = has_path c.args.held.now in
    let e = expr_of c.in-Call.a.value in let es = exprs_from c.in-Call.args.items in
    let is = ap expr_of c.in-Call.is ∙ expr_of-Call c.in-Call.a c.in-Call.callee c.in-Call.args in
    let one = subst (λ z. WalkedExpr P rel A (expr_of z) H c.args.looped c.args.found.now c.in_ok-receiver-in-Call.receiver c.walk_expr-in-Call.new.found) c.deref-in-Call.ensures c.in_ok-receiver-in-Call.ensures in
    let other = subst (λ z. WalkedExprs P rel A (exprs_from z) H c.args.looped c.walk_expr-in-Call.new.found c.in_ok-passed-in-Call.passed c.walk_exprs.new.found) c.as_slice.ensures.value c.in_ok-passed-in-Call.ensures in
    let own : c.in_ok-own-in-Call.own ≡ call_of P rel A c.in-Call.callee (path_of P e) (paths_of P es) H =
    c.in_ok-own-in-Call.ensures.own ∙ (λ i. call_of P rel A c.in-Call.callee (path_of P (expr_of (c.deref-in-Call-2.ensures i))) (paths_of P (exprs_from (c.as_slice-in-Call.ensures.value i))) H) in
    call_known P rel A (expr_of c.args.e.now) e c.in-Call.callee es H c.args.looped c.args.place c.note_call.new.found c.in_ok-own-in-Call.own c.seq-in-Call.result c.seq-in-Call-2.result is c.requires one other own
    c.note_call.ensures.basics c.in_ok-own-in-Call.ensures.steps c.in_ok-own-in-Call.ensures.heavy c.seq-in-Call.ensures c.seq-in-Call-2.ensures

pub inside_expr-returns-in_ok-passed-in-New : goal.inside_expr-returns-in_ok-passed-in-New
inside_expr-returns-in_ok-passed-in-New g t c =
    let P = program_of c.args.walk.now.program.now in let rel = rel_of c.args.walk.now.sets.now in let A = g.A.Assigned.assigned c.args.walk.now.assigned.now in
    let H = has_path c.args.held.now in
    let es = exprs_from c.in-New.args.items in
    let is = ap expr_of c.in-New.is ∙ expr_of-New c.in-New.field-0 c.in-New.args in
    let w = subst (λ z. WalkedExprs P rel A (exprs_from z) H c.args.looped c.args.found.now c.in_ok-passed-in-New.passed c.walk_exprs-in-New.new.found) c.as_slice-in-New.ensures.value c.in_ok-passed-in-New.ensures in
    subst (λ z. InsideExpr P rel A z c.args.place H c.args.looped c.args.found.now c.seq-in-New.result c.walk_exprs-in-New.new.found) (sym is)
    (new_walked P rel A c.in-New.field-0 es H c.args.looped c.args.place c.seq-in-New.result c.requires w c.seq-in-New.ensures)

pub walk_exprs-loop-e-init : goal.walk_exprs-loop-e-init
walk_exprs-loop-e-init g t c =
    let P = program_of c.args.walk.now.program.now in let rel = rel_of c.args.walk.now.sets.now in let A = g.A.Assigned.assigned c.args.walk.now.assigned.now in
    start_exprs P rel A (exprs_from c.args.es.now) (has_path c.args.held.now) c.args.looped c.args.found.now

pub walk_exprs-loop-e-preserved : goal.walk_exprs-loop-e-preserved
walk_exprs-loop-e-preserved g t c =
    let P = program_of c.args.walk.now.program.now in let rel = rel_of c.args.walk.now.sets.now in let A = g.A.Assigned.assigned c.args.walk.now.assigned.now in
    more_exprs P rel A c.args.es.now c.loop-e.e-index c.e-item.result (has_path c.args.held.now) c.args.looped (exprs_from c.args.es.now) c.args.found.now c.loop-e.found c.walk_expr.new.found
    c.loop-e.so_far c.in_ok-walk_expr.field-0 c.seq-so_far.result c.loop-e-test.true c.e-item.is c.in_ok-walk_expr.ensures c.seq-so_far.ensures c.loop-e.invariant

pub walk_exprs-returns : goal.walk_exprs-returns
walk_exprs-returns g t c =
    let P = program_of c.args.walk.now.program.now in let rel = rel_of c.args.walk.now.sets.now in let A = g.A.Assigned.assigned c.args.walk.now.assigned.now in
    end_exprs P rel A c.args.es.now c.loop-e.e-index (has_path c.args.held.now) c.args.looped (exprs_from c.args.es.now) c.args.found.now c.loop-e.found c.loop-e.so_far
    (drop_of_length-le c.args.es.now c.loop-e-test.false) c.loop-e.invariant

pub inside_expr-walk_exprs-requires : goal.inside_expr-walk_exprs-requires
inside_expr-walk_exprs-requires g t c κs within =
    let e = ap (λ x. expr_measure (expr_of x)) c.in-Call.is ∙ ap expr_measure (expr_of-Call c.in-Call.a c.in-Call.callee c.in-Call.args) in
    let a = ap (λ xs. exprs_measure (exprs_from xs)) c.as_slice.ensures.value in
    (omega arith, within)

pub inside_expr-walk_exprs-requires-in-New : goal.inside_expr-walk_exprs-requires-in-New
inside_expr-walk_exprs-requires-in-New g t c κs within =
    let e = ap (λ x. expr_measure (expr_of x)) c.in-New.is ∙ ap expr_measure (expr_of-New c.in-New.field-0 c.in-New.args) in
    let a = ap (λ xs. exprs_measure (exprs_from xs)) c.as_slice-in-New.ensures.value in
    (omega arith, within)

pub walk_exprs-walk_expr-requires : goal.walk_exprs-walk_expr-requires
walk_exprs-walk_expr-requires g t c κs within =
    let lighter = expr_lighter c.args.es.now c.loop-e.e-index c.e-item.result c.loop-e-test.true c.e-item.is in
    (omega arith, within)
