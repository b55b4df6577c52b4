use Rattle.std.proofs.Common.{◌≡◌, ◌+◌, ◌++◌, sym, ap, subst, ◌∙◌, rules, arith, vec_len}
use Rattle.std.specs.Prelude.{IfOk}
use Rattle.std.proofs.lemmas.Result.{IfOk-equal}
use Rattle.core_program.specs.Views.{expr_of, exprs_from}
use Rattle.core_program.proofs.ViewLemmas.{expr_of-Call, expr_of-New}
use Rattle.compile.specs.declared.stack.Instr.TheVariants as i
use Rattle.compile.specs.Emission.{code_line, weight, expr_entry, emitted}
use Rattle.compile.proofs.Emitting.{call_lines, new_lines}
use Rattle.compile.proofs.Measures.{expr_measure, exprs_measure}
use Rattle.compile.proofs.emit.+exprs.Goals as goal

pub emit_expr-emit_args-requires : goal.emit_expr-emit_args-requires
emit_expr-emit_args-requires t c =
    let e = ap (λ x. expr_measure (expr_of x)) c.in-Call.is ∙ ap expr_measure (expr_of-Call c.in-Call.a c.in-Call.method c.in-Call.args) in
    let s = ap (λ xs. exprs_measure (exprs_from xs)) c.as_slice.ensures.value in
    (omega arith, tt)

pub emit_expr-emit_args-requires-in-New : goal.emit_expr-emit_args-requires-in-New
emit_expr-emit_args-requires-in-New t c =
    let e = ap (λ x. expr_measure (expr_of x)) c.in-New.is ∙ ap expr_measure (expr_of-New c.in-New.class c.in-New.args) in
    let s = ap (λ xs. exprs_measure (exprs_from xs)) c.as_slice-in-New.ensures.value in
    (omega arith, tt)

pub emit_expr-returns-in_ok-arguments-in-Call-clause-code :
    goal.emit_expr-returns-in_ok-arguments-in-Call-clause-code
emit_expr-returns-in_ok-arguments-in-Call-clause-code t c =
    let e = ap expr_of c.in-Call.is ∙ expr_of-Call c.in-Call.a c.in-Call.method c.in-Call.args in
    subst (λ x. IfOk c.emit_expr-in-Call.result (λ at. c.emit_expr-in-Call.new.code.items ≡ c.args.code.now.items ++ emitted x (vec_len c.args.code.now) c.args.next)) (sym e)
    (IfOk-equal c.emit_expr-in-Call.result _ _ _ c.emit_expr-in-Call.ensures.code
    (call_lines c.args.code.now.items c.put-in-Call.new.code.items c.emit_args.new.code.items (code_line (i.Call c.in-Call.method) c.args.next)
    (exprs_from c.in-Call.args.items) (exprs_from c.as_slice.result.now) (expr_of c.in-Call.a.value) (expr_of c.deref-in-Call.result.now)
    (vec_len c.args.code.now) (vec_len c.put-in-Call.new.code) (vec_len c.emit_args.new.code) c.in_ok-last-in-Call.last c.in_ok-arguments-in-Call.arguments
    c.in_ok-last-in-Call.ensures.code c.in_ok-arguments-in-Call.ensures.code (ap exprs_from c.as_slice.ensures.value) (ap expr_of c.deref-in-Call.ensures)
    c.in_ok-last-in-Call.ensures.len c.in_ok-last-in-Call.ensures.place c.in_ok-arguments-in-Call.ensures.len c.in_ok-arguments-in-Call.ensures.place))

pub emit_expr-returns-in_ok-arguments-in-Call-clause-len :
    goal.emit_expr-returns-in_ok-arguments-in-Call-clause-len
emit_expr-returns-in_ok-arguments-in-Call-clause-len t c =
    let e = ap expr_of c.in-Call.is ∙ expr_of-Call c.in-Call.a c.in-Call.method c.in-Call.args in
    subst (λ x. IfOk c.emit_expr-in-Call.result (λ at. vec_len c.emit_expr-in-Call.new.code ≡ vec_len c.args.code.now + weight x)) (sym e) (search rules)

pub emit_expr-returns-in_ok-arguments-in-Call-clause-place :
    goal.emit_expr-returns-in_ok-arguments-in-Call-clause-place
emit_expr-returns-in_ok-arguments-in-Call-clause-place t c =
    let e = ap expr_of c.in-Call.is ∙ expr_of-Call c.in-Call.a c.in-Call.method c.in-Call.args in
    subst (λ x. IfOk c.emit_expr-in-Call.result (λ at. at ≡ expr_entry x (vec_len c.args.code.now) c.args.next)) (sym e) (search rules)

pub emit_expr-returns-in_ok-last-in-New-clause-code :
    goal.emit_expr-returns-in_ok-last-in-New-clause-code
emit_expr-returns-in_ok-last-in-New-clause-code t c =
    let e = ap expr_of c.in-New.is ∙ expr_of-New c.in-New.class c.in-New.args in
    subst (λ x. IfOk c.emit_args-in-New.result (λ at. c.emit_args-in-New.new.code.items ≡ c.args.code.now.items ++ emitted x (vec_len c.args.code.now) c.args.next)) (sym e)
    (IfOk-equal c.emit_args-in-New.result _ _ _ c.emit_args-in-New.ensures.code
    (new_lines c.args.code.now.items c.put-in-New.new.code.items (code_line (i.New c.in-New.class) c.args.next)
    (exprs_from c.in-New.args.items) (exprs_from c.as_slice-in-New.result.now)
    (vec_len c.args.code.now) (vec_len c.put-in-New.new.code) c.in_ok-last-in-New.last
    c.in_ok-last-in-New.ensures.code (ap exprs_from c.as_slice-in-New.ensures.value) c.in_ok-last-in-New.ensures.len c.in_ok-last-in-New.ensures.place))

pub emit_expr-returns-in_ok-last-in-New-clause-len :
    goal.emit_expr-returns-in_ok-last-in-New-clause-len
emit_expr-returns-in_ok-last-in-New-clause-len t c =
    let e = ap expr_of c.in-New.is ∙ expr_of-New c.in-New.class c.in-New.args in
    subst (λ x. IfOk c.emit_args-in-New.result (λ at. vec_len c.emit_args-in-New.new.code ≡ vec_len c.args.code.now + weight x)) (sym e) (search rules)

pub emit_expr-returns-in_ok-last-in-New-clause-place :
    goal.emit_expr-returns-in_ok-last-in-New-clause-place
emit_expr-returns-in_ok-last-in-New-clause-place t c =
    let e = ap expr_of c.in-New.is ∙ expr_of-New c.in-New.class c.in-New.args in
    subst (λ x. IfOk c.emit_args-in-New.result (λ at. at ≡ expr_entry x (vec_len c.args.code.now) c.args.next)) (sym e) (search rules)
