use Rattle.std.proofs.Common.{◌≡◌, ◌+◌, ◌-◌, ◌<◌, ◌++◌, length, sym, ap, subst, ◌∙◌, rules, arith, vec_len}
use Rattle.std.specs.Prelude.{IfOk}
use Rattle.core_program.specs.Views.{stmt_of, stmts_from}
use Rattle.core_program.proofs.ViewLemmas.{stmt_of-Block}
use Rattle.compile.specs.Emission.{stmt_weight, stmt_entry, emitted_stmt}
use Rattle.compile.proofs.Measures.{stmt_measure, stmts_measure}
use Rattle.compile.proofs.Blocks.{stmt_lighter}
use Rattle.compile.proofs.Fronts.{front_within}
use Rattle.compile.proofs.emit.+stmts.Goals as goal

pub emit_stmt-emit_stmts-requires : goal.emit_stmt-emit_stmts-requires
emit_stmt-emit_stmts-requires t c =
    let e = ap (λ x. stmt_measure (stmt_of x)) c.in-Block.is ∙ ap stmt_measure (stmt_of-Block c.in-Block.body) in
    let s = ap (λ xs. stmts_measure (stmts_from xs)) c.as_slice.ensures.value in
    (omega arith, tt)

pub emit_stmt-returns-in-Block-clause-code : goal.emit_stmt-returns-in-Block-clause-code
emit_stmt-returns-in-Block-clause-code t c =
    let e = ap stmt_of c.in-Block.is ∙ stmt_of-Block c.in-Block.body in
    subst (λ x. IfOk c.emit_stmts.result (λ at. c.emit_stmts.new.code.items ≡ c.args.code.now.items ++ emitted_stmt x (vec_len c.args.code.now) c.args.next c.args.ret)) (sym e) (search rules)

pub emit_stmt-returns-in-Block-clause-len : goal.emit_stmt-returns-in-Block-clause-len
emit_stmt-returns-in-Block-clause-len t c =
    let e = ap stmt_of c.in-Block.is ∙ stmt_of-Block c.in-Block.body in
    subst (λ x. IfOk c.emit_stmts.result (λ at. vec_len c.emit_stmts.new.code ≡ vec_len c.args.code.now + stmt_weight x)) (sym e) (search rules)

pub emit_stmt-returns-in-Block-clause-place : goal.emit_stmt-returns-in-Block-clause-place
emit_stmt-returns-in-Block-clause-place t c =
    let e = ap stmt_of c.in-Block.is ∙ stmt_of-Block c.in-Block.body in
    subst (λ x. IfOk c.emit_stmts.result (λ at. at ≡ stmt_entry x (vec_len c.args.code.now) c.args.next c.args.ret)) (sym e) (search rules)

pub emit_stmts-emit_stmt-requires : goal.emit_stmts-emit_stmt-requires
emit_stmts-emit_stmt-requires t c =
    let below : c.loop-place.place - 1 < length c.args.body.now = omega arith in
    let lighter = stmt_lighter c.args.body.now (c.loop-place.place - 1) c.index-body-place.result below c.index-body-place.is in
    (omega arith, tt)

pub emit_loop-returns-clause-kept : goal.emit_loop-returns-clause-kept
emit_loop-returns-clause-kept t c front kept =
    let within = front_within front c.args.code.now.items kept in
    c.lead_on.ensures.kept front (omega (arith, within, c.in_ok-turn.ensures.place, c.args.code.now.ok))
    (c.in_ok-first.ensures.kept front (c.in_ok-condition.ensures.kept front (c.in_ok-turn.ensures.kept front kept)))
