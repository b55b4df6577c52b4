use Rattle.std.proofs.Common.{ap, ◌∙◌, arith}
use Rattle.std.proofs.lemmas.Grind.{common_steps}
use Rattle.core_program.specs.Views.{program_of, stmt_of, expr_of}
use Rattle.core_program.proofs.ViewLemmas.{stmt_of-Block}
use Rattle.rules.specs.Mentions.{Accesses, mentions, expr_mentions}
use Rattle.rules.proofs.ClauseLemmas.{more_stmts, last_of_two, last_of_three, last_of_access, while_read, if_read, set_read}
use Rattle.rules.proofs.body_clauses.+statements.Goals as goal

pub add_stmt-returns-in-Block : goal.add_stmt-returns-in-Block
add_stmt-returns-in-Block t c =
    let e = ap (λ x. mentions (stmt_of x)) c.in-Block.is ∙ ap mentions (stmt_of-Block c.in-Block.body) in
    grind (arith, common_steps)

pub add_block-loop-s-preserved : goal.add_block-loop-s-preserved
add_block-loop-s-preserved t c = more_stmts (program_of c.args.program.now) c.args.method c.args.body.now c.loop-s.s-index c.s-item.result _ _ _ c.loop-s-test.true c.s-item.is c.in_ok-add_stmt.ensures c.loop-s.invariant

pub add_stmt-returns-in_ok-add_expr-in-While : goal.add_stmt-returns-in_ok-add_expr-in-While
add_stmt-returns-in_ok-add_expr-in-While t c =
    let is = while_read c.in-While.condition.value c.deref-in-While.result.now c.in-While.body.value c.deref-in-While-2.result.now _ (ap (λ x. mentions (stmt_of x)) c.in-While.is) c.deref-in-While.ensures c.deref-in-While-2.ensures in
    last_of_two _ (program_of c.args.program.now) c.args.method (expr_mentions (expr_of c.deref-in-While.result.now)) (mentions (stmt_of c.deref-in-While-2.result.now)) _ _ _ _ is c.in_ok-add_expr-in-While.ensures c.add_stmt-in-While.ensures

pub add_stmt-returns-in_ok-add_stmt-in-If : goal.add_stmt-returns-in_ok-add_stmt-in-If
add_stmt-returns-in_ok-add_stmt-in-If t c =
    let is = if_read c.in-If.condition.value c.deref-in-If.result.now c.in-If.one.value c.deref-in-If-2.result.now c.in-If.other.value c.deref-in-If-3.result.now _ (ap (λ x. mentions (stmt_of x)) c.in-If.is) c.deref-in-If.ensures c.deref-in-If-2.ensures c.deref-in-If-3.ensures in
    last_of_three _ (program_of c.args.program.now) c.args.method (expr_mentions (expr_of c.deref-in-If.result.now)) (mentions (stmt_of c.deref-in-If-2.result.now)) (mentions (stmt_of c.deref-in-If-3.result.now)) _ _ _ _ _ is c.in_ok-add_expr-in-If.ensures c.in_ok-add_stmt-in-If.ensures c.add_stmt-in-If.ensures

pub add_stmt-returns-in_ok-add_expr-in-SetField : goal.add_stmt-returns-in_ok-add_expr-in-SetField
add_stmt-returns-in_ok-add_expr-in-SetField t c =
    let is = set_read c.in-SetField.receiver.value c.deref-in-SetField.result.now c.deref-in-SetField-2.result.now c.in-SetField.value.value c.deref-in-SetField-3.result.now c.in-SetField.field _ (ap (λ x. mentions (stmt_of x)) c.in-SetField.is) c.deref-in-SetField.ensures c.deref-in-SetField-2.ensures c.deref-in-SetField-3.ensures in
    last_of_access _ (program_of c.args.program.now) c.args.method (Accesses (expr_of c.deref-in-SetField.result.now) c.in-SetField.field) (expr_mentions (expr_of c.deref-in-SetField-2.result.now)) (expr_mentions (expr_of c.deref-in-SetField-3.result.now)) _ _ _ _ _ is c.in_ok-add_access-in-SetField.ensures c.in_ok-add_expr-in-SetField.ensures c.add_expr-in-SetField-2.ensures
