use Rattle.std.proofs.Common.{◌≡◌, [], ◌∷◌, ◌++◌, map, refl, ap, sym, subst, ◌∙◌, append_assoc, OnOk}
use Rattle.printer.specs.Layout.{Fixed, writes}
use Rattle.syntax.specs.declared.terminal.Terminal.TheVariants as T
use Rattle.printer.specs.Printing.{lock_lexemes, stmts_lexemes, stmt_lexemes}
use Rattle.syntax.specs.Trees.{BlockS}
use Rattle.syntax.specs.Views.{lock_of, stmt_of, stmts_from}
use Rattle.syntax.proofs.Bridge.{view_block, view_sync}
use Rattle.printer.proofs.Writing.{item_step, item_end, writes_both}
use Rattle.printer.proofs.statements.+statements.Goals as goal

pub write_stmts-loop-stmt-preserved : goal.write_stmts-loop-stmt-preserved
write_stmts-loop-stmt-preserved t c =
    item_step (λ z. stmts_lexemes (stmts_from (map stmt_of z))) (λ x. stmt_lexemes (stmt_of x)) (λ x xs. refl)
    c.args.stmts.now c.loop-stmt.stmt-index c.stmt-item.result c.loop-stmt.to c.write_stmt.new.to (writes c.args.to.now (stmts_lexemes (stmts_from (map stmt_of c.args.stmts.now))))
    c.loop-stmt-test.true c.stmt-item.is c.loop-stmt.invariant c.in_ok-write_stmt.ensures

pub write_stmts-returns : goal.write_stmts-returns
write_stmts-returns t c =
    item_end (λ z. stmts_lexemes (stmts_from (map stmt_of z))) refl
    c.args.stmts.now c.loop-stmt.stmt-index c.loop-stmt.to (writes c.args.to.now (stmts_lexemes (stmts_from (map stmt_of c.args.stmts.now))))
    c.loop-stmt-test.false c.loop-stmt.invariant

pub write_stmt-returns-in-Block : goal.write_stmt-returns-in-Block
write_stmt-returns-in-Block t c =
    let e = ap (λ x. stmt_lexemes (stmt_of x)) c.in-Block.is ∙ ap stmt_lexemes (view_block c.in-Block.stmts c.in-Block.field-1) in
    subst (λ z. OnOk c.write_block.result (c.write_block.new.to ≡ writes c.args.to.now z))
    (ap (λ z. stmt_lexemes (BlockS (stmts_from (map stmt_of z)) 0)) c.deref.ensures.value ∙ sym e)
    c.write_block.ensures

pub write_stmt-returns-in_ok-write_lock_to_take-in-Sync : goal.write_stmt-returns-in_ok-write_lock_to_take-in-Sync
write_stmt-returns-in_ok-write_lock_to_take-in-Sync t c =
    let e = ap (λ x. stmt_lexemes (stmt_of x)) c.in-Sync.is ∙ ap stmt_lexemes (view_sync c.in-Sync.lock c.in-Sync.stmts c.in-Sync.field-2) in
    let head = Fixed T.Synchronized ∷ Fixed T.OpenParen ∷ lock_lexemes (lock_of c.in-Sync.lock) ++ (Fixed T.CloseParen ∷ []) in
    let block = stmt_lexemes (BlockS (stmts_from (map stmt_of c.in-Sync.stmts.items)) 0) in
    subst (λ z. OnOk c.write_block-in-Sync.result (c.write_block-in-Sync.new.to ≡ z))
    (ap (λ z. writes c.write_lock_to_take.new.to (stmt_lexemes (BlockS (stmts_from (map stmt_of z)) 0))) c.deref-in-Sync.ensures.value
    ∙ ap (λ z. writes z block) c.in_ok-write_lock_to_take-in-Sync.ensures
    ∙ sym (writes_both c.args.to.now head block)
    ∙ ap (λ z. writes c.args.to.now (Fixed T.Synchronized ∷ Fixed T.OpenParen ∷ z)) (append_assoc (lock_lexemes (lock_of c.in-Sync.lock)) (Fixed T.CloseParen ∷ []) block)
    ∙ ap (writes c.args.to.now) (sym e))
    c.write_block-in-Sync.ensures
