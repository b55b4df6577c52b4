use Rattle.std.proofs.Common.{◌≡◌, map, ap, ◌∙◌, subst, OnOk}
use Rattle.syntax.specs.Views.{stmt_of, stmts_from, lock_of}
use Rattle.syntax.proofs.Bridge.{view_block, view_sync}
use Rattle.places.proofs.Putting.{put_block, put_sync}
use Rattle.places.proofs.offsets.+statements.Goals as goal

pub add_stmt-returns-in-Block : goal.add_stmt-returns-in-Block
add_stmt-returns-in-Block t c =
    subst (λ z. OnOk c.add_block.result (c.add_block.new.places.items ≡ z))
    (put_block c.args.places.now.items c.push.new.self.items c.begins_at-begin.result (stmts_from (map stmt_of c.in-Block.body.items))
    (stmts_from (map stmt_of c.as_slice.result.now)) c.in-Block.field-1 (stmt_of c.args.s.now) c.in_ok-push.ensures.items c.begins_at-begin.ensures
    (ap (λ xs. stmts_from (map stmt_of xs)) c.as_slice.ensures.value) (ap stmt_of c.in-Block.is ∙ view_block c.in-Block.body c.in-Block.field-1))
    c.add_block.ensures

pub add_stmt-returns-in_ok-push-in-Sync : goal.add_stmt-returns-in_ok-push-in-Sync
add_stmt-returns-in_ok-push-in-Sync t c =
    subst (λ z. OnOk c.add_block-in-Sync.result (c.add_block-in-Sync.new.places.items ≡ z))
    (put_sync c.args.places.now.items c.push.new.self.items c.push-in-Sync.new.self.items c.begins_at-begin.result (lock_of c.in-Sync.field-0)
    (stmts_from (map stmt_of c.in-Sync.body.items)) (stmts_from (map stmt_of c.as_slice-in-Sync.result.now)) c.in-Sync.field-2 (stmt_of c.args.s.now)
    c.in_ok-push.ensures.items c.in_ok-push-in-Sync.ensures.items c.begins_at-begin.ensures
    (ap (λ xs. stmts_from (map stmt_of xs)) c.as_slice-in-Sync.ensures.value)
    (ap stmt_of c.in-Sync.is ∙ view_sync c.in-Sync.field-0 c.in-Sync.body c.in-Sync.field-2))
    c.add_block-in-Sync.ensures
