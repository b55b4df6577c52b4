use Rattle.std.proofs.Common.{◌≡◌, ℕ, List, ◌++◌, map, ap, ◌∙◌, subst, OnOk, Bor}
use Rattle.syntax.specs.Views.{stmt_of, stmts_from, lock_of}
use Rattle.syntax.proofs.Bridge.{view_block, view_sync}
use Rattle.places.proofs.Putting.{locals_block, locals_sync}
use Rattle.places.proofs.slots.+locals.Goals as goal

pub add_locals-returns-in-Block : goal.add_locals-returns-in-Block
add_locals-returns-in-Block t c =
    subst (λ z. OnOk c.add_each.result (map {A = Bor (List ℕ)} {B = List ℕ} (λ name. name.now) c.add_each.new.names.items ≡ map {A = Bor (List ℕ)} {B = List ℕ} (λ name. name.now) c.args.names.now.items ++ z))
    (locals_block (stmts_from (map stmt_of c.in-Block.body.items)) (stmts_from (map stmt_of c.as_slice.result.now)) c.in-Block.field-1 (stmt_of c.args.s.now)
    (ap (λ xs. stmts_from (map stmt_of xs)) c.as_slice.ensures.value) (ap stmt_of c.in-Block.is ∙ view_block c.in-Block.body c.in-Block.field-1))
    c.add_each.ensures

pub add_locals-returns-in-Sync : goal.add_locals-returns-in-Sync
add_locals-returns-in-Sync t c =
    subst (λ z. OnOk c.add_each-in-Sync.result (map {A = Bor (List ℕ)} {B = List ℕ} (λ name. name.now) c.add_each-in-Sync.new.names.items ≡ map {A = Bor (List ℕ)} {B = List ℕ} (λ name. name.now) c.args.names.now.items ++ z))
    (locals_sync (lock_of c.in-Sync.field-0) (stmts_from (map stmt_of c.in-Sync.body.items)) (stmts_from (map stmt_of c.as_slice-in-Sync.result.now)) c.in-Sync.field-2 (stmt_of c.args.s.now)
    (ap (λ xs. stmts_from (map stmt_of xs)) c.as_slice-in-Sync.ensures.value) (ap stmt_of c.in-Sync.is ∙ view_sync c.in-Sync.field-0 c.in-Sync.body c.in-Sync.field-2))
    c.add_each-in-Sync.ensures
