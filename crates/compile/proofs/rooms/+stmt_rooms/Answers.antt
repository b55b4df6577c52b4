use Rattle.std.proofs.Common.{◌≡◌, sym, ap, subst, ◌∙◌, rules}
use Rattle.std.specs.Prelude.{IfOk}
use Rattle.core_program.specs.Views.{stmt_of}
use Rattle.core_program.proofs.ViewLemmas.{stmt_of-Block}
use Rattle.compile.specs.Rooms.{stmt_room}
use Rattle.compile.proofs.rooms.+stmt_rooms.Goals as goal

pub stmt_room-returns-in-Block : goal.stmt_room-returns-in-Block
stmt_room-returns-in-Block t c =
    let e = ap stmt_of c.in-Block.is ∙ stmt_of-Block c.in-Block.body in
    subst (λ x. IfOk c.stmts_room.result (λ n. n ≡ stmt_room x)) (sym e) (search rules)
