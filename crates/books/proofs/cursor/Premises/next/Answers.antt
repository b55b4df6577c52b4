-- The text of premises begins with the next one.
use Rattle.std.proofs.Common.{sym}
use Rattle.books.proofs.CursorLaws.{next_fault, next_some}
use Rattle.books.proofs.cursor.Premises.next.Goals as goal

pub returns-in-Ok : goal.returns-in-Ok
returns-in-Ok c = λ ds are. next_some ds c.args.self.now (record { rest = c.in-Ok.rest }) c.in-Ok.view are (sym c.if-not-begins.ensures) c.in-Ok.ensures

pub returns-in-Err : goal.returns-in-Err
returns-in-Err c = λ ds are. next_fault ds c.args.self.now _ are (sym c.if-not-begins.ensures) c.in-Err.ensures
