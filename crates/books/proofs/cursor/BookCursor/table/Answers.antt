-- The text at the cursor is that of the table.
use Rattle.std.proofs.Common.{subst, map}
use Rattle.conditions.specs.Conditions.{cond_of}
use Rattle.books.specs.Combine.{exactly}
use Rattle.books.specs.Views.{IsReadAs, plain_line}
use Rattle.books.proofs.TableLaws.{table_is}
use Rattle.books.proofs.cursor.BookCursor.table.Goals as goal

pub returns-in-Ok : goal.returns-in-Ok
returns-in-Ok c = λ book at.
    table_is c.args.self.now book (map cond_of c.in-Ok.trees.items) c.trees.result at (c.trees.ensures book at)
    (subst (λ t. IsReadAs (map cond_of c.in-Ok.trees.items) (exactly c.trees.result plain_line t)) c.table_text.ensures c.in-Ok.ensures)
