-- What is behind the head of a node's text are its premises.
use Rattle.books.proofs.CursorLaws.{premises_of_view, premises_numbered}
use Rattle.books.proofs.cursor.NodeView.premises.Goals as goal

pub returns : goal.returns
returns c = λ d is.
    let numbered = premises_numbered c.args.self.now d is in
    record { text = premises_of_view c.args.self.now c.behind_head.result.now d c.behind_head.ensures is; numbered = numbered.0; high = numbered.1 }
