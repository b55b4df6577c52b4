-- A text that begins with a word's text begins with that word.
use Rattle.books.proofs.Fronts.{front_word}
use Rattle.books.proofs.names.first_word.Goals as goal

pub returns-in-Ok : goal.returns-in-Ok
returns-in-Ok c = front_word c.likely_word-likely.result c.args.text.now c.in-Ok.rest.now c.in-Ok.ensures
