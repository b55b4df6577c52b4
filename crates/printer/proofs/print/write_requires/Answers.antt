use Rattle.std.proofs.Common.{refl, map}
use Rattle.printer.specs.Printing.{requires_lexemes}
use Rattle.syntax.specs.Views.{lock_of}
use Rattle.printer.proofs.Writing.{item_none}
use Rattle.printer.proofs.print.write_requires.Goals as goal

pub returns-in_default : goal.returns-in_default
returns-in_default c = item_none (λ z. requires_lexemes (map lock_of z)) refl c.args.locks.now c.args.to.now (c.in_default.ensures.cases)
