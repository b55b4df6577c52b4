use Rattle.std.proofs.Common.{refl}
use Rattle.printer.specs.Printing.{listed_lexemes, param_lexemes}
use Rattle.printer.proofs.Writing.{item_none}
use Rattle.printer.proofs.print.write_params.Goals as goal

pub returns-in_default : goal.returns-in_default
returns-in_default c = item_none (λ z. listed_lexemes (param_lexemes c.args.keeps_final) z) refl c.args.params.now c.args.to.now (c.in_default.ensures.cases)
