use Rattle.std.proofs.Common.{◌≡◌, drop}
use Rattle.printer.specs.Layout.{writes}
use Rattle.printer.specs.Printing.{all_lexemes, set_lexemes}
use Rattle.printer.proofs.print.write_sets.Given as goal

abbrev pub invariant-loop-set : goal.invariant-loop-set
invariant-loop-set l = writes l.to (all_lexemes set_lexemes ((drop l.set-index l.sets))) ≡ writes l.fn.to (all_lexemes set_lexemes (l.sets))
