use Rattle.std.proofs.Common.{◌≡◌, map, drop}
use Rattle.printer.specs.Layout.{writes}
use Rattle.printer.specs.Printing.{all_lexemes, class_lexemes}
use Rattle.syntax.specs.Views.{class_of}
use Rattle.printer.proofs.print.write_classes.Given as goal

abbrev pub invariant-loop-class : goal.invariant-loop-class
invariant-loop-class l = writes l.to (all_lexemes class_lexemes (map class_of (drop l.class-index l.classes))) ≡ writes l.fn.to (all_lexemes class_lexemes (map class_of l.classes))
