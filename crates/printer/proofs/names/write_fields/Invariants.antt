use Rattle.std.proofs.Common.{◌≡◌, drop}
use Rattle.printer.specs.Layout.{writes}
use Rattle.printer.specs.Printing.{all_lexemes, dotted_lexemes}
use Rattle.printer.proofs.names.write_fields.Given as goal

abbrev pub invariant-loop-field : goal.invariant-loop-field
invariant-loop-field l = writes l.to (all_lexemes dotted_lexemes ((drop l.field-index l.fields))) ≡ writes l.fn.to (all_lexemes dotted_lexemes (l.fields))
