use Rattle.std.proofs.Common.{◌≡◌, drop}
use Rattle.printer.specs.Layout.{writes}
use Rattle.printer.specs.Printing.{further_lexemes, param_lexemes}
use Rattle.printer.proofs.print.write_further_params.Given as goal

abbrev pub invariant-loop-param : goal.invariant-loop-param
invariant-loop-param l = writes l.to (further_lexemes (param_lexemes l.keeps_final) ((drop l.param-index l.params))) ≡ writes l.fn.to (further_lexemes (param_lexemes l.keeps_final) (l.params))
