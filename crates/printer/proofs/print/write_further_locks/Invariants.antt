use Rattle.std.proofs.Common.{◌≡◌, map, drop}
use Rattle.printer.specs.Layout.{writes}
use Rattle.printer.specs.Printing.{further_lexemes, lock_lexemes}
use Rattle.syntax.specs.Views.{lock_of}
use Rattle.printer.proofs.print.write_further_locks.Given as goal

abbrev pub invariant-loop-lock : goal.invariant-loop-lock
invariant-loop-lock l = writes l.to (further_lexemes lock_lexemes (map lock_of (drop l.lock-index l.locks))) ≡ writes l.fn.to (further_lexemes lock_lexemes (map lock_of l.locks))
