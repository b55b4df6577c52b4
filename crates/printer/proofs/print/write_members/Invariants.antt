use Rattle.std.proofs.Common.{◌≡◌, map, drop}
use Rattle.printer.specs.Layout.{writes}
use Rattle.printer.specs.Printing.{all_lexemes, member_lexemes}
use Rattle.syntax.specs.Views.{member_of}
use Rattle.printer.proofs.print.write_members.Given as goal

abbrev pub invariant-loop-member : goal.invariant-loop-member
invariant-loop-member l = writes l.to (all_lexemes member_lexemes (map member_of (drop l.member-index l.members))) ≡ writes l.fn.to (all_lexemes member_lexemes (map member_of l.members))
