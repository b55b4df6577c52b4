use Rattle.std.proofs.Common.{map, refl}
use Rattle.printer.specs.Layout.{writes}
use Rattle.printer.specs.Printing.{all_lexemes, member_lexemes}
use Rattle.syntax.specs.Views.{member_of}
use Rattle.printer.proofs.Writing.{item_step, item_end}
use Rattle.printer.proofs.print.write_members.Goals as goal

pub loop-member-preserved : goal.loop-member-preserved
loop-member-preserved c =
    item_step (λ z. all_lexemes member_lexemes (map member_of z)) (λ x. member_lexemes (member_of x)) (λ x xs. refl)
    c.args.members.now c.loop-member.member-index c.member-item.result c.loop-member.to c.write_member.new.to (writes c.args.to.now (all_lexemes member_lexemes (map member_of c.args.members.now)))
    c.loop-member-test.true c.member-item.is c.loop-member.invariant c.in_ok-write_member.ensures

pub returns : goal.returns
returns c =
    item_end (λ z. all_lexemes member_lexemes (map member_of z)) refl c.args.members.now c.loop-member.member-index c.loop-member.to (writes c.args.to.now (all_lexemes member_lexemes (map member_of c.args.members.now)))
    c.loop-member-test.false c.loop-member.invariant
