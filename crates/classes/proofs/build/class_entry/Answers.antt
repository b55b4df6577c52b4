-- A class has no more names than members, for which there is room.
use Rattle.std.proofs.Common.{map, length, ap, arith}
use Rattle.std.proofs.lemmas.List.{length-map}
use Rattle.syntax.specs.Views.{member_of}
use Rattle.classes.proofs.Counting.{few_fields, few_methods}
use Rattle.classes.proofs.build.class_entry.Goals as goal

pub invariant_of-result : goal.invariant_of-result
invariant_of-result c =
    let members = c.args.class.now.members.items in
    let lent = ap length c.as_slice-members.ensures.value in
    let count = length-map members member_of in
    let fields = few_fields (map member_of members) in
    let methods = few_methods (map member_of members) in
    let own_fields = ap (λ o. length o.fields) c.requires in
    let own_methods = ap (λ o. length o.methods) c.requires in
    record {
      few_fields = omega (arith, c.in_ok-check_room.ensures);
      few_methods = omega (arith, c.in_ok-check_room-2.ensures);
    }
