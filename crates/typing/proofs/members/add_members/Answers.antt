use Rattle.std.proofs.Common.{map, flat_map}
use Rattle.classes.specs.Views.{table_data}
use Rattle.syntax.specs.Views.{member_of}
use Rattle.typing.specs.Entries.{fields_after, methods_after}
use Rattle.typing.specs.Gathered.{appended}
use Rattle.typing.specs.Noted.{type_noted}
use Rattle.typing.specs.Programs.{all_there, fields_core, methods_core, member_type_faults}
use Rattle.typing.specs.BodyViews.{fields_data, methods_data}
use Rattle.typing.proofs.Adding.{field_step, method_step, member_fault, entries_next, entries_step, fields_step, methods_step}
use Rattle.typing.proofs.members.add_members.Goals as goal

pub loop-member-preserved : goal.loop-member-preserved
loop-member-preserved c =
    let T = table_data c.args.table.now in (
      field_step T c.args.class c.args.members.now c.loop-member.member-index c.loop-member.index c.in_ok-index.index c.member-item.result
          (fields_data c.loop-member.parts) (fields_data c.add_member.new.parts)
          (appended (fields_data c.args.parts.now) (all_there (fields_core T c.args.class c.args.inherited (map member_of c.args.members.now))))
          c.loop-member-test.true c.member-item.is c.loop-member.invariant.0 c.in_ok-index.ensures.fields c.in_ok-index.ensures.index,
      method_step T c.args.class c.args.members.now c.loop-member.member-index c.member-item.result
          (methods_data c.loop-member.parts) (methods_data c.add_member.new.parts)
          (appended (methods_data c.args.parts.now) (all_there (methods_core T c.args.class (map member_of c.args.members.now))))
          c.loop-member-test.true c.member-item.is c.loop-member.invariant.1 c.in_ok-index.ensures.methods,
      member_fault T c.args.class c.args.members.now c.loop-member.member-index c.member-item.result
          c.loop-member.first c.add_member.new.first
          (type_noted c.args.first.now (flat_map (member_type_faults T c.args.class) (map member_of c.args.members.now)))
          c.loop-member-test.true c.member-item.is c.loop-member.invariant.2 c.in_ok-index.ensures.fault,
      entries_step T c.args.class c.args.members.now c.loop-member.member-index c.loop-member.parts.next_field c.loop-member.parts.next_method
          c.add_member.new.parts.next_field c.add_member.new.parts.next_method c.member-item.result
          c.loop-member-test.true c.member-item.is c.loop-member.invariant.3 c.in_ok-index.ensures.next_field c.in_ok-index.ensures.next_method,
      fields_step c.args.members.now c.loop-member.member-index c.loop-member.parts.next_field c.add_member.new.parts.next_field
          (fields_after (map member_of c.args.members.now) c.args.parts.now.next_field) c.member-item.result
          c.loop-member-test.true c.member-item.is c.loop-member.invariant.4 c.in_ok-index.ensures.next_field,
      methods_step c.args.members.now c.loop-member.member-index c.loop-member.parts.next_method c.add_member.new.parts.next_method
          (methods_after (map member_of c.args.members.now) c.args.parts.now.next_method) c.member-item.result
          c.loop-member-test.true c.member-item.is c.loop-member.invariant.5 c.in_ok-index.ensures.next_method,
    )

pub add_member-requires : goal.add_member-requires
add_member-requires c =
    entries_next (table_data c.args.table.now) c.args.class c.args.members.now c.loop-member.member-index c.loop-member.parts.next_field c.loop-member.parts.next_method c.member-item.result
    c.loop-member-test.true c.member-item.is c.loop-member.invariant.3
