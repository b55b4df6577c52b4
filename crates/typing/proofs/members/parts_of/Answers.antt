use Rattle.std.proofs.Common.{map, flat_map, ap, sym, subst, ◌∙◌, arith}
use Rattle.std.proofs.lemmas.Option.{same_Some}
use Rattle.classes.specs.Views.{table_data}
use Rattle.syntax.specs.Views.{class_of, member_of}
use Rattle.typing.specs.Entries.{HaveEntries, fields_after, methods_after}
use Rattle.typing.specs.Gathered.{appended}
use Rattle.typing.specs.Noted.{type_noted}
use Rattle.typing.specs.Programs.{all_there, fields_core, methods_core, member_type_faults, type_faults_from, all_core_fields, all_core_methods}
use Rattle.typing.specs.BodyViews.{fields_data, methods_data}
use Rattle.typing.proofs.Adding.{class_fields_step, class_methods_step, class_fault, all_entries_next, all_entries_step}
use Rattle.typing.proofs.members.parts_of.Goals as goal

pub loop-class-preserved : goal.loop-class-preserved
loop-class-preserved c =
    let T = table_data c.args.table.now in
    let k = c.loop-class.number in (
      class_fields_step T c.args.classes.now c.loop-class.class-index k c.in_ok-number.number c.value_of.result.now.inherited c.class-item.result
          (fields_data c.loop-class.parts) (fields_data c.add_members.new.parts) (all_there (all_core_fields T 0 (map class_of c.args.classes.now)))
          c.loop-class-test.true c.class-item.is c.loop-class.invariant.0
          (c.in_ok-add_members.ensures.fields ∙ ap (λ z. appended (fields_data c.loop-class.parts) (all_there (fields_core T k c.value_of.result.now.inherited (map member_of z)))) c.as_slice.ensures.value)
          (ap (λ l. l.inherited) (same_Some _ _ (sym c.value_of.ensures ∙ c.requires.lineages k (omega (arith, c.loop-class.invariant.3, c.loop-class-test.true, c.requires.many)))))
          c.in_ok-number.ensures,
      class_methods_step T c.args.classes.now c.loop-class.class-index k c.in_ok-number.number c.class-item.result
          (methods_data c.loop-class.parts) (methods_data c.add_members.new.parts) (all_there (all_core_methods T 0 (map class_of c.args.classes.now)))
          c.loop-class-test.true c.class-item.is c.loop-class.invariant.1
          (c.in_ok-add_members.ensures.methods ∙ ap (λ z. appended (methods_data c.loop-class.parts) (all_there (methods_core T k (map member_of z)))) c.as_slice.ensures.value)
          c.in_ok-number.ensures,
      class_fault T c.args.classes.now c.loop-class.class-index k c.in_ok-number.number c.class-item.result
          c.loop-class.first c.add_members.new.first (type_noted c.args.first.now (type_faults_from T 0 (map class_of c.args.classes.now)))
          c.loop-class-test.true c.class-item.is c.loop-class.invariant.2
          (c.in_ok-add_members.ensures.fault ∙ ap (λ z. type_noted c.loop-class.first (flat_map (member_type_faults T k) (map member_of z))) c.as_slice.ensures.value)
          c.in_ok-number.ensures,
      omega (arith, c.loop-class.invariant.3, c.in_ok-number.ensures),
      all_entries_step T k c.in_ok-number.number c.args.classes.now c.loop-class.class-index c.loop-class.parts.next_field c.loop-class.parts.next_method
          c.add_members.new.parts.next_field c.add_members.new.parts.next_method c.class-item.result
          c.loop-class-test.true c.class-item.is c.loop-class.invariant.4
          (c.in_ok-add_members.ensures.next_field ∙ ap (λ z. fields_after (map member_of z) c.loop-class.parts.next_field) c.as_slice.ensures.value)
          (c.in_ok-add_members.ensures.next_method ∙ ap (λ z. methods_after (map member_of z) c.loop-class.parts.next_method) c.as_slice.ensures.value)
          c.in_ok-number.ensures,
    )

pub add_members-requires : goal.add_members-requires
add_members-requires c =
    let T = table_data c.args.table.now in
    subst (λ z. HaveEntries T c.loop-class.number (map member_of z) c.loop-class.parts.next_field c.loop-class.parts.next_method) (sym c.as_slice.ensures.value)
    (all_entries_next T c.loop-class.number c.args.classes.now c.loop-class.class-index c.loop-class.parts.next_field c.loop-class.parts.next_method c.class-item.result
    c.loop-class-test.true c.class-item.is c.loop-class.invariant.4)
