-- The fields and classes of the core program of a program without faults are typed.
use Rattle.std.proofs.Common.{◌≡◌, ℕ, ◌+◌, ◌<◌, ◌≤◌, Bool, true, false, ◌||◌, List, [], ◌∷◌, ◌++◌, map, length, filter, Option, Some, None, is_some, refl, ap, ap₂, sym, ◌∙◌, subst, inl, inr, slice_get, bytes_eq, arith, option_map, option_and_then, unwrap_or, if◌then◌else◌, length-append, IfSome, IsSome}
use Rattle.std.specs.Prelude.{codes}
use Rattle.std.specs.List.{list_any}
use Rattle.std.proofs.Math.Path.{fun_ext}
use Rattle.std.proofs.lemmas.Bool.{or_right}
use Rattle.std.proofs.lemmas.List.{length-map}
use Rattle.std.proofs.lemmas.List.Quantifiers.{position-Some}
use Rattle.std.proofs.lemmas.Option.{slice_get_within, slice_get-map, same_Some, none-some}
use Rattle.base.specs.Ancestors.{IsAncestor}
use Rattle.base.proofs.Lists.{get_right, at_either, get_below}
use Rattle.base.proofs.Options.{map_parts}
use Rattle.paths.specs.Paths.{PathData}
use Rattle.core_program.specs.Core.{Program, Class, Field}
use Rattle.core_program.specs.Dispatch.{class_fields, inherited_fields}
use Rattle.core_program.specs.Types.{field_type}
use Rattle.core_program.specs.Typed.{fields_from, is_final_at, IsEntry, IsRunnable, IsType, IsLock, IsTypedClass, IsTypedField}
use Rattle.syntax.specs.declared.tree.Param.{Param}
use Rattle.syntax.specs.declared.tree.TypeName.{TypeName}
use Rattle.syntax.specs.declared.tree.TypeName.TheVariants as Y
use Rattle.syntax.specs.Trees.{LockTree, ClassTree, ProgramTree}
use Rattle.classes.specs.declared.fault.ClassFault.TheVariants.{UnknownClass}
use Rattle.classes.specs.Names.{has_text}
use Rattle.classes.specs.Members.{has_none, finals_of, class_names, field_names}
use Rattle.classes.specs.Lines.{above, ancestors_of, members_in, members_at, all_members, says_runnable, says_so}
use Rattle.classes.specs.Faults.{is_class_in}
use Rattle.classes.specs.Faults as class_fault
use Rattle.classes.proofs.Faultless.{IsFaultless, below, no_circle, ancestors_step, along_lines, inherited_step, inherited_none, field_names_append, few_fields, has_run}
use Rattle.classes.proofs.Parted.{finals_append}
use Rattle.classes.specs.Table.{TableData, ClassData, type_of, method_number, above_in_table}
use Rattle.typing.specs.Locks.{lock_rule}
use Rattle.typing.specs.Rulings.{gain}
use Rattle.typing.specs.Classes.{own_field_numbers, is_final_in, fields_of_each, field_numbers, ancestors_in, inherited_count, class_core}
use Rattle.typing.specs.Order.{IsLined}
use Rattle.typing.specs.Programs.{guard_tree_path}
use Rattle.typing.proofs.Agreement.{first, own_numbers, own_reads, numbers, field_there, core_class, classes_many, methods_owned, core_above, core_long, kinds_same, filter_both, fields_agree, methods_agree, classes_agree}
use Rattle.typing.proofs.Built.{IsBuilt, field_is, none_final}
use Rattle.typing.proofs.Inversions.{gain_of}
use Rattle.typing.proofs.Lined.{fields_are, fields_on, fields_top}
use Rattle.typing.proofs.Overridden.{entry_there}
use Rattle.typing.proofs.Paired.{are_targets}
use Rattle.classes.proofs.Parts.{Each, each_at}
use Rattle.typing.proofs.Parts.{any_position, part_at}
use Rattle.typing.proofs.Places.{FieldAt, MethodAt, own_fields, fields_at, methods_at, field_entry, field_entries, core_field, own_fields_long, own_index, classes_between, counted_at, counted_long}
use Rattle.typing.proofs.TreeLines.{the_table, table_long, place, class_known, same_entry, above_same, lined}
use Rattle.typing.proofs.TypedExprs.{Agrees}
use Rattle.typing.proofs.TypedLocks.{lock_holds}
use Rattle.typing.proofs.MemberFacts.{IsWellGuarded, IsKnownField, IsKnownMethod, HasKnown, all_known, all_known_methods, each_from, none_are_final}
use Rattle.typing.proofs.SeenScopes.{no_more_seen}
use Rattle.typing.proofs.EqualSignatures.{param_pair}

test_of : (b : Bool) (at : ℕ) → (if b then [] else UnknownClass at ∷ []) ≡ [] → b ≡ true
test_of true at h = refl
test_of false at h = absurd (let e : UnknownClass at ∷ [] ≡ [] = h in cc)

both_empty : {A : Type 0} (xs ys : List A) → has_none (xs ++ ys) ≡ true → (has_none xs ≡ true) × (has_none ys ≡ true)
both_empty [] ys h = (refl, h)
both_empty (x ∷ xs) ys h = absurd (let e : false ≡ true = h in cc)

module _ (tree : ProgramTree) (P : Program) (b : IsBuilt tree P) (whole : IsFaultless tree) where
  abbrev t : TableData
  t = the_table tree

  abbrev known_in : List ℕ → Bool
  known_in = is_class_in tree

  abbrev in_line : IsLined t
  in_line = lined tree whole

  members_known : Each (HasKnown known_in) tree
  members_known = each_from (HasKnown known_in) tree (λ i c at. (whole.classes i c at).members)

  pub fields_known : Each (IsKnownField known_in) (fields_at (inherited_count t) 0 tree)
  fields_known = all_known (inherited_count t) known_in 0 tree members_known

  pub methods_known : Each (IsKnownMethod known_in) (methods_at 0 tree)
  methods_known = all_known_methods known_in 0 tree members_known

  pub method_params_known : (n : ℕ) (d : MethodAt) → slice_get (methods_at 0 tree) n ≡ Some d → Each (λ p. class_fault.type_faults known_in p.ty ≡ []) d.method.params
  method_params_known n d at = (each_at (IsKnownMethod known_in) (methods_at 0 tree) n d methods_known at).params

  -- ---- the table and the core program agree

  class_low : (c : ℕ) (d : ClassData) → slice_get t.classes c ≡ Some d → c < length t.classes
  class_low c d at = slice_get_within t.classes c d at

  -- a class that counts as `implements Runnable` has its `run`
  run_there : (c : ℕ) (d : ClassData) → slice_get t.classes c ≡ Some d → d.runnable ≡ true → (m : ℕ) × (method_number t c (codes "run") ≡ Some m) × IsEntry P c m
  run_there c d at counting =
      let C = class_known tree c d at in
      let says : says_so tree c ≡ true = ap (λ z. z.runnable) (same_entry tree c d C.0 C.1 at) ∙ counting in
      entry_there tree P b whole fields_known method_params_known (codes "run") c (class_low c d at) (has_run tree c C.0 (whole.classes c C.0 C.1) says)

  runs_agree : (c : ℕ) (d : ClassData) → slice_get t.classes c ≡ Some d → d.runnable ≡ true → IsRunnable P c
  runs_agree c d at counting =
      let r = run_there c d at counting in
      (class_core t c d, core_class tree P b c d at, ap is_some (ap (λ z. if z then method_number t c (codes "run") else None) counting ∙ r.1))

  pub agrees : Agrees t P
  agrees = record {
    fields = fields_agree tree P b whole;
    methods = methods_agree tree P b whole;
    classes = classes_agree tree P b;
    kinds = λ c d h. kinds_same tree P b c d ∙ h;
    runs = runs_agree;
  }

  names_many : length t.names ≡ length P.classes
  names_many = length-map (class_names tree) (λ n. n.text) ∙ length-map tree (λ c. c.name) ∙ sym (classes_many tree P b)

  -- a type without faults is one of the program
  type_known : (ty : TypeName) → class_fault.type_faults known_in ty ≡ [] → IsType P (type_of t.names ty)
  type_known Y.Int h = tt
  type_known Y.Boolean h = tt
  type_known (Y.Class n) h =
      let some = test_of (has_text t.names n.text) n.at h in
      let c = any_position (bytes_eq n.text) t.names some in
      let within : c.0 < length t.names = (position-Some (bytes_eq n.text) t.names c.0 [] c.1).0 in
      let below : c.0 < length P.classes = omega (arith, within, names_many) in
      subst (λ z. z < length P.classes) (ap (λ o. unwrap_or o 0) (sym c.1)) below

  pub result_known : (o : Option TypeName) → class_fault.result_faults known_in o ≡ [] → IfSome (option_map (type_of t.names) o) (IsType P)
  result_known None h = tt
  result_known (Some ty) h = type_known ty h

  pub params_known : (ps : List Param) → Each (λ p. class_fault.type_faults known_in p.ty ≡ []) ps → Each (λ p. IsType P p.1) (map (param_pair t.names) ps)
  params_known [] h = tt
  params_known (p ∷ ps) h = (type_known p.ty h.0, params_known ps h.1)

  -- ---- fields

  guard_is_lock : (k : ℕ) (guard : Option LockTree) (g : Option PathData) → guard_tree_path t k guard ≡ Some g → IfSome g (IsLock P k [])
  guard_is_lock k None g h = subst (λ z. IfSome z (IsLock P k [])) (same_Some None g h) tt
  guard_is_lock k (Some l) g h =
      let p = map_parts Some (gain (lock_rule t k [] l)) g h in
      subst (λ z. IfSome z (IsLock P k [])) p.2
      (lock_holds t P agrees k [] [] no_more_seen l p.0 (gain_of (lock_rule t k [] l) p.0 p.1))

  guard_kept : (k : ℕ) (guard : Option LockTree) (g : Option PathData) → IsSome guard → guard_tree_path t k guard ≡ Some g → IsSome g
  guard_kept k None g some h = absurd (let e : false ≡ true = some in cc)
  guard_kept k (Some l) g some h = let p = map_parts Some (gain (lock_rule t k [] l)) g h in subst (λ z. IsSome z) p.2 refl

  -- a field of a class by its place among the class's own
  record IsOwnField (c : ℕ) (C : ClassTree) (at : slice_get tree c ≡ Some C) (f : ℕ) (d : FieldAt) : Type 0 where
    place_there : ℕ
    number : f ≡ first tree P b c C at + place_there
    there : slice_get (own_fields c (inherited_count t c) C.members) place_there ≡ Some d

  own_field_at : (c : ℕ) (C : ClassTree) (at : slice_get tree c ≡ Some C) (f : ℕ) (d : FieldAt) → d.class ≡ c → slice_get (fields_at (inherited_count t) 0 tree) f ≡ Some d → IsOwnField c C at f d
  own_field_at c C at f d class_is at_f =
      let p = place tree c C at in
      let mine = own_fields c (inherited_count t c) C.members in
      elim (at_either p.fields_before (mine ++ p.fields_after) f d (ap (λ z. slice_get z f) (sym p.fields) ∙ at_f)) [
        | inl early ↦ absurd (let below : d.class < c = each_at (λ d. d.class < c) p.fields_before f d p.apart_before early in omega (arith, below, class_is))
        | inr later ↦ elim (at_either mine p.fields_after later.0 d later.2) [
          | inl here ↦ record { place_there = later.0; number = omega (arith, later.1); there = here }
          | inr late ↦ absurd (let above : c < d.class = each_at (λ d. c < d.class) p.fields_after late.0 d p.apart_after late.2 in omega (arith, above, class_is))
        ]
      ]

  -- the index of a field is its place in its class, behind the fields from above
  index_is : (c : ℕ) (C : ClassTree) (at : slice_get tree c ≡ Some C) (f : ℕ) (d : FieldAt) → d.class ≡ c → slice_get (fields_at (inherited_count t) 0 tree) f ≡ Some d
      → slice_get (field_numbers t c) d.index ≡ Some f
  index_is c C at f d class_is at_f =
      let o = own_field_at c C at f d class_is at_f in
      let mine = own_fields c (inherited_count t c) C.members in
      let inherited = fields_of_each t (ancestors_in t c) in
      let index : d.index ≡ length inherited + o.place_there = own_index c (inherited_count t c) C.members o.place_there d o.there in
      let within : o.place_there < length mine = slice_get_within mine o.place_there d o.there in
      let same : first tree P b c C at + o.place_there ≡ f = omega (arith, o.number) in
      ap (slice_get (field_numbers t c)) index
      ∙ ap (λ z. slice_get z (length inherited + o.place_there)) (fields_are t c)
      ∙ get_right inherited (own_field_numbers (slice_get t.classes c)) o.place_there
      ∙ ap (λ z. slice_get z o.place_there) (own_numbers tree P b c C at)
      ∙ counted_at (first tree P b c C at) (length mine) o.place_there within ∙ ap Some same

  module _ (guarded : Each IsWellGuarded (fields_at (inherited_count t) 0 tree)) where
    pub field_typed : (f : ℕ) (field : Field) → slice_get P.fields f ≡ Some field → IsTypedField P f field
    field_typed f field at =
        let r = part_at (core_field t) (fields_at (inherited_count t) 0 tree) P.fields b.fields f field at in
        let d = r.0 in
        let is = field_is t P f d field at r.2 in
        let within = (each_at (λ d. (0 ≤ d.class) × (d.class < 0 + length tree)) (fields_at (inherited_count t) 0 tree) f d (classes_between (inherited_count t) 0 tree) r.1).1 in
        let C = get_below tree d.class (omega (arith, within)) in
        let e = get_below t.classes d.class (omega (arith, within, table_long tree)) in
        record {
          class = class_core t d.class e.0;
          of_class = ap (slice_get P.classes) is.class ∙ core_class tree P b d.class e.0 e.1;
          index = ap (slice_get (field_numbers t d.class)) is.index ∙ index_is d.class C.0 C.1 f d refl r.1;
          ty = subst (IsType P) (sym is.ty) (type_known d.field.ty (each_at (IsKnownField known_in) (fields_at (inherited_count t) 0 tree) f d fields_known r.1));
          guard = subst (λ k. IfSome field.guard (IsLock P k [])) (sym is.class) (guard_is_lock d.class d.field.guard field.guard is.guard);
          unguarded = λ final_is.
              let none : d.field.guard ≡ None = (each_at IsWellGuarded (fields_at (inherited_count t) 0 tree) f d guarded r.1).plain (sym is.finality ∙ final_is) in
              same_Some field.guard None (sym is.guard ∙ ap (guard_tree_path t d.class) none);
          writes = λ set.
              let some : IsSome d.field.guard = (each_at IsWellGuarded (fields_at (inherited_count t) 0 tree) f d guarded r.1).writes (sym is.writes ∙ set) in
              guard_kept d.class d.field.guard field.guard some is.guard;
        }

  -- ---- classes

  -- a class has as many fields as the tree tells, those from above among them
  fields_long : (c : ℕ) → length (field_numbers t c) ≡ length (field_names (all_members tree c))
  fields_long = along_lines tree whole (λ c. length (field_numbers t c) ≡ length (field_names (all_members tree c))) first_one next_one
    where
      own_long : (c : ℕ) → length (own_field_numbers (slice_get t.classes c)) ≡ length (field_names (members_at tree c))
      own_long c = by_class (slice_get tree c) refl
        where
          by_class : (o : Option ClassTree) → slice_get tree c ≡ o → length (own_field_numbers (slice_get t.classes c)) ≡ length (field_names (members_at tree c))
          by_class (Some C) at =
              ap length (own_numbers tree P b c C at) ∙ counted_long (first tree P b c C at) (length (own_fields c (inherited_count t c) C.members))
              ∙ own_fields_long c (inherited_count t c) C.members ∙ ap (λ o. length (field_names (members_in o))) (sym at)
          by_class None none = by_entry (slice_get t.classes c) refl ∙ ap (λ o. length (field_names (members_in o))) (sym none)
            where
              by_entry : (o : Option ClassData) → slice_get t.classes c ≡ o → length (own_field_numbers o) ≡ 0
              by_entry None is = refl
              by_entry (Some d) is = let C = class_known tree c d is in absurd (none-some C.0 (sym none ∙ C.1))

      first_one : (c : ℕ) → above tree c ≡ None → length (field_numbers t c) ≡ length (field_names (all_members tree c))
      first_one c none =
          ap length (fields_top t in_line c (ap (λ f. f c) (above_same tree) ∙ none)) ∙ own_long c
          ∙ ap (λ ms. length (field_names (ms ++ members_at tree c))) (sym (inherited_none tree whole c none))

      next_one : (c d : ℕ) → above tree c ≡ Some d → length (field_numbers t d) ≡ length (field_names (all_members tree d)) → length (field_numbers t c) ≡ length (field_names (all_members tree c))
      next_one c d is h =
          ap length (fields_on t in_line c d (ap (λ f. f c) (above_same tree) ∙ is)) ∙ length-append (field_numbers t d) (own_field_numbers (slice_get t.classes c))
          ∙ ap₂ (λ x y. x + y) h (own_long c) ∙ sym (length-append (field_names (all_members tree d)) (field_names (members_at tree c)))
          ∙ ap length (sym (field_names_append (all_members tree d) (members_at tree c)))
          ∙ ap (λ ms. length (field_names (ms ++ members_at tree c))) (sym (inherited_step tree whole c d is))

  -- the numbers of the final fields, where the tree has none
  pub none_kept : (c : ℕ) → has_none (finals_of (all_members tree c)) ≡ true → filter (λ f. is_final_in (slice_get t.fields f)) (field_numbers t c) ≡ []
  none_kept = along_lines tree whole (λ c. has_none (finals_of (all_members tree c)) ≡ true → filter kept (field_numbers t c) ≡ []) first_one next_one
    where
      kept : ℕ → Bool
      kept f = is_final_in (slice_get t.fields f)

      own_none : (c : ℕ) → has_none (finals_of (members_at tree c)) ≡ true → filter kept (own_field_numbers (slice_get t.classes c)) ≡ []
      own_none c plain = by_class (slice_get tree c) refl
        where
          by_class : (o : Option ClassTree) → slice_get tree c ≡ o → filter kept (own_field_numbers (slice_get t.classes c)) ≡ []
          by_class (Some C) at =
              ap (filter kept) (own_numbers tree P b c C at)
              ∙ none_final kept (λ f. field_type (slice_get P.fields f)) t.names (first tree P b c C at) (own_fields c (inherited_count t c) C.members)
              (own_reads tree P b c C at) (none_are_final c (inherited_count t c) C.members (sym (ap (λ o. has_none (finals_of (members_in o))) at) ∙ plain))
          by_class None none = by_entry (slice_get t.classes c) refl
            where
              by_entry : (o : Option ClassData) → slice_get t.classes c ≡ o → filter kept (own_field_numbers o) ≡ []
              by_entry None is = refl
              by_entry (Some d) is = let C = class_known tree c d is in absurd (none-some C.0 (sym none ∙ C.1))

      first_one : (c : ℕ) → above tree c ≡ None → has_none (finals_of (all_members tree c)) ≡ true → filter kept (field_numbers t c) ≡ []
      first_one c none plain =
          ap (filter kept) (fields_top t in_line c (ap (λ f. f c) (above_same tree) ∙ none))
          ∙ own_none c (sym (ap (λ ms. has_none (finals_of (ms ++ members_at tree c))) (inherited_none tree whole c none)) ∙ plain)

      next_one : (c d : ℕ) → above tree c ≡ Some d → (has_none (finals_of (all_members tree d)) ≡ true → filter kept (field_numbers t d) ≡ []) → has_none (finals_of (all_members tree c)) ≡ true → filter kept (field_numbers t c) ≡ []
      next_one c d is h plain =
          let parts = both_empty (finals_of (all_members tree d)) (finals_of (members_at tree c))
          (sym (ap has_none (finals_append (all_members tree d) (members_at tree c))) ∙ sym (ap (λ ms. has_none (finals_of (ms ++ members_at tree c))) (inherited_step tree whole c d is)) ∙ plain) in
          ap (filter kept) (fields_on t in_line c d (ap (λ f. f c) (above_same tree) ∙ is))
          ∙ filter_both kept (field_numbers t d) (own_field_numbers (slice_get t.classes c))
          ∙ ap₂ (λ x y. x ++ y) (h parts.0) (own_none c parts.1)

  -- whether a field is final, by the table and by the core program
  pub finality_same : (f : ℕ) → is_final_in (slice_get t.fields f) ≡ is_final_at (slice_get P.fields f)
  finality_same f = by_field (slice_get P.fields f) refl
    where
      entries : slice_get t.fields f ≡ option_map (field_entry t.names) (slice_get (fields_at (inherited_count t) 0 tree) f)
      entries = ap (λ z. slice_get z f) (field_entries (inherited_count t) t.names 0 tree) ∙ slice_get-map (field_entry t.names) (fields_at (inherited_count t) 0 tree) f

      by_field : (o : Option Field) → slice_get P.fields f ≡ o → is_final_in (slice_get t.fields f) ≡ is_final_at (slice_get P.fields f)
      by_field (Some x) at =
          let r = part_at (core_field t) (fields_at (inherited_count t) 0 tree) P.fields b.fields f x at in
          ap is_final_in (entries ∙ ap (option_map (field_entry t.names)) r.1) ∙ sym (field_is t P f r.0 x at r.2).finality ∙ ap is_final_at (sym at)
      by_field None none = by_place (slice_get (fields_at (inherited_count t) 0 tree) f) refl
        where
          by_place : (o : Option FieldAt) → slice_get (fields_at (inherited_count t) 0 tree) f ≡ o → is_final_in (slice_get t.fields f) ≡ is_final_at (slice_get P.fields f)
          by_place None is = ap is_final_in (entries ∙ ap (option_map (field_entry t.names)) is) ∙ ap is_final_at (sym none)
          by_place (Some d) is = let x = field_there tree P b f d is in absurd (none-some x.field (sym none ∙ x.is))

  run_is_entry : (c : ℕ) (d : ClassData) → slice_get t.classes c ≡ Some d → (counting : Bool) → d.runnable ≡ counting → IfSome (if counting then method_number t c (codes "run") else None) (IsEntry P c)
  run_is_entry c d at true counting = let r = run_there c d at counting in subst (λ z. IfSome z (IsEntry P c)) (sym r.1) r.2
  run_is_entry c d at false counting = tt

  -- the fields from above, and then the class's own
  fields_in_order : (c : ℕ) (C : ClassTree) → slice_get tree c ≡ Some C → (a : Option ℕ) → above_in_table t c ≡ a → field_numbers t c ≡ inherited_fields P a ++ fields_from c 0 P.fields
  fields_in_order c C at None none = fields_top t in_line c none ∙ sym (numbers tree P b c C at)
  fields_in_order c C at (Some d) is =
      let e = get_below t.classes d (in_line.below c d is) in
      fields_on t in_line c d is ∙ ap₂ (λ x y. x ++ y) (sym (ap class_fields (core_class tree P b d e.0 e.1))) (sym (numbers tree P b c C at))

  -- a class counts as `implements Runnable` where the class above does
  counts_on : (c d : ℕ) (e f : ClassData) → slice_get t.classes c ≡ Some e → slice_get t.classes d ≡ Some f → above_in_table t c ≡ Some d → f.runnable ≡ true → e.runnable ≡ true
  counts_on c d e f at_c at_d is counting =
      let C = class_known tree c e at_c in
      let D = class_known tree d f at_d in
      let in_tree : above tree c ≡ Some d = sym (ap (λ g. g c) (above_same tree)) ∙ is in
      let says : says_so tree d ≡ true = ap (λ z. z.runnable) (same_entry tree d f D.0 D.1 at_d) ∙ counting in
      let step : ancestors_of tree c ≡ d ∷ ancestors_of tree d = ancestors_step (above tree) (length tree) c d (below tree) (no_circle tree whole) in_tree in
      ap (λ z. z.runnable) (sym (same_entry tree c e C.0 C.1 at_c))
      ∙ ap (λ ks. says_runnable tree c || list_any (says_runnable tree) ks) step
      ∙ or_right (says_runnable tree c) (list_any (says_runnable tree) (d ∷ ancestors_of tree d)) says

  only_counting : (b : Bool) (o : Option ℕ) → IsSome (if b then o else None) → b ≡ true
  only_counting true o some = refl
  only_counting false o some = absurd (let e : false ≡ true = some in cc)

  pub class_typed : (c : ℕ) (class : Class) → slice_get P.classes c ≡ Some class → IsTypedClass P c class
  class_typed c class at =
      let within = slice_get_within P.classes c class at in
      let C = get_below tree c (omega (arith, within, classes_many tree P b)) in
      let e = get_below t.classes c (omega (arith, within, classes_many tree P b, table_long tree)) in
      let low : c < length t.classes = class_low c e.0 e.1 in
      let above_is : above_in_table t c ≡ e.0.above = ap (option_and_then (λ (x : ClassData). x.above)) e.1 in
      subst (IsTypedClass P c) (same_Some (class_core t c e.0) class (sym (core_class tree P b c e.0 e.1) ∙ at)) (record {
        above = above_low e.0.above above_is;
        apart = λ round. in_line.apart c (subst (λ f. IsAncestor f c c) (core_above tree P b) round);
        fields = fields_in_order c C.0 C.1 e.0.above above_is;
        finals = ap (λ p. filter p (field_numbers t c)) (fun_ext finality_same);
        targets = are_targets t in_line P b.classes (methods_owned tree P b) c e.0 e.1 low;
        runs = λ d is (made, there, some). runs_on d e.0 e.1 (above_is ∙ is) made there some;
        run = run_is_entry c e.0 e.1 e.0.runnable refl;
        few = omega (arith, fields_long c, few_fields tree c C.0 (whole.classes c C.0 C.1));
      })
    where
      above_low : (a : Option ℕ) → above_in_table t c ≡ a → IfSome a (λ d. d < length P.classes)
      above_low None is = tt
      above_low (Some d) is = let l = in_line.below c d is in omega (arith, l, core_long tree P b)

      runs_on : (d : ℕ) (e : ClassData) → slice_get t.classes c ≡ Some e → above_in_table t c ≡ Some d → (made : Class) → slice_get P.classes d ≡ Some made → IsSome made.run → IsSome (class_core t c e).run
      runs_on d e at_c is made there some =
          let f = get_below t.classes d (in_line.below c d is) in
          let same : class_core t d f.0 ≡ made = same_Some (class_core t d f.0) made (sym (core_class tree P b d f.0 f.1) ∙ there) in
          let counting = counts_on c d e f.0 at_c f.1 is (only_counting f.0.runnable (method_number t d (codes "run")) (subst (λ (z : Class). IsSome z.run) (sym same) some)) in
          let r = run_there c e at_c counting in
          ap is_some (ap (λ z. if z then method_number t c (codes "run") else None) counting ∙ r.1)
