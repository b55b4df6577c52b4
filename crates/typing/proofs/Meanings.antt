-- What a lock of a `requires` means tells its path: locks with equal meanings have equal paths.
use Rattle.std.proofs.Common.{◌≡◌, ℕ, ◌+◌, ◌≤◌, ◌==◌, Bool, true, false, ◌&&◌, ◌||◌, inl, inr, List, [], ◌∷◌, ◌++◌, map, length, Option, Some, None, Ok, refl, ap, ap₂, sym, ◌∙◌, subst, slice_get, position, bytes_eq, arith, option_map, option_and_then, unwrap_or, if◌then◌else◌, length-append}
use Rattle.std.specs.Prelude.{ok_or}
use Rattle.std.specs.List.{list_any, position_from}
use Rattle.std.specs.Option.{option_or}
use Rattle.std.proofs.lemmas.Bool.{and_parts, eqb-true, le-leb}
use Rattle.std.proofs.lemmas.List.{map-append, length-map}
use Rattle.std.proofs.lemmas.Option.{none-some, same_Some}
use Rattle.std.proofs.lemmas.Iterator.Adapters.{position_from-zero}
use Rattle.paths.specs.Paths.{PathData, extended_some, most_fields}
use Rattle.core_program.specs.declared.types.CoreType.TheVariants as type
use Rattle.core_program.specs.Locks.{slot_path, is_class}
use Rattle.core_program.specs.Types.{Variable}
use Rattle.syntax.specs.declared.tree.Name.{Name}
use Rattle.syntax.specs.declared.tree.Param.{Param}
use Rattle.syntax.specs.declared.tree.TypeName.{TypeName}
use Rattle.syntax.specs.declared.tree.TypeName.TheVariants as Y
use Rattle.syntax.specs.Trees.{LockTree, ClassTree, ProgramTree}
use Rattle.classes.specs.Names.{texts_of}
use Rattle.classes.specs.Members.{field_names}
use Rattle.classes.specs.Lines.{members_in, members_at}
use Rattle.classes.specs.Faults.{type_faults, is_class_in}
use Rattle.classes.specs.Overriding.{FieldPlace, FoundField, field_from, field_along, class_of_type, reach_from, reach_on, param_root, lock_root, most_lock_fields, meaning_of, meanings_of, are_same_places, is_same_lock, are_among}
use Rattle.classes.specs.Overriding as meant
use Rattle.classes.specs.declared.fault.ClassFault.TheVariants.{UnknownClass}
use Rattle.classes.proofs.Faultless.{IsFaultless, is_class_named}
use Rattle.classes.specs.Table.{TableData, ClassData, type_of, field_in, own_field, field_number, first_found, class_and_ancestors}
use Rattle.typing.specs.declared.fault.TypeFault.TheVariants.{UnknownName, NotALock}
use Rattle.typing.specs.Rulings.{gain, demand, then_rule}
use Rattle.typing.specs.Scopes.{variable, this_variable, scope_of_parameters}
use Rattle.typing.specs.Rules.{class_of_core_type, field_of_class, numbered_field}
use Rattle.typing.specs.Locks.{Reach, reach_of, one_field_further, lock_field, path_along, lock_end, root_rule, lock_rule}
use Rattle.typing.specs.Classes.{inherited_count}
use Rattle.base.proofs.Options.{then_parts, map_parts}
use Rattle.typing.proofs.Inversions.{same_ok, gain_of, demand_of, then_of, ok_or_of}
use Rattle.classes.proofs.Parts.{Each, each_at, mapped_at}
use Rattle.base.proofs.Lists.{at_left}
use Rattle.typing.proofs.Parts.{at_right, head_same, tail_same}
use Rattle.typing.proofs.PathsInOrder.{Among}
use Rattle.typing.proofs.Places.{FieldAt, own_fields, fields_at, field_entry, field_entries}
use Rattle.typing.proofs.TreeLines.{the_table, place, class_known, same_entry, line_same}
use Rattle.typing.proofs.TypedExprs.{class_in_of}
use Rattle.typing.proofs.TypedLocks.{extension_of, class_of}
use Rattle.typing.proofs.NamedFields.{same_from, none_from}

module _ (tree : ProgramTree) (whole : IsFaultless tree) where
  abbrev t : TableData
  t = the_table tree

  abbrev start : ℕ → ℕ
  start = inherited_count t

  -- a type is one of the program
  abbrev pub IsKnown : TypeName → Type 0
  IsKnown ty = type_faults (is_class_in tree) ty ≡ []

  known_text : (b : Bool) (at : ℕ) → (if b then [] else UnknownClass at ∷ []) ≡ [] → b ≡ true
  known_text true at h = refl
  known_text false at h = absurd (let e : UnknownClass at ∷ [] ≡ [] = h in cc)

  -- a known type that is a class is that class in the tree
  known_class : (ty : TypeName) (c : ℕ) → IsKnown ty → type_of t.names ty ≡ type.Class c → class_of_type tree ty ≡ Some c
  known_class Y.Int c known is = absurd cc
  known_class Y.Boolean c known is = absurd cc
  known_class (Y.Class n) c known is =
      let d = is_class_named tree n.text (known_text (is_class_in tree n.text) n.at known) in
      let same : type.Class d.0 ≡ type.Class c = ap (λ o. type.Class (unwrap_or o 0)) (sym d.1) ∙ is in
      d.1 ∙ ap Some (same_number d.0 c same)
    where
      same_number : (a b : ℕ) → type.Class a ≡ type.Class b → a ≡ b
      same_number a b h = cc

  -- ---- fields

  first_in : Option ClassData → ℕ
  first_in None = 0
  first_in (Some c) = c.first_field

  -- the number of a field by its class and its place there
  pub number_of : FieldPlace → ℕ
  number_of f = first_in (slice_get t.classes f.class) + f.place

  number_is : (f : FieldPlace) → number_of f ≡ first_in (slice_get t.classes f.class) + f.place
  unfolding number_of
  number_is f = refl

  first_at : (o : Option ClassData) (c : ClassData) → o ≡ Some c → first_in o ≡ c.first_field
  unfolding first_in
  first_at o c is = ap first_in is

  -- a field that the table finds is the one that the class rules find
  record IsFoundField (ks : List ℕ) (name : List ℕ) (n : ℕ) : Type 0 where
    found : FoundField
    along_is : field_along tree ks name ≡ Some found
    number : number_of found.at ≡ n
    field : FieldAt
    there : slice_get (fields_at start 0 tree) n ≡ Some field
    finality : found.is_final ≡ field.field.is_final
    ty : found.ty ≡ field.field.ty

  own_found : (k : ℕ) (ks : List ℕ) (name : List ℕ) (n : ℕ) → own_field t name k ≡ Some n → IsFoundField (k ∷ ks) name n
  own_found k ks name n h =
      let e = then_parts (field_in name) (slice_get t.classes k) n h in
      let i = map_parts (λ i. e.0.first_field + i) (position (bytes_eq name) e.0.field_names) n e.2 in
      let C = class_known tree k e.0 e.1 in
      let p = place tree k C.0 C.1 in
      let entry_is = same_entry tree k e.0 C.0 C.1 e.1 in
      let position_is : position_from (bytes_eq name) 0 (texts_of (field_names C.0.members)) ≡ Some i.0 =
      sym (position_from-zero (bytes_eq name) (texts_of (field_names C.0.members))) ∙ ap (λ z. position (bytes_eq name) z.field_names) entry_is ∙ i.1 in
      let r = same_from k (start k) 0 C.0.members name i.0 position_is in
      let members_is : members_at tree k ≡ C.0.members = ap members_in C.1 in
      let number_here : n ≡ length p.fields_before + r.place = omega (arith, i.2, ap (λ z. z.first_field) entry_is, p.first_field_is, r.number) in
      record {
        found = record { at = record { class = k; place = i.0 }; is_final = r.field.field.is_final; ty = r.field.field.ty };
        along_is = ap (λ o. option_or o (field_along tree ks name)) (ap (λ ms. field_from k 0 ms name) members_is ∙ r.found);
        number = number_is (record { class = k; place = i.0 }) ∙ ap (λ z. z + i.0) (first_at (slice_get t.classes k) e.0 e.1) ∙ i.2;
        field = r.field;
        there = ap (λ z. slice_get z n) p.fields ∙ at_right p.fields_before (own_fields k (start k) C.0.members ++ p.fields_after) r.place n number_here ∙ at_left (own_fields k (start k) C.0.members) p.fields_after r.place r.field r.there;
        finality = refl;
        ty = refl;
      }

  own_missing : (k : ℕ) (name : List ℕ) → own_field t name k ≡ None → field_from k 0 (members_at tree k) name ≡ None
  own_missing k name h = by_class (slice_get tree k) refl
    where
      by_class : (o : Option ClassTree) → slice_get tree k ≡ o → field_from k 0 (members_at tree k) name ≡ None
      by_class None none = ap (λ o. field_from k 0 (members_in o) name) none
      by_class (Some C) at =
          let p = place tree k C at in
          let nowhere : option_map (λ i. p.first_field + i) (position (bytes_eq name) (texts_of (field_names C.members))) ≡ None = sym (ap (option_and_then (field_in name)) p.entry) ∙ h in
          ap (λ o. field_from k 0 (members_in o) name) at
          ∙ none_from k 0 C.members name (sym (position_from-zero (bytes_eq name) (texts_of (field_names C.members))) ∙ unmapped (λ i. p.first_field + i) (position (bytes_eq name) (texts_of (field_names C.members))) nowhere)
        where
          unmapped : (f : ℕ → ℕ) (o : Option ℕ) → option_map f o ≡ None → o ≡ None
          unmapped f None h = refl
          unmapped f (Some x) h = absurd (none-some (f x) (sym h))

  found_along : (ks : List ℕ) (name : List ℕ) (n : ℕ) → first_found (own_field t name) ks ≡ Some n → IsFoundField ks name n
  found_along [] name n h = absurd (none-some n h)
  found_along (k ∷ ks) name n h = by_own (own_field t name k) refl h (found_along ks name n)
    where
      by_own : (o : Option ℕ) → own_field t name k ≡ o → option_or o (first_found (own_field t name) ks) ≡ Some n → (first_found (own_field t name) ks ≡ Some n → IsFoundField ks name n) → IsFoundField (k ∷ ks) name n
      by_own (Some x) is h later = own_found k ks name n (is ∙ h)
      by_own None is h later =
          let r = later h in
          record {
            found = r.found;
            along_is = ap (λ o. option_or o (field_along tree ks name)) (own_missing k name is) ∙ r.along_is;
            number = r.number;
            field = r.field;
            there = r.there;
            finality = r.finality;
            ty = r.ty;
          }

  -- ---- along the fields of a lock

  -- the path that a meaning tells
  pub shown : meant.LockMeaning → PathData
  shown r = record { root = r.slot; fields = map number_of r.fields }

  shown_is : (r : meant.LockMeaning) → shown r ≡ record { root = r.slot; fields = map number_of r.fields }
  unfolding shown
  shown_is r = refl

  module _ (known : Each (λ d. IsKnown d.field.ty) (fields_at start 0 tree)) where
    extended_nothing : (r : Option PathData) (fs : List ℕ) (q : PathData) → extended_some r fs ≡ Some q → (p : PathData) × (r ≡ Some p)
    extended_nothing None fs q h = absurd (none-some q h)
    extended_nothing (Some p) fs q h = (p, refl)

    along_path : (at : ℕ) (ns : List Name) (R S : Reach) (p : PathData) → path_along t at R ns ≡ Ok S → S.path ≡ Some p → (q : PathData) × (R.path ≡ Some q)
    along_path at [] R S p h is = (p, ap (λ z. z.path) (same_ok R S h) ∙ is)
    along_path at (n ∷ ns) R S p h is =
        let f = then_of (lock_field t at R n) (λ f. path_along t at (one_field_further R f) ns) S h in
        let q = along_path at ns (one_field_further R f.0) S p f.2 is in
        extended_nothing R.path (f.0.0 ∷ []) q.0 q.1

    -- a path has at most so many fields
    along_short : (at : ℕ) (ns : List Name) (R S : Reach) (p : PathData) → path_along t at R ns ≡ Ok S → S.path ≡ Some p → ((q : PathData) → R.path ≡ Some q → length q.fields ≤ most_fields) → length p.fields ≤ most_fields
    along_short at [] R S p h is low = low p (ap (λ z. z.path) (same_ok R S h) ∙ is)
    along_short at (n ∷ ns) R S p h is low =
        let f = then_of (lock_field t at R n) (λ f. path_along t at (one_field_further R f) ns) S h in
        along_short at ns (one_field_further R f.0) S p f.2 is (λ q path.
        let r = extended_nothing R.path (f.0.0 ∷ []) q path in
        let e = extension_of r.0 (f.0.0 ∷ []) q (ap (λ o. extended_some o (f.0.0 ∷ [])) (sym r.1) ∙ path) in
        subst (λ z. length z.fields ≤ most_fields) e.0 e.1)

    along_final : (at : ℕ) (ns : List Name) (R S : Reach) → path_along t at R ns ≡ Ok S → S.is_final ≡ true → R.is_final ≡ true
    along_final at [] R S h is = ap (λ z. z.is_final) (same_ok R S h) ∙ is
    along_final at (n ∷ ns) R S h is =
        let f = then_of (lock_field t at R n) (λ f. path_along t at (one_field_further R f) ns) S h in
        (and_parts R.is_final f.0.1.is_final (along_final at ns (one_field_further R f.0) S f.2 is)).0

    along_class : (at : ℕ) (ns : List Name) (R S : Reach) (c : ℕ) → path_along t at R ns ≡ Ok S → S.ty ≡ type.Class c → (d : ℕ) × (R.ty ≡ type.Class d)
    along_class at [] R S c h is = (c, ap (λ z. z.ty) (same_ok R S h) ∙ is)
    along_class at (n ∷ ns) R S c h is =
        let f = then_of (lock_field t at R n) (λ f. path_along t at (one_field_further R f) ns) S h in
        let d = then_of (ok_or (class_of_core_type R.ty) (NotALock at)) (λ c. ok_or (field_of_class t c n.text) (UnknownName n.at)) f.0 f.1 in
        (d.0, class_in_of R.ty d.0 (ok_or_of (class_of_core_type R.ty) (NotALock at) d.0 d.1))

    same_number : (a b : ℕ) → type.Class a ≡ type.Class b → a ≡ b
    same_number a b h = cc

    -- as far as a lock is read, its meaning tells its path
    record Walked (r : meant.LockMeaning) (ns : List Name) (p : PathData) : Type 0 where
      end : meant.LockMeaning
      along_is : meant.reach_along tree r ns ≡ Some end
      path : shown end ≡ p
      long : length end.fields ≡ length r.fields + length ns

    walk : (at : ℕ) (ns : List Name) (R S : Reach) (r : meant.LockMeaning) (p : PathData) (c : ℕ) → path_along t at R ns ≡ Ok S → S.is_final ≡ true → S.path ≡ Some p → S.ty ≡ type.Class c
        → R.path ≡ Some (shown r) → R.ty ≡ type.Class r.class → Walked r ns p
    walk at [] R S r p c h final_is path ty same class_is = record {
      end = r;
      along_is = refl;
      path = same_Some (shown r) p (sym same ∙ ap (λ z. z.path) (same_ok R S h) ∙ path);
      long = omega arith;
    }
    walk at (n ∷ ns) R S r p c h final_is path ty same class_is =
        let f = then_of (lock_field t at R n) (λ f. path_along t at (one_field_further R f) ns) S h in
        let d = then_of (ok_or (class_of_core_type R.ty) (NotALock at)) (λ c. ok_or (field_of_class t c n.text) (UnknownName n.at)) f.0 f.1 in
        let in_class : d.0 ≡ r.class = same_number d.0 r.class (sym (class_in_of R.ty d.0 (ok_or_of (class_of_core_type R.ty) (NotALock at) d.0 d.1)) ∙ class_is) in
        let named = ok_or_of (field_of_class t d.0 n.text) (UnknownName n.at) f.0 d.2 in
        let m = then_parts (numbered_field t) (field_number t d.0 n.text) f.0 named in
        let row = map_parts (λ x. (m.0, x)) (slice_get t.fields m.0) f.0 m.2 in
        let here = found_along (class_and_ancestors t d.0) n.text m.0 m.1 in
        let entry : slice_get t.fields m.0 ≡ Some (field_entry t.names here.field) = ap (λ z. slice_get z m.0) (field_entries start t.names 0 tree) ∙ mapped_at (field_entry t.names) (fields_at start 0 tree) m.0 here.field here.there in
        let data_is : field_entry t.names here.field ≡ row.0 = same_Some (field_entry t.names here.field) row.0 (sym entry ∙ row.1) in
        let number_is_f : m.0 ≡ f.0.0 = ap (λ z. z.0) row.2 in
        let more = one_field_further R f.0 in
        let q = along_path at ns more S p f.2 path in
        let finals = and_parts R.is_final f.0.1.is_final (along_final at ns more S f.2 final_is) in
        let e = along_class at ns more S c f.2 ty in
        let field_final : here.found.is_final ≡ true = here.finality ∙ ap (λ z. z.is_final) data_is ∙ ap (λ z. z.1.is_final) row.2 ∙ finals.1 in
        let field_type : type_of t.names here.found.ty ≡ type.Class e.0 = ap (type_of t.names) here.ty ∙ ap (λ z. z.ty) data_is ∙ ap (λ z. z.1.ty) row.2 ∙ e.1 in
        let field_known : IsKnown here.found.ty = ap (type_faults (is_class_in tree)) here.ty ∙ each_at (λ d. IsKnown d.field.ty) (fields_at start 0 tree) m.0 here.field known here.there in
        let meant_class = known_class here.found.ty e.0 field_known field_type in
        let next = reach_on r here.found e.0 in
        let step : option_and_then (λ f. meant.through tree r f) (meant.field_named tree r.class n.text) ≡ Some next =
        ap (option_and_then (λ f. meant.through tree r f)) (ap (λ k. meant.field_named tree k n.text) (sym in_class) ∙ ap (λ ks. field_along tree ks n.text) (sym (line_same tree whole d.0)) ∙ here.along_is)
        ∙ ap (λ b. if b then option_map (reach_on r here.found) (class_of_type tree here.found.ty) else None) field_final
        ∙ ap (option_map (reach_on r here.found)) meant_class in
        let extended_is = extension_of (shown r) (f.0.0 ∷ []) q.0 (ap (λ o. extended_some o (f.0.0 ∷ [])) (sym same) ∙ q.1) in
        let shown_next : shown next ≡ q.0 =
        shown_is next
        ∙ ap (λ fs. record { root = r.slot; fields = fs }) (map-append number_of r.fields (here.found.at ∷ []) ∙ ap (λ x. map number_of r.fields ++ x ∷ []) (here.number ∙ number_is_f))
        ∙ ap (λ (z : PathData). record { root = z.root; fields = z.fields ++ f.0.0 ∷ [] }) (sym (shown_is r))
        ∙ extended_is.0 in
        let w = walk at ns more S next p c f.2 final_is path ty (q.1 ∙ ap Some (sym shown_next)) e.1 in
        record {
          end = w.end;
          along_is = ap (option_and_then (λ next. meant.reach_along tree next ns)) step ∙ w.along_is;
          path = w.path;
          long = omega (arith, w.long, length-append r.fields (here.found.at ∷ []));
        }

    -- ---- where a lock begins

    root_among : (slot : ℕ) (params : List Param) (name : List ℕ) (v : Variable) (c : ℕ) → Each (λ p. IsKnown p.ty) params
        → variable (scope_of_parameters t slot params) name ≡ Some v → v.is_final ≡ true → v.ty ≡ type.Class c → param_root tree slot params name ≡ Some (reach_from v.slot c)
    root_among slot [] name v c all h final_is ty = absurd (none-some v h)
    root_among slot (p ∷ ps) name v c all h final_is ty = by_test (bytes_eq p.name.text name) h (λ later. root_among (slot + 1) ps name v c all.1 later final_is ty)
      where
        by_test : (b : Bool) → (if b then Some (record { slot = slot; is_final = p.is_final; ty = type_of t.names p.ty }) else variable (scope_of_parameters t (slot + 1) ps) name) ≡ Some v
            → (variable (scope_of_parameters t (slot + 1) ps) name ≡ Some v → param_root tree (slot + 1) ps name ≡ Some (reach_from v.slot c))
            → (if b then (if p.is_final then option_map (reach_from slot) (class_of_type tree p.ty) else None) else param_root tree (slot + 1) ps name) ≡ Some (reach_from v.slot c)
        by_test true k later =
            let same : record { slot = slot; is_final = p.is_final; ty = type_of t.names p.ty } ≡ v = same_Some (record { slot = slot; is_final = p.is_final; ty = type_of t.names p.ty }) v k in
            ap (λ b. if b then option_map (reach_from slot) (class_of_type tree p.ty) else None) (ap (λ (z : Variable). z.is_final) same ∙ final_is)
            ∙ ap (option_map (reach_from slot)) (known_class p.ty c all.0 (ap (λ (z : Variable). z.ty) same ∙ ty))
            ∙ ap (λ s. Some (reach_from s c)) (ap (λ (z : Variable). z.slot) same)
        by_test false k later = later k

    root_meant : (k : ℕ) (params : List Param) (root : Option Name) (v : Variable) (c : ℕ) → Each (λ p. IsKnown p.ty) params
        → root_rule k (scope_of_parameters t 1 params) root ≡ Ok v → v.is_final ≡ true → v.ty ≡ type.Class c → lock_root tree k params root ≡ Some (reach_from v.slot c)
    root_meant k params None v c all h final_is ty =
        let same : this_variable k ≡ v = same_ok (this_variable k) v h in
        ap₂ (λ s d. Some (reach_from s d)) (ap (λ (z : Variable). z.slot) same) (same_number k c (ap (λ (z : Variable). z.ty) same ∙ ty))
    root_meant k params (Some n) v c all h final_is ty =
        root_among 1 params n.text v c all (ok_or_of (variable (scope_of_parameters t 1 params) n.text) (UnknownName n.at) v h) final_is ty

    -- ---- a whole lock

    -- a lock with a path has a meaning that tells it
    record IsMeant (k : ℕ) (params : List Param) (l : LockTree) (p : PathData) : Type 0 where
      meaning : meant.LockMeaning
      is : meaning_of tree k params l ≡ Some meaning
      path : shown meaning ≡ p

    lock_meant : (k : ℕ) (params : List Param) (l : LockTree) (p : PathData) → Each (λ p. IsKnown p.ty) params
        → lock_rule t k (scope_of_parameters t 1 params) l ≡ Ok p → IsMeant k params l p
    lock_meant k params l p all h =
        let v = then_of (root_rule k (scope_of_parameters t 1 params) l.root) (λ v. then_rule (path_along t l.at (reach_of v) l.fields) (lock_end l.at)) p h in
        let S = then_of (path_along t l.at (reach_of v.0) l.fields) (lock_end l.at) p v.2 in
        let o = then_of (demand (S.0.is_final && is_class S.0.ty) (NotALock l.at) S.0.path) (λ q. ok_or q (NotALock l.at)) p S.2 in
        let d = demand_of (S.0.is_final && is_class S.0.ty) (NotALock l.at) S.0.path o.0 o.1 in
        let ends = and_parts S.0.is_final (is_class S.0.ty) d.0 in
        let c = class_of S.0.ty ends.1 in
        let path_is : S.0.path ≡ Some p = d.1 ∙ ok_or_of o.0 (NotALock l.at) p o.2 in
        let short = along_short l.at l.fields (reach_of v.0) S.0 p S.1 path_is (λ q is. subst (λ (z : PathData). length z.fields ≤ most_fields) (same_Some (slot_path v.0.slot) q is) (omega arith)) in
        let root_final = along_final l.at l.fields (reach_of v.0) S.0 S.1 ends.0 in
        let root_class = along_class l.at l.fields (reach_of v.0) S.0 c.0 S.1 c.1 in
        let root = root_meant k params l.root v.0 root_class.0 all v.1 root_final root_class.1 in
        let begin = reach_from v.0.slot root_class.0 in
        let w = walk l.at l.fields (reach_of v.0) S.0 begin p c.0 S.1 ends.0 path_is c.1 (ap Some (sym (shown_is begin))) root_class.1 in
        let few : length l.fields ≤ most_lock_fields = omega (arith, w.long, short, length-map w.end.fields number_of, ap (λ z. length z.fields) (sym (shown_is w.end) ∙ w.path)) in
        record {
          meaning = w.end;
          is = ap (λ b. if b then option_and_then (λ r. meant.reach_along tree r l.fields) (lock_root tree k params l.root) else None) (le-leb (length l.fields) most_lock_fields few)
              ∙ ap (option_and_then (λ r. meant.reach_along tree r l.fields)) root ∙ w.along_is;
          path = w.path;
        }

    -- ---- all locks of a method

    pub record AreMeant (k : ℕ) (params : List Param) (ls : List LockTree) (ps : List PathData) : Type 0 where
      pub meanings : List meant.LockMeaning
      pub are : meanings_of tree k params ls ≡ Some meanings
      pub paths : map shown meanings ≡ ps

    pub locks_meant : (k : ℕ) (params : List Param) (ls : List LockTree) (ps : List PathData) → Each (λ p. IsKnown p.ty) params
        → map (λ l. gain (lock_rule t k (scope_of_parameters t 1 params) l)) ls ≡ map Some ps → AreMeant k params ls ps
    locks_meant k params [] [] all e = record { meanings = []; are = refl; paths = refl }
    locks_meant k params [] (p ∷ ps) all e = absurd (let x : [] ≡ Some p ∷ map Some ps = e in cc)
    locks_meant k params (l ∷ ls) [] all e = absurd (let x : gain (lock_rule t k (scope_of_parameters t 1 params) l) ∷ map (λ l. gain (lock_rule t k (scope_of_parameters t 1 params) l)) ls ≡ [] = e in cc)
    locks_meant k params (l ∷ ls) (p ∷ ps) all e =
        let one = gain (lock_rule t k (scope_of_parameters t 1 params) l) in
        let rest = map (λ l. gain (lock_rule t k (scope_of_parameters t 1 params) l)) ls in
        let m = lock_meant k params l p all (gain_of (lock_rule t k (scope_of_parameters t 1 params) l) p (head_same one (Some p) rest (map Some ps) e)) in
        let more = locks_meant k params ls ps all (tail_same one (Some p) rest (map Some ps) e) in
        record {
          meanings = m.meaning ∷ more.meanings;
          are = ap (option_and_then (λ r. option_map (λ rs. r ∷ rs) (meanings_of tree k params ls))) m.is ∙ ap (option_map (λ rs. m.meaning ∷ rs)) more.are;
          paths = ap₂ (λ x xs. x ∷ xs) m.path more.paths;
        }

  -- ---- equal meanings

  same_places : (fs gs : List FieldPlace) → are_same_places fs gs ≡ true → map number_of fs ≡ map number_of gs
  same_places [] [] h = refl
  same_places [] (g ∷ gs) h = absurd (let e : false ≡ true = h in cc)
  same_places (f ∷ fs) [] h = absurd (let e : false ≡ true = h in cc)
  same_places (f ∷ fs) (g ∷ gs) h =
      let a = and_parts (f.class == g.class) (f.place == g.place && are_same_places fs gs) h in
      let b = and_parts (f.place == g.place) (are_same_places fs gs) a.1 in
      ap₂ (λ x xs. x ∷ xs) (ap₂ (λ c p. number_of (record { class = c; place = p })) (eqb-true f.class g.class a.0) (eqb-true f.place g.place b.0)) (same_places fs gs b.1)

  same_shown : (r s : meant.LockMeaning) → is_same_lock r s ≡ true → shown r ≡ shown s
  same_shown r s h =
      let a = and_parts (r.slot == s.slot) (are_same_places r.fields s.fields) h in
      shown_is r ∙ ap₂ (λ x fs. record { root = x; fields = fs }) (eqb-true r.slot s.slot a.0) (same_places r.fields s.fields a.1) ∙ sym (shown_is s)

  one_among : (r : meant.LockMeaning) (ss : List meant.LockMeaning) → list_any (is_same_lock r) ss ≡ true → Among (shown r) (map shown ss)
  one_among r [] h = let e : false ≡ true = h in cc
  one_among r (s ∷ ss) h = by_test (is_same_lock r s) refl h (one_among r ss)
    where
      by_test : (b : Bool) → is_same_lock r s ≡ b → (b || list_any (is_same_lock r) ss) ≡ true → (list_any (is_same_lock r) ss ≡ true → Among (shown r) (map shown ss)) → Among (shown r) (map shown (s ∷ ss))
      by_test true is k later = inl (sym (same_shown r s is))
      by_test false is k later = inr (later k)

  pub all_among : (rs ss : List meant.LockMeaning) → are_among rs ss ≡ true → (p : PathData) → Among p (map shown rs) → Among p (map shown ss)
  all_among [] ss h p k = absurd k
  all_among (r ∷ rs) ss h p k =
      let a = and_parts (list_any (is_same_lock r) ss) (are_among rs ss) h in
      elim k as (λ _. Among p (map shown ss)) [
        | inl same ↦ subst (λ z. Among z (map shown ss)) same (one_among r ss a.0)
        | inr later ↦ all_among rs ss a.1 p later
      ]
