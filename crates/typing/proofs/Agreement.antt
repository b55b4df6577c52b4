-- The core program of a tree agrees with its class table.
use Rattle.std.proofs.Common.{◌≡◌, ℕ, ◌+◌, ◌<◌, zero, suc, Bool, true, false, cond, ◌==◌, List, [], ◌∷◌, ◌++◌, map, flat_map, length, reverse, take, drop, filter, Option, Some, None, refl, ap, ap₂, sym, ◌∙◌, subst, slice_get, position, bytes_eq, arith, option_map, option_and_then, unwrap_or, append-nil}
use Rattle.std.specs.List.{filter_map, range_with_len}
use Rattle.std.specs.Option.{option_or}
use Rattle.std.proofs.Math.Path.{fun_ext}
use Rattle.std.proofs.Math.Seq.{drop-append_seam, take-append_seam}
use Rattle.std.proofs.lemmas.List.{map-append, length-map}
use Rattle.std.proofs.lemmas.List.Elements.{filter_map-append}
use Rattle.std.proofs.lemmas.List.Quantifiers.{position-Some}
use Rattle.std.proofs.lemmas.Option.{none-some, same_Some, slice_get_within}
use Rattle.base.specs.Ancestors.{reaches}
use Rattle.core_program.specs.declared.types.CoreType.{CoreType}
use Rattle.core_program.specs.Core.{Program, Method}
use Rattle.core_program.specs.Dispatch.{above_in, above_of, is_kind_of}
use Rattle.core_program.specs.Types as typing
use Rattle.core_program.specs.Types.{field_type, field_types}
use Rattle.core_program.specs.Typed.{fields_from}
use Rattle.syntax.specs.Trees.{ClassTree, ProgramTree}
use Rattle.base.proofs.Options.{then_parts, map_parts}
use Rattle.base.proofs.NumberLemmas.{other_below, other_above}
use Rattle.classes.specs.Names.{texts_of}
use Rattle.classes.specs.Members.{class_names, field_names}
use Rattle.classes.specs.Lines.{ancestors}
use Rattle.classes.proofs.Faultless.{IsFaultless}
use Rattle.classes.specs.Table.{ClassData, MethodData, class_number, above_in_table, class_and_ancestors, is_of_kind, field_in, own_field, field_number, number_of_own_method, own_method, method_number, first_found}
use Rattle.classes.specs.Seen.{FieldData}
use Rattle.typing.specs.Rules.{field_of_class, numbered_field, method_named, numbered_method, declared_parameter_types, own_fields, types_of_finals, final_types, own_fields_of}
use Rattle.typing.specs.Classes.{own_field_numbers, is_final_in, inherited_count, class_core, class_of_number}
use Rattle.typing.specs.Order.{IsLined}
use Rattle.typing.specs.Programs.{field_node, guard_tree_path}
use Rattle.typing.proofs.Ancestry.{found_there}
use Rattle.typing.proofs.Lined.{class_there, all_many}
use Rattle.typing.proofs.Paired.{line_named}
use Rattle.typing.proofs.TypedExprs.{IsFieldOf, IsMethodOf, IsMade}
use Rattle.classes.proofs.Parts.{each_at, mapped_at, before_mapped}
use Rattle.typing.proofs.Parts.{each_along, each_mapped, at_right, result_at, told_alike}
use Rattle.base.proofs.Lists.{at_left, get_below}
use Rattle.typing.proofs.Places as written
use Rattle.typing.proofs.Places.{FieldAt, MethodAt, fields_at, methods_at, field_entry, method_entry, core_field, core_method, field_entries, method_entries, own_fields_long, own_class, places, fields_from_is, places_both, places_none, places_all}
use Rattle.typing.proofs.Built.{IsBuilt, IsField, field_is, IsMethod, method_is, params_alike, Reads, types_read, reads}
use Rattle.typing.proofs.TreeLines.{the_table, table_long, place, class_known, same_entry, lined}

pub filter_both : {A : Type 0} (p : A → Bool) (xs ys : List A) → filter p (xs ++ ys) ≡ filter p xs ++ filter p ys
filter_both p [] ys = refl
filter_both p (x ∷ xs) ys = step (p x) (filter_both p xs ys)
  where
    step : (b : Bool) → filter p (xs ++ ys) ≡ filter p xs ++ filter p ys
        → cond b (x ∷ filter p (xs ++ ys)) (filter p (xs ++ ys)) ≡ cond b (x ∷ filter p xs) (filter p xs) ++ filter p ys
    step true h = ap (λ z. x ∷ z) h
    step false h = h

module _ (tree : ProgramTree) (P : Program) (b : IsBuilt tree P) where
  abbrev pub start : ℕ → ℕ
  start = inherited_count (the_table tree)

  abbrev pub all_fields_at : List FieldAt
  all_fields_at = fields_at start 0 tree

  pub field_there : (n : ℕ) (d : FieldAt) → slice_get all_fields_at n ≡ Some d → IsField (the_table tree) P n d
  field_there n d at =
      let r = result_at (core_field (the_table tree)) all_fields_at P.fields b.fields n d at in
      field_is (the_table tree) P n d r.0 r.1 r.2

  pub method_there : (n : ℕ) (d : MethodAt) → slice_get (methods_at 0 tree) n ≡ Some d → IsMethod (the_table tree) P n d
  method_there n d at =
      let r = result_at (core_method (the_table tree)) (methods_at 0 tree) P.methods b.methods n d at in
      method_is (the_table tree) P n d r.0 r.1 r.2

  -- the core class of a class of the table
  pub core_there : (c : ℕ) → slice_get P.classes c ≡ class_of_number (the_table tree) c
  core_there c = ap (λ z. slice_get z c) b.classes ∙ class_there (the_table tree) c

  pub core_class : (c : ℕ) (d : ClassData) → slice_get (the_table tree).classes c ≡ Some d → slice_get P.classes c ≡ Some (class_core (the_table tree) c d)
  core_class c d at = core_there c ∙ ap (option_map (class_core (the_table tree) c)) at

  pub classes_many : length P.classes ≡ length tree
  classes_many = ap length b.classes ∙ all_many (the_table tree) ∙ table_long tree

  -- the classes of the methods are those that the table tells
  pub methods_owned : map (λ (m : Method). m.class) P.methods ≡ map (λ (m : MethodData). m.class) (the_table tree).methods
  methods_owned =
      let class_of : MethodAt → ℕ = λ d. d.class in
      told_alike (core_method (the_table tree)) (λ m. m.class) class_of
      (λ d x h. ap (λ z. z.class) (sym (method_is (the_table tree) (record P { methods = x ∷ [] }) 0 d x refl h).node))
      (methods_at 0 tree) P.methods b.methods
      ∙ sym (entries_owned (methods_at 0 tree)) ∙ ap (map (λ (m : MethodData). m.class)) (sym (method_entries (the_table tree).names 0 tree))
    where
      entries_owned : (ds : List MethodAt) → map (λ (m : MethodData). m.class) (map (method_entry (the_table tree).names) ds) ≡ map (λ (d : MethodAt). d.class) ds
      entries_owned [] = refl
      entries_owned (d ∷ ds) = ap (λ z. d.class ∷ z) (entries_owned ds)

  -- ---- kinds

  above_at : (c : ℕ) → above_of P c ≡ above_in_table (the_table tree) c
  above_at c = ap above_in (core_there c) ∙ by_class (slice_get (the_table tree).classes c)
    where
      by_class : (o : Option ClassData) → above_in (option_map (class_core (the_table tree) c) o) ≡ option_and_then (λ (d : ClassData). d.above) o
      by_class None = refl
      by_class (Some d) = refl

  pub core_above : above_of P ≡ above_in_table (the_table tree)
  core_above = fun_ext above_at

  pub core_long : length P.classes ≡ length (the_table tree).classes
  core_long = classes_many ∙ sym (table_long tree)

  -- a class is of the kinds that the table tells
  pub kinds_same : (c d : ℕ) → is_kind_of P c d ≡ is_of_kind (the_table tree) c d
  kinds_same c d = ap (λ f. reaches f (length P.classes) (Some c) d) core_above ∙ ap (λ n. reaches (above_in_table (the_table tree)) n (Some c) d) core_long

  -- ---- a class and its own members

  module _ (c : ℕ) (C : ClassTree) (at : slice_get tree c ≡ Some C) where
    abbrev pub own : List FieldAt
    own = written.own_fields c (start c) C.members

    abbrev pub own_methods : List MethodAt
    own_methods = written.own_methods c C.members

    abbrev pub first : ℕ
    first = length (place tree c C at).fields_before

    -- a field of the class
    pub own_place : (i n : ℕ) (d : FieldAt) → n ≡ first + i → slice_get own i ≡ Some d → slice_get all_fields_at n ≡ Some d
    own_place i n d number is =
        let p = place tree c C at in
        ap (λ z. slice_get z n) p.fields ∙ at_right p.fields_before (own ++ p.fields_after) i n number ∙ at_left own p.fields_after i d is

    pub own_there : (i n : ℕ) (d : FieldAt) → n ≡ first + i → slice_get own i ≡ Some d → IsField (the_table tree) P n d
    own_there i n d number is = field_there n d (own_place i n d number is)

    own_entry : (i n : ℕ) (d : FieldAt) → n ≡ first + i → slice_get own i ≡ Some d → slice_get (the_table tree).fields n ≡ Some (field_entry (the_table tree).names d)
    own_entry i n d number is =
        ap (λ z. slice_get z n) (field_entries start (the_table tree).names 0 tree) ∙ mapped_at (field_entry (the_table tree).names) all_fields_at n d (own_place i n d number is)

    -- a method of the class
    pub own_method_place : (i n : ℕ) (d : MethodAt) → n ≡ length (place tree c C at).methods_before + i → slice_get own_methods i ≡ Some d → slice_get (methods_at 0 tree) n ≡ Some d
    own_method_place i n d number is =
        let p = place tree c C at in
        ap (λ z. slice_get z n) p.methods ∙ at_right p.methods_before (own_methods ++ p.methods_after) i n number ∙ at_left own_methods p.methods_after i d is

    -- the numbers of its own fields
    pub own_numbers : own_field_numbers (slice_get (the_table tree).classes c) ≡ range_with_len first (length own)
    own_numbers =
        let p = place tree c C at in
        let many : length (texts_of (field_names C.members)) ≡ length own = length-map (field_names C.members) (λ n. n.text) ∙ sym (own_fields_long c (start c) C.members) in
        let first_is : p.first_field ≡ first = omega (arith, p.first_field_is) in
        ap own_field_numbers p.entry ∙ ap₂ range_with_len first_is many

    pub numbers : fields_from c 0 P.fields ≡ own_field_numbers (slice_get (the_table tree).classes c)
    numbers =
        let p = place tree c C at in
        let class_of : FieldAt → ℕ = λ d. d.class in
        let all : map (λ f. f.class) P.fields ≡ map class_of all_fields_at =
        told_alike (core_field (the_table tree)) (λ f. f.class) class_of
        (λ d x h. ap (λ z. z.class) (sym (map_parts (field_node (the_table tree) d.class d.index d.field) (guard_tree_path (the_table tree) d.class d.field.guard) x h).2))
        all_fields_at P.fields b.fields in
        let before = map class_of p.fields_before in
        let middle = map class_of own in
        let after = map class_of p.fields_after in
        let parts : map class_of all_fields_at ≡ before ++ (middle ++ after) =
        ap (map class_of) p.fields ∙ map-append class_of p.fields_before (own ++ p.fields_after)
        ∙ ap (λ z. before ++ z) (map-append class_of own p.fields_after) in
        let one : places c 0 before ≡ [] =
        places_none c 0 before (each_mapped (λ x. (x == c) ≡ false) class_of p.fields_before
        (each_along (λ d. d.class < c) (λ d. (d.class == c) ≡ false) p.fields_before (λ d h. other_below d.class c h) p.apart_before)) in
        let two : places c (0 + length before) middle ≡ range_with_len (0 + length before) (length middle) =
        places_all c (0 + length before) middle (each_mapped (λ x. x ≡ c) class_of own (own_class c (start c) C.members)) in
        let three : places c (0 + length before + length middle) after ≡ [] =
        places_none c (0 + length before + length middle) after (each_mapped (λ x. (x == c) ≡ false) class_of p.fields_after
        (each_along (λ d. c < d.class) (λ d. (d.class == c) ≡ false) p.fields_after (λ d h. other_above d.class c h) p.apart_after)) in
        let first_is : 0 + length before ≡ first = omega (arith, length-map p.fields_before class_of) in
        fields_from_is c 0 P.fields ∙ ap (places c 0) (all ∙ parts) ∙ places_both c 0 before (middle ++ after)
        ∙ ap (λ z. z ++ places c (0 + length before) (middle ++ after)) one
        ∙ places_both c (0 + length before) middle after
        ∙ ap₂ (λ x y. x ++ y) two three
        ∙ append-nil (range_with_len (0 + length before) (length middle))
        ∙ ap₂ range_with_len first_is (length-map own class_of)
        ∙ sym own_numbers

    pub own_reads : Reads (λ f. is_final_in (slice_get (the_table tree).fields f)) (λ f. field_type (slice_get P.fields f)) (the_table tree).names first own
    own_reads = reads (the_table tree) P first own (λ i n d number is. own_there i n d number is) (λ i n d number is. own_entry i n d number is)

    -- its own fields in the table
    own_cut : own_fields (the_table tree) c ≡ map (field_entry (the_table tree).names) own
    own_cut =
        let p = place tree c C at in
        let names = (the_table tree).names in
        let before = map (field_entry names) p.fields_before in
        let middle = map (field_entry names) own in
        let after = map (field_entry names) p.fields_after in
        let parts : (the_table tree).fields ≡ before ++ (middle ++ after) =
        field_entries start names 0 tree ∙ ap (map (field_entry names)) p.fields
        ∙ map-append (field_entry names) p.fields_before (own ++ p.fields_after)
        ∙ ap (λ z. before ++ z) (map-append (field_entry names) own p.fields_after) in
        let first_is : p.first_field ≡ length before = omega (arith, p.first_field_is, length-map p.fields_before (field_entry names)) in
        let many : length (texts_of (field_names C.members)) ≡ length middle =
        length-map (field_names C.members) (λ n. n.text) ∙ sym (own_fields_long c (start c) C.members) ∙ sym (length-map own (field_entry names)) in
        ap (λ o. unwrap_or (option_map (own_fields_of (the_table tree)) o) []) p.entry
        ∙ ap₂ (λ l z. take l z) many (ap₂ drop first_is parts ∙ drop-append_seam before (middle ++ after)) ∙ take-append_seam middle after

    -- the types of its own final fields
    pub own_finals : filter_map (λ f. field_type (slice_get P.fields f)) (filter (λ f. is_final_in (slice_get (the_table tree).fields f)) (own_field_numbers (slice_get (the_table tree).classes c)))
        ≡ types_of_finals (own_fields (the_table tree) c)
    own_finals =
        let read : ℕ → Option CoreType = λ f. field_type (slice_get P.fields f) in
        let kept : ℕ → Bool = λ f. is_final_in (slice_get (the_table tree).fields f) in
        ap (λ z. filter_map read (filter kept z)) own_numbers
        ∙ types_read kept read (the_table tree).names first own own_reads
        ∙ ap types_of_finals (sym own_cut)

  -- ---- final fields along a line

  abbrev read : ℕ → Option CoreType
  read f = field_type (slice_get P.fields f)

  abbrev kept : ℕ → Bool
  kept f = is_final_in (slice_get (the_table tree).fields f)

  abbrev numbers_at : ℕ → List ℕ
  numbers_at c = own_field_numbers (slice_get (the_table tree).classes c)

  any_finals : (c : ℕ) → filter_map read (filter kept (numbers_at c)) ≡ types_of_finals (own_fields (the_table tree) c)
  any_finals c = by_class (slice_get tree c) refl
    where
      by_class : (o : Option ClassTree) → slice_get tree c ≡ o → filter_map read (filter kept (numbers_at c)) ≡ types_of_finals (own_fields (the_table tree) c)
      by_class (Some C) at = own_finals c C at
      by_class None none = by_entry (slice_get (the_table tree).classes c) refl
        where
          by_entry : (o : Option ClassData) → slice_get (the_table tree).classes c ≡ o
              → filter_map read (filter kept (own_field_numbers o)) ≡ types_of_finals (unwrap_or (option_map (own_fields_of (the_table tree)) o) [])
          by_entry None is = refl
          by_entry (Some d) is = let C = class_known tree c d is in absurd (none-some C.0 (sym none ∙ C.1))

  finals_along : (cs : List ℕ) → filter_map read (filter kept (flat_map numbers_at cs)) ≡ types_of_finals (flat_map (own_fields (the_table tree)) cs)
  finals_along [] = refl
  finals_along (c ∷ cs) =
      let rest = flat_map (own_fields (the_table tree)) cs in
      let mine = own_fields (the_table tree) c in
      ap (filter_map read) (filter_both kept (numbers_at c) (flat_map numbers_at cs))
      ∙ filter_map-append read (filter kept (numbers_at c)) (filter kept (flat_map numbers_at cs))
      ∙ ap₂ (λ x y. x ++ y) (any_finals c) (finals_along cs)
      ∙ sym (map-append (λ (f : FieldData). f.ty) (filter (λ (f : FieldData). f.is_final) mine) (filter (λ (f : FieldData). f.is_final) rest))
      ∙ ap (map (λ (f : FieldData). f.ty)) (sym (filter_both (λ (f : FieldData). f.is_final) mine rest))

  -- the types of a class's final fields
  pub finals_are : (c : ℕ) (d : ClassData) → field_types P (class_core (the_table tree) c d).finals ≡ final_types (the_table tree) c
  finals_are c d = finals_along (reverse (class_and_ancestors (the_table tree) c))

  pub classes_agree : (c : ℕ) (name : List ℕ) → class_number (the_table tree) name ≡ Some c → IsMade P c (final_types (the_table tree) c)
  classes_agree c name h =
      let within : c < length (the_table tree).names = (position-Some (bytes_eq name) (the_table tree).names c [] h).0 in
      let many : length (the_table tree).names ≡ length tree = length-map (class_names tree) (λ n. n.text) ∙ length-map tree (λ c. c.name) in
      let d = get_below (the_table tree).classes c (omega (arith, within, many, table_long tree)) in
      record { class = class_core (the_table tree) c d.0; is = core_class c d.0 d.1; finals = finals_are c d.0 }

  module _ (whole : IsFaultless tree) where
    abbrev in_line : IsLined (the_table tree)
    in_line = lined tree whole

    -- where something is found along the line of a class, the class is there
    pub found_low : (find : ℕ → Option ℕ) (c n : ℕ) → ((k : ℕ) → slice_get (the_table tree).classes k ≡ None → find k ≡ None)
        → first_found find (class_and_ancestors (the_table tree) c) ≡ Some n → c < length (the_table tree).classes
    found_low find c n outside h = by_class (slice_get (the_table tree).classes c) refl
      where
        by_class : (o : Option ClassData) → slice_get (the_table tree).classes c ≡ o → c < length (the_table tree).classes
        by_class (Some d) is = slice_get_within (the_table tree).classes c d is
        by_class None none =
            absurd (none-some n (
            sym (ap₂ option_or (outside c none)
            (ap (λ o. first_found find (ancestors (above_in_table (the_table tree)) (length (the_table tree).classes) o))
            (ap (option_and_then (λ (d : ClassData). d.above)) none) ∙ ap (first_found find) (nothing (length (the_table tree).classes)))) ∙ h))
          where
            nothing : (n : ℕ) → ancestors (above_in_table (the_table tree)) n None ≡ []
            nothing zero = refl
            nothing (suc n) = refl

    pub fields_agree : (c : ℕ) (name : List ℕ) (f : ℕ × FieldData) → field_of_class (the_table tree) c name ≡ Some f → IsFieldOf P c f
    fields_agree c name f h =
        let n = then_parts (numbered_field (the_table tree)) (field_number (the_table tree) c name) f h in
        let d = map_parts (λ d. (n.0, d)) (slice_get (the_table tree).fields n.0) f n.2 in
        let low = found_low (own_field (the_table tree) name) c n.0 (λ k none. ap (option_and_then (field_in name)) none) n.1 in
        let found = found_there (above_in_table (the_table tree)) (length (the_table tree).classes) in_line.below in_line.apart (own_field (the_table tree) name) n.0 c low n.1 in
        let j = found.place in
        let e = then_parts (field_in name) (slice_get (the_table tree).classes j) n.0 found.found in
        let i = map_parts (λ i. e.0.first_field + i) (position (bytes_eq name) e.0.field_names) n.0 e.2 in
        let C = class_known tree j e.0 e.1 in
        let p = place tree j C.0 C.1 in
        let mine = own j C.0 C.1 in
        let entry_is = same_entry tree j e.0 C.0 C.1 e.1 in
        let within : i.0 < length e.0.field_names = (position-Some (bytes_eq name) e.0.field_names i.0 [] i.1).0 in
        let long_is : length e.0.field_names ≡ length mine =
        ap (λ z. length z.field_names) (sym entry_is) ∙ length-map (field_names C.0.members) (λ n. n.text) ∙ sym (own_fields_long j (start j) C.0.members) in
        let x = get_below mine i.0 (omega (arith, within, long_is)) in
        let number : n.0 ≡ length p.fields_before + i.0 = omega (arith, i.2, ap (λ z. z.first_field) entry_is, p.first_field_is) in
        let is = own_there j C.0 C.1 i.0 n.0 x.0 number x.1 in
        let data_is : field_entry (the_table tree).names x.0 ≡ d.0 = same_Some (field_entry (the_table tree).names x.0) d.0 (sym (own_entry j C.0 C.1 i.0 n.0 x.0 number x.1) ∙ d.1) in
        let class_is : is.field.class ≡ j = is.class ∙ each_at (λ d. d.class ≡ j) mine i.0 x.0 (own_class j (start j) C.0.members) x.1 in
        subst (IsFieldOf P c) d.2 (record {
          field = is.field;
          is = is.is;
          of_class = ap (is_kind_of P c) class_is ∙ kinds_same c j ∙ found.kind;
          finality = is.finality ∙ ap (λ z. z.is_final) data_is;
          ty = is.ty ∙ ap (λ z. z.ty) data_is;
        })

    pub methods_agree : (c : ℕ) (name : List ℕ) (m : ℕ × MethodData) → method_named (the_table tree) c name ≡ Some m → IsMethodOf P c m
    methods_agree c name m h =
        let n = then_parts (numbered_method (the_table tree)) (method_number (the_table tree) c name) m h in
        let d = map_parts (λ d. (n.0, d)) (slice_get (the_table tree).methods n.0) m n.2 in
        let low = found_low (own_method (the_table tree) name) c n.0 (λ k none. ap (option_and_then (number_of_own_method name)) none) n.1 in
        let found = line_named (the_table tree) in_line name c n.0 low n.1 in
        let x = before_mapped (method_entry (the_table tree).names) (methods_at 0 tree) n.0 found.method (ap (λ z. slice_get z n.0) (sym (method_entries (the_table tree).names 0 tree)) ∙ found.is) in
        let is = method_there n.0 x.0 x.1 in
        let data_is : method_entry (the_table tree).names x.0 ≡ d.0 = x.2 ∙ same_Some found.method d.0 (sym found.is ∙ d.1) in
        subst (IsMethodOf P c) d.2 (record {
          method = is.method;
          is = is.is;
          of_class = ap (is_kind_of P c) (ap (λ z. z.class) (sym is.node) ∙ ap (λ z. z.class) x.2) ∙ kinds_same c found.method.class ∙ found.kind;
          params = ap typing.parameter_types (sym is.node) ∙ params_alike (the_table tree).names x.0.method.params ∙ ap declared_parameter_types data_is;
          result = ap (λ z. z.result) (sym is.node) ∙ ap (λ z. z.returns) data_is;
        })
