-- What a program's class table tells holds of its core program.
use Rattle.std.proofs.Common.{◌≡◌, ℕ, ◌+◌, zero, suc, Bool, true, false, cond, ◌||◌, List, [], ◌∷◌, ◌++◌, map, length, get_or, filter, Option, Some, refl, ap, ap₂, sym, ◌∙◌, subst, slice_get, position, bytes_eq, arith, if◌then◌else◌}
use Rattle.std.specs.List.{list_any, filter_map, cons_option, range_with_len}
use Rattle.std.proofs.lemmas.List.Quantifiers.{position-Some}
use Rattle.std.proofs.lemmas.List.Folds.{list_any-append}
use Rattle.std.proofs.lemmas.Option.{slice_get-get_or, same_Some}
use Rattle.std.proofs.lemmas.Slice.Eq.{bytes_eq-Decides}
use Rattle.std.proofs.lemmas.Bool.{or_parts, and_parts}
use Rattle.std.proofs.Math.Bool.{or-true}
use Rattle.base.proofs.Options.{map_parts}
use Rattle.paths.specs.Paths.{PathData}
use Rattle.core_program.specs.declared.types.CoreType.{CoreType}
use Rattle.core_program.specs.Core.{Program, Field, Method, Stmts}
use Rattle.core_program.specs.Types.{field_type}
use Rattle.syntax.specs.declared.tree.Name.{Name}
use Rattle.syntax.specs.declared.tree.Param.{Param}
use Rattle.syntax.specs.Trees.{MemberTree, FieldM, CtorM, MethodM, ProgramTree}
use Rattle.classes.specs.Names.{texts_of, has_text, repeats, repeats_after}
use Rattle.classes.specs.Members.{has_none, is_bare, is_entry}
use Rattle.classes.specs.Seen.{FieldData}
use Rattle.classes.specs.Table.{TableData, type_of, param_of, table_of}
use Rattle.typing.specs.Rulings.{gain, both}
use Rattle.typing.specs.Locks.{lock_rule}
use Rattle.typing.specs.Stmts.{block_core}
use Rattle.typing.specs.Programs.{all_there, guard_tree_path, field_node, method_scope, method_result, method_node, all_core_fields, all_core_methods, main_class, main_method, program_node, core_of}
use Rattle.typing.specs.Classes.{is_final_in, inherited_count, all_classes}
use Rattle.typing.proofs.Inversions.{both_of}
use Rattle.classes.proofs.Parts.{Each, nothing_at, mapped_at, before_mapped}
use Rattle.typing.proofs.Parts.{any_position, there_are}
use Rattle.typing.proofs.Places.{FieldAt, MethodAt, own_methods, fields_at, methods_at, field_entry, core_field, core_method, field_cores, method_cores}

-- ---- the parts of a core program

pub record IsBuilt (tree : ProgramTree) (P : Program) : Type 0 where
  pub fields : map (core_field (table_of tree)) (fields_at (inherited_count (table_of tree)) 0 tree) ≡ map Some P.fields
  pub methods : map (core_method (table_of tree)) (methods_at 0 tree) ≡ map Some P.methods
  pub classes : P.classes ≡ all_classes (table_of tree) 0 (table_of tree).classes
  pub main_class_is : P.main_class ≡ main_class (table_of tree)
  pub main_is : P.main ≡ main_method (table_of tree)

pub built : (tree : ProgramTree) (P : Program) → core_of tree ≡ Some P → IsBuilt tree P
built tree P h =
    let t = table_of tree in
    let p = map_parts (program_node t) (both (all_there (all_core_fields t 0 tree)) (all_there (all_core_methods t 0 tree))) P h in
    let q = both_of (all_there (all_core_fields t 0 tree)) (all_there (all_core_methods t 0 tree)) p.0 p.1 in
    subst (IsBuilt tree) p.2 (record {
      fields = sym (field_cores t 0 tree) ∙ there_are (all_core_fields t 0 tree) p.0.0 q.0;
      methods = sym (method_cores t 0 tree) ∙ there_are (all_core_methods t 0 tree) p.0.1 q.1;
      classes = refl;
      main_class_is = refl;
      main_is = refl;
    })

-- ---- a field of the core program, by what is written

pub record IsField (t : TableData) (P : Program) (n : ℕ) (d : FieldAt) : Type 0 where
  pub field : Field
  pub is : slice_get P.fields n ≡ Some field
  pub class : field.class ≡ d.class
  pub index : field.index ≡ d.index
  pub finality : field.is_final ≡ d.field.is_final
  pub ty : field.ty ≡ type_of t.names d.field.ty
  pub guard : guard_tree_path t d.class d.field.guard ≡ Some field.guard
  pub writes : field.writes_only ≡ d.field.writes_only

abbrev pub field_is : (t : TableData) (P : Program) (n : ℕ) (d : FieldAt) (x : Field) → slice_get P.fields n ≡ Some x → core_field t d ≡ Some x → IsField t P n d
field_is t P n d x is h =
    let g = map_parts (field_node t d.class d.index d.field) (guard_tree_path t d.class d.field.guard) x h in
    record {
      field = x;
      is = is;
      class = ap (λ z. z.class) (sym g.2);
      index = ap (λ z. z.index) (sym g.2);
      finality = ap (λ z. z.is_final) (sym g.2);
      ty = ap (λ z. z.ty) (sym g.2);
      guard = g.1 ∙ ap (λ z. Some z.guard) g.2;
      writes = ap (λ z. z.writes_only) (sym g.2);
    }

-- ---- a method of the core program, by what is written

pub record IsMethod (t : TableData) (P : Program) (n : ℕ) (d : MethodAt) : Type 0 where
  pub method : Method
  pub is : slice_get P.methods n ≡ Some method
  pub paths : List PathData
  pub stmts : Stmts
  pub locks : all_there (map (λ l. gain (lock_rule t d.class (method_scope t d.method) l)) d.method.locks) ≡ Some paths
  pub body : block_core t d.class (method_result t d.method) (1 + length d.method.params) (method_scope t d.method) 0 d.method.body ≡ Some stmts
  pub node : method_node t d.class d.method (paths, stmts) ≡ method

abbrev pub method_is : (t : TableData) (P : Program) (n : ℕ) (d : MethodAt) (x : Method) → slice_get P.methods n ≡ Some x → core_method t d ≡ Some x → IsMethod t P n d
method_is t P n d x is h =
    let paths = all_there (map (λ l. gain (lock_rule t d.class (method_scope t d.method) l)) d.method.locks) in
    let stmts = block_core t d.class (method_result t d.method) (1 + length d.method.params) (method_scope t d.method) 0 d.method.body in
    let p = map_parts (method_node t d.class d.method) (both paths stmts) x h in
    let q = both_of paths stmts p.0 p.1 in
    record { method = x; is = is; paths = p.0.0; stmts = p.0.1; locks = q.0; body = q.1; node = p.2 }

pub params_alike : (names : List (List ℕ)) (ps : List Param)
    → map {A = Bool × CoreType} (λ p. p.1) (map (λ q. (q.is_final, type_of names q.ty)) ps) ≡ map (λ p. p.ty) (map (param_of names) ps)
params_alike names [] = refl
params_alike names (p ∷ ps) = ap (λ z. type_of names p.ty ∷ z) (params_alike names ps)

-- ---- final fields

-- the numbers from this one on are those of these fields
abbrev pub Reads : (ℕ → Bool) → (ℕ → Option CoreType) → List (List ℕ) → ℕ → List FieldAt → Type 0
Reads p g names n [] = Unit {0}
Reads p g names n (d ∷ ds) = (p n ≡ d.field.is_final) × (g n ≡ Some (type_of names d.field.ty)) × Reads p g names (n + 1) ds

types_kept : (g : ℕ → Option CoreType) (n : ℕ) (ty : CoreType) (rest : List ℕ) (types : List CoreType) (entry : FieldData) (entries : List FieldData) (x y : Bool)
    → x ≡ y → g n ≡ Some ty → entry.ty ≡ ty → filter_map g rest ≡ map (λ f. f.ty) entries
    → filter_map g (cond x (n ∷ rest) rest) ≡ map (λ f. f.ty) (cond y (entry ∷ entries) entries)
types_kept g n ty rest types entry entries true true e is ty_is h = ap₂ (λ o z. cons_option o z) is h ∙ ap (λ z. z ∷ map (λ f. f.ty) entries) (sym ty_is)
types_kept g n ty rest types entry entries false false e is ty_is h = h
types_kept g n ty rest types entry entries true false e is ty_is h = absurd cc
types_kept g n ty rest types entry entries false true e is ty_is h = absurd cc

pub types_read : (p : ℕ → Bool) (g : ℕ → Option CoreType) (names : List (List ℕ)) (n : ℕ) (ds : List FieldAt) → Reads p g names n ds
    → filter_map g (filter p (range_with_len n (length ds))) ≡ map (λ f. f.ty) (filter (λ f. f.is_final) (map (field_entry names) ds))
types_read p g names n [] h = refl
types_read p g names n (d ∷ ds) h =
    types_kept g n (type_of names d.field.ty) (filter p (range_with_len (n + 1) (length ds))) [] (field_entry names d)
    (filter (λ f. f.is_final) (map (field_entry names) ds)) (p n) d.field.is_final h.0 h.1 refl (types_read p g names (n + 1) ds h.2)

pub reads : (t : TableData) (P : Program) (n : ℕ) (ds : List FieldAt) → ((i m : ℕ) (d : FieldAt) → m ≡ n + i → slice_get ds i ≡ Some d → IsField t P m d)
    → ((i m : ℕ) (d : FieldAt) → m ≡ n + i → slice_get ds i ≡ Some d → slice_get t.fields m ≡ Some (field_entry t.names d))
    → Reads (λ f. is_final_in (slice_get t.fields f)) (λ f. field_type (slice_get P.fields f)) t.names n ds
reads t P n [] h k = tt
reads t P n (d ∷ ds) h k =
    let x = h 0 n d (omega arith) refl in (
      ap is_final_in (k 0 n d (omega arith) refl),
      ap field_type x.is ∙ ap Some x.ty,
      reads t P (n + 1) ds (λ i m e at h2. h (suc i) m e (omega (arith, at)) h2) (λ i m e at h2. k (suc i) m e (omega (arith, at)) h2),
    )

pub none_final : (p : ℕ → Bool) (g : ℕ → Option CoreType) (names : List (List ℕ)) (n : ℕ) (ds : List FieldAt) → Reads p g names n ds
    → Each (λ d. d.field.is_final ≡ false) ds → filter p (range_with_len n (length ds)) ≡ []
none_final p g names n [] h k = refl
none_final p g names n (d ∷ ds) h k =
    ap (λ b. cond b (n ∷ filter p (range_with_len (n + 1) (length ds))) (filter p (range_with_len (n + 1) (length ds)))) (h.0 ∙ k.0)
    ∙ none_final p g names (n + 1) ds h.2 k.1

-- ---- names that stand once

no_repeat : (seen : List (List ℕ)) (n : Name) (ns : List Name) → repeats_after seen (n ∷ ns) ≡ []
    → (has_text seen n.text ≡ false) × (repeats_after (seen ++ n.text ∷ []) ns ≡ [])
no_repeat seen n ns =
    elim (has_text seen n.text)
    as (λ x. (if x then n.at ∷ repeats_after seen ns else repeats_after (seen ++ n.text ∷ []) ns) ≡ []
    → (x ≡ false) × (repeats_after (seen ++ n.text ∷ []) ns ≡ [])) [
      | true ↦ λ h. absurd (let e : n.at ∷ repeats_after seen ns ≡ [] = h in cc)
      | false ↦ λ h. (refl, h)
    ]

-- a name after others isn't one of them
fresh : (seen : List (List ℕ)) (ns : List Name) → repeats_after seen ns ≡ [] → (j : ℕ) (b : Name) → slice_get ns j ≡ Some b → has_text seen b.text ≡ false
fresh seen [] h j b at = absurd (nothing_at j b at)
fresh seen (n ∷ ns) h zero b at = subst (λ z. has_text seen z.text ≡ false) (same_Some n b at) (no_repeat seen n ns h).0
fresh seen (n ∷ ns) h (suc j) b at =
    (or_parts (has_text seen b.text) (has_text (n.text ∷ []) b.text)
    (sym (list_any-append (bytes_eq b.text) seen (n.text ∷ [])) ∙ fresh (seen ++ n.text ∷ []) ns (no_repeat seen n ns h).1 j b at)).0

-- what is known of the last one
fresh_last : (seen : List (List ℕ)) (x : List ℕ) (ns : List Name) → repeats_after (seen ++ x ∷ []) ns ≡ [] → (j : ℕ) (b : Name) → slice_get ns j ≡ Some b → x ≡ b.text → ⊥
fresh_last seen x ns h j b at same =
    let none = (or_parts (has_text seen b.text) (has_text (x ∷ []) b.text)
    (sym (list_any-append (bytes_eq b.text) seen (x ∷ [])) ∙ fresh (seen ++ x ∷ []) ns h j b at)).1 in
    let test : bytes_eq b.text x ≡ true = (bytes_eq-Decides b.text x).1 (sym same) in
    let both_ways : true ≡ false = sym (ap (λ z. z || false) test) ∙ none in
    cc

-- two names with one text stand at one place, where none stands again
one_place : (seen : List (List ℕ)) (ns : List Name) → repeats_after seen ns ≡ [] → (i j : ℕ) (a b : Name)
    → slice_get ns i ≡ Some a → slice_get ns j ≡ Some b → a.text ≡ b.text → i ≡ j
one_place seen [] h i j a b at other same = absurd (nothing_at i a at)
one_place seen (n ∷ ns) h zero zero a b at other same = refl
one_place seen (n ∷ ns) h zero (suc j) a b at other same =
    absurd (fresh_last seen n.text ns (no_repeat seen n ns h).1 j b other (ap (λ z. z.text) (same_Some n a at) ∙ same))
one_place seen (n ∷ ns) h (suc i) zero a b at other same =
    absurd (fresh_last seen n.text ns (no_repeat seen n ns h).1 i a at (ap (λ z. z.text) (same_Some n b other) ∙ sym same))
one_place seen (n ∷ ns) h (suc i) (suc j) a b at other same =
    ap suc (one_place (seen ++ n.text ∷ []) ns (no_repeat seen n ns h).1 i j a b at other same)

pub any_of : {A : Type 0} (p : A → Bool) (xs : List A) (i : ℕ) (x : A) → slice_get xs i ≡ Some x → p x ≡ true → list_any p xs ≡ true
any_of p [] i x at h = absurd (nothing_at i x at)
any_of p (y ∷ ys) zero x at h = ap (λ b. b || list_any p ys) (ap p (same_Some y x at) ∙ h)
any_of p (y ∷ ys) (suc i) x at h = ap (λ b. p y || b) (any_of p ys i x at h) ∙ or-true (p y)

-- the place of a name that stands once
pub place_of_name : (ns : List Name) → repeats ns ≡ [] → (j : ℕ) (a : Name) → slice_get ns j ≡ Some a → position (bytes_eq a.text) (texts_of ns) ≡ Some j
place_of_name ns once j a at =
    let texts = texts_of ns in
    let here : slice_get texts j ≡ Some a.text = mapped_at (λ n. n.text) ns j a at in
    let found = any_position (bytes_eq a.text) texts (any_of (bytes_eq a.text) texts j a.text here ((bytes_eq-Decides a.text a.text).1 refl)) in
    let facts = position-Some (bytes_eq a.text) texts found.0 a.text found.1 in
    let there = slice_get-get_or texts found.0 a.text facts.0 in
    let named = before_mapped (λ n. n.text) ns found.0 (get_or texts found.0 a.text) there in
    let same : named.0.text ≡ a.text = named.2 ∙ sym ((bytes_eq-Decides a.text (get_or texts found.0 a.text)).0 facts.1) in
    found.1 ∙ ap Some (one_place [] ns once found.0 j named.0 a named.1 at same)

-- ---- a method that a thread can begin with

pub empty_is : {A : Type 0} (xs : List A) → has_none xs ≡ true → xs ≡ []
empty_is [] h = refl
empty_is (x ∷ xs) h = absurd (let e : false ≡ true = h in cc)

pub entry_at : (text : List ℕ) (k : ℕ) (ms : List MemberTree) → list_any (is_entry text) ms ≡ true
    → (j : ℕ) × (d : MethodAt) × (slice_get (own_methods k ms) j ≡ Some d) × (d.method.name.text ≡ text) × (is_bare d.method ≡ true)
entry_at text k [] = λ h. absurd (let e : false ≡ true = h in cc)
entry_at text k (FieldM f ∷ ms) = entry_at text k ms
entry_at text k (CtorM n params sets ∷ ms) = entry_at text k ms
entry_at text k (MethodM m ∷ ms) =
    elim (is_entry text (MethodM m))
    as (λ b. is_entry text (MethodM m) ≡ b → (b || list_any (is_entry text) ms) ≡ true
    → (j : ℕ) × (d : MethodAt) × (slice_get (own_methods k (MethodM m ∷ ms)) j ≡ Some d) × (d.method.name.text ≡ text) × (is_bare d.method ≡ true)) [
      | true ↦ λ is h.
          let p = and_parts (bytes_eq m.name.text text) (is_bare m) is in
          (0, record { class = k; method = m }, refl, (bytes_eq-Decides m.name.text text).0 p.0, p.1)
      | false ↦ λ is h. let r = entry_at text k ms h in (suc r.0, r.1, r.2, r.3, r.4)
    ] refl
