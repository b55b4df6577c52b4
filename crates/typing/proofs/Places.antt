-- The fields and methods of a program by their numbers: which class each belongs to, and what stands there in the class table
-- and in the core program.
use Rattle.std.proofs.Common.{◌≡◌, ℕ, ◌+◌, ◌<◌, ◌≤◌, zero, suc, true, false, List, [], ◌∷◌, ◌++◌, map, length, Option, Some, refl, ap, ap₂, sym, ◌∙◌, subst, slice_get, arith, option_map, ◌==◌, if◌then◌else◌, append_assoc, length-append}
use Rattle.std.specs.List.{range_with_len}
use Rattle.std.proofs.lemmas.List.{map-append, length-map}
use Rattle.std.proofs.lemmas.Bool.{eq-eqb}
use Rattle.std.proofs.lemmas.Option.{same_Some}
use Rattle.core_program.specs.Core.{Field, Method}
use Rattle.core_program.specs.Typed.{fields_from}
use Rattle.syntax.specs.Trees.{MethodTree, FieldTree, MemberTree, FieldM, CtorM, MethodM, ClassTree, ProgramTree}
use Rattle.classes.specs.Names.{texts_of}
use Rattle.classes.specs.Lines.{above, says_so}
use Rattle.classes.specs.Members.{field_names, method_names}
use Rattle.classes.specs.Table.{TableData, ClassData, MethodData, type_of, param_of, fields_of, methods_of, classes_from}
use Rattle.classes.specs.Seen.{FieldData}
use Rattle.classes.specs.Table as table
use Rattle.typing.specs.Classes.{inherited_count}
use Rattle.typing.specs.Programs.{guard_tree_path, field_node, method_core, fields_core, methods_core, all_core_fields, all_core_methods}
use Rattle.classes.proofs.Parts.{Each, each_both, nothing_at}
use Rattle.typing.proofs.Parts.{each_along}

-- ---- fields and methods as they are written, with the number of their class

-- a field, with its index in its class
pub record FieldAt : Type 0 where
  pub class : ℕ
  pub index : ℕ
  pub field : FieldTree

pub record MethodAt : Type 0 where
  pub class : ℕ
  pub method : MethodTree

abbrev field_at : ℕ → ℕ → FieldTree → FieldAt
field_at k i f = record { class = k; index = i; field = f }

abbrev method_at : ℕ → MethodTree → MethodAt
method_at k m = record { class = k; method = m }

-- the fields of the class with number k, the first of which has this index
abbrev pub own_fields : ℕ → ℕ → List MemberTree → List FieldAt
own_fields k i [] = []
own_fields k i (FieldM f ∷ ms) = record { class = k; index = i; field = f } ∷ own_fields k (i + 1) ms
own_fields k i (CtorM n params sets ∷ ms) = own_fields k i ms
own_fields k i (MethodM m ∷ ms) = own_fields k i ms

abbrev pub own_methods : ℕ → List MemberTree → List MethodAt
own_methods k [] = []
own_methods k (FieldM f ∷ ms) = own_methods k ms
own_methods k (CtorM n params sets ∷ ms) = own_methods k ms
own_methods k (MethodM m ∷ ms) = record { class = k; method = m } ∷ own_methods k ms

-- the fields of classes, the first of which has the number k; the first field of each class has this index
abbrev pub fields_at : (ℕ → ℕ) → ℕ → ProgramTree → List FieldAt
fields_at start k [] = []
fields_at start k (c ∷ cs) = own_fields k (start k) c.members ++ fields_at start (k + 1) cs

abbrev pub methods_at : ℕ → ProgramTree → List MethodAt
methods_at k [] = []
methods_at k (c ∷ cs) = own_methods k c.members ++ methods_at (k + 1) cs

-- ---- what they are in the table and in the core

abbrev pub field_entry : List (List ℕ) → FieldAt → FieldData
field_entry names d = record { class = d.class; name = d.field.name.text; is_final = d.field.is_final; ty = type_of names d.field.ty }

abbrev pub method_entry : List (List ℕ) → MethodAt → MethodData
method_entry names d = record {
  class = d.class;
  name = d.method.name.text;
  params = map (param_of names) d.method.params;
  returns = option_map (type_of names) d.method.returns;
}

abbrev pub core_field : TableData → FieldAt → Option Field
core_field t d =
    option_map (field_node t d.class d.index d.field) (guard_tree_path t d.class d.field.guard)

abbrev pub core_method : TableData → MethodAt → Option Method
core_method t d = method_core t d.class d.method

own_entries : (names : List (List ℕ)) (k i : ℕ) (ms : List MemberTree) → fields_of names k ms ≡ map (field_entry names) (own_fields k i ms)
own_entries names k i [] = refl
own_entries names k i (FieldM f ∷ ms) = ap (λ z. field_entry names (field_at k i f) ∷ z) (own_entries names k (i + 1) ms)
own_entries names k i (CtorM n params sets ∷ ms) = own_entries names k i ms
own_entries names k i (MethodM m ∷ ms) = own_entries names k i ms

pub field_entries : (start : ℕ → ℕ) (names : List (List ℕ)) (k : ℕ) (cs : ProgramTree) → table.all_fields names k cs ≡ map (field_entry names) (fields_at start k cs)
field_entries start names k [] = refl
field_entries start names k (c ∷ cs) =
    ap₂ (λ x y. x ++ y) (own_entries names k (start k) c.members) (field_entries start names (k + 1) cs)
    ∙ sym (map-append (field_entry names) (own_fields k (start k) c.members) (fields_at start (k + 1) cs))

own_method_entries : (names : List (List ℕ)) (k : ℕ) (ms : List MemberTree) → methods_of names k ms ≡ map (method_entry names) (own_methods k ms)
own_method_entries names k [] = refl
own_method_entries names k (FieldM f ∷ ms) = own_method_entries names k ms
own_method_entries names k (CtorM n params sets ∷ ms) = own_method_entries names k ms
own_method_entries names k (MethodM m ∷ ms) = ap (λ z. method_entry names (method_at k m) ∷ z) (own_method_entries names k ms)

pub method_entries : (names : List (List ℕ)) (k : ℕ) (cs : ProgramTree) → table.all_methods names k cs ≡ map (method_entry names) (methods_at k cs)
method_entries names k [] = refl
method_entries names k (c ∷ cs) =
    ap₂ (λ x y. x ++ y) (own_method_entries names k c.members) (method_entries names (k + 1) cs)
    ∙ sym (map-append (method_entry names) (own_methods k c.members) (methods_at (k + 1) cs))

own_cores : (t : TableData) (k i : ℕ) (ms : List MemberTree) → fields_core t k i ms ≡ map (core_field t) (own_fields k i ms)
own_cores t k i [] = refl
own_cores t k i (FieldM f ∷ ms) = ap (λ z. core_field t (field_at k i f) ∷ z) (own_cores t k (i + 1) ms)
own_cores t k i (CtorM n params sets ∷ ms) = own_cores t k i ms
own_cores t k i (MethodM m ∷ ms) = own_cores t k i ms

pub field_cores : (t : TableData) (k : ℕ) (cs : ProgramTree) → all_core_fields t k cs ≡ map (core_field t) (fields_at (inherited_count t) k cs)
field_cores t k [] = refl
field_cores t k (c ∷ cs) =
    ap₂ (λ x y. x ++ y) (own_cores t k (inherited_count t k) c.members) (field_cores t (k + 1) cs)
    ∙ sym (map-append (core_field t) (own_fields k (inherited_count t k) c.members) (fields_at (inherited_count t) (k + 1) cs))

own_method_cores : (t : TableData) (k : ℕ) (ms : List MemberTree) → methods_core t k ms ≡ map (core_method t) (own_methods k ms)
own_method_cores t k [] = refl
own_method_cores t k (FieldM f ∷ ms) = own_method_cores t k ms
own_method_cores t k (CtorM n params sets ∷ ms) = own_method_cores t k ms
own_method_cores t k (MethodM m ∷ ms) = ap (λ z. core_method t (method_at k m) ∷ z) (own_method_cores t k ms)

pub method_cores : (t : TableData) (k : ℕ) (cs : ProgramTree) → all_core_methods t k cs ≡ map (core_method t) (methods_at k cs)
method_cores t k [] = refl
method_cores t k (c ∷ cs) =
    ap₂ (λ x y. x ++ y) (own_method_cores t k c.members) (method_cores t (k + 1) cs)
    ∙ sym (map-append (core_method t) (own_methods k c.members) (methods_at (k + 1) cs))

-- ---- names and lengths

pub own_field_names : (k i : ℕ) (ms : List MemberTree) → map (λ d. d.field.name) (own_fields k i ms) ≡ field_names ms
own_field_names k i [] = refl
own_field_names k i (FieldM f ∷ ms) = ap (λ z. f.name ∷ z) (own_field_names k (i + 1) ms)
own_field_names k i (CtorM n params sets ∷ ms) = own_field_names k i ms
own_field_names k i (MethodM m ∷ ms) = own_field_names k i ms

pub own_method_names : (k : ℕ) (ms : List MemberTree) → map (λ d. d.method.name) (own_methods k ms) ≡ method_names ms
own_method_names k [] = refl
own_method_names k (FieldM f ∷ ms) = own_method_names k ms
own_method_names k (CtorM n params sets ∷ ms) = own_method_names k ms
own_method_names k (MethodM m ∷ ms) = ap (λ z. m.name ∷ z) (own_method_names k ms)

pub own_fields_long : (k i : ℕ) (ms : List MemberTree) → length (own_fields k i ms) ≡ length (field_names ms)
own_fields_long k i ms = sym (length-map (own_fields k i ms) (λ d. d.field.name)) ∙ ap length (own_field_names k i ms)

pub own_methods_long : (k : ℕ) (ms : List MemberTree) → length (own_methods k ms) ≡ length (method_names ms)
own_methods_long k ms = sym (length-map (own_methods k ms) (λ d. d.method.name)) ∙ ap length (own_method_names k ms)

-- ---- classes of fields and methods

pub own_class : (k i : ℕ) (ms : List MemberTree) → Each (λ d. d.class ≡ k) (own_fields k i ms)
own_class k i [] = tt
own_class k i (FieldM f ∷ ms) = (refl, own_class k (i + 1) ms)
own_class k i (CtorM n params sets ∷ ms) = own_class k i ms
own_class k i (MethodM m ∷ ms) = own_class k i ms

pub own_method_class : (k : ℕ) (ms : List MemberTree) → Each (λ d. d.class ≡ k) (own_methods k ms)
own_method_class k [] = tt
own_method_class k (FieldM f ∷ ms) = own_method_class k ms
own_method_class k (CtorM n params sets ∷ ms) = own_method_class k ms
own_method_class k (MethodM m ∷ ms) = (refl, own_method_class k ms)

pub own_index : (k i : ℕ) (ms : List MemberTree) (j : ℕ) (d : FieldAt) → slice_get (own_fields k i ms) j ≡ Some d → d.index ≡ i + j
own_index k i [] j d e = absurd (nothing_at j d e)
own_index k i (FieldM f ∷ ms) zero d e = ap (λ z. z.index) (sym (same_Some _ d e)) ∙ add-nothing i
  where
    add-nothing : (i : ℕ) → i ≡ i + 0
    add-nothing i = omega arith
own_index k i (FieldM f ∷ ms) (suc j) d e = omega (arith, own_index k (i + 1) ms j d e)
own_index k i (CtorM n params sets ∷ ms) j d e = own_index k i ms j d e
own_index k i (MethodM m ∷ ms) j d e = own_index k i ms j d e

-- the classes of all fields lie between the first and the last
pub classes_between : (start : ℕ → ℕ) (k : ℕ) (cs : ProgramTree) → Each (λ d. (k ≤ d.class) × (d.class < k + length cs)) (fields_at start k cs)
classes_between start k [] = tt
classes_between start k (c ∷ cs) =
    each_both (λ d. (k ≤ d.class) × (d.class < k + length (c ∷ cs))) (own_fields k (start k) c.members) (fields_at start (k + 1) cs)
    (each_along (λ d. d.class ≡ k) (λ d. (k ≤ d.class) × (d.class < k + length (c ∷ cs))) (own_fields k (start k) c.members)
    (λ d h. (omega (arith, h), omega (arith, h))) (own_class k (start k) c.members))
    (each_along (λ d. (k + 1 ≤ d.class) × (d.class < k + 1 + length cs)) (λ d. (k ≤ d.class) × (d.class < k + length (c ∷ cs))) (fields_at start (k + 1) cs)
    (λ d h. (omega (arith, h.0), omega (arith, h.1))) (classes_between start (k + 1) cs))

pub method_classes_between : (k : ℕ) (cs : ProgramTree) → Each (λ d. (k ≤ d.class) × (d.class < k + length cs)) (methods_at k cs)
method_classes_between k [] = tt
method_classes_between k (c ∷ cs) =
    each_both (λ d. (k ≤ d.class) × (d.class < k + length (c ∷ cs))) (own_methods k c.members) (methods_at (k + 1) cs)
    (each_along (λ d. d.class ≡ k) (λ d. (k ≤ d.class) × (d.class < k + length (c ∷ cs))) (own_methods k c.members)
    (λ d h. (omega (arith, h), omega (arith, h))) (own_method_class k c.members))
    (each_along (λ d. (k + 1 ≤ d.class) × (d.class < k + 1 + length cs)) (λ d. (k ≤ d.class) × (d.class < k + length (c ∷ cs))) (methods_at (k + 1) cs)
    (λ d h. (omega (arith, h.0), omega (arith, h.1))) (method_classes_between (k + 1) cs))

-- ---- where a class's fields and methods stand

-- the entry of the class of a tree with number k, with the numbers of its first field and method
abbrev pub class_entry : ProgramTree → ℕ → ℕ → ℕ → ClassTree → ClassData
class_entry tree k f m c = record {
  above = above tree k;
  runnable = says_so tree k;
  first_field = f;
  field_names = texts_of (field_names c.members);
  first_method = m;
  method_names = texts_of (method_names c.members);
}

module _ (start : ℕ → ℕ) (tree : ProgramTree) where
  -- the class with number j among these, the first of which has the number k, and f fields and m methods before it
  pub record IsPlaced (k f m : ℕ) (cs : ProgramTree) (c j : ℕ) (C : ClassTree) : Type 0 where
    pub fields_before : List FieldAt
    pub fields_after : List FieldAt
    pub fields : fields_at start k cs ≡ fields_before ++ (own_fields j (start j) C.members ++ fields_after)
    pub apart_before : Each (λ d. d.class < j) fields_before
    pub apart_after : Each (λ d. j < d.class) fields_after
    pub methods_before : List MethodAt
    pub methods_after : List MethodAt
    pub methods : methods_at k cs ≡ methods_before ++ (own_methods j C.members ++ methods_after)
    pub methods_apart_before : Each (λ d. d.class < j) methods_before
    pub methods_apart_after : Each (λ d. j < d.class) methods_after
    pub first_field : ℕ
    pub first_field_is : first_field ≡ f + length fields_before
    pub first_method : ℕ
    pub first_method_is : first_method ≡ m + length methods_before
    pub entry : slice_get (classes_from tree texts_of k f m cs) c ≡ Some (class_entry tree j first_field first_method C)

  pub placed : (k f m : ℕ) (cs : ProgramTree) (c j : ℕ) (C : ClassTree) → j ≡ k + c → slice_get cs c ≡ Some C → IsPlaced k f m cs c j C
  placed k f m [] c j C number h = absurd (nothing_at c C h)
  placed k f m (D ∷ cs) zero j C number h =
      let same : k ≡ j = omega (arith, number) in
      subst (λ z. IsPlaced k f m (D ∷ cs) zero j z) (same_Some D C h)
      (subst (λ z. IsPlaced k f m (D ∷ cs) zero z D) same (record {
        fields_before = [];
        fields_after = fields_at start (k + 1) cs;
        fields = refl;
        apart_before = tt;
        apart_after = each_along (λ d. (k + 1 ≤ d.class) × (d.class < k + 1 + length cs)) (λ d. k < d.class) (fields_at start (k + 1) cs)
            (λ d h. omega (arith, h.0)) (classes_between start (k + 1) cs);
        methods_before = [];
        methods_after = methods_at (k + 1) cs;
        methods = refl;
        methods_apart_before = tt;
        methods_apart_after = each_along (λ d. (k + 1 ≤ d.class) × (d.class < k + 1 + length cs)) (λ d. k < d.class) (methods_at (k + 1) cs)
            (λ d h. omega (arith, h.0)) (method_classes_between (k + 1) cs);
        first_field = f;
        first_field_is = omega arith;
        first_method = m;
        first_method_is = omega arith;
        entry = refl;
      }))
  placed k f m (D ∷ cs) (suc c) j C number h =
      let p = placed (k + 1) (f + length (field_names D.members)) (m + length (method_names D.members)) cs c j C (omega (arith, number)) h in
      let own = own_fields k (start k) D.members in
      let own_m = own_methods k D.members in
      record {
        fields_before = own ++ p.fields_before;
        fields_after = p.fields_after;
        fields = ap (λ z. own ++ z) p.fields ∙ sym (append_assoc own p.fields_before (own_fields j (start j) C.members ++ p.fields_after));
        apart_before = each_both (λ d. d.class < j) own p.fields_before
            (each_along (λ d. d.class ≡ k) (λ d. d.class < j) own (λ d h. omega (arith, h, number)) (own_class k (start k) D.members)) p.apart_before;
        apart_after = p.apart_after;
        methods_before = own_m ++ p.methods_before;
        methods_after = p.methods_after;
        methods = ap (λ z. own_m ++ z) p.methods ∙ sym (append_assoc own_m p.methods_before (own_methods j C.members ++ p.methods_after));
        methods_apart_before = each_both (λ d. d.class < j) own_m p.methods_before
            (each_along (λ d. d.class ≡ k) (λ d. d.class < j) own_m (λ d h. omega (arith, h, number)) (own_method_class k D.members)) p.methods_apart_before;
        methods_apart_after = p.methods_apart_after;
        first_field = p.first_field;
        first_field_is = omega (arith, p.first_field_is, length-append own p.fields_before, own_fields_long k (start k) D.members);
        first_method = p.first_method;
        first_method_is = omega (arith, p.first_method_is, length-append own_m p.methods_before, own_methods_long k D.members);
        entry = p.entry;
      }

  -- a class of the table is one of the tree
  pub class_of_entry : (k f m : ℕ) (cs : ProgramTree) (c : ℕ) (d : ClassData) → slice_get (classes_from tree texts_of k f m cs) c ≡ Some d → (C : ClassTree) × (slice_get cs c ≡ Some C)
  class_of_entry k f m [] c d h = absurd (nothing_at c d h)
  class_of_entry k f m (C ∷ cs) zero d h = (C, refl)
  class_of_entry k f m (C ∷ cs) (suc c) d h = class_of_entry (k + 1) (f + length (field_names C.members)) (m + length (method_names C.members)) cs c d h

  pub entries_many : (k f m : ℕ) (cs : ProgramTree) → length (classes_from tree texts_of k f m cs) ≡ length cs
  entries_many k f m [] = refl
  entries_many k f m (C ∷ cs) = ap suc (entries_many (k + 1) (f + length (field_names C.members)) (m + length (method_names C.members)) cs)

-- ---- the places at which a class's number stands

abbrev pub places : ℕ → ℕ → List ℕ → List ℕ
places c n [] = []
places c n (x ∷ xs) = if x == c then n ∷ places c (n + 1) xs else places c (n + 1) xs

pub fields_from_is : (c n : ℕ) (fs : List Field) → fields_from c n fs ≡ places c n (map (λ f. f.class) fs)
fields_from_is c n [] = refl
fields_from_is c n (f ∷ fs) = ap (λ z. if f.class == c then n ∷ z else z) (fields_from_is c (n + 1) fs)

places_moved : (c n m : ℕ) (xs : List ℕ) → n ≡ m → places c n xs ≡ places c m xs
places_moved c n m xs e = ap (λ z. places c z xs) e

pub places_both : (c n : ℕ) (xs ys : List ℕ) → places c n (xs ++ ys) ≡ places c n xs ++ places c (n + length xs) ys
places_both c n [] ys = places_moved c n (n + 0) ys (omega arith)
places_both c n (x ∷ xs) ys =
    let step : places c (n + 1) (xs ++ ys) ≡ places c (n + 1) xs ++ places c (n + length (x ∷ xs)) ys =
    places_both c (n + 1) xs ys ∙ ap (λ z. places c (n + 1) xs ++ z) (places_moved c (n + 1 + length xs) (n + length (x ∷ xs)) ys (omega arith)) in
    elim (x == c)
    as (λ b. (if b then n ∷ places c (n + 1) (xs ++ ys) else places c (n + 1) (xs ++ ys))
    ≡ (if b then n ∷ places c (n + 1) xs else places c (n + 1) xs) ++ places c (n + length (x ∷ xs)) ys) [
      | true ↦ ap (λ z. n ∷ z) step
      | false ↦ step
    ]

pub places_none : (c n : ℕ) (xs : List ℕ) → Each (λ x. (x == c) ≡ false) xs → places c n xs ≡ []
places_none c n [] h = refl
places_none c n (x ∷ xs) h = ap (λ b. if b then n ∷ places c (n + 1) xs else places c (n + 1) xs) h.0 ∙ places_none c (n + 1) xs h.1

pub places_all : (c n : ℕ) (xs : List ℕ) → Each (λ x. x ≡ c) xs → places c n xs ≡ range_with_len n (length xs)
places_all c n [] h = refl
places_all c n (x ∷ xs) h =
    ap (λ b. if b then n ∷ places c (n + 1) xs else places c (n + 1) xs) (ap (λ z. z == c) h.0 ∙ eq-eqb c c refl)
    ∙ ap (λ z. n ∷ z) (places_all c (n + 1) xs h.1)

pub counted_at : (n l i : ℕ) → i < l → slice_get (range_with_len n l) i ≡ Some (n + i)
counted_at n zero i h = absurd (omega (arith, h))
counted_at n (suc l) zero h = let e : n ≡ n + 0 = omega arith in ap Some e
counted_at n (suc l) (suc i) h =
    let e : n + 1 + i ≡ n + suc i = omega arith in
    counted_at (n + 1) l i (omega (arith, h)) ∙ ap Some e

pub counted_long : (n l : ℕ) → length (range_with_len n l) ≡ l
counted_long n zero = refl
counted_long n (suc l) = ap suc (counted_long (n + 1) l)
