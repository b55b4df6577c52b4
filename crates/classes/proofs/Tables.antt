-- What is built from a tree without faults is its table.
use Rattle.std.proofs.Common.{◌≡◌, ℕ, ◌+◌, zero, suc, true, false, List, [], ◌∷◌, ◌++◌, Option, Some, None, refl, length, map, ap, sym, ◌∙◌, arith, ◌<◌, ◌≤◌, ◌&&◌, nat_lt, bytes_eq, unwrap_or, option_map, slice_get, inl, inr, if◌then◌else◌, append_assoc, length-append}
use Rattle.std.proofs.lemmas.List.{append-nil, length-map}
use Rattle.std.proofs.lemmas.List.Folds.{list_all-append, list_all-map, list_any-append}
use Rattle.std.proofs.lemmas.Bool.{false_from_ne_true, or_left, or_right, or_cases}
use Rattle.std.proofs.lemmas.Option.{slice_get-map}
use Rattle.std.proofs.Math.Path.{fun_ext}
use Rattle.std.proofs.lemmas.Bool.Decides.{nat_tests}
use Rattle.std.specs.List.{list_all, list_any}
use Rattle.classes.specs.declared.entries.MethodEntry.{MethodEntry}
use Rattle.classes.specs.Views.{method_data}
use Rattle.syntax.specs.declared.tree.Name.{Name}
use Rattle.syntax.specs.Trees.{MemberTree, FieldM, CtorM, MethodM, ClassTree, ProgramTree}
use Rattle.classes.specs.Names.{has_text, texts_of, repeats, repeats_after, distinct_after, distinct}
use Rattle.classes.specs.Members.{class_names, field_names, method_names}
use Rattle.classes.specs.Faults.{all_class_faults}
use Rattle.classes.proofs.Faultless.{IsSound, faultless}
use Rattle.classes.specs.Lines.{ancestors, above_in, above, inherited, says_runnable, says_so}
use Rattle.classes.specs.Seen.{FieldData}
use Rattle.classes.specs.Table.{ClassData, MethodData, TableData, fields_of, methods_of, all_fields, all_methods, classes_from, table_of}
use Rattle.classes.specs.Building.{PartsData, above_named, above_at, class_at, with_class, with_classes, no_parts, parts_from}

-- ---- names that don't stand again

distinct_after_is : (seen : List (List ℕ)) (names : List Name) → repeats_after seen names ≡ [] → distinct_after seen names ≡ seen ++ texts_of names
distinct_after_is seen [] h = sym (append-nil seen)
distinct_after_is seen (n ∷ ns) h =
    elim (has_text seen n.text) as (λ b. (if b then n.at ∷ repeats_after seen ns else repeats_after (seen ++ n.text ∷ []) ns) ≡ [] → distinct_after (if b then seen else seen ++ n.text ∷ []) ns ≡ seen ++ texts_of (n ∷ ns)) [
      | true ↦ λ e. cc
      | false ↦ λ e. distinct_after_is (seen ++ n.text ∷ []) ns e ∙ append_assoc seen (n.text ∷ []) (texts_of ns)
    ] h

distinct_is : (names : List Name) → repeats names ≡ [] → distinct names ≡ texts_of names
distinct_is names h = distinct_after_is [] names h

-- fewer names seen, fewer that stand again
fewer_again : (small big : List (List ℕ)) → ((t : List ℕ) → has_text small t ≡ true → has_text big t ≡ true) → (names : List Name)
    → repeats_after big names ≡ [] → repeats_after small names ≡ []
fewer_again small big part [] e = refl
fewer_again small big part (n ∷ ns) e =
    elim (has_text big n.text) as (λ b. has_text big n.text ≡ b → (if b then n.at ∷ repeats_after big ns else repeats_after (big ++ n.text ∷ []) ns) ≡ [] → repeats_after small (n ∷ ns) ≡ []) [
      | true ↦ λ is h. cc
      | false ↦ λ is h.
          ap (λ b. if b then n.at ∷ repeats_after small ns else repeats_after (small ++ n.text ∷ []) ns) (false_from_ne_true (has_text small n.text) (λ has. let clash : true ≡ false = sym (part n.text has) ∙ is in cc))
          ∙ fewer_again (small ++ n.text ∷ []) (big ++ n.text ∷ []) (with_both small big part n.text) ns h
    ] refl e where
      with_both : (small big : List (List ℕ)) → ((t : List ℕ) → has_text small t ≡ true → has_text big t ≡ true) → (x t : List ℕ)
          → has_text (small ++ x ∷ []) t ≡ true → has_text (big ++ x ∷ []) t ≡ true
      with_both small big part x t h =
          elim (or_cases (has_text small t) (has_text (x ∷ []) t) (sym (list_any-append (bytes_eq t) small (x ∷ [])) ∙ h)) [
            | inl first ↦ list_any-append (bytes_eq t) big (x ∷ []) ∙ or_left (has_text big t) (has_text (x ∷ []) t) (part t first)
            | inr last ↦ list_any-append (bytes_eq t) big (x ∷ []) ∙ or_right (has_text big t) (has_text (x ∷ []) t) last
          ]

-- names of which none stands again after others
apart_is : (seen : List (List ℕ)) (names : List Name) → repeats_after seen names ≡ [] → distinct names ≡ texts_of names
apart_is seen names h = distinct_is names (fewer_again [] seen (λ t none. let clash : false ≡ true = none in cc) names h)

-- ---- what stands above each class

above_in_list : (tree : ProgramTree) (o : Option ClassTree) → unwrap_or (option_map (above_named (texts_of (class_names tree))) o) None ≡ above_in tree o
above_in_list tree None = refl
above_in_list tree (Some c) = refl

above_is : (tree : ProgramTree) → above_at (map (above_named (texts_of (class_names tree))) tree) ≡ above tree
above_is tree =
    let names = texts_of (class_names tree) in
    fun_ext (λ k. ap (λ o. unwrap_or o None) (slice_get-map (above_named names) tree k) ∙ above_in_list tree (slice_get tree k))

-- ---- rows of classes

-- the rows, where this stands above each class and the texts of names are these
abbrev rows_from : ProgramTree → (ℕ → Option ℕ) → (List Name → List (List ℕ)) → ℕ → ℕ → ℕ → ProgramTree → List ClassData
rows_from tree up texts k f m [] = []
rows_from tree up texts k f m (c ∷ cs) =
    record {
      above = up k;
      runnable = list_any (says_runnable tree) (k ∷ ancestors up (length tree) (up k));
      first_field = f;
      field_names = texts (field_names c.members);
      first_method = m;
      method_names = texts (method_names c.members);
    }
    ∷ rows_from tree up texts (k + 1) (f + length (field_names c.members)) (m + length (method_names c.members)) cs

rows_are : (tree : ProgramTree) (k f m : ℕ) (cs : ProgramTree) → ((i n : ℕ) (c : ClassTree) → slice_get cs i ≡ Some c → n ≡ k + i → IsSound tree n c)
    → rows_from tree (above tree) distinct k f m cs ≡ classes_from tree texts_of k f m cs
rows_are tree k f m [] h = refl
rows_are tree k f m (c ∷ cs) h =
    let sound = h zero k c refl (omega arith) in
    let of_fields = apart_is (texts_of (field_names (inherited tree k))) (field_names c.members) sound.fields in
    let of_methods = distinct_is (method_names c.members) sound.methods in
    let f_next = f + length (field_names c.members) in
    let m_next = m + length (method_names c.members) in
    let more = rows_from tree (above tree) distinct (k + 1) f_next m_next cs in
    let made : List (List ℕ) → List (List ℕ) → List ClassData → List ClassData =
    λ fs ms rest. record { above = above tree k; runnable = says_so tree k; first_field = f; field_names = fs; first_method = m; method_names = ms } ∷ rest in
    ap (λ z. made z (distinct (method_names c.members)) more) of_fields
    ∙ ap (λ z. made (texts_of (field_names c.members)) z more) of_methods
    ∙ ap (λ z. made (texts_of (field_names c.members)) (texts_of (method_names c.members)) z)
    (rows_are tree (k + 1) f_next m_next cs (λ i n d at e. h (suc i) n d at (omega (arith, e))))

-- ---- what the parts are

count_fields : (names : List (List ℕ)) (k : ℕ) (ms : List MemberTree) → length (fields_of names k ms) ≡ length (field_names ms)
count_fields names k [] = refl
count_fields names k (FieldM f ∷ ms) = ap suc (count_fields names k ms)
count_fields names k (CtorM n params sets ∷ ms) = count_fields names k ms
count_fields names k (MethodM m ∷ ms) = count_fields names k ms

count_methods : (names : List (List ℕ)) (k : ℕ) (ms : List MemberTree) → length (methods_of names k ms) ≡ length (method_names ms)
count_methods names k [] = refl
count_methods names k (FieldM f ∷ ms) = count_methods names k ms
count_methods names k (CtorM n params sets ∷ ms) = count_methods names k ms
count_methods names k (MethodM m ∷ ms) = ap suc (count_methods names k ms)

module _ (tree : ProgramTree) (aboves : List (Option ℕ)) (names : List (List ℕ)) where
  abbrev with_one : ClassTree → PartsData → PartsData
  with_one c p = with_class tree aboves names c p

  abbrev with_more : PartsData → ProgramTree → PartsData
  with_more p cs = with_classes tree aboves names p cs

  abbrev entry : ClassTree → PartsData → ClassData
  entry c p = class_at tree aboves (length p.classes) (length p.fields) (length p.methods) c

  fields_are : (p : PartsData) (cs : ProgramTree) → (with_more p cs).fields ≡ p.fields ++ all_fields names (length p.classes) cs
  fields_are p [] = sym (append-nil p.fields)
  fields_are p (c ∷ cs) =
      fields_are (with_one c p) cs
      ∙ append_assoc p.fields (fields_of names (length p.classes) c.members) (all_fields names (length (with_one c p).classes) cs)
      ∙ ap (λ n. p.fields ++ (fields_of names (length p.classes) c.members ++ all_fields names n cs)) (length-append p.classes (entry c p ∷ []))

  methods_are : (p : PartsData) (cs : ProgramTree) → (with_more p cs).methods ≡ p.methods ++ all_methods names (length p.classes) cs
  methods_are p [] = sym (append-nil p.methods)
  methods_are p (c ∷ cs) =
      methods_are (with_one c p) cs
      ∙ append_assoc p.methods (methods_of names (length p.classes) c.members) (all_methods names (length (with_one c p).classes) cs)
      ∙ ap (λ n. p.methods ++ (methods_of names (length p.classes) c.members ++ all_methods names n cs)) (length-append p.classes (entry c p ∷ []))

  entries_are : (p : PartsData) (cs : ProgramTree)
      → (with_more p cs).classes ≡ p.classes ++ rows_from tree (above_at aboves) distinct (length p.classes) (length p.fields) (length p.methods) cs
  entries_are p [] = sym (append-nil p.classes)
  entries_are p (c ∷ cs) =
      let q = with_one c p in
      let rows : ℕ → ℕ → ℕ → List ClassData = λ k f m. rows_from tree (above_at aboves) distinct k f m cs in
      let fields_count : length q.fields ≡ length p.fields + length (field_names c.members)
      = length-append p.fields (fields_of names (length p.classes) c.members) ∙ ap (λ n. length p.fields + n) (count_fields names (length p.classes) c.members) in
      let methods_count : length q.methods ≡ length p.methods + length (method_names c.members)
      = length-append p.methods (methods_of names (length p.classes) c.members) ∙ ap (λ n. length p.methods + n) (count_methods names (length p.classes) c.members) in
      entries_are q cs
      ∙ append_assoc p.classes (entry c p ∷ []) (rows (length q.classes) (length q.fields) (length q.methods))
      ∙ ap (λ k. p.classes ++ entry c p ∷ rows k (length q.fields) (length q.methods)) (length-append p.classes (entry c p ∷ []))
      ∙ ap (λ n. p.classes ++ entry c p ∷ rows (length p.classes + 1) n (length q.methods)) fields_count
      ∙ ap (λ n. p.classes ++ entry c p ∷ rows (length p.classes + 1) (length p.fields + length (field_names c.members)) n) methods_count

abbrev pub made : List (List ℕ) → List ClassData → List FieldData → List MethodData → TableData
made names classes fields methods = record { names = names; classes = classes; fields = fields; methods = methods }

pub table_is : (tree : ProgramTree) (names : List (List ℕ)) (p : PartsData) → all_class_faults tree ≡ [] → names ≡ distinct (class_names tree) → p ≡ parts_from names tree
    → made names p.classes p.fields p.methods ≡ table_of tree
table_is tree names p none names_are p_is =
    let texts = texts_of (class_names tree) in
    let aboves = map (above_named texts) tree in
    let whole = faultless tree none in
    let named : names ≡ texts = names_are ∙ distinct_is (class_names tree) whole.names in
    let parts : p ≡ with_classes tree aboves texts no_parts tree = p_is ∙ ap (λ z. parts_from z tree) named in
    let sound : (i n : ℕ) (c : ClassTree) → slice_get tree i ≡ Some c → n ≡ 0 + i → IsSound tree n c
    = λ i n c at e. whole.classes n c (ap (slice_get tree) (let same : n ≡ i = omega (arith, e) in same) ∙ at) in
    let classes : p.classes ≡ classes_from tree texts_of 0 0 0 tree =
    ap (λ q. q.classes) parts ∙ entries_are tree aboves texts no_parts tree ∙ ap (λ up. rows_from tree up distinct 0 0 0 tree) (above_is tree)
    ∙ rows_are tree 0 0 0 tree sound in
    let fields : p.fields ≡ all_fields texts 0 tree = ap (λ q. q.fields) parts ∙ fields_are tree aboves texts no_parts tree in
    let methods : p.methods ≡ all_methods texts 0 tree = ap (λ q. q.methods) parts ∙ methods_are tree aboves texts no_parts tree in
    ap (λ z. made names z p.fields p.methods) classes
    ∙ ap (λ z. made names (classes_from tree texts_of 0 0 0 tree) z p.methods) fields
    ∙ ap (λ z. made names (classes_from tree texts_of 0 0 0 tree) (all_fields texts 0 tree) z) methods
    ∙ ap (λ z. made z (classes_from tree texts_of 0 0 0 tree) (all_fields texts 0 tree) (all_methods texts 0 tree)) named

-- ---- each method has a class

owned_by : (bound k : ℕ) (names : List (List ℕ)) (ms : List MemberTree) → k < bound → list_all (λ d. nat_lt d.class bound) (methods_of names k ms) ≡ true
owned_by bound k names [] h = refl
owned_by bound k names (FieldM f ∷ ms) h = owned_by bound k names ms h
owned_by bound k names (CtorM n params sets ∷ ms) h = owned_by bound k names ms h
owned_by bound k names (MethodM m ∷ ms) h =
    let e : nat_lt k bound ≡ true = grind (arith, nat_tests) in
    ap (λ b. b && list_all (λ d. nat_lt d.class bound) (methods_of names k ms)) e ∙ owned_by bound k names ms h

owned_all : (bound k : ℕ) (names : List (List ℕ)) (tree : ProgramTree) → k + length tree ≤ bound → list_all (λ d. nat_lt d.class bound) (all_methods names k tree) ≡ true
owned_all bound k names [] h = refl
owned_all bound k names (c ∷ cs) h =
    list_all-append (λ d. nat_lt d.class bound) (methods_of names k c.members) (all_methods names (k + 1) cs)
    ∙ ap (λ b. b && list_all (λ d. nat_lt d.class bound) (all_methods names (k + 1) cs)) (owned_by bound k names c.members (omega arith))
    ∙ owned_all bound (k + 1) names cs (omega arith)

pub all_owned : (tree : ProgramTree) (names : List (List ℕ)) (classes : List ClassData) (fields : List FieldData) (methods : List MethodEntry)
    → made names classes fields (map method_data methods) ≡ table_of tree → list_all (λ m. nat_lt m.class (length names)) methods ≡ true
all_owned tree names classes fields methods is =
    let texts = texts_of (class_names tree) in
    let names_is : names ≡ texts = ap (λ t. t.names) is in
    let methods_is : map method_data methods ≡ all_methods texts 0 tree = ap (λ t. t.methods) is in
    let count : length texts ≡ length tree = length-map (class_names tree) (λ n. n.text) ∙ length-map tree (λ c. c.name) in
    sym (list_all-map (λ d. nat_lt d.class (length names)) method_data methods)
    ∙ ap (list_all (λ d. nat_lt d.class (length names))) methods_is
    ∙ ap (λ z. list_all (λ d. nat_lt d.class (length z)) (all_methods texts 0 tree)) names_is
    ∙ owned_all (length texts) 0 texts tree (omega (arith, count))
