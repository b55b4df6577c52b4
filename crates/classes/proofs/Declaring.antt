-- The names of a table are those that the tree declares, in the same order.
use Rattle.std.proofs.Common.{◌≡◌, ℕ, ◌+◌, ◌<◌, ◌-◌, ◌==◌, zero, suc, false, List, [], ◌∷◌, ◌++◌, map, flat_map, Some, refl, ap, ap₂, sym, ◌∙◌, subst, slice_get, option_map, arith, if◌then◌else◌}
use Rattle.std.specs.Prelude.{codes}
use Rattle.std.specs.List.{All}
use Rattle.std.proofs.lemmas.List.{map-append}
use Rattle.std.proofs.lemmas.List.Elements.{recursion_from_All}
use Rattle.std.proofs.lemmas.Option.{slice_get-map, same_Some}
use Rattle.std.proofs.lemmas.Bool.Decides.{nat_tests}
use Rattle.base.proofs.Options.{then_parts}
use Rattle.lexer.specs.Tokens.{IsSlice}
use Rattle.syntax.specs.declared.tree.Name.{Name}
use Rattle.syntax.specs.declared.tree.Param.{Param}
use Rattle.syntax.specs.Names.{names_of_type, names_of_result, names_of_param, names_of_lock, names_of_stmts, names_of_guard, names_of_member, names_of_extends, names_of_class, names_of_program}
use Rattle.syntax.specs.Tokens.{name_token}
use Rattle.syntax.specs.Trees.{MemberTree, FieldM, CtorM, MethodM, ClassTree, ProgramTree}
use Rattle.classes.specs.Declarations.{IsDeclared, declared_fields, declared_methods, method_params, declared_params}
use Rattle.classes.specs.Members.{class_names, field_names, method_names, param_names}
use Rattle.classes.specs.Names.{texts_of}
use Rattle.classes.specs.Seen.{FieldData}
use Rattle.classes.specs.Table.{TableData, MethodData, param_of, fields_of, methods_of, all_fields, all_methods, table_of, slot_of, slot_title}
use Rattle.classes.proofs.Parts.{Each, each_both, nothing_at, mapped_at, each_at, before_mapped}

-- ---- what holds of each name of a program holds of those that it declares

left : {A : Type 0} (P : A → Type 0) (xs ys : List A) → Each P (xs ++ ys) → Each P xs
left P [] ys a = tt
left P (x ∷ xs) ys a = (a.0, left P xs ys a.1)

right : {A : Type 0} (P : A → Type 0) (xs ys : List A) → Each P (xs ++ ys) → Each P ys
right P [] ys a = a
right P (x ∷ xs) ys a = right P xs ys a.1

module _ (P : Name → Type 0) where
  params_kept : (ps : List Param) → Each P (flat_map names_of_param ps) → Each P (param_names ps)
  params_kept [] a = tt
  params_kept (p ∷ ps) a = (
    (right P (names_of_type p.ty) (p.name ∷ []) (left P (names_of_param p) (flat_map names_of_param ps) a)).0,
    params_kept ps (right P (names_of_param p) (flat_map names_of_param ps) a),
  )

  own_fields_kept : (ms : List MemberTree) → Each P (flat_map names_of_member ms) → Each P (field_names ms)
  own_fields_kept [] a = tt
  own_fields_kept (FieldM f ∷ ms) a = (
    (right P (names_of_type f.ty) (f.name ∷ names_of_guard f.guard) (left P (names_of_member (FieldM f)) (flat_map names_of_member ms) a)).0,
    own_fields_kept ms (right P (names_of_member (FieldM f)) (flat_map names_of_member ms) a),
  )
  own_fields_kept (CtorM n params sets ∷ ms) a = own_fields_kept ms (right P (names_of_member (CtorM n params sets)) (flat_map names_of_member ms) a)
  own_fields_kept (MethodM m ∷ ms) a = own_fields_kept ms (right P (names_of_member (MethodM m)) (flat_map names_of_member ms) a)

  own_methods_kept : (ms : List MemberTree) → Each P (flat_map names_of_member ms) → Each P (method_names ms) × Each (λ ps. Each P (param_names ps)) (method_params ms)
  own_methods_kept [] a = (tt, tt)
  own_methods_kept (FieldM f ∷ ms) a = own_methods_kept ms (right P (names_of_member (FieldM f)) (flat_map names_of_member ms) a)
  own_methods_kept (CtorM n params sets ∷ ms) a = own_methods_kept ms (right P (names_of_member (CtorM n params sets)) (flat_map names_of_member ms) a)
  own_methods_kept (MethodM m ∷ ms) a =
      let later = own_methods_kept ms (right P (names_of_member (MethodM m)) (flat_map names_of_member ms) a) in
      let rest = flat_map names_of_lock m.locks ++ names_of_stmts m.body in
      let own = right P (names_of_result m.returns) (m.name ∷ flat_map names_of_param m.params ++ rest) (left P (names_of_member (MethodM m)) (flat_map names_of_member ms) a) in
      ((own.0, later.0), (params_kept m.params (left P (flat_map names_of_param m.params) rest own.1), later.1))

  classes_kept : (t : ProgramTree) → Each P (names_of_program t) → Each P (class_names t)
  classes_kept [] a = tt
  classes_kept (c ∷ cs) a = ((left P (names_of_class c) (names_of_program cs) a).0, classes_kept cs (right P (names_of_class c) (names_of_program cs) a))

  members_kept : (c : ClassTree) (cs : ProgramTree) → Each P (names_of_program (c ∷ cs)) → Each P (flat_map names_of_member c.members)
  members_kept c cs a = right P (names_of_extends c.above) (flat_map names_of_member c.members) (left P (names_of_class c) (names_of_program cs) a).1

  fields_kept : (t : ProgramTree) → Each P (names_of_program t) → Each P (declared_fields t)
  fields_kept [] a = tt
  fields_kept (c ∷ cs) a =
      each_both P (field_names c.members) (declared_fields cs) (own_fields_kept c.members (members_kept c cs a))
      (fields_kept cs (right P (names_of_class c) (names_of_program cs) a))

  methods_kept : (t : ProgramTree) → Each P (names_of_program t) → Each P (declared_methods t)
  methods_kept [] a = tt
  methods_kept (c ∷ cs) a =
      each_both P (method_names c.members) (declared_methods cs) (own_methods_kept c.members (members_kept c cs a)).0
      (methods_kept cs (right P (names_of_class c) (names_of_program cs) a))

  all_params_kept : (t : ProgramTree) → Each P (names_of_program t) → Each (λ ps. Each P (param_names ps)) (declared_params t)
  all_params_kept [] a = tt
  all_params_kept (c ∷ cs) a =
      each_both (λ ps. Each P (param_names ps)) (method_params c.members) (declared_params cs)
      (own_methods_kept c.members (members_kept c cs a)).1
      (all_params_kept cs (right P (names_of_class c) (names_of_program cs) a))

-- ---- a text by its number

abbrev IsSliced : List ℕ → Name → Type 0
IsSliced source n = IsSlice source (name_token n)

declared_at : (source : List ℕ) (names : List Name) (k : ℕ) (text : List ℕ) → Each (IsSliced source) names → slice_get (texts_of names) k ≡ Some text → IsDeclared source names k text
declared_at source [] k text a e = absurd (nothing_at k text e)
declared_at source (n ∷ ns) zero text a e = record { name = n; there = refl; same = sym (same_Some n.text text e); slice = a.0 }
declared_at source (n ∷ ns) (suc k) text a e =
    let d = declared_at source ns k text a.1 e in record { name = d.name; there = d.there; same = d.same; slice = d.slice }

-- ---- the names of the table's entries

own_field_texts : (names : List (List ℕ)) (k : ℕ) (ms : List MemberTree) → map (λ f. f.name) (fields_of names k ms) ≡ texts_of (field_names ms)
own_field_texts names k [] = refl
own_field_texts names k (FieldM f ∷ ms) = ap (λ z. f.name.text ∷ z) (own_field_texts names k ms)
own_field_texts names k (CtorM n params sets ∷ ms) = own_field_texts names k ms
own_field_texts names k (MethodM m ∷ ms) = own_field_texts names k ms

field_texts : (names : List (List ℕ)) (k : ℕ) (t : ProgramTree) → map (λ f. f.name) (all_fields names k t) ≡ texts_of (declared_fields t)
field_texts names k [] = refl
field_texts names k (c ∷ cs) =
    map-append (λ f. f.name) (fields_of names k c.members) (all_fields names (k + 1) cs)
    ∙ ap₂ (λ x y. x ++ y) (own_field_texts names k c.members) (field_texts names (k + 1) cs)
    ∙ sym (map-append (λ n. n.text) (field_names c.members) (declared_fields cs))

own_method_texts : (names : List (List ℕ)) (k : ℕ) (ms : List MemberTree) → map (λ m. m.name) (methods_of names k ms) ≡ texts_of (method_names ms)
own_method_texts names k [] = refl
own_method_texts names k (FieldM f ∷ ms) = own_method_texts names k ms
own_method_texts names k (CtorM n params sets ∷ ms) = own_method_texts names k ms
own_method_texts names k (MethodM m ∷ ms) = ap (λ z. m.name.text ∷ z) (own_method_texts names k ms)

method_texts : (names : List (List ℕ)) (k : ℕ) (t : ProgramTree) → map (λ m. m.name) (all_methods names k t) ≡ texts_of (declared_methods t)
method_texts names k [] = refl
method_texts names k (c ∷ cs) =
    map-append (λ m. m.name) (methods_of names k c.members) (all_methods names (k + 1) cs)
    ∙ ap₂ (λ x y. x ++ y) (own_method_texts names k c.members) (method_texts names (k + 1) cs)
    ∙ sym (map-append (λ n. n.text) (method_names c.members) (declared_methods cs))

own_params : (names : List (List ℕ)) (k : ℕ) (ms : List MemberTree) → map (λ m. m.params) (methods_of names k ms) ≡ map (map (param_of names)) (method_params ms)
own_params names k [] = refl
own_params names k (FieldM f ∷ ms) = own_params names k ms
own_params names k (CtorM n params sets ∷ ms) = own_params names k ms
own_params names k (MethodM m ∷ ms) = ap (λ z. map (param_of names) m.params ∷ z) (own_params names k ms)

params_are : (names : List (List ℕ)) (k : ℕ) (t : ProgramTree) → map (λ m. m.params) (all_methods names k t) ≡ map (map (param_of names)) (declared_params t)
params_are names k [] = refl
params_are names k (c ∷ cs) =
    map-append (λ m. m.params) (methods_of names k c.members) (all_methods names (k + 1) cs)
    ∙ ap₂ (λ x y. x ++ y) (own_params names k c.members) (params_are names (k + 1) cs)
    ∙ sym (map-append (map (param_of names)) (method_params c.members) (declared_params cs))

param_texts : (names : List (List ℕ)) (ps : List Param) → map (λ p. p.name) (map (param_of names) ps) ≡ texts_of (param_names ps)
param_texts names [] = refl
param_texts names (p ∷ ps) = ap (λ z. p.name.text ∷ z) (param_texts names ps)

-- ---- the laws

module _ (source : List ℕ) (tree : ProgramTree) (a : All (IsSliced source) (names_of_program tree)) where
  abbrev sliced : Each (IsSliced source) (names_of_program tree)
  sliced = recursion_from_All (IsSliced source) (names_of_program tree) a

  pub class_declared : (k : ℕ) (text : List ℕ) → slice_get (table_of tree).names k ≡ Some text → IsDeclared source (class_names tree) k text
  class_declared k text e = declared_at source (class_names tree) k text (classes_kept (IsSliced source) tree sliced) e

  pub field_declared : (k : ℕ) (f : FieldData) → slice_get (table_of tree).fields k ≡ Some f → IsDeclared source (declared_fields tree) k f.name
  field_declared k f e =
      let names = texts_of (class_names tree) in
      declared_at source (declared_fields tree) k f.name (fields_kept (IsSliced source) tree sliced)
      (ap (λ z. slice_get z k) (sym (field_texts names 0 tree)) ∙ mapped_at (λ f. f.name) (all_fields names 0 tree) k f e)

  pub method_declared : (k : ℕ) (m : MethodData) → slice_get (table_of tree).methods k ≡ Some m → IsDeclared source (declared_methods tree) k m.name
  method_declared k m e =
      let names = texts_of (class_names tree) in
      declared_at source (declared_methods tree) k m.name (methods_kept (IsSliced source) tree sliced)
      (ap (λ z. slice_get z k) (sym (method_texts names 0 tree)) ∙ mapped_at (λ m. m.name) (all_methods names 0 tree) k m e)

  pub slot_declared : (k slot : ℕ) (text : List ℕ) → 0 < slot → slot_title (table_of tree) k slot ≡ Some text
      → (params : List Param) × (slice_get (declared_params tree) k ≡ Some params) × IsDeclared source (param_names params) (slot - 1) text
  slot_declared k slot text above e =
      let names = texts_of (class_names tree) in
      let m = then_parts (slot_of slot) (slice_get (table_of tree).methods k) text e in
      let p = before_mapped (map (param_of names)) (declared_params tree) k m.0.params
      (ap (λ z. slice_get z k) (sym (params_are names 0 tree)) ∙ mapped_at (λ m. m.params) (all_methods names 0 tree) k m.0 m.1) in
      let behind : (slot == 0) ≡ false = grind (arith, nat_tests) in
      let own : option_map (λ p. p.name) (slice_get m.0.params (slot - 1)) ≡ Some text =
      subst (λ b. (if b then Some (codes "this") else option_map (λ p. p.name) (slice_get m.0.params (slot - 1))) ≡ Some text) behind m.2 in (
        p.0,
        p.1,
        declared_at source (param_names p.0) (slot - 1) text (each_at (λ ps. Each (IsSliced source) (param_names ps)) (declared_params tree) k p.0 (all_params_kept (IsSliced source) tree sliced) p.1)
            (ap (λ z. slice_get z (slot - 1)) (sym (param_texts names p.0)) ∙ ap (λ z. slice_get (map (λ p. p.name) z) (slot - 1)) p.2
            ∙ slice_get-map (λ p. p.name) m.0.params (slot - 1) ∙ own),
      )

pub this_declared : (t : TableData) (k : ℕ) (text : List ℕ) → slot_title t k 0 ≡ Some text → text ≡ codes "this"
this_declared t k text e = let m = then_parts (slot_of 0) (slice_get t.methods k) text e in sym (same_Some (codes "this") text m.2)
