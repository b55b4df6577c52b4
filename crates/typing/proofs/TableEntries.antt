-- The table of a program has the entries of its members, in order; parameters in scope from their entries.
use Rattle.std.proofs.Common.{◌≡◌, ℕ, ◌+◌, ◌<◌, drop, get_or, List, [], ◌∷◌, ◌++◌, Some, map, option_map, length, refl, ap, sym, ◌∙◌, subst, arith, append-nil, append_assoc}
use Rattle.std.specs.Prelude.{slice_get}
use Rattle.std.proofs.lemmas.List.{length-append, length-map}
use Rattle.std.proofs.lemmas.Option.{slice_get-map, slice_get_read}
use Rattle.base.proofs.Lists.{get_right, next_drop}
use Rattle.core_program.specs.declared.types.CoreType.{CoreType}
use Rattle.syntax.specs.declared.tree.Param.{Param}
use Rattle.syntax.specs.Trees.{MemberTree, FieldM, CtorM, MethodM, ProgramTree}
use Rattle.classes.specs.Seen.{FieldData, ParamData}
use Rattle.classes.specs.Table.{TableData, MethodData, table_of, param_of, type_of, fields_of, methods_of, all_fields, all_methods}
use Rattle.typing.specs.Scopes.{Scope, scope_of_parameters}
use Rattle.typing.specs.Entries.{field_entry, method_entry, HaveEntries, AllHaveEntries, fields_after, methods_after}

-- ---- parameters

-- the type of a parameter, from its entry
pub param_step : (t : TableData) (ps : List Param) (es : List ParamData) (place slot next : ℕ) (p : Param) (ty : CoreType) (scope longer whole : Scope)
    → place < length ps → p ≡ get_or ps place p → es ≡ map (param_of t.names) ps
    → ((e : ParamData) → slice_get es place ≡ Some e → ty ≡ e.ty)
    → scope ++ scope_of_parameters t slot (drop place ps) ≡ whole
    → longer ≡ scope ++ record { name = p.name.text; variable = record { slot = slot; is_final = p.is_final; ty = ty } } ∷ []
    → next ≡ slot + 1
    → longer ++ scope_of_parameters t next (drop (place + 1) ps) ≡ whole
param_step t ps es place slot next p ty scope longer whole within at entries told so is counted =
    let others = drop (place + 1) ps in
    let there : slice_get es place ≡ Some (param_of t.names p) =
    ap (λ z. slice_get z place) entries ∙ slice_get-map (param_of t.names) ps place ∙ ap (option_map (param_of t.names)) (slice_get_read ps (length ps) place p refl within at) in
    ap (λ z. z ++ scope_of_parameters t next others) is
    ∙ ap (λ z. (scope ++ record { name = p.name.text; variable = record { slot = slot; is_final = p.is_final; ty = z } } ∷ []) ++ scope_of_parameters t next others) (told (param_of t.names p) there)
    ∙ ap (λ z. (scope ++ record { name = p.name.text; variable = record { slot = slot; is_final = p.is_final; ty = type_of t.names p.ty } } ∷ []) ++ scope_of_parameters t z others) counted
    ∙ append_assoc scope (record { name = p.name.text; variable = record { slot = slot; is_final = p.is_final; ty = type_of t.names p.ty } } ∷ []) (scope_of_parameters t (slot + 1) others)
    ∙ ap (λ z. scope ++ scope_of_parameters t slot z) (sym (next_drop ps place p within at))
    ∙ so

-- a parameter has an entry
pub entry_within : (t : TableData) (ps : List Param) (es : List ParamData) (place : ℕ) → place < length ps → es ≡ map (param_of t.names) ps → place < length es
entry_within t ps es place within entries = subst (λ n. place < n) (sym (ap length entries ∙ length-map ps (param_of t.names))) within

-- ---- the table of a program

at_length : {A : Type 0} (before : List A) (x : A) (after : List A) → slice_get (before ++ x ∷ after) (length before) ≡ Some x
at_length before x after = let e : length before ≡ length before + 0 = omega arith in
    ap (slice_get (before ++ x ∷ after)) e ∙ get_right before (x ∷ after) 0

one_longer : {A : Type 0} (before : List A) (x : A) → length (before ++ x ∷ []) ≡ length before + 1
one_longer before x = length-append before (x ∷ [])

fields_counted : (names : List (List ℕ)) (k : ℕ) (ms : List MemberTree) (before : List FieldData)
    → fields_after ms (length before) ≡ length (before ++ fields_of names k ms)
fields_counted names k [] before = ap length (sym (append-nil before))
fields_counted names k (FieldM f ∷ ms) before =
    let e : FieldData = record { class = k; name = f.name.text; is_final = f.is_final; ty = type_of names f.ty } in
    ap (fields_after ms) (sym (one_longer before e)) ∙ fields_counted names k ms (before ++ e ∷ []) ∙ ap length (append_assoc before (e ∷ []) (fields_of names k ms))
fields_counted names k (CtorM n params sets ∷ ms) before = fields_counted names k ms before
fields_counted names k (MethodM m ∷ ms) before = fields_counted names k ms before

methods_counted : (names : List (List ℕ)) (k : ℕ) (ms : List MemberTree) (before : List MethodData)
    → methods_after ms (length before) ≡ length (before ++ methods_of names k ms)
methods_counted names k [] before = ap length (sym (append-nil before))
methods_counted names k (FieldM f ∷ ms) before = methods_counted names k ms before
methods_counted names k (CtorM n params sets ∷ ms) before = methods_counted names k ms before
methods_counted names k (MethodM m ∷ ms) before =
    let e : MethodData = record { class = k; name = m.name.text; params = map (param_of names) m.params; returns = option_map (type_of names) m.returns } in
    ap (methods_after ms) (sym (one_longer before e)) ∙ methods_counted names k ms (before ++ e ∷ []) ∙ ap length (append_assoc before (e ∷ []) (methods_of names k ms))

module _ (t : TableData) where
  have_entries : (k : ℕ) (ms : List MemberTree) (fs after_fs : List FieldData) (ns after_ns : List MethodData)
      → t.fields ≡ fs ++ (fields_of t.names k ms ++ after_fs) → t.methods ≡ ns ++ (methods_of t.names k ms ++ after_ns)
      → HaveEntries t k ms (length fs) (length ns)
  have_entries k [] fs after_fs ns after_ns f n = tt
  have_entries k (FieldM d ∷ ms) fs after_fs ns after_ns f n =
      let e = field_entry t k d in
      let rest = fields_of t.names k ms ++ after_fs in (
        ap (λ z. slice_get z (length fs)) f ∙ at_length fs e rest,
        subst (λ z. HaveEntries t k ms z (length ns)) (one_longer fs e)
            (have_entries k ms (fs ++ e ∷ []) after_fs ns after_ns (f ∙ sym (append_assoc fs (e ∷ []) rest)) n),
      )
  have_entries k (CtorM c params sets ∷ ms) fs after_fs ns after_ns f n = (tt, have_entries k ms fs after_fs ns after_ns f n)
  have_entries k (MethodM d ∷ ms) fs after_fs ns after_ns f n =
      let e = method_entry t k d in
      let rest = methods_of t.names k ms ++ after_ns in (
        ap (λ z. slice_get z (length ns)) n ∙ at_length ns e rest,
        subst (λ z. HaveEntries t k ms (length fs) z) (one_longer ns e)
            (have_entries k ms fs after_fs (ns ++ e ∷ []) after_ns f (n ∙ sym (append_assoc ns (e ∷ []) rest))),
      )

  all_have_entries : (k : ℕ) (cs : ProgramTree) (fs : List FieldData) (ns : List MethodData)
      → t.fields ≡ fs ++ all_fields t.names k cs → t.methods ≡ ns ++ all_methods t.names k cs
      → AllHaveEntries t k cs (length fs) (length ns)
  all_have_entries k [] fs ns f n = tt
  all_have_entries k (c ∷ cs) fs ns f n =
      let own = fields_of t.names k c.members in
      let own_methods = methods_of t.names k c.members in
      let others = all_fields t.names (k + 1) cs in
      let other_methods = all_methods t.names (k + 1) cs in (
        have_entries k c.members fs others ns other_methods f n,
        subst (λ z. AllHaveEntries t (k + 1) cs z (methods_after c.members (length ns))) (sym (fields_counted t.names k c.members fs))
            (subst (λ z. AllHaveEntries t (k + 1) cs (length (fs ++ own)) z) (sym (methods_counted t.names k c.members ns))
            (all_have_entries (k + 1) cs (fs ++ own) (ns ++ own_methods) (f ∙ sym (append_assoc fs own others)) (n ∙ sym (append_assoc ns own_methods other_methods)))),
      )

-- the table of a program has the entries of its members
pub entries_as : (tree : ProgramTree) (t : TableData) (classes : ProgramTree) → t ≡ table_of tree → classes ≡ tree → AllHaveEntries t 0 classes 0 0
entries_as tree t classes is whole =
    subst (λ z. AllHaveEntries t 0 z 0 0) (sym whole)
    (subst (λ z. AllHaveEntries z 0 tree 0 0) (sym is) (all_have_entries (table_of tree) 0 tree [] [] refl refl))
