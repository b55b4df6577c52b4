-- The members of a class and the classes of a program, one after the other.
use Rattle.std.proofs.Common.{◌≡◌, ℕ, ◌+◌, ◌<◌, List, ◌∷◌, Option, option_map, map, flat_map, length, drop, get_or, refl, ap, sym, subst, ◌∙◌}
use Rattle.base.proofs.Lists.{next_drop}
use Rattle.core_program.specs.Core.{Field, Method}
use Rattle.syntax.specs.declared.tree.Class.{Class}
use Rattle.syntax.specs.declared.tree.Member.{Member}
use Rattle.syntax.specs.Trees.{MemberTree, FieldM, CtorM, MethodM}
use Rattle.syntax.specs.Views.{member_of, class_of}
use Rattle.classes.specs.Table.{TableData}
use Rattle.typing.specs.declared.fault.TypeFault.{TypeFault}
use Rattle.typing.specs.Classes.{inherited_count}
use Rattle.typing.specs.Entries.{HasEntry, HaveEntries, AllHaveEntries, method_after, fields_after, methods_after}
use Rattle.typing.specs.Gathered.{appended, with_core_field, with_method, index_after}
use Rattle.typing.specs.Noted.{type_noted}
use Rattle.typing.specs.Programs.{all_there, guard_tree_path, field_node, method_core, fields_core, methods_core, member_type_faults, type_faults_from, all_core_fields, all_core_methods}
use Rattle.typing.proofs.Gathering.{appended_more, appended_assoc, all_there_append}
use Rattle.typing.proofs.Noting.{noted_append}

module _ (t : TableData) where
  one_field : (k i : ℕ) (m : MemberTree) (ms : List MemberTree) (g : Option (List Field))
      → appended (with_core_field t k i m g) (all_there (fields_core t k (index_after m i) ms)) ≡ appended g (all_there (fields_core t k i (m ∷ ms)))
  one_field k i (FieldM f) ms g =
      appended_more g (option_map (field_node t k i f) (guard_tree_path t k f.guard)) (all_there (fields_core t k (i + 1) ms))
  one_field k i (CtorM n params sets) ms g = refl
  one_field k i (MethodM m) ms g = refl

  one_method : (k : ℕ) (m : MemberTree) (ms : List MemberTree) (g : Option (List Method))
      → appended (with_method t k m g) (all_there (methods_core t k ms)) ≡ appended g (all_there (methods_core t k (m ∷ ms)))
  one_method k (FieldM f) ms g = refl
  one_method k (CtorM n params sets) ms g = refl
  one_method k (MethodM m) ms g = appended_more g (method_core t k m) (all_there (methods_core t k ms))

  pub field_step : (k : ℕ) (ms : List Member) (place index after : ℕ) (m : Member) (fields next whole : Option (List Field))
      → place < length ms → m ≡ get_or ms place m
      → appended fields (all_there (fields_core t k index (map member_of (drop place ms)))) ≡ whole
      → next ≡ with_core_field t k index (member_of m) fields
      → after ≡ index_after (member_of m) index
      → appended next (all_there (fields_core t k after (map member_of (drop (place + 1) ms)))) ≡ whole
  field_step k ms place index after m fields next whole within at so is counted =
      let others = map member_of (drop (place + 1) ms) in
      ap (λ n. appended n (all_there (fields_core t k after others))) is
      ∙ ap (λ z. appended (with_core_field t k index (member_of m) fields) (all_there (fields_core t k z others))) counted
      ∙ one_field k index (member_of m) others fields
      ∙ ap (λ z. appended fields (all_there (fields_core t k index (map member_of z)))) (sym (next_drop ms place m within at))
      ∙ so

  pub method_step : (k : ℕ) (ms : List Member) (place : ℕ) (m : Member) (methods next whole : Option (List Method))
      → place < length ms → m ≡ get_or ms place m
      → appended methods (all_there (methods_core t k (map member_of (drop place ms)))) ≡ whole
      → next ≡ with_method t k (member_of m) methods
      → appended next (all_there (methods_core t k (map member_of (drop (place + 1) ms)))) ≡ whole
  method_step k ms place m methods next whole within at so is =
      let others = map member_of (drop (place + 1) ms) in
      ap (λ n. appended n (all_there (methods_core t k others))) is
      ∙ one_method k (member_of m) others methods
      ∙ ap (λ z. appended methods (all_there (methods_core t k (map member_of z)))) (sym (next_drop ms place m within at))
      ∙ so

  pub member_fault : (k : ℕ) (ms : List Member) (place : ℕ) (m : Member) (found next whole : Option TypeFault)
      → place < length ms → m ≡ get_or ms place m
      → type_noted found (flat_map (member_type_faults t k) (map member_of (drop place ms))) ≡ whole
      → next ≡ type_noted found (member_type_faults t k (member_of m))
      → type_noted next (flat_map (member_type_faults t k) (map member_of (drop (place + 1) ms))) ≡ whole
  member_fault k ms place m found next whole within at so is =
      let others = flat_map (member_type_faults t k) (map member_of (drop (place + 1) ms)) in
      ap (λ n. type_noted n others) is
      ∙ sym (noted_append found (member_type_faults t k (member_of m)) others)
      ∙ ap (λ z. type_noted found (flat_map (member_type_faults t k) (map member_of z))) (sym (next_drop ms place m within at))
      ∙ so

  pub class_fields_step : (cs : List Class) (place k after inherited : ℕ) (c : Class) (fields next whole : Option (List Field))
      → place < length cs → c ≡ get_or cs place c
      → appended fields (all_there (all_core_fields t k (map class_of (drop place cs)))) ≡ whole
      → next ≡ appended fields (all_there (fields_core t k inherited (map member_of c.members.items)))
      → inherited ≡ inherited_count t k
      → after ≡ k + 1
      → appended next (all_there (all_core_fields t after (map class_of (drop (place + 1) cs)))) ≡ whole
  class_fields_step cs place k after inherited c fields next whole within at so is from_above counted =
      let others = map class_of (drop (place + 1) cs) in
      let own = fields_core t k (inherited_count t k) (map member_of c.members.items) in
      ap (λ n. appended n (all_there (all_core_fields t after others))) is
      ∙ ap (λ z. appended (appended fields (all_there (fields_core t k z (map member_of c.members.items)))) (all_there (all_core_fields t after others))) from_above
      ∙ ap (λ z. appended (appended fields (all_there own)) (all_there (all_core_fields t z others))) counted
      ∙ appended_assoc fields (all_there own) (all_there (all_core_fields t (k + 1) others))
      ∙ ap (appended fields) (sym (all_there_append own (all_core_fields t (k + 1) others)))
      ∙ ap (λ z. appended fields (all_there (all_core_fields t k (map class_of z)))) (sym (next_drop cs place c within at))
      ∙ so

  pub class_methods_step : (cs : List Class) (place k after : ℕ) (c : Class) (methods next whole : Option (List Method))
      → place < length cs → c ≡ get_or cs place c
      → appended methods (all_there (all_core_methods t k (map class_of (drop place cs)))) ≡ whole
      → next ≡ appended methods (all_there (methods_core t k (map member_of c.members.items)))
      → after ≡ k + 1
      → appended next (all_there (all_core_methods t after (map class_of (drop (place + 1) cs)))) ≡ whole
  class_methods_step cs place k after c methods next whole within at so is counted =
      let others = map class_of (drop (place + 1) cs) in
      let own = methods_core t k (map member_of c.members.items) in
      ap (λ n. appended n (all_there (all_core_methods t after others))) is
      ∙ ap (λ z. appended (appended methods (all_there own)) (all_there (all_core_methods t z others))) counted
      ∙ appended_assoc methods (all_there own) (all_there (all_core_methods t (k + 1) others))
      ∙ ap (appended methods) (sym (all_there_append own (all_core_methods t (k + 1) others)))
      ∙ ap (λ z. appended methods (all_there (all_core_methods t k (map class_of z)))) (sym (next_drop cs place c within at))
      ∙ so

  pub class_fault : (cs : List Class) (place k after : ℕ) (c : Class) (found next whole : Option TypeFault)
      → place < length cs → c ≡ get_or cs place c
      → type_noted found (type_faults_from t k (map class_of (drop place cs))) ≡ whole
      → next ≡ type_noted found (flat_map (member_type_faults t k) (map member_of c.members.items))
      → after ≡ k + 1
      → type_noted next (type_faults_from t after (map class_of (drop (place + 1) cs))) ≡ whole
  class_fault cs place k after c found next whole within at so is counted =
      let others = map class_of (drop (place + 1) cs) in
      let own = flat_map (member_type_faults t k) (map member_of c.members.items) in
      ap (λ n. type_noted n (type_faults_from t after others)) is
      ∙ ap (λ z. type_noted (type_noted found own) (type_faults_from t z others)) counted
      ∙ sym (noted_append found own (type_faults_from t (k + 1) others))
      ∙ ap (λ z. type_noted found (type_faults_from t k (map class_of z))) (sym (next_drop cs place c within at))
      ∙ so

  -- ---- entries

  pub entries_next : (k : ℕ) (ms : List Member) (place i j : ℕ) (m : Member)
      → place < length ms → m ≡ get_or ms place m
      → HaveEntries t k (map member_of (drop place ms)) i j
      → HasEntry t k (member_of m) i j
  entries_next k ms place i j m within at have =
      (subst (λ z. HaveEntries t k (map member_of z) i j) (next_drop ms place m within at) have).0

  pub entries_step : (k : ℕ) (ms : List Member) (place i j field method : ℕ) (m : Member)
      → place < length ms → m ≡ get_or ms place m
      → HaveEntries t k (map member_of (drop place ms)) i j
      → field ≡ index_after (member_of m) i → method ≡ method_after (member_of m) j
      → HaveEntries t k (map member_of (drop (place + 1) ms)) field method
  entries_step k ms place i j field method m within at have field_is method_is =
      let others = map member_of (drop (place + 1) ms) in
      subst (λ z. HaveEntries t k others z method) (sym field_is)
      (subst (λ z. HaveEntries t k others (index_after (member_of m) i) z) (sym method_is)
      (subst (λ z. HaveEntries t k (map member_of z) i j) (next_drop ms place m within at) have).1)

  pub all_entries_next : (k : ℕ) (cs : List Class) (place i j : ℕ) (c : Class)
      → place < length cs → c ≡ get_or cs place c
      → AllHaveEntries t k (map class_of (drop place cs)) i j
      → HaveEntries t k (map member_of c.members.items) i j
  all_entries_next k cs place i j c within at have =
      (subst (λ z. AllHaveEntries t k (map class_of z) i j) (next_drop cs place c within at) have).0

  pub all_entries_step : (k after : ℕ) (cs : List Class) (place i j field method : ℕ) (c : Class)
      → place < length cs → c ≡ get_or cs place c
      → AllHaveEntries t k (map class_of (drop place cs)) i j
      → field ≡ fields_after (map member_of c.members.items) i → method ≡ methods_after (map member_of c.members.items) j → after ≡ k + 1
      → AllHaveEntries t after (map class_of (drop (place + 1) cs)) field method
  all_entries_step k after cs place i j field method c within at have field_is method_is counted =
      let others = map class_of (drop (place + 1) cs) in
      subst (λ z. AllHaveEntries t z others field method) (sym counted)
      (subst (λ z. AllHaveEntries t (k + 1) others z method) (sym field_is)
      (subst (λ z. AllHaveEntries t (k + 1) others (fields_after (map member_of c.members.items) i) z) (sym method_is)
      (subst (λ z. AllHaveEntries t k (map class_of z) i j) (next_drop cs place c within at) have).1))

pub fields_step : (ms : List Member) (place i field whole : ℕ) (m : Member)
    → place < length ms → m ≡ get_or ms place m
    → fields_after (map member_of (drop place ms)) i ≡ whole → field ≡ index_after (member_of m) i
    → fields_after (map member_of (drop (place + 1) ms)) field ≡ whole
fields_step ms place i field whole m within at so is =
    ap (fields_after (map member_of (drop (place + 1) ms))) is
    ∙ ap (λ z. fields_after (map member_of z) i) (sym (next_drop ms place m within at))
    ∙ so

pub methods_step : (ms : List Member) (place j method whole : ℕ) (m : Member)
    → place < length ms → m ≡ get_or ms place m
    → methods_after (map member_of (drop place ms)) j ≡ whole → method ≡ method_after (member_of m) j
    → methods_after (map member_of (drop (place + 1) ms)) method ≡ whole
methods_step ms place j method whole m within at so is =
    ap (methods_after (map member_of (drop (place + 1) ms))) is
    ∙ ap (λ z. methods_after (map member_of z) j) (sym (next_drop ms place m within at))
    ∙ so
