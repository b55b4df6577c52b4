-- A field by its name among the members of a class: where it stands is what its name means.
use Rattle.std.proofs.Common.{◌≡◌, ℕ, ◌+◌, suc, Bool, true, false, cond, List, [], ◌∷◌, Some, None, refl, ap, sym, ◌∙◌, slice_get, bytes_eq, arith, if◌then◌else◌}
use Rattle.std.specs.List.{position_from}
use Rattle.std.specs.Cmp.{both_ways}
use Rattle.std.proofs.lemmas.Option.{none-some, same_Some}
use Rattle.std.proofs.lemmas.Slice.Eq.{bytes_eq-Decides}
use Rattle.syntax.specs.Trees.{MemberTree, FieldM, CtorM, MethodM}
use Rattle.classes.specs.Names.{texts_of}
use Rattle.classes.specs.Members.{field_names}
use Rattle.classes.specs.Overriding.{field_from}
use Rattle.typing.proofs.Places.{FieldAt, own_fields}

-- the first field of a name, by its place among the fields
pub record IsFrom (k idx from : ℕ) (ms : List MemberTree) (name : List ℕ) (j : ℕ) : Type 0 where
  pub place : ℕ
  pub field : FieldAt
  pub number : j ≡ from + place
  pub there : slice_get (own_fields k idx ms) place ≡ Some field
  pub found : field_from k from ms name ≡ Some (record { at = record { class = k; place = j }; is_final = field.field.is_final; ty = field.field.ty })

turned_texts : (a b : List ℕ) → bytes_eq a b ≡ bytes_eq b a
turned_texts a b = both_ways (bytes_eq a b) (bytes_eq b a)
    (λ h. (bytes_eq-Decides b a).1 (sym ((bytes_eq-Decides a b).0 h))) (λ h. (bytes_eq-Decides a b).1 (sym ((bytes_eq-Decides b a).0 h)))

pub same_from : (k idx from : ℕ) (ms : List MemberTree) (name : List ℕ) (j : ℕ) → position_from (bytes_eq name) from (texts_of (field_names ms)) ≡ Some j → IsFrom k idx from ms name j
same_from k idx from [] name j h = absurd (none-some j h)
same_from k idx from (FieldM f ∷ ms) name j h = by_test (bytes_eq name f.name.text) refl (same_from k (idx + 1) (from + 1) ms name j) h
  where
    by_test : (b : Bool) → bytes_eq name f.name.text ≡ b
        → (position_from (bytes_eq name) (from + 1) (texts_of (field_names ms)) ≡ Some j → IsFrom k (idx + 1) (from + 1) ms name j)
        → cond b (Some from) (position_from (bytes_eq name) (from + 1) (texts_of (field_names ms))) ≡ Some j → IsFrom k idx from (FieldM f ∷ ms) name j
    by_test true is later k2 =
        let same : from ≡ j = same_Some from j k2 in
        record {
          place = 0;
          field = record { class = k; index = idx; field = f };
          number = omega (arith, same);
          there = refl;
          found = ap (λ b. if b then Some (record { at = record { class = k; place = from }; is_final = f.is_final; ty = f.ty }) else field_from k (from + 1) ms name) (turned_texts f.name.text name ∙ is)
              ∙ ap (λ p. Some (record { at = record { class = k; place = p }; is_final = f.is_final; ty = f.ty })) same;
        }
    by_test false is later k2 =
        let r = later k2 in
        record {
          place = suc r.place;
          field = r.field;
          number = omega (arith, r.number);
          there = r.there;
          found = ap (λ b. if b then Some (record { at = record { class = k; place = from }; is_final = f.is_final; ty = f.ty }) else field_from k (from + 1) ms name) (turned_texts f.name.text name ∙ is) ∙ r.found;
        }
same_from k idx from (CtorM n params sets ∷ ms) name j h =
    let r = same_from k idx from ms name j h in
    record { place = r.place; field = r.field; number = r.number; there = r.there; found = r.found }
same_from k idx from (MethodM m ∷ ms) name j h =
    let r = same_from k idx from ms name j h in
    record { place = r.place; field = r.field; number = r.number; there = r.there; found = r.found }

pub none_from : (k from : ℕ) (ms : List MemberTree) (name : List ℕ) → position_from (bytes_eq name) from (texts_of (field_names ms)) ≡ None → field_from k from ms name ≡ None
none_from k from [] name h = refl
none_from k from (FieldM f ∷ ms) name h = by_test (bytes_eq name f.name.text) refl (none_from k (from + 1) ms name) h
  where
    by_test : (b : Bool) → bytes_eq name f.name.text ≡ b → (position_from (bytes_eq name) (from + 1) (texts_of (field_names ms)) ≡ None → field_from k (from + 1) ms name ≡ None)
        → cond b (Some from) (position_from (bytes_eq name) (from + 1) (texts_of (field_names ms))) ≡ None → field_from k from (FieldM f ∷ ms) name ≡ None
    by_test true is later h2 = absurd (none-some from (sym h2))
    by_test false is later h2 =
        ap (λ b. if b then Some (record { at = record { class = k; place = from }; is_final = f.is_final; ty = f.ty }) else field_from k (from + 1) ms name) (turned_texts f.name.text name ∙ is) ∙ later h2
none_from k from (CtorM n params sets ∷ ms) name h = none_from k from ms name h
none_from k from (MethodM m ∷ ms) name h = none_from k from ms name h
