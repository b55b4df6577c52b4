-- Classes along a line: which of them declare fields, what is inherited from these alone, and whether one has a `run`.
use Rattle.std.proofs.Common.{◌≡◌, ℕ, ◌≤◌, zero, suc, Bool, true, false, not, ◌||◌, List, [], ◌∷◌, ◌++◌, Option, Some, None, is_some, length, reverse, refl, sym, ap, ap₂, subst, ◌∙◌, arith, if◌then◌else◌}
use Rattle.std.specs.List.{list_any}
use Rattle.std.specs.Option.{option_and_then, option_or}
use Rattle.std.proofs.lemmas.Grind.{flat_map-append}
use Rattle.std.proofs.lemmas.List.{append-nil, reverse-append}
use Rattle.std.proofs.lemmas.List.Concat.{flat_map-cons}
use Rattle.std.proofs.lemmas.List.Folds.{list_any-append}
use Rattle.std.proofs.lemmas.Option.{none-some}
use Rattle.base.specs.Ancestors.{steps_up}
use Rattle.syntax.specs.Trees.{MemberTree, FieldM, CtorM, MethodM, ProgramTree}
use Rattle.classes.specs.Families.{members_along}
use Rattle.classes.specs.Members.{has_none, field_names, finals_of}
use Rattle.classes.specs.Overriding.{field_along, field_from}
use Rattle.classes.specs.Lines.{above, all_members, ancestor_classes, ancestors, ancestors_of, inherited, is_on_circle, members_at}
use Rattle.classes.specs.Climbs.{HaveSameFields, declares_fields, declares_run, fields_above, first_with_fields, have_run, with_fields}
use Rattle.classes.proofs.Faultless.{field_names_append}
use Rattle.classes.proofs.Parted.{finals_append}

-- ---- lines

-- from what may be above, numbers each of which is above the one before it, up to the top
abbrev IsLine : (ℕ → Option ℕ) → Option ℕ → List ℕ → Type 0
IsLine step from [] = from ≡ None
IsLine step from (k ∷ ks) = (from ≡ Some k) × IsLine step (step k) ks

-- ancestors are such a line where going up ends
ends : (step : ℕ → Option ℕ) (n k : ℕ) → steps_up step n k ≡ None → IsLine step (step k) (ancestors step n (step k))
ends step zero k top = absurd (none-some k (sym top))
ends step (suc n) k top = by_next (step k) top (λ d is. ends step n d is)
  where
    by_next : (o : Option ℕ) → option_and_then (λ d. steps_up step n d) o ≡ None → ((d : ℕ) → steps_up step n d ≡ None → IsLine step (step d) (ancestors step n (step d)))
        → IsLine step o (ancestors step (suc n) o)
    by_next None top later = refl
    by_next (Some d) top later = (refl, later d top)

-- a line is the ancestors, where it is no longer than so many
line_is : (step : ℕ → Option ℕ) (n : ℕ) (from : Option ℕ) (ks : List ℕ) → IsLine step from ks → length ks ≤ n → ancestors step n from ≡ ks
line_is step n from [] line few = ap (ancestors step n) line
line_is step zero from (k ∷ ks) line few = absurd (omega (arith, few))
line_is step (suc n) from (k ∷ ks) line few = ap (ancestors step (suc n)) line.0 ∙ ap (λ z. k ∷ z) (line_is step n (step k) ks line.1 (omega (arith, few)))

few_ancestors : (step : ℕ → Option ℕ) (n : ℕ) (from : Option ℕ) → length (ancestors step n from) ≤ n
few_ancestors step n None = omega arith
few_ancestors step zero (Some k) = omega arith
few_ancestors step (suc n) (Some k) = let fewer = few_ancestors step n (step k) in omega (arith, fewer)

-- after the last step there is no more
pub no_more : (step : ℕ → Option ℕ) (n : ℕ) (from : Option ℕ) → n ≡ 0 → ancestors step n from ≡ []
no_more step n from is = ap (λ m. ancestors step m from) is ∙ by_last from
  where
    by_last : (o : Option ℕ) → ancestors step 0 o ≡ []
    by_last None = refl
    by_last (Some k) = refl

module _ (tree : ProgramTree) where
  fewer_with_fields : (ks : List ℕ) → length (with_fields tree ks) ≤ length ks
  fewer_with_fields [] = omega arith
  fewer_with_fields (k ∷ ks) = by_test (declares_fields tree k) (fewer_with_fields ks)
    where
      by_test : (b : Bool) → length (with_fields tree ks) ≤ length ks → length (if b then k ∷ with_fields tree ks else with_fields tree ks) ≤ suc (length ks)
      by_test true later = omega (arith, later)
      by_test false later = omega (arith, later)

  -- what is left of a line is a line from class with fields to class with fields
  line_with_fields : (from : Option ℕ) (ks : List ℕ) → IsLine (above tree) from ks → length ks ≤ length tree → IsLine (fields_above tree) (first_with_fields tree ks) (with_fields tree ks)
  line_with_fields from [] line few = refl
  line_with_fields from (k ∷ ks) line few = by_test (declares_fields tree k) (line_with_fields (above tree k) ks line.1 (omega (arith, few)))
    where
      here : fields_above tree k ≡ first_with_fields tree ks
      here = ap (first_with_fields tree) (line_is (above tree) (length tree) (above tree k) ks line.1 (omega (arith, few)))

      by_test : (b : Bool) → IsLine (fields_above tree) (first_with_fields tree ks) (with_fields tree ks)
          → IsLine (fields_above tree) (if b then Some k else first_with_fields tree ks) (if b then k ∷ with_fields tree ks else with_fields tree ks)
      by_test true later = (refl, subst (λ o. IsLine (fields_above tree) o (with_fields tree ks)) (sym here) later)
      by_test false later = later

  none_left : (o : Option ℕ) → is_some o ≡ false → o ≡ None
  none_left None h = refl
  none_left (Some n) h = absurd (let e : true ≡ false = h in cc)

  -- going up from class with fields to class with fields comes to all of them
  pub all_with_fields : (k : ℕ) → is_on_circle tree k ≡ false → ancestors (fields_above tree) (length tree) (fields_above tree k) ≡ with_fields tree (ancestor_classes tree k)
  all_with_fields k off =
      let line = ends (above tree) (length tree) k (none_left (steps_up (above tree) (length tree) k) off) in
      let few = few_ancestors (above tree) (length tree) (above tree k) in
      let fewer = fewer_with_fields (ancestors_of tree k) in
      line_is (fields_above tree) (length tree) (fields_above tree k) (with_fields tree (ancestors_of tree k)) (line_with_fields (above tree k) (ancestors_of tree k) line few) (omega (arith, few, fewer))
      ∙ ap (with_fields tree) (ap (λ b. if b then [] else ancestors_of tree k) (sym off))

  -- ---- what is inherited from classes with fields

  one_along : (k : ℕ) → members_along tree (k ∷ []) ≡ members_at tree k
  one_along k = flat_map-cons (members_at tree) k [] ∙ append-nil (members_at tree k)

  -- a part of members that only classes with fields have
  module _ {B : Type 0} (part : List MemberTree → List B) (append : (xs ys : List MemberTree) → part (xs ++ ys) ≡ part xs ++ part ys)
      (none : (k : ℕ) → declares_fields tree k ≡ false → part (members_at tree k) ≡ []) where
    along_append : (ks ls : List ℕ) → part (members_along tree (ks ++ ls)) ≡ part (members_along tree ks) ++ part (members_along tree ls)
    along_append ks ls = ap part (flat_map-append (members_at tree) ks ls) ∙ append (members_along tree ks) (members_along tree ls)

    one_more : (k : ℕ) (ks : List ℕ) → part (members_along tree (reverse (k ∷ ks))) ≡ part (members_along tree (reverse ks)) ++ part (members_at tree k)
    one_more k ks =
        ap (λ z. part (members_along tree z)) (reverse-append (k ∷ []) ks) ∙ along_append (reverse ks) (k ∷ []) ∙ ap (λ z. part (members_along tree (reverse ks)) ++ part z) (one_along k)

    same_along : (ks : List ℕ) → part (members_along tree (reverse (with_fields tree ks))) ≡ part (members_along tree (reverse ks))
    same_along [] = refl
    same_along (k ∷ ks) = by_test (declares_fields tree k) refl (same_along ks)
      where
        by_test : (b : Bool) → declares_fields tree k ≡ b → part (members_along tree (reverse (with_fields tree ks))) ≡ part (members_along tree (reverse ks))
            → part (members_along tree (reverse (if b then k ∷ with_fields tree ks else with_fields tree ks))) ≡ part (members_along tree (reverse (k ∷ ks)))
        by_test true is later = one_more k (with_fields tree ks) ∙ ap (λ z. z ++ part (members_at tree k)) later ∙ sym (one_more k ks)
        by_test false is later =
            later
            ∙ sym (one_more k ks ∙ ap (λ z. part (members_along tree (reverse ks)) ++ z) (none k is) ∙ append-nil (part (members_along tree (reverse ks))))

    same_with_own : (k : ℕ) (ks : List ℕ) → part (members_along tree (reverse (with_fields tree ks) ++ k ∷ [])) ≡ part (members_along tree (reverse ks) ++ members_at tree k)
    same_with_own k ks =
        along_append (reverse (with_fields tree ks)) (k ∷ [])
        ∙ ap₂ (λ xs z. xs ++ part z) (same_along ks) (one_along k)
        ∙ sym (append (members_along tree (reverse ks)) (members_at tree k))

  nothing : {X : Type 0} (xs : List X) → not (has_none xs) ≡ false → xs ≡ []
  nothing [] h = refl
  nothing (x ∷ xs) h = absurd (let e : true ≡ false = h in cc)

  no_finals : (ms : List MemberTree) → not (has_none (field_names ms)) ≡ false → finals_of ms ≡ []
  no_finals [] h = refl
  no_finals (FieldM f ∷ ms) h = absurd (let e : true ≡ false = h in cc)
  no_finals (CtorM n params sets ∷ ms) h = no_finals ms h
  no_finals (MethodM m ∷ ms) h = no_finals ms h

  pub same_names : (ks : List ℕ) → field_names (members_along tree (reverse (with_fields tree ks))) ≡ field_names (members_along tree (reverse ks))
  same_names ks = same_along field_names field_names_append (λ k h. nothing (field_names (members_at tree k)) h) ks

  -- the classes with fields and the class itself have the fields of all members
  pub same_fields : (k : ℕ) (order : List ℕ) → order ≡ reverse (with_fields tree (ancestor_classes tree k)) ++ k ∷ [] → HaveSameFields (members_along tree order) (all_members tree k)
  same_fields k order is = record {
    names = ap (λ z. field_names (members_along tree z)) is ∙ same_with_own field_names field_names_append (λ n h. nothing (field_names (members_at tree n)) h) k (ancestor_classes tree k);
    finals = ap (λ z. finals_of (members_along tree z)) is ∙ same_with_own finals_of finals_append (λ n h. no_finals (members_at tree n) h) k (ancestor_classes tree k);
  }

  no_field : (k i : ℕ) (ms : List MemberTree) (name : List ℕ) → not (has_none (field_names ms)) ≡ false → None ≡ field_from k i ms name
  no_field k i [] name h = refl
  no_field k i (FieldM f ∷ ms) name h = absurd (let e : true ≡ false = h in cc)
  no_field k i (CtorM n params sets ∷ ms) name h = no_field k i ms name h
  no_field k i (MethodM m ∷ ms) name h = no_field k i ms name h

  same_field : (ks : List ℕ) (name : List ℕ) → field_along tree (with_fields tree ks) name ≡ field_along tree ks name
  same_field [] name = refl
  same_field (k ∷ ks) name = by_test (declares_fields tree k) refl (same_field ks name)
    where
      by_test : (b : Bool) → declares_fields tree k ≡ b → field_along tree (with_fields tree ks) name ≡ field_along tree ks name
          → field_along tree (if b then k ∷ with_fields tree ks else with_fields tree ks) name ≡ field_along tree (k ∷ ks) name
      by_test true is later = ap (option_or (field_from k 0 (members_at tree k) name)) later
      by_test false is later = later ∙ ap (λ o. option_or o (field_along tree ks name)) (no_field k 0 (members_at tree k) name is)

  -- a field that a name means above a class is that of a class with fields
  pub field_above : (k : ℕ) (name : List ℕ) → is_on_circle tree k ≡ false
      → field_along tree (ancestors (fields_above tree) (length tree) (fields_above tree k)) name ≡ field_along tree (ancestors_of tree k) name
  field_above k name off =
      ap (λ ks. field_along tree ks name) (all_with_fields k off) ∙ same_field (ancestor_classes tree k) name
      ∙ ap (λ b. field_along tree (if b then [] else ancestors_of tree k) name) off

  -- ---- a `run` that is inherited

  run_along : (ks : List ℕ) → have_run (members_along tree (reverse ks)) ≡ list_any (declares_run tree) ks
  run_along [] = refl
  run_along (k ∷ ks) =
      ap (λ z. have_run (members_along tree z)) (reverse-append (k ∷ []) ks)
      ∙ ap have_run (flat_map-append (members_at tree) (reverse ks) (k ∷ []))
      ∙ list_any-append _ (members_along tree (reverse ks)) (members_along tree (k ∷ []))
      ∙ ap₂ (λ b ms. b || have_run ms) (run_along ks) (one_along k)
      ∙ turned (list_any (declares_run tree) ks) (declares_run tree k)
    where
      turned : (a b : Bool) → (a || b) ≡ (b || a)
      turned true true = refl
      turned true false = refl
      turned false true = refl
      turned false false = refl

  -- off a circle it is that of an ancestor
  pub run_inherited : (k : ℕ) → is_on_circle tree k ≡ false → list_any (declares_run tree) (ancestors_of tree k) ≡ have_run (inherited tree k)
  run_inherited k off = sym (run_along (ancestors_of tree k)) ∙ ap (λ ks. have_run (members_along tree (reverse ks))) (ap (λ b. if b then [] else ancestors_of tree k) (sym off))

  pub none_inherited : (k : ℕ) → is_on_circle tree k ≡ true → false ≡ have_run (inherited tree k)
  none_inherited k on = ap (λ ks. have_run (members_along tree (reverse ks))) (ap (λ b. if b then [] else ancestors_of tree k) (sym on))

  pub run_of_all : (k : ℕ) → have_run (all_members tree k) ≡ (have_run (inherited tree k) || have_run (members_at tree k))
  run_of_all k = list_any-append _ (inherited tree k) (members_at tree k)
