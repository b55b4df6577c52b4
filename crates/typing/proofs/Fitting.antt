-- Arguments and parameters one by one, and the final fields of a class and of those above it.
use Rattle.std.proofs.Common.{◌≡◌, ◌≢◌, ℕ, zero, suc, ◌+◌, ◌<◌, ◌≤◌, ◌==◌, ◌&&◌, Bool, true, false, List, [], ◌∷◌, ◌++◌, Option, Some, None, length, map, filter, flat_map, drop, refl, ap, sym, ◌∙◌, arith, length-append}
use Rattle.std.specs.Prelude.{reverse, count_by}
use Rattle.std.proofs.Math.Bool.{and_assoc}
use Rattle.std.proofs.Math.ListN.{drop_of_length-le}
use Rattle.std.proofs.lemmas.Bool.{false_from_ne_true, and_parts}
use Rattle.std.proofs.lemmas.Bool.Decides.{nat_tests}
use Rattle.std.proofs.lemmas.Grind.{flat_map-append}
use Rattle.std.proofs.lemmas.List.{append-nil, length-map, map-append, reverse-append}
use Rattle.std.proofs.lemmas.List.Elements.{filter-append}
use Rattle.std.proofs.lemmas.List.Sums.{length-filter}
use Rattle.core_program.specs.declared.types.CoreType.{CoreType}
use Rattle.core_program.specs.Types.{NodeType, ValueT, fits}
use Rattle.classes.specs.Lines.{ancestors}
use Rattle.classes.specs.Table.{TableData, above_in_table, is_of_kind}
use Rattle.classes.specs.Seen.{FieldData}
use Rattle.typing.specs.declared.types.TypedExpr.{TypedExpr}
use Rattle.typing.specs.Fitting.{fit_before}
use Rattle.typing.specs.Rules.{fit_each, own_fields, types_of_finals}
use Rattle.typing.specs.Views.{type_data, types_of}

more_left : {T : Type 0} (a : T) (rest : List T) → false ≡ (length (a ∷ rest) == 0)
more_left a rest = grind (arith, nat_tests)

types_long : (args : List TypedExpr) → length (types_of args) ≡ length args
types_long args = length-map args (λ a. type_data a.ty)

pub finals_count : (fs : List FieldData) → length (types_of_finals fs) ≡ count_by (λ f. f.is_final) fs
finals_count fs = length-map (filter (λ f. f.is_final) fs) (λ f. f.ty) ∙ length-filter (λ f. f.is_final) fs

finals_append : (xs ys : List FieldData) → types_of_finals (xs ++ ys) ≡ types_of_finals xs ++ types_of_finals ys
finals_append xs ys =
    ap (map (λ f. f.ty)) (filter-append (λ f. f.is_final) xs ys)
    ∙ map-append (λ f. f.ty) (filter (λ f. f.is_final) xs) (filter (λ f. f.is_final) ys)

module _ (t : TableData) where
  pub fit_nothing : (args : List TypedExpr) → fit_each t (types_of args) [] ≡ (length args == 0)
  fit_nothing [] = refl
  fit_nothing (a ∷ rest) = more_left a rest

  -- where no parameter is left, arguments fit if none is left
  pub fit_end : {X : Type 0} (f : List X → List CoreType) → f [] ≡ [] → (args : List TypedExpr) (xs : List X) (i : ℕ) (whole empty : Bool)
      → length xs ≤ i → fit_each t (types_of args) (f (drop i xs)) ≡ whole → empty ≡ (length args == 0) → empty ≡ whole
  fit_end f none args xs i whole empty past so is =
      is ∙ sym (fit_nothing args)
      ∙ ap (fit_each t (types_of args)) (sym none)
      ∙ ap (λ z. fit_each t (types_of args) (f z)) (sym (drop_of_length-le xs past))
      ∙ so

  -- ---- arguments that are matched from their end

  -- arguments that fit are as many as the types
  fit_count : (ts : List NodeType) (us : List CoreType) → fit_each t ts us ≡ true → length ts ≡ length us
  fit_count [] [] h = refl
  fit_count [] (u ∷ us) h = absurd (let clash : false ≡ true = h in cc)
  fit_count (a ∷ ts) [] h = absurd (let clash : false ≡ true = h in cc)
  fit_count (a ∷ ts) (u ∷ us) h = ap suc (fit_count ts us (and_parts (fits (is_of_kind t) a (ValueT u)) (fit_each t ts us) h).1)

  fit_unequal : (ts : List NodeType) (us : List CoreType) → length ts ≢ length us → fit_each t ts us ≡ false
  fit_unequal ts us differ = false_from_ne_true (fit_each t ts us) (λ h. differ (fit_count ts us h))

  fit_parts : (ts more : List NodeType) (us last : List CoreType) → length more ≡ length last
      → fit_each t (ts ++ more) (us ++ last) ≡ (fit_each t ts us && fit_each t more last)
  fit_parts [] more [] last same = refl
  fit_parts [] more (u ∷ us) last same =
      fit_unequal more (u ∷ us ++ last) (λ e. let long = length-append us last in omega (arith, same, e))
  fit_parts (a ∷ ts) more [] last same =
      fit_unequal (a ∷ ts ++ more) last (λ e. let long = length-append ts more in omega (arith, same, e))
  fit_parts (a ∷ ts) more (u ∷ us) last same =
      ap (λ b. fits (is_of_kind t) a (ValueT u) && b) (fit_parts ts more us last same)
      ∙ sym (and_assoc (fits (is_of_kind t) a (ValueT u)) (fit_each t ts us) (fit_each t more last))

  -- there are fewer arguments than the last types
  pub fit_fewer : (args : List TypedExpr) (us last : List CoreType) → length args < length last → fit_each t (types_of args) (us ++ last) ≡ false
  fit_fewer args us last fewer =
      fit_unequal (types_of args) (us ++ last) (λ e. let long = length-append us last in let same = types_long args in omega (arith, e))

  -- the last arguments are matched with the last types
  pub fit_last : (args before own : List TypedExpr) (us last : List CoreType) → args ≡ before ++ own → length own ≡ length last
      → fit_each t (types_of args) (us ++ last) ≡ (fit_each t (types_of before) us && fit_each t (types_of own) last)
  fit_last args before own us last cut same =
      ap (λ z. fit_each t z (us ++ last)) (ap types_of cut ∙ map-append (λ a. type_data a.ty) before own)
      ∙ fit_parts (types_of before) (types_of own) us last (types_long own ∙ same)

  -- ---- the final fields of a line

  -- the types of the final fields of so many classes from one on, the furthest first
  abbrev pub finals_along : ℕ → Option ℕ → List CoreType
  finals_along n o = types_of_finals (flat_map (own_fields t) (reverse (ancestors (above_in_table t) n o)))

  furthest_first : (c : ℕ) (cs : List ℕ) → flat_map (own_fields t) (reverse (c ∷ cs)) ≡ flat_map (own_fields t) (reverse cs) ++ own_fields t c
  furthest_first c cs =
      ap (flat_map (own_fields t)) (reverse-append (c ∷ []) cs)
      ∙ flat_map-append (own_fields t) (reverse cs) (c ∷ [])
      ∙ ap (λ z. flat_map (own_fields t) (reverse cs) ++ z) (append-nil (own_fields t c))

  -- a class's own final fields are the last
  pub finals_step : (left more at : ℕ) → left ≡ suc more → finals_along left (Some at) ≡ finals_along more (above_in_table t at) ++ types_of_finals (own_fields t at)
  finals_step left more at is =
      let higher = ancestors (above_in_table t) more (above_in_table t at) in
      ap (λ n. finals_along n (Some at)) is
      ∙ ap types_of_finals (furthest_first at higher)
      ∙ finals_append (flat_map (own_fields t) (reverse higher)) (own_fields t at)

  pub finals_end : (left : ℕ) (o : Option ℕ) → left ≡ 0 → finals_along left o ≡ []
  finals_end left o is = ap (λ n. finals_along n o) is ∙ none o where
    none : (o : Option ℕ) → finals_along zero o ≡ []
    none None = refl
    none (Some c) = refl

  -- ---- one class further up

  -- the arguments that a class's own final fields leave go on to those above
  pub class_step : (left more at : ℕ) (rest : List TypedExpr) (own : List FieldData) (before : Option (List NodeType)) (whole : Bool) → left ≡ suc more → own ≡ own_fields t at
      → ((us : List CoreType) → fit_each t (types_of rest) (us ++ types_of_finals own) ≡ fit_before t us before)
      → fit_each t (types_of rest) (finals_along left (Some at)) ≡ whole → fit_before t (finals_along more (above_in_table t at)) before ≡ whole
  class_step left more at rest own before whole is own_is step so =
      let higher = finals_along more (above_in_table t at) in
      sym (step higher)
      ∙ ap (λ fs. fit_each t (types_of rest) (higher ++ types_of_finals fs)) own_is
      ∙ ap (fit_each t (types_of rest)) (sym (finals_step left more at is))
      ∙ so
