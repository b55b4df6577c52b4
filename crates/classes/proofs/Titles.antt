-- Each method of a table has a title.
use Rattle.std.proofs.Common.{◌≡◌, ℕ, ◌<◌, ◌≤◌, true, false, List, Option, Some, None, is_some, refl, length, sym, ◌∙◌, ap, arith, nat_lt, get_or, slice_get, option_map, inl, inr}
use Rattle.std.specs.List.{list_all}
use Rattle.std.specs.Option.{option_and_then}
use Rattle.std.proofs.lemmas.Bool.Decides.{nat_tests}
use Rattle.std.proofs.lemmas.List.Folds.{list_all_at, list_all-map}
use Rattle.std.proofs.lemmas.Option.{slice_get_cases, slice_get-get_or}
use Rattle.classes.specs.declared.entries.ClassTable.{ClassTable}
use Rattle.classes.specs.Table.{MethodData, method_title}
use Rattle.classes.specs.Views.{table_data, method_data}

-- the title of a method, where the classes have these names
abbrev title_of : List (List ℕ) → MethodData → Option (List ℕ × List ℕ)
title_of names d = option_map (λ c. (c, d.name)) (slice_get names d.class)

has_title : (names : List (List ℕ)) (d : MethodData) → d.class < length names → is_some (title_of names d) ≡ true
has_title names d h = let f : List ℕ → List ℕ × List ℕ = λ c. (c, d.name) in ap (λ o. is_some (option_map f o)) (slice_get-get_or names d.class d.name h)

is_owned : (names : List (List ℕ)) (methods : List MethodData) (i : ℕ) (d : MethodData) → list_all (λ d. nat_lt d.class (length names)) methods ≡ true → i < length methods → get_or methods i d ≡ d → d.class < length names
is_owned names methods i d all within at =
    elim (nat_lt d.class (length names)) as (λ b. nat_lt d.class (length names) ≡ b → d.class < length names) [
      | true ↦ λ e. grind (arith, nat_tests)
      | false ↦ λ e.
          let other : list_all (λ d. nat_lt d.class (length names)) methods ≡ false =
          list_all_at (λ d. nat_lt d.class (length names)) methods i d within (ap (λ z. nat_lt z.class (length names)) at ∙ e) in
          let clash : true ≡ false = sym all ∙ other in cc
    ] refl

title_found : (names : List (List ℕ)) (methods : List MethodData) (i : ℕ) → list_all (λ d. nat_lt d.class (length names)) methods ≡ true
    → is_some (option_and_then (title_of names) (slice_get methods i)) ≡ nat_lt i (length methods)
title_found names methods i all =
    elim ((slice_get_cases methods i).1) [
      | inl found ↦
          let below : nat_lt i (length methods) ≡ true = let h : i < length methods = found.1 in grind (arith, nat_tests) in
          ap (λ o. is_some (option_and_then (title_of names) o)) found.2
          ∙ has_title names found.0 (is_owned names methods i found.0 all found.1 found.3)
          ∙ sym below
      | inr past ↦
          let above : nat_lt i (length methods) ≡ false = let h : length methods ≤ i = past.0 in grind (arith, nat_tests) in
          ap (λ o. is_some (option_and_then (title_of names) o)) past.1 ∙ sym above
    ]

is_some_mapped : {X Y : Type 0} (f : X → Y) (o : Option X) → is_some o ≡ is_some (option_map f o)
is_some_mapped f None = refl
is_some_mapped f (Some x) = refl

pub method_found : {X : Type 0} (f : X → (List ℕ × List ℕ)) (t : ClassTable) (i : ℕ) (o : Option X)
    → option_map f o ≡ method_title (table_data t) i → is_some o ≡ nat_lt i (length (table_data t).methods)
method_found f t i o is =
    is_some_mapped f o ∙ ap is_some is
    ∙ title_found t.names (table_data t).methods i (list_all-map (λ d. nat_lt d.class (length t.names)) method_data t.methods.items ∙ t.owned)
