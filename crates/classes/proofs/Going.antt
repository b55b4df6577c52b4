-- Going up from a class, one step after the other. So many steps are left; one fewer is left behind a step.
use Rattle.std.proofs.Common.{◌≡◌, ℕ, zero, suc, ◌==◌, ◌||◌, Bool, true, false, [], ◌∷◌, Option, Some, None, is_some, refl, ap, ◌∙◌}
use Rattle.std.specs.List.{list_any}
use Rattle.std.specs.Option.{option_or}
use Rattle.base.specs.Ancestors.{reaches}
use Rattle.classes.specs.Lines.{ancestors}
use Rattle.classes.specs.Table.{first_found}

module _ (above : ℕ → Option ℕ) where
  one_step : (left more at : ℕ) → left ≡ suc more → ancestors above left (Some at) ≡ at ∷ ancestors above more (above at)
  one_step left more at is = ap (λ n. ancestors above n (Some at)) is

  no_step : (left : ℕ) (o : Option ℕ) → left ≡ 0 → ancestors above left o ≡ []
  no_step left o is = ap (λ n. ancestors above n o) is ∙ none o where
    none : (o : Option ℕ) → ancestors above zero o ≡ []
    none None = refl
    none (Some c) = refl

  -- ---- what is found first

  module _ {A : Type 0} (own : ℕ → Option A) where
    found_by : (left more at : ℕ) → left ≡ suc more → first_found own (ancestors above left (Some at)) ≡ option_or (own at) (first_found own (ancestors above more (above at)))
    found_by left more at is = ap (first_found own) (one_step left more at is)

    or_some : (o rest : Option A) → is_some o ≡ true → option_or o rest ≡ o
    or_some (Some x) rest h = refl
    or_some None rest h = absurd (let clash : false ≡ true = h in cc)

    or_none : (o rest : Option A) → is_some o ≡ false → option_or o rest ≡ rest
    or_none (Some x) rest h = absurd (let clash : true ≡ false = h in cc)
    or_none None rest h = refl

    pub found_here : (left more at : ℕ) → left ≡ suc more → is_some (own at) ≡ true → first_found own (ancestors above left (Some at)) ≡ own at
    found_here left more at is here = found_by left more at is ∙ or_some (own at) (first_found own (ancestors above more (above at))) here

    pub found_above : (left more at : ℕ) (o : Option ℕ) → left ≡ suc more → is_some (own at) ≡ false → above at ≡ o
        → first_found own (ancestors above left (Some at)) ≡ first_found own (ancestors above more o)
    found_above left more at o is none next =
        found_by left more at is ∙ or_none (own at) (first_found own (ancestors above more (above at))) none
        ∙ ap (λ z. first_found own (ancestors above more z)) next

    pub found_nowhere : (left : ℕ) (o : Option ℕ) → left ≡ 0 → first_found own (ancestors above left o) ≡ None
    found_nowhere left o is = ap (first_found own) (no_step left o is)

  -- ---- whether one of them meets a test

  module _ (test : ℕ → Bool) where
    pub any_here : (left more at : ℕ) → left ≡ suc more → test at ≡ true → list_any test (ancestors above left (Some at)) ≡ true
    any_here left more at is here = ap (list_any test) (one_step left more at is) ∙ ap (λ b. b || list_any test (ancestors above more (above at))) here

    pub any_above : (left more at : ℕ) (o : Option ℕ) → left ≡ suc more → test at ≡ false → above at ≡ o
        → list_any test (ancestors above left (Some at)) ≡ list_any test (ancestors above more o)
    any_above left more at o is none next =
        ap (list_any test) (one_step left more at is) ∙ ap (λ b. b || list_any test (ancestors above more (above at))) none
        ∙ ap (λ z. list_any test (ancestors above more z)) next

    pub any_nowhere : (left : ℕ) (o : Option ℕ) → left ≡ 0 → list_any test (ancestors above left o) ≡ false
    any_nowhere left o is = ap (list_any test) (no_step left o is)

  -- ---- whether they reach a class

  pub reached_here : (left more at d : ℕ) → left ≡ suc more → (at == d) ≡ true → reaches above left (Some at) d ≡ true
  reached_here left more at d is here = ap (λ n. reaches above n (Some at) d) is ∙ ap (λ b. b || reaches above more (above at) d) here

  pub reached_above : (left more at d : ℕ) (o : Option ℕ) → left ≡ suc more → (at == d) ≡ false → above at ≡ o
      → reaches above left (Some at) d ≡ reaches above more o d
  reached_above left more at d o is other next =
      ap (λ n. reaches above n (Some at) d) is ∙ ap (λ b. b || reaches above more (above at) d) other
      ∙ ap (λ z. reaches above more z d) next

  pub reached_last : (left at d : ℕ) → left ≡ 0 → reaches above left (Some at) d ≡ (at == d)
  reached_last left at d is = ap (λ n. reaches above n (Some at) d) is
