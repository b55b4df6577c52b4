-- Going up from a class: one step, and where it ends.
use Rattle.std.proofs.Common.{◌≡◌, ℕ, zero, suc, ◌==◌, ◌||◌, true, false, not, List, [], ◌++◌, filter, Option, Some, None, refl, sym, ap, ◌∙◌, append-nil, append_assoc}
use Rattle.std.specs.Prelude.{option_and_then, slice_get}
use Rattle.std.specs.Option.{option_or}
use Rattle.std.proofs.lemmas.List.Elements.{filter-append}
use Rattle.core_program.specs.Pairs.{KeptClass, is_own_of, own_named, as_list, is_own_in, is_own_up, nearest_named, all_named}

module _ (parts : List KeptClass) (names : List ℕ) where
  -- ---- the nearest method of a name

  nearest_at : (n k name : ℕ) (c : KeptClass) → slice_get parts k ≡ Some c
      → nearest_named parts names (suc n) (Some k) name ≡ option_or (own_named names name c) (nearest_named parts names n c.above name)
  nearest_at n k name c there = ap (λ o. option_or (option_and_then (own_named names name) o) (nearest_named parts names n (option_and_then (λ (x : KeptClass). x.above) o) name)) there

  pub nearest_here : (n left k name m : ℕ) (c : KeptClass) → left ≡ suc n → slice_get parts k ≡ Some c → own_named names name c ≡ Some m
      → nearest_named parts names left (Some k) name ≡ Some m
  nearest_here n left k name m c more there found =
      ap (λ l. nearest_named parts names l (Some k) name) more ∙ nearest_at n k name c there ∙ ap (λ o. option_or o (nearest_named parts names n c.above name)) found

  pub nearest_on : (n left k name : ℕ) (c : KeptClass) → left ≡ suc n → slice_get parts k ≡ Some c → own_named names name c ≡ None
      → nearest_named parts names left (Some k) name ≡ nearest_named parts names n c.above name
  nearest_on n left k name c more there none =
      ap (λ l. nearest_named parts names l (Some k) name) more ∙ nearest_at n k name c there ∙ ap (λ o. option_or o (nearest_named parts names n c.above name)) none

  pub nearest_none : (left name : ℕ) → nearest_named parts names left None name ≡ None
  nearest_none zero name = refl
  nearest_none (suc left) name = refl

  pub nearest_nowhere : (left k name : ℕ) → slice_get parts k ≡ None → nearest_named parts names left (Some k) name ≡ None
  nearest_nowhere zero k name gone = refl
  nearest_nowhere (suc left) k name gone =
      ap (λ o. option_or (option_and_then (own_named names name) o) (nearest_named parts names left (option_and_then (λ (x : KeptClass). x.above) o) name)) gone ∙ nearest_none left name

  pub nearest_ends : (left name : ℕ) (from : Option ℕ) → left ≡ 0 → nearest_named parts names left from name ≡ None
  nearest_ends left name from none = ap (λ l. nearest_named parts names l from name) none

  -- ---- whether a method is an own one

  pub own_at : (n k m : ℕ) (c : KeptClass) → slice_get parts k ≡ Some c → is_own_up parts names (suc n) (Some k) m ≡ (is_own_of m c || is_own_up parts names n c.above m)
  own_at n k m c there = ap (λ o. is_own_in parts names o m || is_own_up parts names n (option_and_then (λ (x : KeptClass). x.above) o) m) there

  pub own_here : (n left k m : ℕ) (c : KeptClass) → left ≡ suc n → slice_get parts k ≡ Some c → is_own_of m c ≡ true → is_own_up parts names left (Some k) m ≡ true
  own_here n left k m c more there mine =
      ap (λ l. is_own_up parts names l (Some k) m) more ∙ own_at n k m c there ∙ ap (λ b. b || is_own_up parts names n c.above m) mine

  pub own_on : (n left k m : ℕ) (c : KeptClass) → left ≡ suc n → slice_get parts k ≡ Some c → is_own_of m c ≡ false → is_own_up parts names left (Some k) m ≡ is_own_up parts names n c.above m
  own_on n left k m c more there other =
      ap (λ l. is_own_up parts names l (Some k) m) more ∙ own_at n k m c there ∙ ap (λ b. b || is_own_up parts names n c.above m) other

  pub own_none : (left m : ℕ) → is_own_up parts names left None m ≡ false
  own_none zero m = refl
  own_none (suc left) m = refl

  pub own_nowhere : (left k m : ℕ) → slice_get parts k ≡ None → is_own_up parts names left (Some k) m ≡ false
  own_nowhere zero k m gone = refl
  own_nowhere (suc left) k m gone =
      ap (λ o. is_own_in parts names o m || is_own_up parts names left (option_and_then (λ (x : KeptClass). x.above) o) m) gone ∙ own_none left m

  pub own_ends : (left m : ℕ) (from : Option ℕ) → left ≡ 0 → is_own_up parts names left from m ≡ false
  own_ends left m from none = ap (λ l. is_own_up parts names l from m) none

  -- ---- all methods of a name

  pub all_on : (n left k name : ℕ) (c : KeptClass) → left ≡ suc n → slice_get parts k ≡ Some c
      → all_named parts names left (Some k) name ≡ as_list (own_named names name c) ++ all_named parts names n c.above name
  all_on n left k name c more there =
      ap (λ l. all_named parts names l (Some k) name) more
      ∙ ap (λ o. as_list (option_and_then (own_named names name) o) ++ all_named parts names n (option_and_then (λ (x : KeptClass). x.above) o) name) there

  pub all_none : (left name : ℕ) → all_named parts names left None name ≡ []
  all_none zero name = refl
  all_none (suc left) name = refl

  pub all_nowhere : (left k name : ℕ) → slice_get parts k ≡ None → all_named parts names left (Some k) name ≡ []
  all_nowhere zero k name gone = refl
  all_nowhere (suc left) k name gone =
      ap (λ o. as_list (option_and_then (own_named names name) o) ++ all_named parts names left (option_and_then (λ (x : KeptClass). x.above) o) name) gone ∙ all_none left name

  pub all_end : (left name : ℕ) (from : Option ℕ) → left ≡ 0 → all_named parts names left from name ≡ []
  all_end left name from none = ap (λ l. all_named parts names l from name) none

-- what is added is the first of what is left
pub one_added : (m : ℕ) (old new whole rest all : List ℕ) (found : Option ℕ) → new ≡ old ++ filter (λ n. not (n == m)) (as_list found) → all ≡ as_list found ++ rest
    → old ++ filter (λ n. not (n == m)) all ≡ whole → new ++ filter (λ n. not (n == m)) rest ≡ whole
one_added m old new whole rest all found added is so_far =
    let other = λ (n : ℕ). not (n == m) in
    ap (λ z. z ++ filter other rest) added ∙ append_assoc old (filter other (as_list found)) (filter other rest)
    ∙ ap (λ z. old ++ z) (sym (filter-append other (as_list found) rest) ∙ ap (filter other) (sym is)) ∙ so_far

-- where nothing is left
pub none_left : (m : ℕ) (old all whole : List ℕ) → all ≡ [] → old ++ filter (λ n. not (n == m)) all ≡ whole → old ≡ whole
none_left m old all whole none so_far = sym (append-nil old) ∙ ap (λ z. old ++ filter (λ n. not (n == m)) z) (sym none) ∙ so_far
