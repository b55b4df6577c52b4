-- Which methods the explanations of a program tell, and how often.
use Rattle.std.proofs.Common.{◌≡◌, ◌⊎◌, ℕ, zero, suc, ◌+◌, ◌<◌, ◌≤◌, ◌==◌, Bool, true, false, not, ◌||◌, List, [], ◌∷◌, ◌++◌, length, slice_get, slice_set, Some, None, refl, sym, ap, subst, ◌∙◌, arith, inl, inr}
use Rattle.std.specs.Prelude.{Option, Contains, filter, unwrap_or, replicate, if◌then◌else◌}
use Rattle.std.specs.List.{AllByRecursion, IsDistinct}
use Rattle.std.proofs.lemmas.Bool.{ne_eqb, false≢true}
use Rattle.std.proofs.lemmas.Option.{same_Some, none-some}
use Rattle.std.proofs.lemmas.List.{map-append, length-replicate}
use Rattle.std.proofs.lemmas.List.Elements.{filter-append, Contains-append_left, Contains-append_right, Contains-append_cases}
use Rattle.base.proofs.Lists.{contains_cases, contains_later}
use Rattle.paths.specs.Paths.{PathData}
use Rattle.core_program.specs.Core.{Program, Method}
use Rattle.rules.specs.Effect.{Assignment}
use Rattle.explain.specs.declared.grounds.Ground.{Ground}
use Rattle.explain.specs.Whys.{ExplainedData}
use Rattle.explain.specs.Programs.{led_to, marked, explained_methods, keeps, if_untold, refused, compound, led, explanations_from, explanations, refused_from, IsExplained}
use Rattle.explain.proofs.Untold.{untold, left, left_most, left_less, left_marked, was_untold, marked_or, apart, were_untold, Lacks, lacks_marked, Differs, all_append, distinct_append}

module _ (P : Program) (rel : ℕ → List PathData) (A : Assignment) (overs : ℕ → List ℕ) (grounds : List Ground) where
  -- a method that an explanation leads to, where these are told: it is there, isn't told, and keeps its bound
  pub record IsTold (told : List Bool) (x : ExplainedData) : Type 0 where
    pub method : Method
    pub there : slice_get P.methods x.method ≡ Some method
    pub new : untold told x.method ≡ true
    pub kept : keeps A x.method method ≡ true
    pub is : x ≡ compound P rel A overs grounds x.method method

  abbrev pub AreTold : List Bool → List ExplainedData → Type 0
  AreTold told xs = AllByRecursion (IsTold told) xs

  abbrev Step : (List Bool → List ExplainedData → Type 0) → Type 0
  Step Q = (told : List Bool) (m : ℕ) (method : Method) (rest : List ExplainedData) → slice_get P.methods m ≡ Some method → untold told m ≡ true → keeps A m method ≡ true
      → Q (slice_set told m true) rest → Q told (compound P rel A overs grounds m method ∷ rest)

  one_led : (Q : List Bool → List ExplainedData → Type 0) → ((told : List Bool) → Q told []) → Step Q → (told : List Bool) (m : ℕ) (rest : Method → List ExplainedData)
      → ((method : Method) → Q (slice_set told m true) (rest method)) → (o : Option Method) → slice_get P.methods m ≡ o → Q told (if_untold A told m o (λ method. compound P rel A overs grounds m method ∷ rest method))
  one_led Q none step told m rest later None is = none told
  one_led Q none step told m rest later (Some method) is = by (unwrap_or (slice_get told m) true) (keeps A m method) refl refl
    where
      by : (t k : Bool) → unwrap_or (slice_get told m) true ≡ t → keeps A m method ≡ k → Q told (if t || not k then [] else compound P rel A overs grounds m method ∷ rest method)
      by true k a b = none told
      by false false a b = none told
      by false true a b = step told m method (rest method) is (ap not a) b (later method)

  -- what holds of no explanation, and goes on from step to step, holds of all to which an explanation leads
  led_all : (Q : List Bool → List ExplainedData → Type 0) → ((told : List Bool) → Q told []) → Step Q → (fuel : ℕ) (told : List Bool) (next : Option ℕ) → Q told (led P rel A overs grounds fuel told next)
  led_all Q none step zero told next = none told
  led_all Q none step (suc fuel) told None = none told
  led_all Q none step (suc fuel) told (Some m) =
      one_led Q none step told m (λ method. led P rel A overs grounds fuel (slice_set told m true) (led_to (compound P rel A overs grounds m method).why))
      (λ method. led_all Q none step fuel (slice_set told m true) (led_to (compound P rel A overs grounds m method).why)) (slice_get P.methods m) refl

  told_before : (told : List Bool) (m : ℕ) (xs : List ExplainedData) → AreTold (slice_set told m true) xs → AreTold told xs
  told_before told m [] h = tt
  told_before told m (x ∷ xs) h = (record { method = h.0.method; there = h.0.there; new = was_untold told m x.method h.0.new; kept = h.0.kept; is = h.0.is }, told_before told m xs h.1)

  first_differs : (told : List Bool) (m : ℕ) (xs : List ExplainedData) → AreTold (slice_set told m true) xs → Differs m (explained_methods xs)
  first_differs told m [] h = tt
  first_differs told m (x ∷ xs) h = (apart told m x.method h.0.new, first_differs told m xs h.1)

  pub led_told : (fuel : ℕ) (told : List Bool) (next : Option ℕ) → AreTold told (led P rel A overs grounds fuel told next)
  led_told = led_all AreTold (λ told. tt) (λ told m method rest there new kept h. (record { method = method; there = there; new = new; kept = kept; is = refl }, told_before told m rest h))

  record DifferTold (told : List Bool) (xs : List ExplainedData) : Type 0 where
    each : AreTold told xs
    distinct : IsDistinct (λ m k. m == k) (explained_methods xs)

  led_differ : (fuel : ℕ) (told : List Bool) (next : Option ℕ) → DifferTold told (led P rel A overs grounds fuel told next)
  unfolding IsDistinct
  led_differ = led_all DifferTold (λ told. record { each = tt; distinct = tt })
      (λ told m method rest there new kept h. record {
        each = (record { method = method; there = there; new = new; kept = kept; is = refl }, told_before told m rest h.each);
        distinct = (first_differs told m rest h.each, h.distinct);
      })

  -- ---- all explanations

  abbrev led_from : List Bool → ℕ → Method → List ExplainedData
  led_from told m method = led P rel A overs grounds (length P.methods) told (led_to (refused P rel A overs grounds m method).why)

  abbrev pub Over : Type 1
  Over = List Bool → ℕ → List Method → List ExplainedData → Type 0

  -- what holds of no methods, and goes on over one that keeps its bound and over one that breaks it, holds of all explanations
  pub all_from : (Q : Over) → ((told : List Bool) (m : ℕ) → Q told m [] [])
      → ((told : List Bool) (m : ℕ) (method : Method) (methods : List Method) (xs : List ExplainedData) → keeps A m method ≡ true → Q told (m + 1) methods xs → Q told m (method ∷ methods) xs)
      → ((told : List Bool) (m : ℕ) (method : Method) (methods : List Method) (xs : List ExplainedData) → keeps A m method ≡ false
      → Q (marked told (explained_methods (led_from told m method))) (m + 1) methods xs → Q told m (method ∷ methods) (refused P rel A overs grounds m method ∷ (led_from told m method ++ xs)))
      → (methods : List Method) (told : List Bool) (m : ℕ) → Q told m methods (explanations_from P rel A overs grounds told m methods)
  all_from Q none kept broken [] told m = none told m
  all_from Q none kept broken (method ∷ methods) told m =
      by (keeps A m method) refl (all_from Q none kept broken methods told (m + 1)) (all_from Q none kept broken methods (marked told (explained_methods (led_from told m method))) (m + 1))
    where
      by : (b : Bool) → keeps A m method ≡ b → Q told (m + 1) methods (explanations_from P rel A overs grounds told (m + 1) methods)
          → Q (marked told (explained_methods (led_from told m method))) (m + 1) methods (explanations_from P rel A overs grounds (marked told (explained_methods (led_from told m method))) (m + 1) methods)
          → Q told m (method ∷ methods) (if b then explanations_from P rel A overs grounds told (m + 1) methods else
          refused P rel A overs grounds m method ∷ (led_from told m method ++ explanations_from P rel A overs grounds (marked told (explained_methods (led_from told m method))) (m + 1) methods))
      by true is one other = kept told m method methods _ is one
      by false is one other = broken told m method methods _ is other

  -- ---- the refused ones

  none_refused : (told : List Bool) (xs : List ExplainedData) → AreTold told xs → filter (λ x. x.is_refused) xs ≡ []
  none_refused told [] h = refl
  none_refused told (x ∷ xs) h = ap (λ b. if b then x ∷ filter (λ x. x.is_refused) xs else filter (λ x. x.is_refused) xs) (ap (λ (y : ExplainedData). y.is_refused) h.0.is) ∙ none_refused told xs h.1

  pub refused_are : (methods : List Method) (told : List Bool) (m : ℕ) → filter (λ x. x.is_refused) (explanations_from P rel A overs grounds told m methods) ≡ refused_from P rel A overs grounds m methods
  refused_are = all_from (λ told m methods xs. filter (λ x. x.is_refused) xs ≡ refused_from P rel A overs grounds m methods) (λ told m. refl)
      (λ told m method methods xs kept h. h ∙ sym (ap (λ b. if b then refused_from P rel A overs grounds (m + 1) methods else refused P rel A overs grounds m method ∷ refused_from P rel A overs grounds (m + 1) methods) kept))
      (λ told m method methods xs broken h.
      ap (λ l. refused P rel A overs grounds m method ∷ l)
      (filter-append (λ x. x.is_refused) (led_from told m method) xs ∙ ap (λ l. l ++ filter (λ x. x.is_refused) xs) (none_refused told (led_from told m method) (led_told (length P.methods) told _)) ∙ h)
      ∙ sym (ap (λ b. if b then refused_from P rel A overs grounds (m + 1) methods else refused P rel A overs grounds m method ∷ refused_from P rel A overs grounds (m + 1) methods) broken))

  -- ---- each method once

  -- the methods from a number on
  pub record IsRest (m : ℕ) (methods : List Method) : Type 0 where
    pub at : (j : ℕ) → slice_get P.methods (m + j) ≡ slice_get methods j

  pub rest_first : (m : ℕ) (method : Method) (methods : List Method) → IsRest m (method ∷ methods) → slice_get P.methods m ≡ Some method
  rest_first m method methods r = let e : m ≡ m + 0 = omega arith in ap (slice_get P.methods) e ∙ r.at 0

  pub rest_next : (m : ℕ) (method : Method) (methods : List Method) → IsRest m (method ∷ methods) → IsRest (m + 1) methods
  rest_next m method methods r = record { at = λ j. let e : (m + 1) + j ≡ m + suc j = omega arith in ap (slice_get P.methods) e ∙ r.at (suc j) }

  -- a method that may be told from here on, where these are told
  record MayBeTold (told : List Bool) (m k : ℕ) : Type 0 where
    method : Method
    there : slice_get P.methods k ≡ Some method
    either : ((keeps A k method ≡ true) × (untold told k ≡ true)) ⊎ ((keeps A k method ≡ false) × (m ≤ k))

  record Once (told : List Bool) (m : ℕ) (xs : List ExplainedData) : Type 0 where
    each : AllByRecursion (MayBeTold told m) (explained_methods xs)
    distinct : IsDistinct (λ m k. m == k) (explained_methods xs)

  clash : {X : Type 0} (k : ℕ) (a b : Method) → slice_get P.methods k ≡ Some a → slice_get P.methods k ≡ Some b → keeps A k a ≡ true → keeps A k b ≡ false → X
  clash k a b there too kept broken = absurd (false≢true (sym broken ∙ ap (keeps A k) (same_Some b a (sym too ∙ there)) ∙ kept))

  lacks_kept : (told : List Bool) (xs : List ExplainedData) → AreTold told xs → (k : ℕ) (method : Method) → slice_get P.methods k ≡ Some method → keeps A k method ≡ false → Lacks (explained_methods xs) k
  lacks_kept told [] h k method there broken = tt
  lacks_kept told (x ∷ xs) h k method there broken =
      (ne_eqb x.method k (λ e. clash k h.0.method method (ap (slice_get P.methods) (sym e) ∙ h.0.there) there (ap (λ j. keeps A j h.0.method) (sym e) ∙ h.0.kept) broken), lacks_kept told xs h.1 k method there broken)

  differs_kept : (told : List Bool) (xs : List ExplainedData) → AreTold told xs → (m : ℕ) (method : Method) → slice_get P.methods m ≡ Some method → keeps A m method ≡ false → Differs m (explained_methods xs)
  differs_kept told [] h m method there broken = tt
  differs_kept told (x ∷ xs) h m method there broken =
      (ne_eqb m x.method (λ e. clash m h.0.method method (ap (slice_get P.methods) e ∙ h.0.there) there (ap (λ j. keeps A j h.0.method) e ∙ h.0.kept) broken), differs_kept told xs h.1 m method there broken)

  differs_later : (told : List Bool) (m : ℕ) (method : Method) → slice_get P.methods m ≡ Some method → keeps A m method ≡ false → (ks : List ℕ) → AllByRecursion (MayBeTold told (m + 1)) ks → Differs m ks
  differs_later told m method there broken [] h = tt
  differs_later told m method there broken (k ∷ ks) h = (
    ne_eqb m k (λ e. elim h.0.either as (λ _. ⊥) [
      | inl kept ↦ clash m h.0.method method (ap (slice_get P.methods) e ∙ h.0.there) there (ap (λ j. keeps A j h.0.method) e ∙ kept.0) broken
      | inr past ↦ let low = past.1 in omega (arith, low, e)
    ]),
    differs_later told m method there broken ks h.1,
  )

  lacks_later : (told : List Bool) (xs : List ExplainedData) → AreTold told xs → (m : ℕ) (ks : List ℕ) → AllByRecursion (MayBeTold (marked told (explained_methods xs)) m) ks → AllByRecursion (λ k. Lacks (explained_methods xs) k) ks
  lacks_later told xs each m [] h = tt
  lacks_later told xs each m (k ∷ ks) h = (
    (elim h.0.either as (λ _. Lacks (explained_methods xs) k) [
      | inl kept ↦ lacks_marked (explained_methods xs) told k kept.1
      | inr past ↦ lacks_kept told xs each k h.0.method h.0.there past.0
    ]),
    lacks_later told xs each m ks h.1,
  )

  may_before : (told new : List Bool) (m : ℕ) → ((k : ℕ) → untold new k ≡ true → untold told k ≡ true) → (ks : List ℕ) → AllByRecursion (MayBeTold new (m + 1)) ks → AllByRecursion (MayBeTold told m) ks
  may_before told new m before [] h = tt
  may_before told new m before (k ∷ ks) h = (
    record {
      method = h.0.method;
      there = h.0.there;
      either = elim h.0.either as (λ _. ((keeps A k h.0.method ≡ true) × (untold told k ≡ true)) ⊎ ((keeps A k h.0.method ≡ false) × (m ≤ k))) [
        | inl kept ↦ inl (kept.0, before k kept.1)
        | inr past ↦ let low = past.1 in inr (past.0, omega (arith, low))
      ];
    },
    may_before told new m before ks h.1,
  )

  may_led : (told : List Bool) (m : ℕ) (xs : List ExplainedData) → AreTold told xs → AllByRecursion (MayBeTold told m) (explained_methods xs)
  may_led told m [] h = tt
  may_led told m (x ∷ xs) h = (record { method = h.0.method; there = h.0.there; either = inl (h.0.kept, h.0.new) }, may_led told m xs h.1)

  once_more : (told : List Bool) (m : ℕ) (method : Method) (more xs : List ExplainedData) → slice_get P.methods m ≡ Some method → keeps A m method ≡ false → DifferTold told more
      → Once (marked told (explained_methods more)) (m + 1) xs → Once told m (refused P rel A overs grounds m method ∷ (more ++ xs))
  unfolding IsDistinct
  once_more told m method more xs there broken led h =
      let ks = explained_methods more in
      let ls = explained_methods xs in
      let whole : ks ++ ls ≡ explained_methods (more ++ xs) = sym (map-append (λ (x : ExplainedData). x.method) more xs) in
      record {
        each = (
          record { method = method; there = there; either = inr (broken, omega arith) },
          subst (λ z. AllByRecursion (MayBeTold told m) z) whole (all_append (MayBeTold told m) ks ls (may_led told m more led.each) (may_before told (marked told ks) m (were_untold ks told) ls h.each)),
        );
        distinct = (
          subst (Differs m) whole (all_append (λ (k : ℕ). (m == k) ≡ false) ks ls (differs_kept told more led.each m method there broken) (differs_later (marked told ks) m method there broken ls h.each)),
          subst (IsDistinct (λ m k. m == k)) whole (distinct_append ks ls led.distinct h.distinct (lacks_later told more led.each (m + 1) ls h.each)),
        );
      }

  once_from : (methods : List Method) (told : List Bool) (m : ℕ) → IsRest m methods → Once told m (explanations_from P rel A overs grounds told m methods)
  unfolding IsDistinct
  once_from = all_from (λ told m methods xs. IsRest m methods → Once told m xs) (λ told m r. record { each = tt; distinct = tt })
      (λ told m method methods xs kept h r.
      let o = h (rest_next m method methods r) in
      record { each = may_before told told m (λ k is. is) (explained_methods xs) o.each; distinct = o.distinct })
      (λ told m method methods xs broken h r.
      once_more told m method (led_from told m method) xs (rest_first m method methods r) broken (led_differ (length P.methods) told _) (h (rest_next m method methods r)))

  -- ---- each is one of the program's

  pub all_contains : {X : Type 0} (Q : X → Type 0) (xs : List X) (x : X) → AllByRecursion Q xs → Contains xs x → Q x
  all_contains Q [] x h c = let low = c.1 in absurd (omega (arith, low))
  all_contains Q (y ∷ ys) x h c = elim (contains_cases y x ys c) as (λ _. Q x) [
    | inl same ↦ subst Q same h.0
    | inr later ↦ all_contains Q ys x h.1 later
  ]

  led_explained : (told : List Bool) (xs : List ExplainedData) → AreTold told xs → AllByRecursion (IsExplained P rel A overs grounds) xs
  led_explained told [] h = tt
  led_explained told (x ∷ xs) h = (
    record {
      method = h.0.method;
      there = h.0.there;
      is = h.0.is ∙ sym (ap (λ b. if b then compound P rel A overs grounds x.method h.0.method else refused P rel A overs grounds x.method h.0.method) h.0.kept);
    },
    led_explained told xs h.1,
  )

  explained_from : (methods : List Method) (told : List Bool) (m : ℕ) → IsRest m methods → AllByRecursion (IsExplained P rel A overs grounds) (explanations_from P rel A overs grounds told m methods)
  explained_from = all_from (λ told m methods xs. IsRest m methods → AllByRecursion (IsExplained P rel A overs grounds) xs) (λ told m r. tt)
      (λ told m method methods xs kept h r. h (rest_next m method methods r))
      (λ told m method methods xs broken h r. (
        record {
          method = method;
          there = rest_first m method methods r;
          is = sym (ap (λ b. if b then compound P rel A overs grounds m method else refused P rel A overs grounds m method) broken);
        },
        all_append (IsExplained P rel A overs grounds) (led_from told m method) xs (led_explained told (led_from told m method) (led_told (length P.methods) told _)) (h (rest_next m method methods r)),
      ))

  -- ---- none that an explanation leads to is left out

  contains_first : {X : Type 0} (x y : X) (xs : List X) → x ≡ y → Contains (x ∷ xs) y
  contains_first x y xs is = (zero, omega arith, is)

  pub contains_none : {X : Type 0} {Y : Type 0} (x : X) → Contains [] x → Y
  contains_none x c = let low = c.1 in absurd (omega (arith, low))

  abbrev pub IsComplete : List Bool → List ExplainedData → Type 0
  IsComplete told xs = (x : ExplainedData) → Contains xs x → (k : ℕ) (method : Method) → led_to x.why ≡ Some k → slice_get P.methods k ≡ Some method → untold told k ≡ true → keeps A k method ≡ true
      → Contains xs (compound P rel A overs grounds k method)

  pub record LedComplete (told : List Bool) (next : Option ℕ) (xs : List ExplainedData) : Type 0 where
    pub first : (k : ℕ) (method : Method) → next ≡ Some k → slice_get P.methods k ≡ Some method → untold told k ≡ true → keeps A k method ≡ true → Contains xs (compound P rel A overs grounds k method)
    pub later : IsComplete told xs

  same_compound : (m k : ℕ) (a b : Method) → m ≡ k → slice_get P.methods m ≡ Some a → slice_get P.methods k ≡ Some b → compound P rel A overs grounds m a ≡ compound P rel A overs grounds k b
  same_compound m k a b is there too =
      ap (λ z. compound P rel A overs grounds z a) is ∙ ap (compound P rel A overs grounds k) (same_Some a b (sym there ∙ ap (slice_get P.methods) is ∙ too))

  step_complete : (told : List Bool) (m : ℕ) (method : Method) (rest : List ExplainedData) → slice_get P.methods m ≡ Some method
      → LedComplete (slice_set told m true) (led_to (compound P rel A overs grounds m method).why) rest → LedComplete told (Some m) (compound P rel A overs grounds m method ∷ rest)
  step_complete told m method rest there h =
      let head = compound P rel A overs grounds m method in
      record {
        first = λ k other e too new kept. contains_first head (compound P rel A overs grounds k other) rest (same_compound m k method other (same_Some m k e) there too);
        later = λ x c k other leads too new kept. elim (marked_or told m k new) as (λ _. Contains (head ∷ rest) (compound P rel A overs grounds k other)) [
          | inl same ↦ contains_first head (compound P rel A overs grounds k other) rest (same_compound m k method other same there too)
          | inr still ↦ contains_later head (compound P rel A overs grounds k other) rest (elim (contains_cases head x rest c) as (λ _. Contains rest (compound P rel A overs grounds k other)) [
            | inl is ↦ h.first k other (ap (λ (y : ExplainedData). led_to y.why) is ∙ leads) too still kept
            | inr c2 ↦ h.later x c2 k other leads too still kept
          ])
        ];
      }

  one_complete : (fuel : ℕ) (told : List Bool) (m : ℕ) (rest : Method → List ExplainedData) → left told ≤ suc fuel
      → ((method : Method) → left (slice_set told m true) ≤ fuel → LedComplete (slice_set told m true) (led_to (compound P rel A overs grounds m method).why) (rest method))
      → (o : Option Method) → slice_get P.methods m ≡ o → LedComplete told (Some m) (if_untold A told m o (λ method. compound P rel A overs grounds m method ∷ rest method))
  one_complete fuel told m rest few again None is = record {
    first = λ k other e too new kept. absurd (none-some other (sym is ∙ ap (slice_get P.methods) (same_Some m k e) ∙ too));
    later = λ x c k other leads too new kept. contains_none x c;
  }
  one_complete fuel told m rest few again (Some method) is = by (unwrap_or (slice_get told m) true) (keeps A m method) refl refl
    where
      by : (t b : Bool) → unwrap_or (slice_get told m) true ≡ t → keeps A m method ≡ b → LedComplete told (Some m) (if t || not b then [] else compound P rel A overs grounds m method ∷ rest method)
      by true b t_is b_is = record {
        first = λ k other e too new kept. absurd (false≢true (sym (ap not t_is) ∙ ap (untold told) (same_Some m k e) ∙ new));
        later = λ x c k other leads too new kept. contains_none x c;
      }
      by false false t_is b_is = record {
        first = λ k other e too new kept. clash m other method (ap (slice_get P.methods) (same_Some m k e) ∙ too) is (ap (λ j. keeps A j other) (same_Some m k e) ∙ kept) b_is;
        later = λ x c k other leads too new kept. contains_none x c;
      }
      by false true t_is b_is =
          let less = left_less told m (ap not t_is) in
          step_complete told m method (rest method) is (again method (omega (arith, less, few)))

  pub led_complete : (fuel : ℕ) (told : List Bool) (next : Option ℕ) → left told ≤ fuel → LedComplete told next (led P rel A overs grounds fuel told next)
  led_complete zero told next few = record {
    first = λ k method e there new kept. let less = left_less told k new in absurd (omega (arith, less, few));
    later = λ x c k other leads too new kept. contains_none x c;
  }
  led_complete (suc fuel) told None few = record {
    first = λ k method e there new kept. absurd (none-some k e);
    later = λ x c k other leads too new kept. contains_none x c;
  }
  led_complete (suc fuel) told (Some m) few =
      one_complete fuel told m (λ method. led P rel A overs grounds fuel (slice_set told m true) (led_to (compound P rel A overs grounds m method).why)) few
      (λ method. led_complete fuel (slice_set told m true) (led_to (compound P rel A overs grounds m method).why)) (slice_get P.methods m) refl

  -- a method that isn't told is among those that are then, or isn't told then either
  pub among_told : (old : List Bool) (xs : List ExplainedData) → AreTold old xs → (told : List Bool) (k : ℕ) (method : Method) → slice_get P.methods k ≡ Some method → untold told k ≡ true
      → Contains xs (compound P rel A overs grounds k method) ⊎ (untold (marked told (explained_methods xs)) k ≡ true)
  among_told old [] h told k method there new = inr new
  among_told old (x ∷ xs) h told k method there new = elim (marked_or told x.method k new) as (λ _. Contains (x ∷ xs) (compound P rel A overs grounds k method) ⊎ (untold (marked told (explained_methods (x ∷ xs))) k ≡ true)) [
    | inl same ↦ inl (contains_first x (compound P rel A overs grounds k method) xs (h.0.is ∙ same_compound x.method k h.0.method method same h.0.there there))
    | inr still ↦ elim (among_told old xs h.1 (slice_set told x.method true) k method there still) as (λ _. Contains (x ∷ xs) (compound P rel A overs grounds k method) ⊎ (untold (marked told (explained_methods (x ∷ xs))) k ≡ true)) [
      | inl c ↦ inl (contains_later x (compound P rel A overs grounds k method) xs c)
      | inr rest ↦ inr rest
    ]
  ]

  complete_more : (told : List Bool) (m : ℕ) (method : Method) (more xs : List ExplainedData) → AreTold told more → LedComplete told (led_to (refused P rel A overs grounds m method).why) more
      → IsComplete (marked told (explained_methods more)) xs → IsComplete told (refused P rel A overs grounds m method ∷ (more ++ xs))
  complete_more told m method more xs each led h x c k other leads too new kept =
      let head = refused P rel A overs grounds m method in
      let goal = compound P rel A overs grounds k other in
      contains_later head goal (more ++ xs) (elim (contains_cases head x (more ++ xs) c) as (λ _. Contains (more ++ xs) goal) [
        | inl is ↦ Contains-append_left more xs goal (led.first k other (ap (λ (y : ExplainedData). led_to y.why) is ∙ leads) too new kept)
        | inr c2 ↦ elim (Contains-append_cases more xs x c2) as (λ _. Contains (more ++ xs) goal) [
          | inl c3 ↦ Contains-append_left more xs goal (led.later x c3 k other leads too new kept)
          | inr c3 ↦ elim (among_told told more each told k other too new) as (λ _. Contains (more ++ xs) goal) [
            | inl c4 ↦ Contains-append_left more xs goal c4
            | inr still ↦ Contains-append_right more xs goal (h x c3 k other leads too still kept)
          ]
        ]
      ])

  complete_from : (methods : List Method) (told : List Bool) (m : ℕ) → left told ≤ length P.methods → IsComplete told (explanations_from P rel A overs grounds told m methods)
  complete_from = all_from (λ told m methods xs. left told ≤ length P.methods → IsComplete told xs) (λ told m few x c k other leads too new kept. contains_none x c)
      (λ told m method methods xs kept h few. h few)
      (λ told m method methods xs broken h few.
      let more = led_from told m method in
      let fewer = left_marked (explained_methods more) told in
      complete_more told m method more xs (led_told (length P.methods) told _) (led_complete (length P.methods) told _ few) (h (omega (arith, few, fewer))))

  -- ---- of a whole program

  none_told : (n k : ℕ) → k < n → untold (replicate n false) k ≡ true
  none_told zero k low = absurd (omega (arith, low))
  none_told (suc n) zero low = refl
  none_told (suc n) (suc k) low = none_told n k (omega (arith, low))

  within : {X : Type 0} (xs : List X) (k : ℕ) (x : X) → slice_get xs k ≡ Some x → k < length xs
  within [] k x is = absurd (none-some x is)
  within (y ∷ ys) zero x is = omega arith
  within (y ∷ ys) (suc k) x is = let h = within ys k x is in omega (arith, h)

  pub whole : IsRest 0 P.methods
  whole = record { at = λ j. let e : 0 + j ≡ j = omega arith in ap (slice_get P.methods) e }

  pub all_refused : filter (λ x. x.is_refused) (explanations P rel A overs grounds) ≡ refused_from P rel A overs grounds 0 P.methods
  all_refused = refused_are P.methods (replicate (length P.methods) false) 0

  pub all_once : IsDistinct (λ m k. m == k) (explained_methods (explanations P rel A overs grounds))
  all_once = (once_from P.methods (replicate (length P.methods) false) 0 whole).distinct

  pub all_explained : (x : ExplainedData) → Contains (explanations P rel A overs grounds) x → IsExplained P rel A overs grounds x
  all_explained x c = all_contains (IsExplained P rel A overs grounds) (explanations P rel A overs grounds) x (explained_from P.methods (replicate (length P.methods) false) 0 whole) c

  pub all_led : (x : ExplainedData) → Contains (explanations P rel A overs grounds) x → (k : ℕ) (method : Method) → led_to x.why ≡ Some k → slice_get P.methods k ≡ Some method → keeps A k method ≡ true
      → Contains (explanations P rel A overs grounds) (compound P rel A overs grounds k method)
  all_led x c k method leads there kept =
      let long = length-replicate (length P.methods) false in
      let few = left_most (replicate (length P.methods) false) in
      complete_from P.methods (replicate (length P.methods) false) 0 (omega (arith, long, few)) x c k method leads there (none_told (length P.methods) k (within P.methods k method there)) kept
