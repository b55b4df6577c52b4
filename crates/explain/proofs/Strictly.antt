-- What is told where each method counts as `atomic`.
use Rattle.std.proofs.Common.{◌≡◌, ℕ, zero, suc, ◌+◌, Bool, true, false, not, ◌&&◌, List, [], ◌∷◌, ◌++◌, Some, Contains, append-nil, append_assoc, drop, get_or, length, map, slice_get, refl, sym, ap, subst, ◌∙◌, ◌<◌, ◌≤◌, arith, if◌then◌else◌}
use Rattle.std.proofs.Math.ListN.{drop_of_length-le}
use Rattle.std.proofs.lemmas.List.{map-append}
use Rattle.base.proofs.Lists.{next_drop}
use Rattle.core_program.specs.declared.program.CoreMethod.{CoreMethod}
use Rattle.core_program.specs.Views.{method_of}
use Rattle.std.specs.List.{AllByRecursion}
use Rattle.std.proofs.lemmas.Bool.{and_from, and_parts, not-false, not-true, or_parts}
use Rattle.paths.specs.Paths.{PathData}
use Rattle.algebra.specs.declared.basic.Basic.TheVariants.{Atomic}
use Rattle.algebra.specs.Basics.{below_of}
use Rattle.core_program.specs.Core.{Program, Method}
use Rattle.rules.specs.Effect.{Assignment}
use Rattle.explain.specs.Programs.{explained, found_of}
use Rattle.explain.specs.Strict.{entries_behind, is_settled, keep_all, keep_from, keeps_strictly, refused_strictly, settled_from, strict_bound, strict_explanations, strict_from, strict_limit, strictly_broken, strictly_broken_from, strictly_told}
use Rattle.explain.specs.Views.{explained_data}
use Rattle.explain.specs.declared.grounds.Ground.{Ground}
use Rattle.explain.specs.Whys.{ExplainedData}
use Rattle.explain.specs.declared.program.Explained.{Explained}
use Rattle.explain.proofs.FollowedEntries.{behind_told}
use Rattle.explain.proofs.Telling.{all_contains, IsRest, IsTold, rest_first, rest_next, whole}
use Rattle.explain.proofs.Untold.{all_append, untold}

-- the limit of a method that breaks its bound, and of one that keeps it
limit_broken : (P : Program) (A : Assignment) (m : ℕ) (method : Method) → keeps_strictly P A m method ≡ false → strict_limit P A m method ≡ strict_bound P m method
limit_broken P A m method is = ap (λ t. if t then Atomic else strict_bound P m method) is

limit_kept : (P : Program) (A : Assignment) (m : ℕ) (method : Method) → keeps_strictly P A m method ≡ true → strict_limit P A m method ≡ Atomic
limit_kept P A m method is = ap (λ t. if t then Atomic else strict_bound P m method) is

-- a method that isn't settled keeps the bound, and isn't atomic
pub record IsUnsettled (P : Program) (A : Assignment) (m : ℕ) (method : Method) : Type 0 where
  pub kept : keeps_strictly P A m method ≡ true
  pub above : below_of (found_of A m method) Atomic ≡ false

pub unsettled : (P : Program) (A : Assignment) (methods : List Method) (m k j : ℕ) (method : Method) → j ≡ m + k → slice_get methods k ≡ Some method → untold (settled_from P A m methods) k ≡ true → IsUnsettled P A j method
unsettled P A [] m k j method number there new = absurd cc
unsettled P A (first ∷ methods) m zero j method number there new =
    let same : first ≡ method = cc in
    let here : m ≡ j = omega (arith, number) in
    let parts = or_parts (not (keeps_strictly P A m first)) (below_of (found_of A m first) Atomic) (not-true (is_settled P A m first) new) in
    subst (λ x. IsUnsettled P A j x) same (subst (λ n. IsUnsettled P A n first) here (record { kept = not-false (keeps_strictly P A m first) parts.0; above = parts.1 }))
unsettled P A (first ∷ methods) m (suc k) j method number there new = unsettled P A methods (m + 1) k j method (omega (arith, number)) there new

module _ (P : Program) (rel : ℕ → List PathData) (A : Assignment) (overs : ℕ → List ℕ) (grounds : List Ground) where
  -- an explanation is that of a method of the program, which has more than it may have without being told
  pub record IsStrictlyTold (x : ExplainedData) : Type 0 where
    pub method : Method
    pub there : slice_get P.methods x.method ≡ Some method
    pub is_refused : Bool
    pub is : x ≡ explained P rel A overs grounds is_refused (strict_limit P A x.method method) x.method method
    pub above : below_of (found_of A x.method method) (strict_limit P A x.method method) ≡ false

  told_one : (m : ℕ) (method : Method) → slice_get P.methods m ≡ Some method → (xs : List ExplainedData) → AllByRecursion IsStrictlyTold xs
      → AllByRecursion IsStrictlyTold (strictly_told P rel A overs grounds m method ++ xs)
  told_one m method there xs rest = by (keeps_strictly P A m method) refl
    where
      by : (b : Bool) → keeps_strictly P A m method ≡ b → AllByRecursion IsStrictlyTold ((if b then [] else explained P rel A overs grounds true (strict_bound P m method) m method ∷ []) ++ xs)
      by true is = rest
      by false is =
          let limit = limit_broken P A m method is in
          let made : IsStrictlyTold (explained P rel A overs grounds true (strict_bound P m method) m method) = record {
            method = method;
            there = there;
            is_refused = true;
            is = ap (λ l. explained P rel A overs grounds true l m method) (sym limit);
            above = ap (below_of (found_of A m method)) limit ∙ is;
          } in
          (made, rest)

  told_from : (methods : List Method) (m : ℕ) → IsRest P rel A overs grounds m methods → AllByRecursion IsStrictlyTold (strict_from P rel A overs grounds m methods)
  told_from [] m r = tt
  told_from (method ∷ methods) m r =
      told_one m method (rest_first P rel A overs grounds m method methods r) (strict_from P rel A overs grounds (m + 1) methods) (told_from methods (m + 1) (rest_next P rel A overs grounds m method methods r))

  -- so is that of a compound method to which one leads
  led_one : (x : ExplainedData) → IsTold P rel A overs grounds (settled_from P A 0 P.methods) x → IsStrictlyTold x
  led_one x told =
      let loose = unsettled P A P.methods 0 x.method x.method told.method (omega arith) told.there told.new in
      let limit = limit_kept P A x.method told.method loose.kept in
      record {
        method = told.method;
        there = told.there;
        is_refused = false;
        is = told.is ∙ ap (λ l. explained P rel A overs grounds false l x.method told.method) (sym limit);
        above = ap (below_of (found_of A x.method told.method)) limit ∙ loose.above;
      }

  leds_told : (xs : List ExplainedData) → AllByRecursion (IsTold P rel A overs grounds (settled_from P A 0 P.methods)) xs → AllByRecursion IsStrictlyTold xs
  leds_told [] h = tt
  leds_told (x ∷ xs) h = (led_one x h.0, leds_told xs h.1)

  pub all_strictly_told : (x : ExplainedData) → Contains (strict_explanations P rel A overs grounds) x → IsStrictlyTold x
  all_strictly_told x c =
      let refused = refused_strictly P rel A overs grounds in
      let marks = settled_from P A 0 P.methods in
      all_contains P rel A overs grounds IsStrictlyTold (strict_explanations P rel A overs grounds) x
      (all_append IsStrictlyTold refused (entries_behind P rel A overs grounds marks refused) (told_from P.methods 0 (whole P rel A overs grounds))
      (leds_told (entries_behind P rel A overs grounds marks refused) (behind_told P rel A overs grounds refused marks))) c

  -- where no bound is broken, nothing is told
  pub none_strict : (methods : List Method) (m : ℕ) → strictly_broken_from P A m methods ≡ [] → strict_from P rel A overs grounds m methods ≡ []
  none_strict [] m e = refl
  none_strict (method ∷ methods) m e = by (keeps_strictly P A m method) (none_strict methods (m + 1)) e
    where
      by : (b : Bool) → (strictly_broken_from P A (m + 1) methods ≡ [] → strict_from P rel A overs grounds (m + 1) methods ≡ [])
          → (if b then strictly_broken_from P A (m + 1) methods else m ∷ strictly_broken_from P A (m + 1) methods) ≡ []
          → (if b then [] else explained P rel A overs grounds true (strict_bound P m method) m method ∷ []) ++ strict_from P rel A overs grounds (m + 1) methods ≡ []
      by true rest none = rest none
      by false rest none = absurd cc

  pub none_explained : strictly_broken P A ≡ [] → strict_explanations P rel A overs grounds ≡ []
  none_explained none = ap (λ xs. xs ++ entries_behind P rel A overs grounds (settled_from P A 0 P.methods) xs) (none_strict P.methods 0 none)

  -- ---- the same in memory

  -- nothing is told of a method that keeps its bound
  pub kept_told : (m : ℕ) (method : Method) (b : Bool) → b ≡ keeps_strictly P A m method → b ≡ true → (xs : List ExplainedData) → xs ≡ xs ++ strictly_told P rel A overs grounds m method
  kept_told m method b is kept xs =
      sym (append-nil xs) ∙ ap (λ t. xs ++ (if t then [] else explained P rel A overs grounds true (strict_bound P m method) m method ∷ [])) (sym kept ∙ is)

  -- of one that breaks it, its explanation is
  pub broken_told : (m : ℕ) (method : Method) (b : Bool) → b ≡ keeps_strictly P A m method → b ≡ false → (old pushed : List Explained) (x : Explained)
      → explained_data x ≡ explained P rel A overs grounds true (strict_bound P m method) m method → pushed ≡ old ++ x ∷ []
      → map explained_data pushed ≡ map explained_data old ++ strictly_told P rel A overs grounds m method
  broken_told m method b is broken old pushed x x_is pushed_is =
      ap (map explained_data) pushed_is ∙ map-append explained_data old (x ∷ []) ∙ ap (λ y. map explained_data old ++ y ∷ []) x_is
      ∙ ap (λ t. map explained_data old ++ (if t then [] else explained P rel A overs grounds true (strict_bound P m method) m method ∷ [])) (sym broken ∙ is)

  -- the explanations so far and those of the rest, after one method more
  pub one_more_told : (methods : List CoreMethod) (i : ℕ) (method : CoreMethod) (all all1 every : List ExplainedData) → i < length methods → method ≡ get_or methods i method
      → all1 ≡ all ++ strictly_told P rel A overs grounds i (method_of method) → all ++ strict_from P rel A overs grounds i (map method_of (drop i methods)) ≡ every
      → all1 ++ strict_from P rel A overs grounds (i + 1) (map method_of (drop (i + 1) methods)) ≡ every
  one_more_told methods i method all all1 every below is adds before =
      let rest = strict_from P rel A overs grounds (i + 1) (map method_of (drop (i + 1) methods)) in
      ap (λ l. l ++ rest) adds ∙ append_assoc all (strictly_told P rel A overs grounds i (method_of method)) rest
      ∙ ap (λ l. all ++ strict_from P rel A overs grounds i (map method_of l)) (sym (next_drop methods i method below is)) ∙ before

  -- at the end they are all
  pub all_told : (methods : List CoreMethod) (i : ℕ) (all : List ExplainedData) → length methods ≤ i → map method_of methods ≡ P.methods
      → all ++ strict_from P rel A overs grounds i (map method_of (drop i methods)) ≡ strict_from P rel A overs grounds 0 (map method_of methods) → all ≡ refused_strictly P rel A overs grounds
  all_told methods i all past are so_far =
      sym (append-nil all) ∙ ap (λ ms. all ++ strict_from P rel A overs grounds i (map method_of ms)) (sym (drop_of_length-le methods past)) ∙ so_far ∙ ap (strict_from P rel A overs grounds 0) are

  -- those behind the refused ones
  pub behind_refused : (first second all : List Explained) → map explained_data first ≡ refused_strictly P rel A overs grounds
      → map explained_data second ≡ entries_behind P rel A overs grounds (settled_from P A 0 P.methods) (map explained_data first) → all ≡ first ++ second → map explained_data all ≡ strict_explanations P rel A overs grounds
  behind_refused first second all one other whole_is =
      ap (map explained_data) whole_is ∙ map-append explained_data first second ∙ ap (λ ys. map explained_data first ++ ys) other
      ∙ (λ i. one i ++ entries_behind P rel A overs grounds (settled_from P A 0 P.methods) (one i))

module _ (P : Program) (A : Assignment) where
  -- a method that breaks its bound, one that keeps it, and the end
  pub one_breaks : (methods : List CoreMethod) (i : ℕ) (method : CoreMethod) (b : Bool) → i < length methods → method ≡ get_or methods i method → b ≡ keeps_strictly P A i (method_of method) → b ≡ false
      → keep_from P A i (map method_of (drop i methods)) ≡ keep_from P A 0 (map method_of methods) → map method_of methods ≡ P.methods → false ≡ keep_all P A
  one_breaks methods i method b below is test broken so_far are =
      ap (λ t. t && keep_from P A (i + 1) (map method_of (drop (i + 1) methods))) (sym broken ∙ test)
      ∙ ap (λ l. keep_from P A i (map method_of l)) (sym (next_drop methods i method below is)) ∙ so_far ∙ ap (keep_from P A 0) are

  pub one_keeps : (methods : List CoreMethod) (i : ℕ) (method : CoreMethod) (b : Bool) → i < length methods → method ≡ get_or methods i method → b ≡ keeps_strictly P A i (method_of method) → b ≡ true
      → keep_from P A i (map method_of (drop i methods)) ≡ keep_from P A 0 (map method_of methods)
      → keep_from P A (i + 1) (map method_of (drop (i + 1) methods)) ≡ keep_from P A 0 (map method_of methods)
  one_keeps methods i method b below is test kept so_far =
      ap (λ t. t && keep_from P A (i + 1) (map method_of (drop (i + 1) methods))) (sym kept ∙ test)
      ∙ ap (λ l. keep_from P A i (map method_of l)) (sym (next_drop methods i method below is)) ∙ so_far

  pub all_keep : (methods : List CoreMethod) (i : ℕ) → length methods ≤ i → keep_from P A i (map method_of (drop i methods)) ≡ keep_from P A 0 (map method_of methods)
      → map method_of methods ≡ P.methods → true ≡ keep_all P A
  all_keep methods i past so_far are = ap (λ l. keep_from P A i (map method_of l)) (sym (drop_of_length-le methods past)) ∙ so_far ∙ ap (keep_from P A 0) are

  -- where all are kept, each is, and the other way round
  pub kept_at : (methods : List Method) (m : ℕ) → keep_from P A m methods ≡ true → (k j : ℕ) (method : Method) → j ≡ m + k → slice_get methods k ≡ Some method → keeps_strictly P A j method ≡ true
  kept_at [] m all k j method number is = absurd cc
  kept_at (first ∷ methods) m all zero j method number is =
      let same : first ≡ method = cc in
      let here : m ≡ j = omega (arith, number) in
      let kept = and_parts (keeps_strictly P A m first) (keep_from P A (m + 1) methods) all in
      subst (λ x. keeps_strictly P A j x ≡ true) same (subst (λ n. keeps_strictly P A n first ≡ true) here kept.0)
  kept_at (first ∷ methods) m all (suc k) j method number is =
      kept_at methods (m + 1) (and_parts (keeps_strictly P A m first) (keep_from P A (m + 1) methods) all).1 k j method (omega (arith, number)) is

  pub all_kept : (methods : List Method) (m : ℕ) → ((k j : ℕ) (method : Method) → j ≡ m + k → slice_get methods k ≡ Some method → keeps_strictly P A j method ≡ true) → keep_from P A m methods ≡ true
  all_kept [] m each = refl
  all_kept (method ∷ methods) m each =
      and_from (keeps_strictly P A m method) (keep_from P A (m + 1) methods) (each 0 m method (omega arith) refl)
      (all_kept methods (m + 1) (λ k j its number is. each (suc k) j its (omega (arith, number)) is))

  -- where all are kept, none is broken, and the other way round
  pub none_broken_strictly : (methods : List Method) (m : ℕ) → keep_from P A m methods ≡ true → strictly_broken_from P A m methods ≡ []
  none_broken_strictly [] m all = refl
  none_broken_strictly (method ∷ methods) m all =
      let kept = and_parts (keeps_strictly P A m method) (keep_from P A (m + 1) methods) all in
      rw (kept.0) (none_broken_strictly methods (m + 1) kept.1)

  pub some_broken_strictly : (methods : List Method) (m : ℕ) → keep_from P A m methods ≡ false → strictly_broken_from P A m methods ≡ [] → ⊥
  some_broken_strictly [] m broken none = cc
  some_broken_strictly (method ∷ methods) m broken none = by (keeps_strictly P A m method) (some_broken_strictly methods (m + 1)) broken none
    where
      by : (b : Bool) → (keep_from P A (m + 1) methods ≡ false → strictly_broken_from P A (m + 1) methods ≡ [] → ⊥) → (b && keep_from P A (m + 1) methods) ≡ false
          → (if b then strictly_broken_from P A (m + 1) methods else m ∷ strictly_broken_from P A (m + 1) methods) ≡ [] → ⊥
      by true rest broken none = rest broken none
      by false rest broken none = cc
