-- Explanations that are followed step by step.
use Rattle.std.proofs.Common.{◌≡◌, ℕ, zero, suc, ◌+◌, ◌<◌, ◌≤◌, Bool, true, false, not, ◌||◌, List, [], ◌∷◌, ◌++◌, map, length, slice_get, slice_set, get_or, drop, Some, None, if◌then◌else◌, refl, sym, ap, ◌∙◌, append_assoc, append-nil, arith}
use Rattle.std.specs.Prelude.{Option, Result, Ok, Err, OnOk, IfNone, unwrap_or, replicate, ◌&&◌}
use Rattle.std.proofs.lemmas.Bool.{and_parts, not-true}
use Rattle.std.proofs.lemmas.List.{map-append, length-map}
use Rattle.paths.specs.Paths.{PathData}
use Rattle.core_program.specs.Core.{Program, Method}
use Rattle.rules.specs.Effect.{Assignment}
use Rattle.explain.specs.declared.program.Explained.{Explained}
use Rattle.explain.specs.Views.{explained_data, why_data}
use Rattle.explain.specs.declared.grounds.Ground.{Ground}
use Rattle.explain.specs.Whys.{ExplainedData}
use Rattle.base.proofs.Lists.{next_drop}
use Rattle.core_program.specs.declared.program.CoreMethod.{CoreMethod}
use Rattle.core_program.specs.Views.{method_of}
use Rattle.explain.specs.Programs.{led_to, marked, explained_methods, keeps, if_untold, refused, compound, led, explanations, explanations_from, IsToldNext}

module _ (P : Program) (rel : ℕ → List PathData) (A : Assignment) (overs : ℕ → List ℕ) (grounds : List Ground) where
  -- ---- where nothing follows

  pub led_none : (most : ℕ) (told : List Bool) → led P rel A overs grounds most told None ≡ []
  led_none zero told = refl
  led_none (suc most) told = refl

  pub led_missing : (most : ℕ) (told : List Bool) (m : ℕ) → slice_get P.methods m ≡ None → led P rel A overs grounds most told (Some m) ≡ []
  led_missing zero told m is = refl
  led_missing (suc most) told m is = ap (λ o. if_untold A told m o (λ method. compound P rel A overs grounds m method ∷ led P rel A overs grounds most (slice_set told m true) (led_to (compound P rel A overs grounds m method).why))) is

  step_is : (most : ℕ) (told : List Bool) (m : ℕ) (method : Method) (b : Bool) → slice_get P.methods m ≡ Some method → (unwrap_or (slice_get told m) true || not (keeps A m method)) ≡ b
      → led P rel A overs grounds (suc most) told (Some m) ≡ (if b then [] else compound P rel A overs grounds m method ∷ led P rel A overs grounds most (slice_set told m true) (led_to (compound P rel A overs grounds m method).why))
  step_is most told m method b is test =
      ap (λ o. if_untold A told m o (λ method. compound P rel A overs grounds m method ∷ led P rel A overs grounds most (slice_set told m true) (led_to (compound P rel A overs grounds m method).why))) is
      ∙ ap (λ b. if b then [] else compound P rel A overs grounds m method ∷ led P rel A overs grounds most (slice_set told m true) (led_to (compound P rel A overs grounds m method).why)) test

  pub led_stops : (most : ℕ) (told : List Bool) (m : ℕ) (method : Method) → slice_get P.methods m ≡ Some method → (unwrap_or (slice_get told m) true || not (keeps A m method)) ≡ true
      → led P rel A overs grounds most told (Some m) ≡ []
  led_stops zero told m method is test = refl
  led_stops (suc most) told m method is test = step_is most told m method true is test

  -- ---- steps

  -- after so many steps, what is left to be told and marked completes what was told and marked to all that was to be
  pub record Follows (most done : ℕ) (next0 : Option ℕ) (told0 : List Bool) (all0 : List ExplainedData) (next : Option ℕ) (told : List Bool) (all : List ExplainedData) : Type 0 where
    pub left : ℕ
    pub sum : done + left ≡ most
    pub whole : all ++ led P rel A overs grounds left told next ≡ all0 ++ led P rel A overs grounds most told0 next0
    pub marks : marked told (explained_methods (led P rel A overs grounds left told next)) ≡ marked told0 (explained_methods (led P rel A overs grounds most told0 next0))

  pub follows_first : (most : ℕ) (next : Option ℕ) (told : List Bool) (all : List ExplainedData) → Follows most 0 next told all next told all
  follows_first most next told all = record { left = most; sum = omega arith; whole = refl; marks = refl }

  test_passes : (t k : Bool) → t ≡ false → k ≡ true → (t || not k) ≡ false
  test_passes true k a b = a
  test_passes false true a b = refl
  test_passes false false a b = sym b

  pub follows_more : (most done : ℕ) (next0 : Option ℕ) (told0 : List Bool) (all0 : List ExplainedData) (next : Option ℕ) (told : List Bool) (all : List ExplainedData) (m : ℕ) (method : Method)
      (x : ExplainedData) (next1 : Option ℕ) (told1 : List Bool) (all1 : List ExplainedData) → done < most → Follows most done next0 told0 all0 next told all → IsToldNext P A told next m method
      → x ≡ compound P rel A overs grounds m method → next1 ≡ led_to x.why → told1 ≡ slice_set told m true → all1 ≡ all ++ x ∷ [] → Follows most (done + 1) next0 told0 all0 next1 told1 all1
  follows_more most done next0 told0 all0 next told all m method x next1 told1 all1 below f is x_is next_is told_is all_is = by f.left f.sum f.whole f.marks
    where
      by : (left : ℕ) → done + left ≡ most → all ++ led P rel A overs grounds left told next ≡ all0 ++ led P rel A overs grounds most told0 next0
          → marked told (explained_methods (led P rel A overs grounds left told next)) ≡ marked told0 (explained_methods (led P rel A overs grounds most told0 next0)) → Follows most (done + 1) next0 told0 all0 next1 told1 all1
      by zero sum whole marks = absurd (omega (arith, sum, below))
      by (suc left) sum whole marks =
          let head = compound P rel A overs grounds m method in
          let rest = led P rel A overs grounds left (slice_set told m true) (led_to head.why) in
          let here : led P rel A overs grounds (suc left) told next ≡ head ∷ rest =
          ap (led P rel A overs grounds (suc left) told) is.is ∙ step_is left told m method false is.there (test_passes (unwrap_or (slice_get told m) true) (keeps A m method) is.untold is.kept) in
          let now : led P rel A overs grounds left told1 next1 ≡ rest = (λ i. led P rel A overs grounds left (told_is i) ((next_is ∙ ap (λ (y : ExplainedData). led_to y.why) x_is) i)) in
          record {
            left = left;
            sum = omega (arith, sum);
            whole = (λ i. (all_is ∙ ap (λ y. all ++ y ∷ []) x_is) i ++ now i) ∙ append_assoc all (head ∷ []) rest ∙ ap (λ l. all ++ l) (sym here) ∙ whole;
            marks = (λ i. marked (told_is i) (explained_methods (now i))) ∙ ap (λ l. marked told (explained_methods l)) (sym here) ∙ marks;
          }

  -- where nothing follows, all is told and marked
  pub told_all : (most done : ℕ) (next0 : Option ℕ) (told0 : List Bool) (all0 : List ExplainedData) (next : Option ℕ) (told : List Bool) (all : List ExplainedData) → Follows most done next0 told0 all0 next told all
      → ((left : ℕ) → done + left ≡ most → led P rel A overs grounds left told next ≡ []) → all ≡ all0 ++ led P rel A overs grounds most told0 next0
  told_all most done next0 told0 all0 next told all f none = sym (append-nil all) ∙ ap (λ l. all ++ l) (sym (none f.left f.sum)) ∙ f.whole

  pub marked_all : (most done : ℕ) (next0 : Option ℕ) (told0 : List Bool) (all0 : List ExplainedData) (next : Option ℕ) (told : List Bool) (all : List ExplainedData) → Follows most done next0 told0 all0 next told all
      → ((left : ℕ) → done + left ≡ most → led P rel A overs grounds left told next ≡ []) → told ≡ marked told0 (explained_methods (led P rel A overs grounds most told0 next0))
  marked_all most done next0 told0 all0 next told all f none = sym (ap (λ l. marked told (explained_methods l)) (none f.left f.sum)) ∙ f.marks

  -- as where as many steps are made as there may be
  pub none_left : (most done : ℕ) (told : List Bool) (next : Option ℕ) → most ≤ done → (left : ℕ) → done + left ≡ most → led P rel A overs grounds left told next ≡ []
  none_left most done told next past zero sum = refl
  none_left most done told next past (suc left) sum = absurd (omega (arith, past, sum))

  -- ---- methods in source order

  one_is : (told : List Bool) (m : ℕ) (method : Method) (rest : List Method) (b : Bool) → keeps A m method ≡ b → explanations_from P rel A overs grounds told m (method ∷ rest) ≡ (if b then explanations_from P rel A overs grounds told (m + 1) rest
      else refused P rel A overs grounds m method ∷ (led P rel A overs grounds (length P.methods) told (led_to (refused P rel A overs grounds m method).why)
      ++ explanations_from P rel A overs grounds (marked told (explained_methods (led P rel A overs grounds (length P.methods) told (led_to (refused P rel A overs grounds m method).why)))) (m + 1) rest))
  one_is told m method rest b is = ap (λ b. if b then explanations_from P rel A overs grounds told (m + 1) rest
      else refused P rel A overs grounds m method ∷ (led P rel A overs grounds (length P.methods) told (led_to (refused P rel A overs grounds m method).why)
      ++ explanations_from P rel A overs grounds (marked told (explained_methods (led P rel A overs grounds (length P.methods) told (led_to (refused P rel A overs grounds m method).why)))) (m + 1) rest)) is

  -- nothing is told of a method that keeps its bound
  pub kept_adds : (told : List Bool) (all : List ExplainedData) (m : ℕ) (method : Method) → keeps A m method ≡ true
      → (rest : List Method) → all ++ explanations_from P rel A overs grounds told (m + 1) rest ≡ all ++ explanations_from P rel A overs grounds told m (method ∷ rest)
  kept_adds told all m method is rest = ap (λ l. all ++ l) (sym (one_is told m method rest true is))

  -- of one that breaks it, its explanation is, and then those to which that leads
  pub refused_adds : (told told1 : List Bool) (all all1 : List ExplainedData) (m : ℕ) (method : Method) (x : ExplainedData) (next : Option ℕ) (most : ℕ) → keeps A m method ≡ false → x ≡ refused P rel A overs grounds m method
      → next ≡ led_to x.why → most ≡ length P.methods → all1 ≡ (all ++ x ∷ []) ++ led P rel A overs grounds most told next → told1 ≡ marked told (explained_methods (led P rel A overs grounds most told next))
      → (rest : List Method) → all1 ++ explanations_from P rel A overs grounds told1 (m + 1) rest ≡ all ++ explanations_from P rel A overs grounds told m (method ∷ rest)
  refused_adds told told1 all all1 m method x next most broken x_is next_is most_is all_is told_is rest =
      let head = refused P rel A overs grounds m method in
      let more = led P rel A overs grounds (length P.methods) told (led_to head.why) in
      let same : led P rel A overs grounds most told next ≡ more = (λ i. led P rel A overs grounds (most_is i) told ((next_is ∙ ap (λ (y : ExplainedData). led_to y.why) x_is) i)) in
      let all_now : all1 ≡ (all ++ head ∷ []) ++ more = all_is ∙ (λ i. (all ++ x_is i ∷ []) ++ same i) in
      let told_now : told1 ≡ marked told (explained_methods more) = told_is ∙ ap (λ l. marked told (explained_methods l)) same in
      (λ i. all_now i ++ explanations_from P rel A overs grounds (told_now i) (m + 1) rest)
      ∙ append_assoc (all ++ head ∷ []) more (explanations_from P rel A overs grounds (marked told (explained_methods more)) (m + 1) rest)
      ∙ append_assoc all (head ∷ []) (more ++ explanations_from P rel A overs grounds (marked told (explained_methods more)) (m + 1) rest)
      ∙ ap (λ l. all ++ l) (sym (one_is told m method rest false broken))

  -- the explanations so far and those of the rest, after one method more
  pub one_more : (methods : List CoreMethod) (i : ℕ) (method : CoreMethod) (told told1 : List Bool) (all all1 whole : List ExplainedData) → i < length methods → method ≡ get_or methods i method
      → ((rest : List Method) → all1 ++ explanations_from P rel A overs grounds told1 (i + 1) rest ≡ all ++ explanations_from P rel A overs grounds told i (method_of method ∷ rest))
      → all ++ explanations_from P rel A overs grounds told i (map method_of (drop i methods)) ≡ whole
      → all1 ++ explanations_from P rel A overs grounds told1 (i + 1) (map method_of (drop (i + 1) methods)) ≡ whole
  one_more methods i method told told1 all all1 whole below is adds before =
      adds (map method_of (drop (i + 1) methods)) ∙ ap (λ l. all ++ explanations_from P rel A overs grounds told i (map method_of l)) (sym (next_drop methods i method below is)) ∙ before

  pub at_end : (methods : List CoreMethod) (i : ℕ) (told : List Bool) (all whole : List ExplainedData) → drop i methods ≡ [] → all ++ explanations_from P rel A overs grounds told i (map method_of (drop i methods)) ≡ whole → all ≡ whole
  at_end methods i told all whole none before = sym (append-nil all) ∙ ap (λ l. all ++ explanations_from P rel A overs grounds told i (map method_of l)) (sym none) ∙ before

  -- the same in memory
  pub refused_told : {X E : Type 0} (r : Result X E) (told told1 : List Bool) (old pushed new : List Explained) (m : ℕ) (method : Method) (x : Explained) (next : Option ℕ) (most : ℕ)
      → keeps A m method ≡ false → explained_data x ≡ refused P rel A overs grounds m method → next ≡ led_to (why_data x.why) → most ≡ length P.methods → pushed ≡ old ++ x ∷ []
      → OnOk r (map explained_data new ≡ map explained_data pushed ++ led P rel A overs grounds most told next) → OnOk r (told1 ≡ marked told (explained_methods (led P rel A overs grounds most told next)))
      → OnOk r ((rest : List Method) → map explained_data new ++ explanations_from P rel A overs grounds told1 (m + 1) rest ≡ map explained_data old ++ explanations_from P rel A overs grounds told m (method ∷ rest))
  refused_told (Ok u) told told1 old pushed new m method x next most broken x_is next_is most_is pushed_is all_is told_is =
      refused_adds told told1 (map explained_data old) (map explained_data new) m method (explained_data x) next most broken x_is next_is most_is
      (all_is ∙ ap (λ l. map explained_data l ++ led P rel A overs grounds most told next) pushed_is ∙ ap (λ l. l ++ led P rel A overs grounds most told next) (map-append explained_data old (x ∷ []))) told_is
  refused_told (Err e) told told1 old pushed new m method x next most broken x_is next_is most_is pushed_is all_is told_is = tt

  -- nothing is told at first
  pub none_yet : (methods : List CoreMethod) (told : List Bool) (all : List ExplainedData) (count : ℕ) → map method_of methods ≡ P.methods → count ≡ length methods → told ≡ replicate count false → all ≡ []
      → all ++ explanations_from P rel A overs grounds told 0 (map method_of (drop 0 methods)) ≡ explanations P rel A overs grounds
  none_yet methods told all count methods_are count_is told_is all_is =
      let many : count ≡ length P.methods = count_is ∙ sym (length-map methods method_of) ∙ ap length methods_are in
      (λ i. all_is i ++ explanations_from P rel A overs grounds ((told_is ∙ ap (λ n. replicate n false) many) i) 0 (methods_are i))

module _ (P : Program) (rel : ℕ → List PathData) (A : Assignment) where
  -- nothing follows, whatever the answer
  pub ends_none : {X : Type 0} (o : Option X) (told : List Bool) (next : Option ℕ) → next ≡ None → IfNone o ((overs : ℕ → List ℕ) (grounds : List Ground) (most : ℕ) → led P rel A overs grounds most told next ≡ [])
  ends_none (Some x) told next is = tt
  ends_none None told next is = λ overs grounds most. ap (led P rel A overs grounds most told) is ∙ led_none P rel A overs grounds most told

  pub ends_missing : {X : Type 0} (o : Option X) (told : List Bool) (next : Option ℕ) (m : ℕ) → next ≡ Some m → None ≡ slice_get P.methods m → IfNone o ((overs : ℕ → List ℕ) (grounds : List Ground) (most : ℕ) → led P rel A overs grounds most told next ≡ [])
  ends_missing (Some x) told next m is gone = tt
  ends_missing None told next m is gone = λ overs grounds most. ap (led P rel A overs grounds most told) is ∙ led_missing P rel A overs grounds most told m (sym gone)

  one_fails : (t k b : Bool) → b ≡ (not t && k) → b ≡ false → (t || not k) ≡ true
  one_fails true k b is fails = refl
  one_fails false true b is fails = absurd (let f : true ≡ false = sym is ∙ fails in cc)
  one_fails false false b is fails = refl

  pub ends_there : (told : List Bool) (next : Option ℕ) (m : ℕ) (method : Method) (b : Bool) → next ≡ Some m → Some method ≡ slice_get P.methods m → b ≡ (not (unwrap_or (slice_get told m) true) && keeps A m method) → b ≡ false
      → (overs : ℕ → List ℕ) (grounds : List Ground) (most : ℕ) → led P rel A overs grounds most told next ≡ []
  ends_there told next m method b is there test fails overs grounds most =
      ap (led P rel A overs grounds most told) is ∙ led_stops P rel A overs grounds most told m method (sym there) (one_fails (unwrap_or (slice_get told m) true) (keeps A m method) b test fails)

  pub goes_on : (told : List Bool) (next : Option ℕ) (m : ℕ) (method : Method) (b : Bool) → next ≡ Some m → Some method ≡ slice_get P.methods m → b ≡ (not (unwrap_or (slice_get told m) true) && keeps A m method) → b ≡ true
      → IsToldNext P A told next m method
  goes_on told next m method b is there test passes =
      let parts = and_parts (not (unwrap_or (slice_get told m) true)) (keeps A m method) (sym test ∙ passes) in
      record { is = is; there = sym there; untold = not-true (unwrap_or (slice_get told m) true) parts.0; kept = parts.1 }

-- a method that isn't told is within the marks
pub untold_within : (told : List Bool) (m : ℕ) → unwrap_or (slice_get told m) true ≡ false → m < length told
untold_within [] m is = absurd (let f : true ≡ false = is in cc)
untold_within (t ∷ told) zero is = omega arith
untold_within (t ∷ told) (suc m) is = let h = untold_within told m is in omega (arith, h)
