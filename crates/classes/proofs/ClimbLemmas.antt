-- What so many steps up from a class meet: the climbs of some steps, and then those of others from where they end.
use Rattle.std.proofs.Common.{◌≡◌, ℕ, ◌+◌, ◌<◌, zero, suc, Bool, true, false, ◌||◌, List, [], ◌∷◌, ◌++◌, Option, Some, None, length, map, unwrap_or, option_map, slice_get, refl, sym, subst, ap, ap₂, ◌∙◌, arith, if◌then◌else◌, inl, inr}
use Rattle.std.specs.Prelude.{Result, Ok, Err, IfOk, Vec}
use Rattle.std.specs.declared.alloc.Global.{Global}
use Rattle.std.specs.List.{list_any, list_all}
use Rattle.std.specs.Option.{option_and_then, option_or, is_none}
use Rattle.std.proofs.Math.Bool.{or-false}
use Rattle.std.proofs.Math.Path.{fun_ext}
use Rattle.std.proofs.lemmas.Bool.{and_parts}
use Rattle.std.proofs.lemmas.List.{append-nil, length-map}
use Rattle.std.proofs.lemmas.List.Folds.{list_any-append}
use Rattle.std.proofs.lemmas.Option.{none-some, slice_get-map, slice_get_cases, slice_get_past}
use Rattle.base.specs.Ancestors.{steps_up}
use Rattle.syntax.specs.Trees.{ClassTree, ProgramTree}
use Rattle.classes.specs.declared.climbs.Climb.{Climb}
use Rattle.classes.specs.Building.{above_at, counts_among}
use Rattle.classes.specs.Families.{all_above}
use Rattle.classes.specs.Lines.{above, above_in, ancestors, says_runnable, says_so}
use Rattle.classes.specs.Climbs.{AreClimbs, climb_at, climb_of, climb_over, declares_fields, declares_run, first_with_fields, followed_climb, joined_climb, joined_climb_at, no_climb, first_climb, first_climbs}

-- ---- some steps, and then others

module _ (up : ℕ → Option ℕ) where
  steps_on : (a b n k : ℕ) → n ≡ a + b → steps_up up n k ≡ option_and_then (λ d. steps_up up b d) (steps_up up a k)
  steps_on zero b n k is = let same : n ≡ b = omega (arith, is) in ap (λ m. steps_up up m k) same
  steps_on (suc a) b zero k is = absurd (omega (arith, is))
  steps_on (suc a) b (suc n) k is = by_next (up k) (λ d. steps_on a b n d (omega (arith, is)))
    where
      by_next : (o : Option ℕ) → ((d : ℕ) → steps_up up n d ≡ option_and_then (λ e. steps_up up b e) (steps_up up a d))
          → option_and_then (λ d. steps_up up n d) o ≡ option_and_then (λ d. steps_up up b d) (option_and_then (λ d. steps_up up a d) o)
      by_next None later = refl
      by_next (Some d) later = later d

  met_on : (a b n : ℕ) (o : Option ℕ) → n ≡ a + b → ancestors up n o ≡ ancestors up a o ++ ancestors up b (option_and_then (λ d. steps_up up a d) o)
  met_on a b n None is = refl
  met_on zero b n (Some c) is = let same : n ≡ b = omega (arith, is) in ap (λ m. ancestors up m (Some c)) same
  met_on (suc a) b zero (Some c) is = absurd (omega (arith, is))
  met_on (suc a) b (suc n) (Some c) is = ap (λ ks. c ∷ ks) (met_on a b n (up c) (omega (arith, is)))

module _ (tree : ProgramTree) where
  first_append : (xs ys : List ℕ) → first_with_fields tree (xs ++ ys) ≡ option_or (first_with_fields tree xs) (first_with_fields tree ys)
  first_append [] ys = refl
  first_append (x ∷ xs) ys = by_test (declares_fields tree x) (first_append xs ys)
    where
      by_test : (b : Bool) → first_with_fields tree (xs ++ ys) ≡ option_or (first_with_fields tree xs) (first_with_fields tree ys)
          → (if b then Some x else first_with_fields tree (xs ++ ys)) ≡ option_or (if b then Some x else first_with_fields tree xs) (first_with_fields tree ys)
      by_test true later = refl
      by_test false later = later

  over_append : (one other : Option ℕ) (xs ys : List ℕ) → followed_climb (climb_over tree one xs) (climb_over tree other ys) ≡ climb_over tree other (xs ++ ys)
  over_append one other xs ys =
      let says = list_any-append (says_runnable tree) xs ys in
      let runs = list_any-append (declares_run tree) xs ys in
      let first = first_append xs ys in
      sym (λ i. record { end = other; says_runnable = says i; has_run = runs i; with_fields = first i })

  module _ (up : ℕ → Option ℕ) where
    joined_is : (a b n k : ℕ) (nexts : List Climb) → n ≡ a + b → AreClimbs tree up b nexts → joined_climb nexts (climb_of tree up a k) ≡ climb_of tree up n k
    joined_is a b n k nexts is h = by_end (steps_up up a k) refl
      where
        met : (o : Option ℕ) → steps_up up a k ≡ o → ancestors up n (Some k) ≡ ancestors up a (Some k) ++ ancestors up b o
        met o end = met_on up a b n (Some k) is ∙ ap (λ z. ancestors up a (Some k) ++ ancestors up b z) end

        led : (o : Option ℕ) → steps_up up a k ≡ o → steps_up up n k ≡ option_and_then (λ d. steps_up up b d) o
        led o end = steps_on up a b n k is ∙ ap (option_and_then (λ d. steps_up up b d)) end

        by_end : (o : Option ℕ) → steps_up up a k ≡ o → joined_climb_at nexts (climb_of tree up a k) o ≡ climb_of tree up n k
        by_end None end =
            ap (λ z. climb_over tree z (ancestors up a (Some k))) (end ∙ sym (led None end))
            ∙ ap (climb_over tree (steps_up up n k)) (sym (met None end ∙ append-nil (ancestors up a (Some k))))
        by_end (Some d) end =
            ap (followed_climb (climb_of tree up a k)) (h d)
            ∙ over_append (steps_up up a k) (steps_up up b d) (ancestors up a (Some k)) (ancestors up b (Some d))
            ∙ ap₂ (climb_over tree) (sym (led (Some d) end)) (sym (met (Some d) end))

    at_map : (f : Climb → Climb) (xs : List Climb) (k : ℕ) → f no_climb ≡ no_climb → climb_at (map f xs) k ≡ f (climb_at xs k)
    at_map f xs k none = ap (λ o. unwrap_or o no_climb) (slice_get-map f xs k) ∙ by_place (slice_get xs k)
      where
        by_place : (o : Option Climb) → unwrap_or (option_map f o) no_climb ≡ f (unwrap_or o no_climb)
        by_place None = sym none
        by_place (Some x) = refl

    -- the climbs of some steps and then of others are those of all these steps
    pub joined_climbs : (a b n : ℕ) (firsts nexts all : List Climb) → n ≡ a + b → AreClimbs tree up a firsts → AreClimbs tree up b nexts → all ≡ map (joined_climb nexts) firsts → AreClimbs tree up n all
    joined_climbs a b n firsts nexts all is f h made k =
        ap (λ z. climb_at z k) made ∙ at_map (joined_climb nexts) firsts k refl ∙ ap (joined_climb nexts) (f k) ∙ joined_is a b n k nexts is h

    -- climbs that have ended go no further
    pub ended : (a b n : ℕ) (all : List Climb) → n ≡ a + b → list_all (λ c. is_none c.end) all ≡ true → AreClimbs tree up a all → AreClimbs tree up n all
    ended a b n all is none f k =
        let end : steps_up up a k ≡ None = ap (λ c. c.end) (sym (f k)) ∙ no_end all k none in
        let led : steps_up up n k ≡ None = steps_on up a b n k is ∙ ap (option_and_then (λ d. steps_up up b d)) end in
        let met = met_on up a b n (Some k) is ∙ ap (λ z. ancestors up a (Some k) ++ ancestors up b z) end ∙ append-nil (ancestors up a (Some k)) in
        f k ∙ ap₂ (climb_over tree) (end ∙ sym led) (sym met)
      where
        none_there : (o : Option ℕ) → is_none o ≡ true → o ≡ None
        none_there None h = refl
        none_there (Some x) h = absurd (let e : false ≡ true = h in cc)

        no_end : (xs : List Climb) (k : ℕ) → list_all (λ c. is_none c.end) xs ≡ true → (climb_at xs k).end ≡ None
        no_end [] k h = refl
        no_end (x ∷ xs) zero h = none_there x.end (and_parts (is_none x.end) (list_all (λ c. is_none c.end) xs) h).0
        no_end (x ∷ xs) (suc k) h = no_end xs k (and_parts (is_none x.end) (list_all (λ c. is_none c.end) xs) h).1

    -- ---- one step

    one_is : (k : ℕ) → first_climb (up k) k (slice_get tree k) ≡ climb_of tree up 1 k
    one_is k =
        let led = led_by (up k) in
        let met = none_met (up k) in
        let says = or-false (says_runnable tree k) in
        let runs = or-false (declares_run tree k) in
        sym (ap (climb_over tree (steps_up up 1 k)) (ap (λ ks. k ∷ ks) met) ∙ λ i. record { end = led i; says_runnable = says i; has_run = runs i; with_fields = first_with_fields tree (k ∷ []) })
      where
        led_by : (o : Option ℕ) → option_and_then (λ d. steps_up up 0 d) o ≡ o
        led_by None = refl
        led_by (Some d) = refl

        none_met : (o : Option ℕ) → ancestors up 0 o ≡ []
        none_met None = refl
        none_met (Some d) = refl

    one_at : (cs : List ClassTree) (i j k : ℕ) → k ≡ j + i → ((n : ℕ) → slice_get tree n ≡ None → up n ≡ None) → slice_get cs i ≡ slice_get tree k → climb_at (first_climbs up j cs) i ≡ climb_of tree up 1 k
    one_at [] i j k is top at =
        let none : slice_get tree k ≡ None = sym at in
        ap (λ o. first_climb o k None) (sym (top k none)) ∙ ap (first_climb (up k) k) (sym none) ∙ one_is k
    one_at (c ∷ cs) zero j k is top at = let same : j ≡ k = omega (arith, is) in ap (λ n. first_climb (up n) n (Some c)) same ∙ ap (first_climb (up k) k) at ∙ one_is k
    one_at (c ∷ cs) (suc i) j k is top at = one_at cs i (j + 1) k (omega (arith, is)) top at

    pub ones : (all : List Climb) → ((n : ℕ) → slice_get tree n ≡ None → up n ≡ None) → all ≡ first_climbs up 0 tree → AreClimbs tree up 1 all
    ones all top made k = ap (λ z. climb_at z k) made ∙ one_at tree k 0 k (omega arith) top refl

-- nothing stands above a class that isn't there
pub none_above : (tree : ProgramTree) (aboves : List (Option ℕ)) → length aboves ≡ length tree → (n : ℕ) → slice_get tree n ≡ None → above_at aboves n ≡ None
none_above tree aboves many n none =
    elim ((slice_get_cases tree n).1) [
      | inl found ↦ absurd (none-some found.0 (sym none ∙ found.2))
      | inr past ↦ ap (λ o. unwrap_or o None) (slice_get_past aboves n (omega (arith, past.0, many)))
    ]

-- one step, and then as many as these climbs have
pub one_more : {E : Type 0} (b n : ℕ) (one nexts : List Climb) (result : Result (Vec Climb Global) E) → n ≡ 1 + b
    → ((tree : ProgramTree) (up : ℕ → Option ℕ) → AreClimbs tree up 1 one → AreClimbs tree up b nexts) → IfOk result (λ all. all.items ≡ map (joined_climb nexts) one)
    → IfOk result (λ all. (tree : ProgramTree) (up : ℕ → Option ℕ) → AreClimbs tree up 1 one → AreClimbs tree up n all.items)
one_more b n one nexts (Err e) is h made = tt
one_more b n one nexts (Ok all) is h made = λ tree up first. joined_climbs tree up 1 b n one nexts all.items is first (h tree up first) made

-- climbs that are made from those of one step, as many steps as there are classes
pub climbs_ready : {E : Type 0} (tree : ProgramTree) (aboves : List (Option ℕ)) (made one : List Climb) (count : ℕ) (result : Result (Vec Climb Global) E) → made ≡ first_climbs (above_at aboves) 0 tree → one ≡ made
    → length tree ≡ count → length aboves ≡ count
    → IfOk result (λ all. (tree : ProgramTree) (up : ℕ → Option ℕ) → AreClimbs tree up 1 one → AreClimbs tree up count all.items)
    → IfOk result (λ all. 0 < count → AreClimbs tree (above_at aboves) (length tree) all.items)
climbs_ready tree aboves made one count (Err e) made_is lent many as_many h = tt
climbs_ready tree aboves made one count (Ok all) made_is lent many as_many h = λ some.
    subst (λ n. AreClimbs tree (above_at aboves) n all.items) (sym many)
    (h tree (above_at aboves) (ones tree (above_at aboves) one (none_above tree aboves (as_many ∙ sym many)) (lent ∙ made_is)))

-- what a family keeps above each class is what stands above it
pub kept_above : (tree : ProgramTree) (aboves : List (Option ℕ)) → aboves ≡ all_above tree → above_at aboves ≡ above tree
kept_above tree aboves is = fun_ext (λ k. ap (λ z. above_at z k) is ∙ ap (λ o. unwrap_or o None) (slice_get-map (λ c. above_in tree (Some c)) tree k) ∙ by_place (slice_get tree k))
  where
    by_place : (o : Option ClassTree) → unwrap_or (option_map (λ c. above_in tree (Some c)) o) None ≡ above_in tree o
    by_place None = refl
    by_place (Some c) = refl

-- the climbs of a family, from those of what it keeps above each class
pub family_climbs : (tree : ProgramTree) (aboves : List (Option ℕ)) (climbs : List Climb) → aboves ≡ all_above tree → AreClimbs tree (above_at aboves) (length tree) climbs → AreClimbs tree (above tree) (length tree) climbs
family_climbs tree aboves climbs is known = subst (λ up. AreClimbs tree up (length tree) climbs) (kept_above tree aboves is) known

-- those of what it keeps above each class
pub kept_climbs : (tree : ProgramTree) (aboves : List (Option ℕ)) (climbs : List Climb) → aboves ≡ all_above tree → AreClimbs tree (above tree) (length tree) climbs → AreClimbs tree (above_at aboves) (length tree) climbs
kept_climbs tree aboves climbs is known = subst (λ up. AreClimbs tree up (length tree) climbs) (sym (kept_above tree aboves is)) known

-- whether a class counts as `implements Runnable`
pub counts_kept : (tree : ProgramTree) (aboves : List (Option ℕ)) (k : ℕ) → aboves ≡ all_above tree → counts_among tree aboves k ≡ says_so tree k
counts_kept tree aboves k is = ap (λ up. list_any (says_runnable tree) (k ∷ ancestors up (length tree) (up k))) (kept_above tree aboves is)

-- by what a class itself says, and by what is met from the class above it
pub counts_by : (tree : ProgramTree) (aboves : List (Option ℕ)) (k : ℕ) (o : Option ℕ) → above_at aboves k ≡ o → says_runnable tree k ≡ false
    → list_any (says_runnable tree) (ancestors (above_at aboves) (length tree) o) ≡ counts_among tree aboves k
counts_by tree aboves k o is none =
    ap (λ z. list_any (says_runnable tree) (ancestors (above_at aboves) (length tree) z)) (sym is)
    ∙ ap (λ b. b || list_any (says_runnable tree) (ancestors (above_at aboves) (length tree) (above_at aboves k))) (sym none)

pub many_above : (tree : ProgramTree) (aboves : List (Option ℕ)) → aboves ≡ all_above tree → length aboves ≡ length tree
many_above tree aboves is = ap length is ∙ length-map tree (λ c. above_in tree (Some c))
