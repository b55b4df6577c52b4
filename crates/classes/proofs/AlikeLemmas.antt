-- Where a walk has found no methods apart, none overrides one that it may not override.
use Rattle.std.proofs.Common.{◌≡◌, ◌⊎◌, ◌-◌, ◌++◌, arith, ℕ, zero, suc, Bool, true, false, not, ◌&&◌, ◌||◌, List, [], ◌∷◌, length, take, drop, map, Option, Some, None, refl, sym, ap, subst, ◌∙◌, bytes_eq, slice_get, is_some, replicate, if◌then◌else◌, inl, inr}
use Rattle.std.specs.Prelude.{slice_set, slice_index_or, swap_remove}
use Rattle.std.specs.List.{list_any, list_all}
use Rattle.std.specs.Option.{option_map, option_and_then}
use Rattle.std.proofs.lemmas.Bool.{and_parts, and_from, or_left, or_right}
use Rattle.std.proofs.lemmas.Option.{slice_get-map, same_Some}
use Rattle.std.proofs.lemmas.Slice.Eq.{bytes_eq-Decides}
use Rattle.syntax.specs.Trees.{ClassTree, ProgramTree}
use Rattle.forest.specs.declared.steps.Step.{Step}
use Rattle.forest.specs.declared.steps.Step.TheVariants.{Down, Up}
use Rattle.forest.specs.Walks.{Leads}
use Rattle.forest.specs.Walks as walks
use Rattle.classes.specs.Lines.{above, above_in, ancestors, ancestors_of, is_on_circle, ancestor_classes}
use Rattle.classes.specs.Overriding.{Heading, is_same_signature, clashes, overrides_badly}
use Rattle.classes.proofs.Signatures.{wrong, signature_chain, signature_back, signature_self}
use Rattle.classes.specs.Faults.{override_faults}
use Rattle.classes.specs.declared.fault.ClassFault.TheVariants.{BadOverride}
use Rattle.classes.specs.Families.{all_above}
use Rattle.classes.specs.Alike.{is_alike, Standing, Nowhere, Alike, Apart, accepts, is_well, joined_standing, standing_at, number_in, standing_of, count_well, LineState, with_heading, with_headings, left, all_left, line_after, well_at, well_after, well_after_all, AreWell}

-- ---- methods that don't clash

-- a method and those of some that have its name have one signature
abbrev AgreesWith : Heading → List Heading → Type 0
AgreesWith m [] = Unit {0}
AgreesWith m (n ∷ ns) = (bytes_eq m.name.text n.name.text ≡ true → is_same_signature m.signature n.signature ≡ true) × AgreesWith m ns

-- the same of the methods of some classes
abbrev AgreesAlong : (ℕ → List Heading) → Heading → List ℕ → Type 0
AgreesAlong methods m [] = Unit {0}
AgreesAlong methods m (c ∷ cs) = AgreesWith m (methods c) × AgreesAlong methods m cs

no_clash : (m : Heading) (ns : List Heading) → AgreesWith m ns → list_any (clashes m) ns ≡ false
no_clash m [] alike = refl
no_clash m (n ∷ ns) alike = ap (λ b. b || list_any (clashes m) ns) (by_name (bytes_eq m.name.text n.name.text) (is_same_signature m.signature n.signature) alike.0) ∙ no_clash m ns alike.1
  where
    by_name : (a b : Bool) → (a ≡ true → b ≡ true) → (a && not b) ≡ false
    by_name true b same = ap not (same refl)
    by_name false b same = refl

no_clash_along : (methods : ℕ → List Heading) (m : Heading) (cs : List ℕ) → AgreesAlong methods m cs → overrides_badly methods cs m ≡ false
no_clash_along methods m [] alike = refl
no_clash_along methods m (c ∷ cs) alike = ap (λ b. b || overrides_badly methods cs m) (no_clash m (methods c) alike.0) ∙ no_clash_along methods m cs alike.1

-- ---- what is known of one name

alike_self : (m : Heading) → is_alike m m ≡ true
alike_self m = and_from (is_same_signature m.signature m.signature) (is_some m.signature.locks || not (is_some m.signature.locks)) (signature_self m.signature) (or_not (is_some m.signature.locks))
  where
    or_not : (b : Bool) → (b || not b) ≡ true
    or_not true = refl
    or_not false = refl

-- a method that is well has the signature of each that is accepted
well_same : (k : Standing) (m o : Heading) → is_well k m ≡ true → accepts k o ≡ true → is_same_signature m.signature o.signature ≡ true
well_same Nowhere m o well accepted = wrong accepted
well_same (Alike p) m o well accepted =
    let both = and_parts (is_same_signature o.signature p.signature) (is_some p.signature.locks || not (is_some o.signature.locks)) accepted in
    signature_back o.signature m.signature (signature_chain o.signature p.signature m.signature both.1 both.0 (signature_back m.signature p.signature well))
well_same Apart m o well accepted = wrong well

joined_keeps : (k : Standing) (m o : Heading) → accepts k o ≡ true → accepts (joined_standing k m) o ≡ true
joined_keeps Nowhere m o accepted = wrong accepted
joined_keeps (Alike p) m o accepted = by_parts (is_same_signature m.signature p.signature) refl (is_some p.signature.locks) refl
  where
    by_parts : (a : Bool) → is_same_signature m.signature p.signature ≡ a → (b : Bool) → is_some p.signature.locks ≡ b
        → accepts (if a then (if b then Alike p else Alike m) else Apart) o ≡ true
    by_parts false same b known = refl
    by_parts true same true known = accepted
    by_parts true same false known =
        let both = and_parts (is_same_signature o.signature p.signature) (is_some p.signature.locks || not (is_some o.signature.locks)) accepted in
        and_from (is_same_signature o.signature m.signature) (is_some m.signature.locks || not (is_some o.signature.locks))
        (signature_chain o.signature p.signature m.signature both.1 both.0 (signature_back m.signature p.signature same))
        (or_right (is_some m.signature.locks) (not (is_some o.signature.locks)) (ap (λ b. b || not (is_some o.signature.locks)) (sym known) ∙ both.1))
joined_keeps Apart m o accepted = refl

joined_own : (k : Standing) (m : Heading) → accepts (joined_standing k m) m ≡ true
joined_own Nowhere m = alike_self m
joined_own (Alike p) m = by_parts (is_same_signature m.signature p.signature) refl (is_some p.signature.locks) refl
  where
    by_parts : (a : Bool) → is_same_signature m.signature p.signature ≡ a → (b : Bool) → is_some p.signature.locks ≡ b
        → accepts (if a then (if b then Alike p else Alike m) else Apart) m ≡ true
    by_parts false same b known = refl
    by_parts true same true known =
        and_from (is_same_signature m.signature p.signature) (is_some p.signature.locks || not (is_some m.signature.locks)) same
        (or_left (is_some p.signature.locks) (not (is_some m.signature.locks)) known)
    by_parts true same false known = alike_self m
joined_own Apart m = refl

-- ---- what is known of all names

known_keeps : (known : List Standing) (n j : ℕ) (m o : Heading) → accepts (standing_at known j) o ≡ true → accepts (standing_at (slice_set known n (joined_standing (standing_at known n) m)) j) o ≡ true
known_keeps [] n j m o accepted = refl
known_keeps (k ∷ ks) zero zero m o accepted = joined_keeps k m o accepted
known_keeps (k ∷ ks) zero (suc j) m o accepted = accepted
known_keeps (k ∷ ks) (suc n) zero m o accepted = accepted
known_keeps (k ∷ ks) (suc n) (suc j) m o accepted = known_keeps ks n j m o accepted

known_own : (known : List Standing) (n : ℕ) (m : Heading) → accepts (standing_at (slice_set known n (joined_standing (standing_at known n) m)) n) m ≡ true
known_own [] n m = refl
known_own (k ∷ ks) zero m = joined_own k m
known_own (k ∷ ks) (suc n) m = known_own ks n m

set_back : (known : List Standing) (n : ℕ) (k : Standing) → slice_set (slice_set known n k) n (standing_at known n) ≡ known
set_back [] n k = refl
set_back (j ∷ js) zero k = refl
set_back (j ∷ js) (suc n) k = ap (λ l. j ∷ l) (set_back js n k)

-- what is taken back stands as before
left_last : (n : ℕ) (d : LineState) → all_left (suc n) d ≡ left (all_left n d)
left_last zero d = refl
left_last (suc n) d = left_last n (left d)

module _ (methods : ℕ → List Heading) (names : List (List ℕ)) where
  left_entered : (ms : List Heading) (d : LineState) → all_left (length ms) (with_headings names ms d) ≡ d
  left_entered [] d = refl
  left_entered (m ∷ ms) d =
      left_last (length ms) (with_headings names ms (with_heading names d m))
      ∙ ap left (left_entered ms (with_heading names d m))
      ∙ ap (λ l. record { known = l; saved = d.saved }) (set_back d.known (number_in names m.name.text) (joined_standing (standing_of names d.known m) m))

  abbrev accepted : List Standing → Heading → Bool
  accepted known m = accepts (standing_of names known m) m

  kept : (ms : List Heading) (d : LineState) (o : Heading) → accepted d.known o ≡ true → accepted (with_headings names ms d).known o ≡ true
  kept [] d o is = is
  kept (m ∷ ms) d o is = kept ms (with_heading names d m) o (known_keeps d.known (number_in names m.name.text) (number_in names o.name.text) m o is)

  all_kept : (ms : List Heading) (d : LineState) (os : List Heading) → list_all (accepted d.known) os ≡ true → list_all (accepted (with_headings names ms d).known) os ≡ true
  all_kept ms d [] all = refl
  all_kept ms d (o ∷ os) all =
      let both = and_parts (accepted d.known o) (list_all (accepted d.known) os) all in
      and_from (accepted (with_headings names ms d).known o) (list_all (accepted (with_headings names ms d).known) os) (kept ms d o both.0) (all_kept ms d os both.1)

  own_accepted : (ms : List Heading) (d : LineState) → list_all (accepted (with_headings names ms d).known) ms ≡ true
  own_accepted [] d = refl
  own_accepted (m ∷ ms) d =
      and_from (accepted (with_headings names ms (with_heading names d m)).known m) (list_all (accepted (with_headings names ms (with_heading names d m)).known) ms)
      (kept ms (with_heading names d m) m (known_own d.known (number_in names m.name.text) m)) (own_accepted ms (with_heading names d m))

  -- the methods of these classes are accepted
  abbrev AreAccepted : List Standing → List ℕ → Type 0
  AreAccepted known [] = Unit {0}
  AreAccepted known (c ∷ cs) = list_all (accepted known) (methods c) ≡ true × AreAccepted known cs

  along_kept : (ms : List Heading) (d : LineState) (cs : List ℕ) → AreAccepted d.known cs → AreAccepted (with_headings names ms d).known cs
  along_kept ms d [] all = tt
  along_kept ms d (c ∷ cs) all = (all_kept ms d (methods c) all.0, along_kept ms d cs all.1)

  -- and so it is again as the walk goes up
  abbrev IsHeld : List ℕ → LineState → Type 0
  IsHeld [] d = Unit {0}
  IsHeld (c ∷ cs) d = AreAccepted d.known (c ∷ cs) × IsHeld cs (all_left (length (methods c)) d)

  held_accepted : (cs : List ℕ) (d : LineState) → IsHeld cs d → AreAccepted d.known cs
  held_accepted [] d held = tt
  held_accepted (c ∷ cs) d held = held.0

  held_below : (c : ℕ) (cs : List ℕ) (d : LineState) → IsHeld cs d → IsHeld (c ∷ cs) (with_headings names (methods c) d)
  held_below c cs d held = (
    (own_accepted (methods c) d, along_kept (methods c) d cs (held_accepted cs d held)),
    subst (IsHeld cs) (sym (left_entered (methods c) d)) held,
  )

  well_row : (known : List Standing) (m : Heading) (os : List Heading) → is_well (standing_of names known m) m ≡ true → list_all (accepted known) os ≡ true → AgreesWith m os
  well_row known m [] well all = tt
  well_row known m (o ∷ os) well all =
      let both = and_parts (accepted known o) (list_all (accepted known) os) all in (
        (λ same. well_same (standing_of names known m) m o well (ap (λ t. accepts (standing_at known (number_in names t)) o) ((bytes_eq-Decides m.name.text o.name.text).0 same) ∙ both.0)),
        well_row known m os well both.1,
      )

  well_along : (known : List Standing) (m : Heading) (cs : List ℕ) → is_well (standing_of names known m) m ≡ true → AreAccepted known cs → AgreesAlong methods m cs
  well_along known m [] well all = tt
  well_along known m (c ∷ cs) well all = (well_row known m (methods c) well all.0, well_along known m cs well all.1)

  counted : (known : List Standing) (line : List ℕ) → ((m : Heading) → is_well (standing_of names known m) m ≡ true → overrides_badly methods line m ≡ false)
      → (ms : List Heading) → override_faults methods line (take (count_well names known ms) ms) ≡ []
  counted known line each [] = refl
  counted known line each (m ∷ ms) = by_well (is_well (standing_of names known m) m) refl (counted known line each ms)
    where
      by_well : (b : Bool) → is_well (standing_of names known m) m ≡ b → override_faults methods line (take (count_well names known ms) ms) ≡ []
          → override_faults methods line (take (if b then suc (count_well names known ms) else 0) (m ∷ ms)) ≡ []
      by_well true well rest =
          ap (λ b. if b then BadOverride m.name.at ∷ override_faults methods line (take (count_well names known ms) ms) else override_faults methods line (take (count_well names known ms) ms)) (each m well) ∙ rest
      by_well false well rest = refl

-- ---- the line of a walk

-- these classes stand in a line, the first of them at this place
abbrev AreLine : (ℕ → Option ℕ) → Option ℕ → List ℕ → Type 0
AreLine up at [] = at ≡ None
AreLine up at (c ∷ cs) = (at ≡ Some c) × AreLine up (up c) cs

along_ancestors : (methods : ℕ → List Heading) (up : ℕ → Option ℕ) (m : Heading) (n : ℕ) (at : Option ℕ) (cs : List ℕ) → AreLine up at cs → AgreesAlong methods m cs → AgreesAlong methods m (ancestors up n at)
along_ancestors methods up m n at [] line alike = subst (λ o. AgreesAlong methods m (ancestors up n o)) (sym line) tt
along_ancestors methods up m zero at (c ∷ cs) line alike = subst (λ o. AgreesAlong methods m (ancestors up zero o)) (sym line.0) tt
along_ancestors methods up m (suc n) at (c ∷ cs) line alike =
    subst (λ o. AgreesAlong methods m (ancestors up (suc n) o)) (sym line.0) (alike.0, along_ancestors methods up m n (up c) cs line.1 alike.1)

-- those that are counted at a class override none badly
counted_at : (tree : ProgramTree) (methods : ℕ → List Heading) (names : List (List ℕ)) (k : ℕ) (cs : List ℕ) (d : LineState) → AreLine (above tree) (above tree k) cs → IsHeld methods names cs d
    → override_faults methods (ancestor_classes tree k) (take (count_well names d.known (methods k)) (methods k)) ≡ []
counted_at tree methods names k cs d line held = by_circle (is_on_circle tree k)
  where
    by_circle : (b : Bool) → override_faults methods (if b then [] else ancestors (above tree) (length tree) (above tree k)) (take (count_well names d.known (methods k)) (methods k)) ≡ []
    by_circle true = counted methods names d.known [] (λ m well. refl) (methods k)
    by_circle false = counted methods names d.known (ancestors (above tree) (length tree) (above tree k))
        (λ m well. no_clash_along methods m (ancestors (above tree) (length tree) (above tree k))
        (along_ancestors methods (above tree) m (length tree) (above tree k) cs line (well_along methods names d.known m cs well (held_accepted methods names cs d held))))
        (methods k)

well_set : (well : List ℕ) (k n j : ℕ) → (well_at (slice_set well k n) j ≡ well_at well j) ⊎ ((j ≡ k) × (well_at (slice_set well k n) j ≡ n))
well_set [] k n j = inl refl
well_set (w ∷ ws) zero n zero = inr (refl, refl)
well_set (w ∷ ws) zero n (suc j) = inl refl
well_set (w ∷ ws) (suc k) n zero = inl refl
well_set (w ∷ ws) (suc k) n (suc j) = elim (well_set ws k n j) as (λ _. (well_at (slice_set (w ∷ ws) (suc k) n) (suc j) ≡ well_at (w ∷ ws) (suc j)) ⊎ ((suc j ≡ suc k) × (well_at (slice_set (w ∷ ws) (suc k) n) (suc j) ≡ n))) [
  | inl kept ↦ inl kept
  | inr here ↦ inr (ap suc here.0, here.1)
]

well_written : (tree : ProgramTree) (methods : ℕ → List Heading) (well : List ℕ) (k n : ℕ) → AreWell tree methods well → override_faults methods (ancestor_classes tree k) (take n (methods k)) ≡ [] → AreWell tree methods (slice_set well k n)
well_written tree methods well k n all here j = elim (well_set well k n j) as (λ _. override_faults methods (ancestor_classes tree j) (take (well_at (slice_set well k n) j) (methods j)) ≡ []) [
  | inl kept ↦ ap (λ c. override_faults methods (ancestor_classes tree j) (take c (methods j))) kept ∙ all j
  | inr same ↦
      ap (λ c. override_faults methods (ancestor_classes tree j) (take c (methods j))) same.1
      ∙ subst (λ i. override_faults methods (ancestor_classes tree i) (take n (methods i)) ≡ []) (sym same.0) here
]

-- where none is counted, all is well
pub none_counted : (tree : ProgramTree) (methods : ℕ → List Heading) (n : ℕ) → AreWell tree methods (replicate n 0)
none_counted tree methods n k = ap (λ c. override_faults methods (ancestor_classes tree k) (take c (methods k))) (nothing n k)
  where
    nothing : (n k : ℕ) → well_at (replicate n 0) k ≡ 0
    nothing zero k = refl
    nothing (suc n) zero = refl
    nothing (suc n) (suc k) = nothing n k

-- the walk stands at a class or above all, what is known is of the classes from there up, and what is noted is so
pub record IsWalking (tree : ProgramTree) (above_each : List (Option ℕ)) (methods : ℕ → List Heading) (names : List (List ℕ)) (d : LineState) (well : List ℕ) (rest : List Step) : Type 0 where
  pub line : List ℕ
  pub at : Option ℕ
  pub stands : AreLine (above tree) at line
  pub held : IsHeld methods names line d
  pub leads : Leads above_each at rest
  pub good : AreWell tree methods well

same_above : (tree : ProgramTree) (k : ℕ) → walks.above_in (all_above tree) k ≡ above tree k
same_above tree k = ap (λ o. option_and_then (λ up. up) o) (slice_get-map (λ c. above_in tree (Some c)) tree k) ∙ by_class (slice_get tree k)
  where
    by_class : (o : Option ClassTree) → option_and_then (λ up. up) (option_map (λ c. above_in tree (Some c)) o) ≡ above_in tree o
    by_class None = refl
    by_class (Some c) = refl

-- before the first step
pub walk_begins : (tree : ProgramTree) (above_each : List (Option ℕ)) (methods : ℕ → List Heading) (names : List (List ℕ)) (d : LineState) (steps : List Step) (n : ℕ) → Leads above_each None steps
    → IsWalking tree above_each methods names d (replicate n 0) steps
walk_begins tree above_each methods names d steps n leads = record { line = []; at = None; stands = refl; held = tt; leads = leads; good = none_counted tree methods n }

-- a step further
pub walk_goes_on : (tree : ProgramTree) (above_each : List (Option ℕ)) (methods : ℕ → List Heading) (names : List (List ℕ)) (d : LineState) (well : List ℕ) (step : Step) (rest : List Step) → above_each ≡ all_above tree
    → IsWalking tree above_each methods names d well (step ∷ rest)
    → IsWalking tree above_each methods names (line_after methods names step d) (well_after methods names step d well) rest
walk_goes_on tree above_each methods names d well (Down k) rest same walking =
    let here : above tree k ≡ walking.at =
    sym (same_above tree k) ∙ ap (λ l. walks.above_in l k) (sym same) ∙ ap (λ o. option_and_then (λ up. up) o) walking.leads.0 in
    let line : AreLine (above tree) (above tree k) walking.line = subst (λ o. AreLine (above tree) o walking.line) (sym here) walking.stands in
    record {
      line = k ∷ walking.line;
      at = Some k;
      stands = (refl, line);
      held = held_below methods names k walking.line d walking.held;
      leads = walking.leads.1;
      good = well_written tree methods well k (count_well names d.known (methods k)) walking.good (counted_at tree methods names k walking.line d line walking.held);
    }
walk_goes_on tree above_each methods names d well (Up k) rest same walking = by_line walking.line walking.stands walking.held
  where
    by_line : (cs : List ℕ) → AreLine (above tree) walking.at cs → IsHeld methods names cs d → IsWalking tree above_each methods names (all_left (length (methods k)) d) well rest
    by_line [] stands held = absurd (let clash : Some k ≡ None = sym walking.leads.0 ∙ stands in cc)
    by_line (c ∷ cs) stands held =
        let one : c ≡ k = same_Some c k (sym stands.0 ∙ walking.leads.0) in
        let next : above tree c ≡ walks.above_in above_each k = ap (above tree) one ∙ sym (same_above tree k) ∙ ap (λ l. walks.above_in l k) (sym same) in
        record {
          line = cs;
          at = walks.above_in above_each k;
          stands = subst (λ o. AreLine (above tree) o cs) next stands.1;
          held = subst (λ i. IsHeld methods names cs (all_left (length (methods i)) d)) one held.1;
          leads = walking.leads.1;
          good = walking.good;
        }

all_walked : (tree : ProgramTree) (above_each : List (Option ℕ)) (methods : ℕ → List Heading) (names : List (List ℕ)) (d : LineState) (well : List ℕ) (steps : List Step) → above_each ≡ all_above tree
    → IsWalking tree above_each methods names d well steps → AreWell tree methods (well_after_all methods names steps d well)
all_walked tree above_each methods names d well [] same walking = walking.good
all_walked tree above_each methods names d well (step ∷ rest) same walking =
    all_walked tree above_each methods names (line_after methods names step d) (well_after methods names step d well) rest same
    (walk_goes_on tree above_each methods names d well step rest same walking)

-- after a whole walk all is well
pub walked_well : (tree : ProgramTree) (above_each : List (Option ℕ)) (methods : ℕ → List Heading) (names : List (List ℕ)) (d : LineState) (n : ℕ) (steps : List Step) → above_each ≡ all_above tree
    → Leads above_each None steps → AreWell tree methods (well_after_all methods names steps d (replicate n 0))
walked_well tree above_each methods names d n steps same leads = all_walked tree above_each methods names d (replicate n 0) steps same (walk_begins tree above_each methods names d steps n leads)

-- what is written into a list, seen as data
seen_set : {A B : Type 0} (f : A → B) (xs : List A) (n : ℕ) (x : A) → map f (slice_set xs n x) ≡ slice_set (map f xs) n (f x)
seen_set f [] n x = refl
seen_set f (y ∷ ys) zero x = refl
seen_set f (y ∷ ys) (suc n) x = ap (λ l. f y ∷ l) (seen_set f ys n x)

module _ {A : Type 0} (x : A) where
  one_more : (xs : List A) → length (xs ++ x ∷ []) ≡ suc (length xs)
  one_more [] = refl
  one_more (y ∷ ys) = ap suc (one_more ys)

  last_one : (xs : List A) (d : A) → slice_index_or (xs ++ x ∷ []) (length xs) d ≡ x
  last_one [] d = refl
  last_one (y ∷ ys) d = last_one ys d

  but_last : (xs : List A) → take (length xs) (xs ++ x ∷ []) ≡ xs
  but_last [] = refl
  but_last (y ∷ ys) = ap (λ l. y ∷ l) (but_last ys)

  but_last_set : (xs : List A) (n : ℕ) → take (length xs) (slice_set (xs ++ x ∷ []) n x) ≡ slice_set xs n x
  but_last_set [] n = refl
  but_last_set (y ∷ ys) zero = ap (λ l. x ∷ l) (but_last ys)
  but_last_set (y ∷ ys) (suc n) = ap (λ l. y ∷ l) (but_last_set ys n)

  -- what comes last, and then takes the place of another
  last_in_place : (xs : List A) (n : ℕ) (d : A) → swap_remove (xs ++ x ∷ []) n d ≡ slice_set xs n x
  last_in_place xs n d =
      let one : suc (length xs) - 1 ≡ length xs = omega arith in
      ap (λ l. take l (slice_set (xs ++ x ∷ []) n (slice_index_or (xs ++ x ∷ []) l d))) (ap (λ l. l - 1) (one_more xs) ∙ one)
      ∙ ap (λ y. take (length xs) (slice_set (xs ++ x ∷ []) n y)) (last_one xs d)
      ∙ but_last_set xs n

-- the same, seen as data
pub put_in_place : {A B : Type 0} (f : A → B) (xs : List A) (n : ℕ) (x d : A) → map f (swap_remove (xs ++ x ∷ []) n d) ≡ slice_set (map f xs) n (f x)
put_in_place f xs n x d = ap (map f) (last_in_place x xs n d) ∙ seen_set f xs n x

none_above : (methods : ℕ → List Heading) (ms : List Heading) → override_faults methods [] ms ≡ []
none_above methods [] = refl
none_above methods (m ∷ ms) = none_above methods ms

-- on or below a circle, no class has such a fault
pub none_on_circle : (tree : ProgramTree) (methods : ℕ → List Heading) (k : ℕ) → is_on_circle tree k ≡ true → override_faults methods (ancestor_classes tree k) (methods k) ≡ []
none_on_circle tree methods k circle = ap (λ b. override_faults methods (if b then [] else ancestors (above tree) (length tree) (above tree k)) (methods k)) circle ∙ none_above methods (methods k)

-- where those in front have none, the others have all faults
rest_faults : (methods : ℕ → List Heading) (line : List ℕ) (n : ℕ) (ms : List Heading) → override_faults methods line (take n ms) ≡ [] → override_faults methods line (drop n ms) ≡ override_faults methods line ms
rest_faults methods line zero ms none = refl
rest_faults methods line (suc n) [] none = refl
rest_faults methods line (suc n) (m ∷ ms) none = by_bad (overrides_badly methods line m) none (rest_faults methods line n ms)
  where
    by_bad : (b : Bool) → (if b then BadOverride m.name.at ∷ override_faults methods line (take n ms) else override_faults methods line (take n ms)) ≡ []
        → (override_faults methods line (take n ms) ≡ [] → override_faults methods line (drop n ms) ≡ override_faults methods line ms)
        → override_faults methods line (drop n ms) ≡ (if b then BadOverride m.name.at ∷ override_faults methods line ms else override_faults methods line ms)
    by_bad true none more = absurd (let clash : BadOverride m.name.at ∷ override_faults methods line (take n ms) ≡ [] = none in cc)
    by_bad false none more = more none

-- a class that isn't on or below a circle has the faults of the methods behind those that are well
pub off_circle : (tree : ProgramTree) (methods : ℕ → List Heading) (well : List ℕ) (k : ℕ) → is_on_circle tree k ≡ false → AreWell tree methods well
    → override_faults methods (ancestors_of tree k) (drop (well_at well k) (methods k)) ≡ override_faults methods (ancestor_classes tree k) (methods k)
off_circle tree methods well k off all =
    ap (λ b. override_faults methods (if b then [] else ancestors_of tree k) (drop (well_at well k) (methods k))) (sym off)
    ∙ rest_faults methods (ancestor_classes tree k) (well_at well k) (methods k) (all k)

pub well_of_walk : (tree : ProgramTree) (above_each seen : List (Option ℕ)) (methods : ℕ → List Heading) (names : List (List ℕ)) (d : LineState) (n : ℕ) (steps taken : List Step) (well start : List ℕ)
    → above_each ≡ all_above tree → seen ≡ above_each → Leads seen None steps → taken ≡ steps → start ≡ replicate n 0 → well ≡ well_after_all methods names taken d start → AreWell tree methods well
well_of_walk tree above_each seen methods names d n steps taken well start same seen_is leads taken_is start_is well_is =
    subst (AreWell tree methods) (sym (well_is ∙ ap (λ s. well_after_all methods names s d start) taken_is ∙ ap (well_after_all methods names steps d) start_is))
    (walked_well tree seen methods names d n steps (seen_is ∙ same) leads)
