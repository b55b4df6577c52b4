-- What a program without faults of its classes keeps.
use Rattle.std.proofs.Common.{◌≡◌, ℕ, ◌+◌, ◌<◌, ◌≤◌, zero, suc, Bool, true, false, not, List, [], ◌∷◌, ◌++◌, Option, Some, None, map, flat_map, length, reverse, refl, ap, sym, ◌∙◌, subst, ◌&&◌, ◌||◌, cond, bytes_eq, nat_le, slice_get, is_some, arith, if◌then◌else◌}
use Rattle.std.specs.Prelude.{codes}
use Rattle.std.specs.List.{list_any, position_from}
use Rattle.std.specs.Option.{option_and_then}
use Rattle.std.proofs.Math.Bool.{or-false}
use Rattle.std.proofs.lemmas.Bool.{leb-true, leb-false, or_parts}
use Rattle.std.proofs.lemmas.Option.{none-some, same_Some, slice_get_within}
use Rattle.std.proofs.lemmas.List.{append-nil, reverse-append, length-map}
use Rattle.std.proofs.lemmas.List.Concat.{flat_map-cons}
use Rattle.std.proofs.lemmas.List.Quantifiers.{position-Some}
use Rattle.std.proofs.lemmas.Grind.{flat_map-append}
use Rattle.std.proofs.lemmas.Iterator.Adapters.{position_from-zero}
use Rattle.base.specs.Ancestors.{AreBelow, IsAncestor, is_circular, steps_up}
use Rattle.base.proofs.Going.{circle_exact, going_ends}
use Rattle.base.proofs.Lists.{get_below}
use Rattle.syntax.specs.declared.tree.Name.{Name}
use Rattle.syntax.specs.Trees.{MethodTree, MemberTree, FieldM, CtorM, MethodM, ClassTree, ProgramTree}
use Rattle.classes.specs.declared.fault.ClassFault.TheVariants.{Twice, TooMany}
use Rattle.classes.specs.Limits.{most_class_fields}
use Rattle.classes.specs.Names.{texts_of, repeats, repeats_after}
use Rattle.classes.specs.Members.{class_names, field_names, method_names, finals_of, is_entry}
use Rattle.classes.specs.Lines.{ancestors, class_named, above_in, above, ancestors_of, is_on_circle, ancestor_classes, members_at, inherited, all_members, says_runnable, says_so}
use Rattle.classes.specs.Overriding.{Heading, headings, headings_at, signature_of, is_same_signature, may_override, clashes, overrides_badly}
use Rattle.classes.specs.Faults.{twice_faults, field_faults, too_many_faults, above_faults, member_all_class_faults, missing_constructor, constructor_faults, missing_run, circle_faults, override_faults, is_class_in, other_faults, class_faults, class_faults_from, is_main, has_main, missing_main, all_class_faults}

-- ---- nothing in a list

both_empty : {X : Type 0} (xs ys : List X) → xs ++ ys ≡ [] → (xs ≡ []) × (ys ≡ [])
both_empty [] ys h = (refl, h)
both_empty (x ∷ xs) ys h = absurd (let e : x ∷ (xs ++ ys) ≡ [] = h in cc)

map_empty : {X Y : Type 0} (f : X → Y) (xs : List X) → map f xs ≡ [] → xs ≡ []
map_empty f [] h = refl
map_empty f (x ∷ xs) h = absurd (let e : f x ∷ map f xs ≡ [] = h in cc)

-- a test that tells no fault
passes : {X : Type 0} (b : Bool) (x : X) → (if b then [] else x ∷ []) ≡ [] → b ≡ true
passes true x h = refl
passes false x h = absurd (let e : x ∷ [] ≡ [] = h in cc)

fails : {X : Type 0} (b : Bool) (x : X) → (if b then x ∷ [] else []) ≡ [] → b ≡ false
fails true x h = absurd (let e : x ∷ [] ≡ [] = h in cc)
fails false x h = refl

-- ---- a class and a program without faults

-- what a class without faults keeps, which has the number k
pub record IsSound (tree : ProgramTree) (k : ℕ) (c : ClassTree) : Type 0 where
  pub fields : repeats_after (texts_of (field_names (inherited tree k))) (field_names c.members) ≡ []
  pub methods : repeats (method_names c.members) ≡ []
  pub extended : above_faults (is_class_in tree) c.above ≡ []
  pub members : flat_map (member_all_class_faults (is_class_in tree)) c.members ≡ []
  pub constructor_there : missing_constructor c.name (finals_of (all_members tree k)) c.members ≡ []
  pub constructor_right : constructor_faults c.name (finals_of (all_members tree k)) false c.members ≡ []
  pub run : missing_run c.name (says_so tree k) (all_members tree k) ≡ []
  pub few : too_many_faults (slice_get (field_names (all_members tree k)) most_class_fields) ≡ []
  pub off_circle : is_on_circle tree k ≡ false
  pub overriding : override_faults (headings_at tree) (ancestor_classes tree k) (headings_at tree k) ≡ []

pub sound : (tree : ProgramTree) (k : ℕ) (c : ClassTree) → class_faults tree k c ≡ [] → IsSound tree k c
sound tree k c none =
    let i1 = twice_faults (method_names c.members) in
    let i2 = above_faults (is_class_in tree) c.above in
    let i3 = flat_map (member_all_class_faults (is_class_in tree)) c.members in
    let i4 = missing_constructor c.name (finals_of (all_members tree k)) c.members in
    let i5 = constructor_faults c.name (finals_of (all_members tree k)) false c.members in
    let i6 = missing_run c.name (says_so tree k) (all_members tree k) in
    let i7 = too_many_faults (slice_get (field_names (all_members tree k)) most_class_fields) in
    let i8 = circle_faults c.name (is_on_circle tree k) in
    let i9 = override_faults (headings_at tree) (ancestor_classes tree k) (headings_at tree k) in
    let h0 = both_empty (field_faults (inherited tree k) c.members) (other_faults tree k c) none in
    let h9 = both_empty (i1 ++ i2 ++ i3 ++ i4 ++ i5 ++ i6 ++ i7 ++ i8) i9 h0.1 in
    let h8 = both_empty (i1 ++ i2 ++ i3 ++ i4 ++ i5 ++ i6 ++ i7) i8 h9.0 in
    let h7 = both_empty (i1 ++ i2 ++ i3 ++ i4 ++ i5 ++ i6) i7 h8.0 in
    let h6 = both_empty (i1 ++ i2 ++ i3 ++ i4 ++ i5) i6 h7.0 in
    let h5 = both_empty (i1 ++ i2 ++ i3 ++ i4) i5 h6.0 in
    let h4 = both_empty (i1 ++ i2 ++ i3) i4 h5.0 in
    let h3 = both_empty (i1 ++ i2) i3 h4.0 in
    let h2 = both_empty i1 i2 h3.0 in
    record {
      fields = map_empty Twice (repeats_after (texts_of (field_names (inherited tree k))) (field_names c.members)) h0.0;
      methods = map_empty Twice (repeats (method_names c.members)) h2.0;
      extended = h2.1;
      members = h3.1;
      constructor_there = h4.1;
      constructor_right = h5.1;
      run = h6.1;
      few = h7.1;
      off_circle = fails (is_on_circle tree k) _ h8.1;
      overriding = h9.1;
    }

-- what a program without faults keeps
pub record IsFaultless (tree : ProgramTree) : Type 0 where
  pub names : repeats (class_names tree) ≡ []
  pub classes : (k : ℕ) (c : ClassTree) → slice_get tree k ≡ Some c → IsSound tree k c
  pub main : has_main tree 0 tree ≡ true

from_none : (tree : ProgramTree) (k : ℕ) (cs : List ClassTree) (i n : ℕ) (c : ClassTree) → class_faults_from tree k cs ≡ [] → slice_get cs i ≡ Some c → n ≡ k + i → class_faults tree n c ≡ []
from_none tree k [] i n c none at e = absurd (let f : None ≡ Some c = at in cc)
from_none tree k (d ∷ ds) zero n c none at e =
    let here : d ≡ c = same_Some d c at in
    let number : n ≡ k = omega (arith, e) in
    ap (λ x. class_faults tree x c) number ∙ ap (class_faults tree k) (sym here) ∙ (both_empty (class_faults tree k d) (class_faults_from tree (k + 1) ds) none).0
from_none tree k (d ∷ ds) (suc i) n c none at e = from_none tree (k + 1) ds i n c (both_empty (class_faults tree k d) (class_faults_from tree (k + 1) ds) none).1 at (omega (arith, e))

pub faultless : (tree : ProgramTree) → all_class_faults tree ≡ [] → IsFaultless tree
faultless tree none =
    let two = both_empty (twice_faults (class_names tree) ++ class_faults_from tree 0 tree) (missing_main tree) none in
    let one = both_empty (twice_faults (class_names tree)) (class_faults_from tree 0 tree) two.0 in
    record {
      names = map_empty Twice (repeats (class_names tree)) one.0;
      classes = λ k c at. sound tree k c (from_none tree 0 tree k k c one.1 at (omega arith));
      main = passes (has_main tree 0 tree) _ two.1;
    }

-- ---- what stands above a class

-- where a class is found by its name, it is one of the program
pub named_below : (tree : ProgramTree) (text : List ℕ) (d : ℕ) → class_named tree text ≡ Some d → d < length tree
named_below tree text d is =
    subst (λ n. d < n) (length-map (class_names tree) (λ n. n.text) ∙ length-map tree (λ c. c.name)) ((position-Some (bytes_eq text) (texts_of (class_names tree)) d text is).0)

pub below : (tree : ProgramTree) → AreBelow (above tree) (length tree)
below tree k d is = by_class (slice_get tree k) is
  where
    by_name : (n : Option Name) → option_and_then (λ n. class_named tree n.text) n ≡ Some d → d < length tree
    by_name None is = absurd (let f : None ≡ Some d = is in cc)
    by_name (Some n) is = named_below tree n.text d is

    by_class : (c : Option ClassTree) → above_in tree c ≡ Some d → d < length tree
    by_class None is = absurd (let f : None ≡ Some d = is in cc)
    by_class (Some c) is = by_name c.above is

-- a name that some text is has a place
placed : (t : List ℕ) (k : ℕ) (xs : List (List ℕ)) → list_any (bytes_eq t) xs ≡ true → (d : ℕ) × (position_from (bytes_eq t) k xs ≡ Some d)
placed t k [] has = absurd (let e : false ≡ true = has in cc)
placed t k (x ∷ xs) has = by_test (bytes_eq t x) (λ later. placed t (k + 1) xs later) has
  where
    by_test : (b : Bool) → (list_any (bytes_eq t) xs ≡ true → (d : ℕ) × (position_from (bytes_eq t) (k + 1) xs ≡ Some d)) → (b || list_any (bytes_eq t) xs) ≡ true
        → (d : ℕ) × (cond b (Some k) (position_from (bytes_eq t) (k + 1) xs) ≡ Some d)
    by_test true later has = (k, refl)
    by_test false later has = later has

pub is_class_named : (tree : ProgramTree) (text : List ℕ) → is_class_in tree text ≡ true → (d : ℕ) × (class_named tree text ≡ Some d)
is_class_named tree text has =
    let p = placed text 0 (texts_of (class_names tree)) has in
    (p.0, position_from-zero (bytes_eq text) (texts_of (class_names tree)) ∙ p.1)

-- a class that isn't there has none above it
no_class : (tree : ProgramTree) (k : ℕ) → slice_get tree k ≡ None → above tree k ≡ None
no_class tree k none = ap (above_in tree) none

-- no class is its own ancestor
pub no_circle : (tree : ProgramTree) → IsFaultless tree → (k : ℕ) → IsAncestor (above tree) k k → ⊥
no_circle tree whole k (n, round) = by_class (slice_get tree k) refl
  where
    by_class : (c : Option ClassTree) → slice_get tree k ≡ c → ⊥
    by_class None none = none-some k (sym (ap (option_and_then (λ d. steps_up (above tree) n d)) (no_class tree k none)) ∙ round)
    by_class (Some c) at =
        let on : is_on_circle tree k ≡ true = (circle_exact (above tree) (length tree) (below tree) k (slice_get_within tree k c at)).1 (0, k, refl, (n, round)) in
        let e : true ≡ false = sym on ∙ (whole.classes k c at).off_circle in
        cc

-- so it inherits from all its ancestors
pub line_is : (tree : ProgramTree) → IsFaultless tree → (k : ℕ) → ancestor_classes tree k ≡ ancestors_of tree k
line_is tree whole k = by_class (slice_get tree k) refl
  where
    none_at_all : (b : Bool) → above tree k ≡ None → (if b then [] else ancestors_of tree k) ≡ ancestors_of tree k
    none_at_all true none = sym (ap (ancestors (above tree) (length tree)) none)
    none_at_all false none = refl

    by_class : (c : Option ClassTree) → slice_get tree k ≡ c → ancestor_classes tree k ≡ ancestors_of tree k
    by_class None none = none_at_all (is_on_circle tree k) (no_class tree k none)
    by_class (Some c) at = ap (λ b. if b then [] else ancestors_of tree k) (whole.classes k c at).off_circle

-- where going up ends within so many steps and one, as many are enough
enough : (step : ℕ → Option ℕ) (n c : ℕ) → steps_up step (suc n) c ≡ None → ancestors step n (step c) ≡ ancestors step (suc n) (step c)
enough step zero c ends = by_next (step c) ends
  where
    by_next : (o : Option ℕ) → option_and_then (λ d. steps_up step 0 d) o ≡ None → ancestors step 0 o ≡ ancestors step 1 o
    by_next None ends = refl
    by_next (Some d) ends = absurd (none-some d (sym ends))
enough step (suc n) c ends = by_next (step c) ends (λ d. enough step n d)
  where
    by_next : (o : Option ℕ) → option_and_then (λ d. steps_up step (suc n) d) o ≡ None → ((d : ℕ) → steps_up step (suc n) d ≡ None → ancestors step n (step d) ≡ ancestors step (suc n) (step d))
        → ancestors step (suc n) o ≡ ancestors step (suc (suc n)) o
    by_next None ends later = refl
    by_next (Some d) ends later = ap (λ xs. d ∷ xs) (later d ends)

-- the ancestors are the number above and its ancestors, where no number is its own ancestor
pub ancestors_step : (step : ℕ → Option ℕ) (count c d : ℕ) → AreBelow step count → ((k : ℕ) → IsAncestor step k k → ⊥) → step c ≡ Some d
    → ancestors step count (step c) ≡ d ∷ ancestors step count (step d)
ancestors_step step zero c d low none is = absurd (let l = low c d is in omega (arith, l))
ancestors_step step (suc n) c d low none is =
    ap (ancestors step (suc n)) is ∙ ap (λ xs. d ∷ xs) (enough step n d (going_ends step (suc n) low none d (low c d is)))

-- ---- what a class inherits

pub line_step : (tree : ProgramTree) → IsFaultless tree → (k d : ℕ) → above tree k ≡ Some d → ancestor_classes tree k ≡ d ∷ ancestor_classes tree d
line_step tree whole k d is =
    line_is tree whole k ∙ ancestors_step (above tree) (length tree) k d (below tree) (no_circle tree whole) is ∙ ap (λ xs. d ∷ xs) (sym (line_is tree whole d))

pub line_none : (tree : ProgramTree) → IsFaultless tree → (k : ℕ) → above tree k ≡ None → ancestor_classes tree k ≡ []
line_none tree whole k none = line_is tree whole k ∙ ap (ancestors (above tree) (length tree)) none

-- all that the class above has
pub inherited_step : (tree : ProgramTree) → IsFaultless tree → (k d : ℕ) → above tree k ≡ Some d → inherited tree k ≡ all_members tree d
inherited_step tree whole k d is =
    let f = members_at tree in
    let turned : reverse (d ∷ ancestor_classes tree d) ≡ reverse (ancestor_classes tree d) ++ d ∷ [] = reverse-append (d ∷ []) (ancestor_classes tree d) in
    ap (λ xs. flat_map f (reverse xs)) (line_step tree whole k d is)
    ∙ ap (flat_map f) turned
    ∙ flat_map-append f (reverse (ancestor_classes tree d)) (d ∷ [])
    ∙ ap (λ z. inherited tree d ++ z) (flat_map-cons f d [] ∙ append-nil (f d))

pub inherited_none : (tree : ProgramTree) → IsFaultless tree → (k : ℕ) → above tree k ≡ None → inherited tree k ≡ []
inherited_none tree whole k none = ap (λ xs. flat_map (members_at tree) (reverse xs)) (line_none tree whole k none)

-- what holds of a class where it holds of the class above holds of all
pub along_lines : (tree : ProgramTree) → IsFaultless tree → (P : ℕ → Type 0) → ((k : ℕ) → above tree k ≡ None → P k) → ((k d : ℕ) → above tree k ≡ Some d → P d → P k)
    → (k : ℕ) → P k
along_lines tree whole P first next k = by_next (above tree k) refl
  where
    climbs : (n k : ℕ) → steps_up (above tree) n k ≡ None → P k
    climbs zero k ends = absurd (none-some k (sym ends))
    climbs (suc n) k ends = by_above (above tree k) refl ends (λ d. climbs n d)
      where
        by_above : (o : Option ℕ) → above tree k ≡ o → option_and_then (λ d. steps_up (above tree) n d) o ≡ None → ((d : ℕ) → steps_up (above tree) n d ≡ None → P d) → P k
        by_above None is ends later = first k is
        by_above (Some d) is ends later = next k d is (later d ends)

    by_next : (o : Option ℕ) → above tree k ≡ o → P k
    by_next None is = first k is
    by_next (Some d) is = next k d is (climbs (length tree) d (going_ends (above tree) (length tree) (below tree) (no_circle tree whole) d (below tree k d is)))

-- ---- fields

pub field_names_append : (xs ys : List MemberTree) → field_names (xs ++ ys) ≡ field_names xs ++ field_names ys
field_names_append [] ys = refl
field_names_append (FieldM f ∷ xs) ys = ap (λ ns. f.name ∷ ns) (field_names_append xs ys)
field_names_append (CtorM n params sets ∷ xs) ys = field_names_append xs ys
field_names_append (MethodM m ∷ xs) ys = field_names_append xs ys

-- at most so many
none_there : (n : Option Name) → too_many_faults n ≡ [] → n ≡ None
none_there None h = refl
none_there (Some n) h = absurd (let e : TooMany n.at ∷ [] ≡ [] = h in cc)

pub few_names : (names : List Name) (most : ℕ) → too_many_faults (slice_get names most) ≡ [] → length names ≤ most
few_names names most none = by_order (nat_le (length names) most) refl
  where
    by_order : (b : Bool) → nat_le (length names) most ≡ b → length names ≤ most
    by_order true is = leb-true (length names) most is
    by_order false is =
        let x = get_below names most (leb-false (length names) most is) in
        absurd (none-some x.0 (sym (none_there (slice_get names most) none) ∙ x.1))

pub few_fields : (tree : ProgramTree) (k : ℕ) (c : ClassTree) → IsSound tree k c → length (field_names (all_members tree k)) ≤ most_class_fields
few_fields tree k c h = few_names (field_names (all_members tree k)) most_class_fields h.few

-- ---- methods to begin with

-- a class that counts as `implements Runnable` has a `run`
pub has_run : (tree : ProgramTree) (k : ℕ) (c : ClassTree) → IsSound tree k c → says_so tree k ≡ true → list_any (is_entry (codes "run")) (all_members tree k) ≡ true
has_run tree k c h counting = either (says_so tree k) (list_any (is_entry (codes "run")) (all_members tree k)) counting (passes (not (says_so tree k) || list_any (is_entry (codes "run")) (all_members tree k)) _ h.run)
  where
    either : (a b : Bool) → a ≡ true → (not a || b) ≡ true → b ≡ true
    either true b is h = h
    either false b is h = absurd (let e : false ≡ true = is in cc)

-- a class to begin with
pub main_class : (tree : ProgramTree) → IsFaultless tree → (k : ℕ) × (c : ClassTree) × (slice_get tree k ≡ Some c) × (is_main c.name (all_members tree k) ≡ true)
main_class tree whole = among 0 tree whole.main (λ i c at. let e : i ≡ 0 + i = omega arith in subst (λ n. slice_get tree n ≡ Some c) e at)
  where
    among : (k : ℕ) (cs : List ClassTree) → has_main tree k cs ≡ true → ((i : ℕ) (c : ClassTree) → slice_get cs i ≡ Some c → slice_get tree (k + i) ≡ Some c)
        → (k : ℕ) × (c : ClassTree) × (slice_get tree k ≡ Some c) × (is_main c.name (all_members tree k) ≡ true)
    among k [] has there = absurd (let e : false ≡ true = has in cc)
    among k (c ∷ cs) has there = by_test (is_main c.name (all_members tree k)) refl has (λ later. among (k + 1) cs later (λ i d at. let e : k + suc i ≡ k + 1 + i = omega arith in subst (λ n. slice_get tree n ≡ Some d) e (there (suc i) d at)))
      where
        by_test : (b : Bool) → is_main c.name (all_members tree k) ≡ b → (b || has_main tree (k + 1) cs) ≡ true
            → (has_main tree (k + 1) cs ≡ true → (k : ℕ) × (c : ClassTree) × (slice_get tree k ≡ Some c) × (is_main c.name (all_members tree k) ≡ true))
            → (k : ℕ) × (c : ClassTree) × (slice_get tree k ≡ Some c) × (is_main c.name (all_members tree k) ≡ true)
        by_test true is has later = let e : k + 0 ≡ k = omega arith in (k, c, subst (λ n. slice_get tree n ≡ Some c) e (there 0 c refl), is)
        by_test false is has later = later has

-- ---- overriding

no_first : {X : Type 0} (b : Bool) (x : X) (xs : List X) → (if b then x ∷ xs else xs) ≡ [] → (b ≡ false) × (xs ≡ [])
no_first true x xs h = absurd (let e : x ∷ xs ≡ [] = h in cc)
no_first false x xs h = (refl, h)

none_bad : (methods : ℕ → List Heading) (ks : List ℕ) (hs : List Heading) (i : ℕ) (h : Heading) → override_faults methods ks hs ≡ [] → slice_get hs i ≡ Some h
    → overrides_badly methods ks h ≡ false
none_bad methods ks [] i h none at = absurd (let e : None ≡ Some h = at in cc)
none_bad methods ks (g ∷ gs) zero h none at =
    subst (λ x. overrides_badly methods ks x ≡ false) (same_Some g h at) (no_first (overrides_badly methods ks g) _ (override_faults methods ks gs) none).0
none_bad methods ks (g ∷ gs) (suc i) h none at = none_bad methods ks gs i h (no_first (overrides_badly methods ks g) _ (override_faults methods ks gs) none).1 at

-- a method among members, by its heading
abbrev heading_of : ProgramTree → ℕ → MethodTree → Heading
heading_of tree k m = record { name = m.name; signature = signature_of tree k m }

headed : (tree : ProgramTree) (k : ℕ) (ms : List MemberTree) (i : ℕ) (m : MethodTree) → slice_get ms i ≡ Some (MethodM m)
    → (j : ℕ) × (slice_get (headings tree k ms) j ≡ Some (heading_of tree k m))
headed tree k [] i m at = absurd (let e : None ≡ Some (MethodM m) = at in cc)
headed tree k (FieldM f ∷ ms) zero m at = absurd (let e : Some (FieldM f) ≡ Some (MethodM m) = at in cc)
headed tree k (FieldM f ∷ ms) (suc i) m at = headed tree k ms i m at
headed tree k (CtorM n params sets ∷ ms) zero m at = absurd (let e : Some (CtorM n params sets) ≡ Some (MethodM m) = at in cc)
headed tree k (CtorM n params sets ∷ ms) (suc i) m at = headed tree k ms i m at
headed tree k (MethodM o ∷ ms) zero m at =
    let here : Some (MethodM o) ≡ Some (MethodM m) = at in
    let same : o ≡ m = cc in
    (0, ap (λ x. Some (heading_of tree k x)) same)
headed tree k (MethodM o ∷ ms) (suc i) m at = let h = headed tree k ms i m at in (suc h.0, h.1)

same_then : (a b : Bool) → a ≡ true → (a && not b) ≡ false → b ≡ true
same_then true true is h = refl
same_then true false is h = absurd (let e : true ≡ false = h in cc)
same_then false b is h = absurd (let e : false ≡ true = is in cc)

none_of : {X : Type 0} (f : X → Bool) (xs : List X) (i : ℕ) (x : X) → list_any f xs ≡ false → slice_get xs i ≡ Some x → f x ≡ false
none_of f [] i x none at = absurd (none-some x at)
none_of f (y ∷ ys) zero x none at = subst (λ z. f z ≡ false) (same_Some y x at) ((or_parts (f y) (list_any f ys) none).0)
none_of f (y ∷ ys) (suc i) x none at = none_of f ys i x ((or_parts (f y) (list_any f ys) none).1) at

-- a method of a class may override each one of its name in a class that the class inherits from
pub overriding : (tree : ProgramTree) (k : ℕ) (c : ClassTree) → IsSound tree k c → (i : ℕ) (m : MethodTree) → slice_get (members_at tree k) i ≡ Some (MethodM m)
    → (p j : ℕ) → slice_get (ancestor_classes tree k) p ≡ Some j → (q : ℕ) (n : MethodTree) → slice_get (members_at tree j) q ≡ Some (MethodM n)
    → bytes_eq m.name.text n.name.text ≡ true → may_override tree k m j n ≡ true
overriding tree k c h i m own p j inherits q n other named =
    let mine = headed tree k (members_at tree k) i m own in
    let theirs = headed tree j (members_at tree j) q n other in
    let good = none_bad (headings_at tree) (ancestor_classes tree k) (headings_at tree k) mine.0 (heading_of tree k m) h.overriding mine.1 in
    let here = none_of (λ x. list_any (clashes (heading_of tree k m)) (headings_at tree x)) (ancestor_classes tree k) p j good inherits in
    let apart = none_of (clashes (heading_of tree k m)) (headings_at tree j) theirs.0 (heading_of tree j n) here theirs.1 in
    same_then (bytes_eq m.name.text n.name.text) (is_same_signature (signature_of tree k m) (signature_of tree j n)) named apart

-- ---- where no class extends one

-- nothing is above any class
pub nothing_above : (tree : ProgramTree) → ((k : ℕ) (c : ClassTree) → slice_get tree k ≡ Some c → c.above ≡ None) → (k : ℕ) → above tree k ≡ None
nothing_above tree none k = by_class (slice_get tree k) refl
  where
    by_class : (c : Option ClassTree) → slice_get tree k ≡ c → above_in tree c ≡ None
    by_class None at = refl
    by_class (Some c) at = ap (option_and_then (λ n. class_named tree n.text)) (none k c at)

pub nothing_inherited : (tree : ProgramTree) (k : ℕ) → above tree k ≡ None → (ancestor_classes tree k ≡ []) × (inherited tree k ≡ []) × (all_members tree k ≡ members_at tree k)
nothing_inherited tree k none =
    let few = by_test (is_on_circle tree k) in
    let here : inherited tree k ≡ [] = ap (λ xs. flat_map (members_at tree) (reverse xs)) few in
    (few, here, ap (λ ms. ms ++ members_at tree k) here)
  where
    by_test : (b : Bool) → (if b then [] else ancestors_of tree k) ≡ []
    by_test true = refl
    by_test false = ap (ancestors (above tree) (length tree)) none

-- a class counts as `implements Runnable` where it says so itself, and it is on no circle
pub nothing_counts : (tree : ProgramTree) (k : ℕ) → above tree k ≡ None → (says_so tree k ≡ says_runnable tree k) × (k < length tree → is_on_circle tree k ≡ false)
nothing_counts tree k none = (
  ap (λ o. says_runnable tree k || list_any (says_runnable tree) (ancestors (above tree) (length tree) o)) none ∙ or-false (says_runnable tree k),
  λ within. by_count (length tree) within,
)
  where
    by_count : (n : ℕ) → k < n → is_circular (above tree) n k ≡ false
    by_count zero within = absurd (omega (arith, within))
    by_count (suc n) within = ap (λ o. is_some (option_and_then (λ d. steps_up (above tree) n d) o)) none
