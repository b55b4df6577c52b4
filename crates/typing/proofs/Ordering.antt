-- Orders in which each class comes after the one above it: how one grows by a climb, and what is known at a place of it.
use Rattle.std.proofs.Common.{◌≡◌, ◌≢◌, ◌<◌, ◌≤◌, ◌+◌, ◌-◌, ◌==◌, ◌||◌, ◌⊎◌, inl, inr, ℕ, zero, suc, Bool, true, false, List, [], ◌∷◌, ◌++◌, length, take, reverse, get_or, Option, Some, None, refl, sym, ap, subst, ◌∙◌, arith, slice_get, slice_set, replicate, unwrap_or, append_assoc, append-nil}
use Rattle.std.specs.Option.{option_and_then}
use Rattle.std.proofs.lemmas.List.{reverse-append, length-set}
use Rattle.std.proofs.lemmas.List.Folds.{list_any-append}
use Rattle.std.proofs.lemmas.Bool.{eqb-true, eq-eqb, or_right, or_cases}
use Rattle.std.proofs.lemmas.Bool.Decides.{nat_tests}
use Rattle.std.proofs.lemmas.Option.{none-some, same_Some, slice_get-get_or}
use Rattle.base.proofs.Lists.{set_other}
use Rattle.base.specs.Ancestors.{AreBelow, IsAncestor, steps_up}
use Rattle.typing.specs.Order.{stands_in, ComeAfter, IsFromAbove, is_marked, Climbs, IsClimb, IsAncestorOrder}
use Rattle.typing.proofs.Ancestry.{going}

-- ---- what stands in a list

pub stands_either : (xs ys : List ℕ) (c : ℕ) → stands_in (xs ++ ys) c ≡ (stands_in xs c || stands_in ys c)
stands_either xs ys c = list_any-append (λ x. x == c) xs ys

pub stands_left : (xs ys : List ℕ) (c : ℕ) → stands_in xs c ≡ true → stands_in (xs ++ ys) c ≡ true
stands_left xs ys c h = stands_either xs ys c ∙ ap (λ b. b || stands_in ys c) h

pub stands_right : (xs ys : List ℕ) (c : ℕ) → stands_in ys c ≡ true → stands_in (xs ++ ys) c ≡ true
stands_right xs ys c h = stands_either xs ys c ∙ or_right (stands_in xs c) (stands_in ys c) h

one_stands : (c d : ℕ) → stands_in (c ∷ []) d ≡ true → c ≡ d
one_stands c d = by_test (c == d) refl
  where
    by_test : (b : Bool) → (c == d) ≡ b → (b || false) ≡ true → c ≡ d
    by_test true same h = eqb-true c d same
    by_test false same h = absurd (let e : false ≡ true = h in cc)

itself_stands : (c : ℕ) → stands_in (c ∷ []) c ≡ true
itself_stands c = ap (λ b. b || false) (eq-eqb c c refl)

pub stands_last : (xs : List ℕ) (c : ℕ) → stands_in (xs ++ c ∷ []) c ≡ true
stands_last xs c = stands_right xs (c ∷ []) c (itself_stands c)

-- what stands in a list with one more stood there, or is that one
pub stands_before : (xs : List ℕ) (c d : ℕ) → stands_in (xs ++ c ∷ []) d ≡ true → (stands_in xs d ≡ true) ⊎ (c ≡ d)
stands_before xs c d h = elim (or_cases (stands_in xs d) (stands_in (c ∷ []) d) (sym (stands_either xs (c ∷ []) d) ∙ h)) as (λ _. (stands_in xs d ≡ true) ⊎ (c ≡ d)) [
  | inl first ↦ inl first
  | inr last ↦ inr (one_stands c d last)
]

-- ---- one more at the end

come_more : (above : ℕ → Option ℕ) (seen xs : List ℕ) (c : ℕ) → ComeAfter above seen xs → ((d : ℕ) → above c ≡ Some d → stands_in (seen ++ xs) d ≡ true) → ComeAfter above seen (xs ++ c ∷ [])
come_more above seen [] c h last = (λ d is. ap (λ z. stands_in z d) (sym (append-nil seen)) ∙ last d is, tt)
come_more above seen (x ∷ xs) c h last = (h.0, come_more above (seen ++ x ∷ []) xs c h.1 (λ d is. ap (λ z. stands_in z d) (append_assoc seen (x ∷ []) xs) ∙ last d is))

-- at a place, what is above the number there stands before
pub after_at : (above : ℕ → Option ℕ) (seen xs : List ℕ) (i c d : ℕ) → ComeAfter above seen xs → i < length xs → c ≡ get_or xs i c → above c ≡ Some d → stands_in (seen ++ take i xs) d ≡ true
after_at above seen [] i c d h within at is = absurd (omega (arith, within))
after_at above seen (x ∷ xs) zero c d h within at is = ap (λ z. stands_in z d) (append-nil seen) ∙ h.0 d (ap above (sym at) ∙ is)
after_at above seen (x ∷ xs) (suc i) c d h within at is =
    ap (λ z. stands_in z d) (sym (append_assoc seen (x ∷ []) (take i xs))) ∙ after_at above (seen ++ x ∷ []) xs i c d h.1 (omega (arith, within)) at is

pub there_at : {A : Type 0} (xs : List A) (i : ℕ) (x : A) → i < length xs → x ≡ get_or xs i x → slice_get xs i ≡ Some x
there_at xs i x within at = slice_get-get_or xs i x within ∙ ap Some (sym at)

-- what stands at a place stands in the list
pub stands_at : (xs : List ℕ) (i x : ℕ) → i < length xs → x ≡ get_or xs i x → stands_in xs x ≡ true
stands_at [] i x within at = absurd (omega (arith, within))
stands_at (y ∷ ys) zero x within at = ap (λ b. b || stands_in ys x) (eq-eqb y x (sym at))
stands_at (y ∷ ys) (suc i) x within at = or_right (y == x) (stands_in ys x) (stands_at ys i x (omega (arith, within)) at)

-- ---- marks

unmarked : (n : ℕ) (d : ℕ) → is_marked (replicate n false) d ≡ true → ⊥
unmarked zero d h = let e : false ≡ true = h in cc
unmarked (suc n) zero h = let e : false ≡ true = h in cc
unmarked (suc n) (suc d) h = unmarked n d h

-- before any class is placed
pub none_ordered : (above : ℕ → Option ℕ) (count : ℕ) (marks : List Bool) → marks ≡ replicate count false → length marks ≡ count → IsAncestorOrder above count marks []
none_ordered above count marks is many = record {
  many = many;
  marked = λ c h. absurd (unmarked count c (ap (λ z. is_marked z c) (sym is) ∙ h));
  within = λ c h. absurd (let e : false ≡ true = h in cc);
  after = tt;
}

-- one more is placed and marked, after the one above it
pub one_ordered : (above : ℕ → Option ℕ) (count : ℕ) (marks more : List Bool) (order : List ℕ) (c : ℕ) → c < length marks → more ≡ slice_set marks c true
    → ((d : ℕ) → above c ≡ Some d → stands_in order d ≡ true) → IsAncestorOrder above count marks order → IsAncestorOrder above count more (order ++ c ∷ [])
one_ordered above count marks more order c low is last h = record {
  many = ap length is ∙ length-set marks c true ∙ h.many;
  marked = λ d marked. by_same d (c == d) refl marked;
  within = λ d stands. elim (stands_before order c d stands) as (λ _. d < count) [
    | inl before ↦ h.within d before
    | inr same ↦ let many = h.many in omega (arith, low, same, many)
  ];
  after = come_more above [] order c h.after last;
}
  where
    differs : (d : ℕ) → (c == d) ≡ false → d ≢ c
    differs d other same = let e : true ≡ false = sym (eq-eqb c d (sym same)) ∙ other in cc

    by_same : (d : ℕ) (b : Bool) → (c == d) ≡ b → is_marked more d ≡ true → stands_in (order ++ c ∷ []) d ≡ true
    by_same d true same marked = stands_right order (c ∷ []) d (ap (λ b. b || false) same)
    by_same d false other marked =
        stands_left order (c ∷ []) d (h.marked d (sym (ap (λ o. unwrap_or o false) (ap (λ z. slice_get z d) is ∙ set_other marks c d true (differs d other))) ∙ marked))

-- ---- a climb

pub climbs_more : (above : ℕ → Option ℕ) (from : Option ℕ) (line : List ℕ) (c : ℕ) → Climbs above from line (Some c) → Climbs above from (line ++ c ∷ []) (above c)
climbs_more above from [] c h = (h, refl)
climbs_more above from (x ∷ line) c h = (h.0, climbs_more above (above x) line c h.1)

-- a climb that came to a number that passes, or to the top
pub climb_stopped : (above : ℕ → Option ℕ) (passes : ℕ → Bool) (class at : ℕ) (line : List ℕ) → Climbs above (Some class) line (Some at) → passes at ≡ true → IsClimb above passes class line
climb_stopped above passes class at line h stops = record { to = Some at; climbs = h; ends = λ d is. ap passes (sym (same_Some at d is)) ∙ stops }

pub climb_over : (above : ℕ → Option ℕ) (passes : ℕ → Bool) (class : ℕ) (line : List ℕ) (to : Option ℕ) → to ≡ None → Climbs above (Some class) line to → IsClimb above passes class line
climb_over above passes class line to over h = record { to = to; climbs = h; ends = λ d is. absurd (none-some d (sym over ∙ is)) }

-- without its last number it ends at that one, of which the end was above
climbs_less : (above : ℕ → Option ℕ) (from : Option ℕ) (line : List ℕ) (c : ℕ) (to : Option ℕ) → Climbs above from (line ++ c ∷ []) to → Climbs above from line (Some c) × (above c ≡ to)
climbs_less above from [] c to h = (h.0, h.1)
climbs_less above from (x ∷ line) c to h = let r = climbs_less above (above x) line c to h.1 in ((h.0, r.0), r.1)

up_first : (above : ℕ → Option ℕ) (n c d : ℕ) → above c ≡ Some d → steps_up above (suc n) c ≡ steps_up above n d
up_first above n c d is = ap (λ o. option_and_then (λ x. steps_up above n x) o) is

-- it leads as many steps up as it has numbers
climbs_up : (above : ℕ → Option ℕ) (c e : ℕ) (line : List ℕ) → Climbs above (Some c) line (Some e) → steps_up above (length line) c ≡ Some e
climbs_up above c e [] h = h
climbs_up above c e (x ∷ line) h = by_next (above x) refl h.1 (λ d k. climbs_up above d e line k)
  where
    same : x ≡ c
    same = same_Some x c (sym h.0)

    from_nothing : (ys : List ℕ) → Climbs above None ys (Some e) → ⊥
    from_nothing [] k = none-some e k
    from_nothing (y ∷ ys) k = none-some y k.0

    by_next : (o : Option ℕ) → above x ≡ o → Climbs above (above x) line (Some e) → ((d : ℕ) → Climbs above (Some d) line (Some e) → steps_up above (length line) d ≡ Some e) → steps_up above (suc (length line)) c ≡ Some e
    by_next None is k later = absurd (from_nothing line (subst (λ o. Climbs above o line (Some e)) is k))
    by_next (Some d) is k later = up_first above (length line) c d (ap above (sym same) ∙ is) ∙ later d (subst (λ o. Climbs above o line (Some e)) is k)

up_less : (above : ℕ → Option ℕ) (few more c e : ℕ) → few ≤ more → steps_up above more c ≡ Some e → (d : ℕ) × (steps_up above few c ≡ Some d)
up_less above zero more c e low h = (c, refl)
up_less above (suc few) zero c e low h = absurd (omega (arith, low))
up_less above (suc few) (suc more) c e low h = by_next (above c) refl (λ d k. up_less above few more d e (omega (arith, low)) k)
  where
    by_next : (o : Option ℕ) → above c ≡ o → ((d : ℕ) → steps_up above more d ≡ Some e → (x : ℕ) × (steps_up above few d ≡ Some x)) → (d : ℕ) × (steps_up above (suc few) c ≡ Some d)
    by_next None is later = absurd (none-some e (sym (ap (λ o. option_and_then (λ x. steps_up above more x) o) is) ∙ h))
    by_next (Some d) is later = let r = later d (sym (up_first above more c d is) ∙ h) in (r.0, up_first above few c d is ∙ r.1)

-- where no number is its own ancestor, a climb that goes on has fewer numbers than there are
pub climb_short : (above : ℕ → Option ℕ) (count : ℕ) → AreBelow above count → ((c : ℕ) → IsAncestor above c c → ⊥) → (c e : ℕ) (line : List ℕ) → c < count
    → Climbs above (Some c) line (Some e) → length line < count
climb_short above count below apart c e line low h = elim (by_size (length line) count) as (λ _. length line < count) [
  | inl small ↦ small
  | inr big ↦ absurd (let r = up_less above count (length line) c e big (climbs_up above c e line h) in none-some r.0 (sym (going above count below apart c low) ∙ r.1))
]
  where
    by_size : (n m : ℕ) → (n < m) ⊎ (m ≤ n)
    by_size zero zero = inr (omega arith)
    by_size zero (suc m) = inl (omega arith)
    by_size (suc n) zero = inr (omega arith)
    by_size (suc n) (suc m) = elim (by_size n m) as (λ _. (suc n < suc m) ⊎ (suc m ≤ suc n)) [
      | inl small ↦ inl (omega (arith, small))
      | inr big ↦ inr (omega (arith, big))
    ]

-- all numbers of a climb stand below the count
climb_within : (above : ℕ → Option ℕ) (count : ℕ) → AreBelow above count → (from : Option ℕ) (line : List ℕ) (to : Option ℕ) → ((c : ℕ) → from ≡ Some c → c < count)
    → Climbs above from line to → (c : ℕ) → stands_in line c ≡ true → c < count
climb_within above count below from [] to low h c stands = absurd (let e : false ≡ true = stands in cc)
climb_within above count below from (x ∷ line) to low h c stands = by_first (x == c) refl stands (climb_within above count below (above x) line to (λ d is. below x d is) h.1 c)
  where
    by_first : (b : Bool) → (x == c) ≡ b → (b || stands_in line c) ≡ true → (stands_in line c ≡ true → c < count) → c < count
    by_first true same k later = low c (h.0 ∙ ap Some (eqb-true x c same))
    by_first false same k later = later k

pub line_within : (above : ℕ → Option ℕ) (count size : ℕ) (passes : ℕ → Bool) (class : ℕ) (line : List ℕ) → AreBelow above count → class < count → size ≡ count
    → IsClimb above passes class line → (c : ℕ) → stands_in line c ≡ true → c < size
line_within above count size passes class line below low same climb c stands =
    let within = climb_within above count below (Some class) line climb.to (λ d is. let e = same_Some class d is in omega (arith, e, low)) climb.climbs c stands in
    omega (arith, within, same)

-- ---- the last of a climb is placed

-- an order that grows by a climb
pub record IsGrowing (above : ℕ → Option ℕ) (count class : ℕ) (marks : List Bool) (order line : List ℕ) : Type 0 where
  pub ordered : IsAncestorOrder above count marks order
  pub climb : IsClimb above (stands_in order) class line

pub grows_once : (above : ℕ → Option ℕ) (count class : ℕ) (marks more : List Bool) (order next line left : List ℕ) (c : ℕ)
    → line ≡ left ++ c ∷ [] → next ≡ order ++ c ∷ [] → more ≡ slice_set marks c true → c < length marks
    → IsGrowing above count class marks order line → IsGrowing above count class more next left
grows_once above count class marks more order next line left c line_is next_is more_is low h =
    let parts = climbs_less above (Some class) left c h.climb.to (subst (λ z. Climbs above (Some class) z h.climb.to) line_is h.climb.climbs) in
    subst (λ z. IsGrowing above count class more z left) (sym next_is) (record {
      ordered = one_ordered above count marks more order c low more_is (λ d is. h.climb.ends d (sym parts.1 ∙ is)) h.ordered;
      climb = record { to = Some c; climbs = parts.0; ends = λ d is. subst (λ x. stands_in (order ++ c ∷ []) x ≡ true) (same_Some c d is) (stands_last order c) };
    })

-- the rest of a line is within where the line was
pub rest_within : (line left : List ℕ) (c size now : ℕ) → line ≡ left ++ c ∷ [] → now ≡ size → ((d : ℕ) → stands_in line d ≡ true → d < size) → (d : ℕ) → stands_in left d ≡ true → d < now
rest_within line left c size now is same within d stands =
    let h = within d (ap (λ z. stands_in z d) is ∙ stands_left left (c ∷ []) d stands) in
    omega (arith, h, same)

pub last_within : (line left : List ℕ) (c size : ℕ) → line ≡ left ++ c ∷ [] → ((d : ℕ) → stands_in line d ≡ true → d < size) → c < size
last_within line left c size is within = within c (ap (λ z. stands_in z c) is ∙ stands_last left c)

-- what is to come is the same
pub turned : (order next line left whole : List ℕ) (c : ℕ) → line ≡ left ++ c ∷ [] → next ≡ order ++ c ∷ [] → order ++ reverse line ≡ whole → next ++ reverse left ≡ whole
turned order next line left whole c line_is next_is so =
    ap (λ z. z ++ reverse left) next_is
    ∙ append_assoc order (c ∷ []) (reverse left)
    ∙ ap (λ z. order ++ z) (sym (reverse-append left (c ∷ [])))
    ∙ ap (λ z. order ++ reverse z) (sym line_is)
    ∙ so

-- what stands in a list stands in it turned round
turned_stands : (xs : List ℕ) (c : ℕ) → stands_in xs c ≡ true → stands_in (reverse xs) c ≡ true
turned_stands [] c h = h
turned_stands (x ∷ xs) c h = by_first (x == c) refl h (turned_stands xs c)
  where
    by_first : (b : Bool) → (x == c) ≡ b → (b || stands_in xs c) ≡ true → (stands_in xs c ≡ true → stands_in (reverse xs) c ≡ true) → stands_in (reverse (x ∷ xs)) c ≡ true
    by_first true same k later = ap (λ z. stands_in z c) (reverse-append (x ∷ []) xs) ∙ stands_right (reverse xs) (x ∷ []) c (ap (λ b. b || false) same)
    by_first false same k later = ap (λ z. stands_in z c) (reverse-append (x ∷ []) xs) ∙ stands_left (reverse xs) (x ∷ []) c (later k)

-- the class where a climb begins is placed then
pub class_stands : (above : ℕ → Option ℕ) (order next line : List ℕ) (class : ℕ) → IsClimb above (stands_in order) class line → next ≡ order ++ reverse line → stands_in next class ≡ true
class_stands above order next [] class climb is =
    ap (λ z. stands_in z class) (is ∙ append-nil order) ∙ climb.ends class (sym climb.climbs)
class_stands above order next (x ∷ line) class climb is =
    ap (λ z. stands_in z class) is
    ∙ stands_right order (reverse (x ∷ line)) class (turned_stands (x ∷ line) class (ap (λ b. b || stands_in line class) (eq-eqb x class (same_Some x class (sym climb.climbs.0)))))

-- marked numbers stand in the order
pub climb_placed : (above : ℕ → Option ℕ) (count class : ℕ) (marks : List Bool) (order line : List ℕ) → IsAncestorOrder above count marks order → IsClimb above (is_marked marks) class line → IsClimb above (stands_in order) class line
climb_placed above count class marks order line ordered climb = record { to = climb.to; climbs = climb.climbs; ends = λ d is. ordered.marked d (climb.ends d is) }

-- ---- all classes

-- the classes up to one are placed
pub more_placed : (before now : List ℕ) (number next class : ℕ) → ((c : ℕ) → c < number → stands_in before c ≡ true) → ((c : ℕ) → stands_in before c ≡ true → stands_in now c ≡ true)
    → stands_in now class ≡ true → class ≡ number → next ≡ number + 1 → (c : ℕ) → c < next → stands_in now c ≡ true
more_placed before now number next class all kept one is counted c low = by_same (c == number) refl
  where
    smaller : (c == number) ≡ false → c < number
    smaller other = by_order c number (omega (arith, low, counted)) other
      where
        by_order : (a b : ℕ) → a ≤ b → (a == b) ≡ false → a < b
        by_order a b le ne = grind (arith, nat_tests)

    by_same : (b : Bool) → (c == number) ≡ b → stands_in now c ≡ true
    by_same true same = ap (stands_in now) (eqb-true c number same ∙ sym is) ∙ one
    by_same false other = kept c (all c (smaller other))

pub all_placed : (above : ℕ → Option ℕ) (count number : ℕ) (marks : List Bool) (order : List ℕ) → IsAncestorOrder above count marks order → ((c : ℕ) → c < number → stands_in order c ≡ true) → count ≤ number → IsFromAbove above count order
all_placed above count number marks order ordered all enough = record {
  all = λ c low. all c (omega (arith, low, enough));
  within = ordered.within;
  after = ordered.after;
}
