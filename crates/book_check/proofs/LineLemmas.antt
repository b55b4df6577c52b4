-- What a method line's tree is tested for.
use Rattle.std.proofs.Common.{◌≡◌, ◌&&◌, ◌||◌, ◌↔◌, ℕ, ◌+◌, ◌<◌, ◌≤◌, Bool, true, false, List, [], ◌∷◌, length, take, get_or, Result, Ok, Err, IfOk, if◌then◌else◌, refl, sym, ◌∙◌, ap, subst, inl, inr}
use Rattle.std.specs.Prelude.{Contains}
use Rattle.std.proofs.lemmas.List.{take_more, take_all}
use Rattle.std.proofs.lemmas.List.Elements.{Contains-push_cases}
use Rattle.std.proofs.lemmas.Bool.{and_from, and_parts}
use Rattle.std.specs.List.{list_all}
use Rattle.paths.specs.Paths.{PathData, path_eq}
use Rattle.paths.proofs.PathOrder.{eq_is, eq_itself}
use Rattle.algebra.specs.declared.basic.Basic.{Basic}
use Rattle.algebra.specs.declared.basic.Basic.TheVariants.{Error}
use Rattle.algebra.specs.HeldPaths.{Held, has_path}
use Rattle.core_program.specs.Core.{Program}
use Rattle.core_program.specs.Dispatch.{Overrides}
use Rattle.rules.specs.Effect.{Assignment}
use Rattle.rules.specs.Overriding.{AreOverriders}
use Rattle.rules.specs.Search.{row_at}
use Rattle.effects.specs.Rules.{Value}
use Rattle.conditions.specs.Conditions.{Cond, LeafC, TestC, value_of, IsCanonical}
use Rattle.conditions.proofs.PathLemmas.{put}
use Rattle.conditions.proofs.NodeLemmas.{parts-test, parts-high, parts-low}
use Rattle.rules.specs.Rules.{IsSubset, AtMost, held_in}
use Rattle.rules.proofs.BasicLemmas.{below_itself, below_chain, below_error}
use Rattle.rules.proofs.SetLemmas.{held_whole}
use Rattle.book_check.specs.Good.{IsAntitoneValue, IsUnder, IsUnderIn, IsTabled}
use Rattle.book_check.specs.Conclusions.{tests_only}

pub falls_leaf : (b : Basic) → IsAntitoneValue (value_of (LeafC b))
falls_leaf b = λ H K part. below_itself b

falls_if : (p q : Bool) (a b c d : Basic) → (p ≡ true → q ≡ true) → AtMost c a → AtMost d b → AtMost c d → AtMost (if q then c else d) (if p then a else b)
falls_if true true a b c d part first second here = first
falls_if true false a b c d part first second here = absurd (let no : false ≡ true = part refl in cc)
falls_if false true a b c d part first second here = below_chain c d b here second
falls_if false false a b c d part first second here = second

both_parts : (a b c : Bool) → (a && (b && c)) ≡ true → (a ≡ true) × (b ≡ true) × (c ≡ true)
both_parts true true true e = (refl, refl, refl)
both_parts true true false e = absurd (cc)
both_parts true false c e = absurd (cc)
both_parts false b c e = absurd (cc)

all_true : (a b c : Bool) → a ≡ true → b ≡ true → c ≡ true → (a && (b && c)) ≡ true
all_true a b c p q r = rw (p, q, r) refl

put_part : (p : PathData) (v : Bool) (H K : Held) → IsSubset H K → IsSubset (put p v H) (put p v K)
put_part p v H K part = λ q e. chosen q (path_eq p q) e
  where
    chosen : (q : PathData) (b : Bool) → (if b then v else H q) ≡ true → (if b then v else K q) ≡ true
    chosen q true e = e
    chosen q false e = part q e

put_more : (p : PathData) (H : Held) → IsSubset (put p false H) (put p true H)
put_more p H = λ q e. chosen (H q) (path_eq p q) e
  where
    chosen : (h b : Bool) → (if b then false else h) ≡ true → (if b then true else h) ≡ true
    chosen h true e = refl
    chosen h false e = e

pub falls_test : (p : PathData) (a b : Cond) (here held free : Bool) → IsCanonical (TestC p a b) → (here ≡ true) ↔ ((H : Held) → AtMost (value_of a H) (value_of b H)) →
    (held ≡ true) ↔ IsAntitoneValue (value_of a) → (free ≡ true) ↔ IsAntitoneValue (value_of b) → ((here && (held && free)) ≡ true) ↔ IsAntitoneValue (value_of (TestC p a b))
falls_test p a b here held free is below first second =
    let parts = parts-test p a b is in (
      (λ e. let all = both_parts here held free e in
          λ H K part. falls_if (H p) (K p) (value_of a H) (value_of b H) (value_of a K) (value_of b K) (part p) (first.0 all.1 H K part) (second.0 all.2 H K part) (below.0 all.0 K)),
      (λ falls. all_true here held free
          (below.1 (λ H. subst (λ z. AtMost z (value_of b H)) (parts-high p (TestC p a b) a b parts H)
          (subst (λ z. AtMost (value_of (TestC p a b) (put p true H)) z) (parts-low p (TestC p a b) a b parts H) (falls (put p false H) (put p true H) (put_more p H)))))
          (first.1 (λ H K part. subst (λ z. AtMost z (value_of a H)) (parts-high p (TestC p a b) a b parts K)
          (subst (λ z. AtMost (value_of (TestC p a b) (put p true K)) z) (parts-high p (TestC p a b) a b parts H) (falls (put p true H) (put p true K) (put_part p true H K part)))))
          (second.1 (λ H K part. subst (λ z. AtMost z (value_of b H)) (parts-low p (TestC p a b) a b parts K)
          (subst (λ z. AtMost (value_of (TestC p a b) (put p false K)) z) (parts-low p (TestC p a b) a b parts H) (falls (put p false H) (put p false K) (put_part p false H K part)))))),
    )

-- the required paths are held
all_held : (H : Held) (qs : List PathData) → IsSubset (has_path qs) H → list_all H qs ≡ true
all_held H [] part = refl
all_held H (q ∷ qs) part =
    let here : H q ≡ true = part q (ap (λ b. b || has_path qs q) (eq_itself q)) in
    let rest : list_all H qs ≡ true = all_held H qs (λ r e. part r (later (path_eq q r) (has_path qs r) e)) in
    rw (here, rest) refl
  where
    later : (a b : Bool) → b ≡ true → (a || b) ≡ true
    later true b e = refl
    later false b e = e

held_all : (H : Held) (qs : List PathData) → list_all H qs ≡ true → IsSubset (has_path qs) H
held_all H [] all = λ r e. absurd (let no : false ≡ true = e in cc)
held_all H (q ∷ qs) all =
    let others = held_all H qs (rest (H q) (list_all H qs) all) in
    λ r e. chosen others r (path_eq q r) refl e
  where
    first : (a b : Bool) → (a && b) ≡ true → a ≡ true
    first true b e = refl
    first false b e = absurd (cc)

    rest : (a b : Bool) → (a && b) ≡ true → b ≡ true
    rest true b e = e
    rest false b e = absurd (cc)

    chosen : IsSubset (has_path qs) H → (r : PathData) (b : Bool) → path_eq q r ≡ b → (b || has_path qs r) ≡ true → H r ≡ true
    chosen others r true same e = subst (λ z. H z ≡ true) (eq_is q r same) (first (H q) (list_all H qs) all)
    chosen others r false same e = others r e

under_if : (b : Bool) (x y : Basic) → (b ≡ true → AtMost x y) → AtMost x (if b then y else Error)
under_if true x y h = h refl
under_if false x y h = below_error x

-- at or below a value that is an error where a required path isn't held
pub under_is : (required : List PathData) (x y z w u : Held → Basic) → ((H : Held) → x H ≡ w H) → ((H : Held) → y H ≡ (if list_all H required then z H else Error)) → ((H : Held) → z H ≡ u H) →
    ((H : Held) → AtMost (x H) (y H)) ↔ IsUnder required w u
under_is required x y z w u body own same = (
  (λ all H part. subst (λ v. AtMost (w H) v) (own H ∙ ap (λ b. if b then z H else Error) (all_held H required part) ∙ same H) (subst (λ v. AtMost v (y H)) (body H) (all H))),
  (λ under H. subst (λ v. AtMost v (y H)) (sym (body H)) (subst (λ v. AtMost (w H) v) (sym (own H))
      (under_if (list_all H required) (w H) (z H) (λ e. subst (λ v. AtMost (w H) v) (sym (same H)) (under H (held_all H required e)))))),
)

-- at or below a value at each part of some paths, where it is an error if a required path isn't held
pub under_in_is : (rel required : List PathData) (x y z w u : Held → Basic) → ((H : Held) → x H ≡ w (held_in rel H)) → ((H : Held) → y H ≡ (if list_all (held_in rel H) required then z (held_in rel H) else Error)) → ((H : Held) → z H ≡ u H) →
    ((H : Held) → AtMost (x H) (y H)) ↔ IsUnderIn rel required w u
under_in_is rel required x y z w u over own same = (
  (λ all H part has.
      let K = held_in rel H in
      let all_there = all_held K required (λ q e. and_from (has_path rel q) (H q) (part q (has q e)) (has q e)) in
      subst (λ L. AtMost (w L) (u L)) (held_whole rel H part)
      (subst (λ v. AtMost (w K) v) (own H ∙ ap (λ b. if b then z K else Error) all_there ∙ same K) (subst (λ v. AtMost v (y H)) (over H) (all H)))),
  (λ under H.
      let K = held_in rel H in
      subst (λ v. AtMost v (y H)) (sym (over H)) (subst (λ v. AtMost (w K) v) (sym (own H))
      (under_if (list_all K required) (w K) (z K) (λ e. subst (λ v. AtMost (w K) v) (sym (same K))
      (under K (λ q has. (and_parts (has_path rel q) (H q) has).0) (held_all K required e)))))),
)

-- a tree that tests relevant paths only is a method's tree where it falls
pub tabled_by : (b : Bool) (rel : List PathData) (t : Cond) (relevant : Bool) → relevant ≡ tests_only rel t → relevant ≡ true → (b ≡ true) ↔ IsAntitoneValue (value_of t) → (b ≡ true) ↔ IsTabled rel t
tabled_by b rel t relevant is holds test = (
  (λ e. record { relevant = sym is ∙ holds; falls = test.0 e }),
  (λ tabled. test.1 tabled.falls),
)

-- and one that tests others is none
pub not_tabled : (rel : List PathData) (t : Cond) (relevant : Bool) → relevant ≡ tests_only rel t → relevant ≡ false → (false ≡ true) ↔ IsTabled rel t
not_tabled rel t relevant is fails = (
  (λ e. absurd (let wrong : false ≡ true = e in cc)),
  (λ tabled. sym fails ∙ is ∙ tabled.relevant),
)

-- Of what holds of each of some methods.

-- one method more
pub each_more : (G : ℕ → Type 0) (ns : List ℕ) (i n : ℕ) → i < length ns → n ≡ get_or ns i n → ((m : ℕ) → Contains (take i ns) m → G m) → G n → (m : ℕ) → Contains (take (i + 1) ns) m → G m
each_more G ns i n below is before here m has = elim (Contains-push_cases (take i ns) (get_or ns i n) m (subst (λ xs. Contains xs m) (take_more ns i n below) has)) as (λ _. G m) [
  | inl earlier ↦ before m earlier
  | inr same ↦ subst G (is ∙ same) here
]

-- all of them
pub each_all : (G : ℕ → Type 0) (ns : List ℕ) (i : ℕ) → length ns ≤ i → ((m : ℕ) → Contains (take i ns) m → G m) → (m : ℕ) → Contains ns m → G m
each_all G ns i past all m has = all m (subst (λ xs. Contains xs m) (sym (take_all i ns past)) has)

-- of the methods of its row, or of those that override it
pub overs_below : (P : Program) (rows : List (List ℕ)) → AreOverriders P rows → (m : ℕ) (overs : List ℕ) (rel rel_read required required_read : List PathData) (A : Assignment) (own : Value) →
    overs ≡ row_at rows m → rel_read ≡ rel → required_read ≡ required →
    ((n : ℕ) → Contains overs n → IsUnderIn rel_read required_read (A n) own) ↔ ((n : ℕ) → Overrides P n m → IsUnderIn rel required (A n) own)
overs_below P rows overriders m overs rel rel_read required required_read A own is same_rel same_required = (
  (λ all n o. subst (λ r. IsUnderIn rel r (A n) own) same_required (subst (λ r. IsUnderIn r required_read (A n) own) same_rel (all n (subst (λ ns. Contains ns n) (sym is) ((overriders m n).1 o))))),
  (λ below n has. subst (λ r. IsUnderIn rel_read r (A n) own) (sym same_required) (subst (λ r. IsUnderIn r required (A n) own) (sym same_rel) (below n ((overriders m n).0 (subst (λ ns. Contains ns n) is has))))),
)

-- a test, in other words
pub ok_iff : {E : Type 0} (r : Result Bool E) (A B : Type 0) → A ↔ B → IfOk r (λ b. (b ≡ true) ↔ A) → IfOk r (λ b. (b ≡ true) ↔ B)
ok_iff (Ok b) A B same test = ((λ e. same.0 (test.0 e)), (λ x. test.1 (same.1 x)))
ok_iff (Err e) A B same test = tt
