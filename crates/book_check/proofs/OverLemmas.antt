-- Where the trees of the nearest overriding methods are at or below that of the overridden one, so are those of all that override it.
use Rattle.std.proofs.Common.{◌≡◌, ◌↔◌, ◌<◌, ◌+◌, ℕ, zero, suc, Bool, true, List, [], ◌∷◌, length, Option, Some, None, Result, Ok, Err, IfOk, refl, sym, ◌∙◌, ap, subst, arith, ◌⊎◌, inl, inr}
use Rattle.std.specs.Prelude.{Contains, slice_get}
use Rattle.std.proofs.lemmas.Bool.{and_from}
use Rattle.std.proofs.lemmas.Option.{same_Some, slice_get_within}
use Rattle.paths.specs.Paths.{PathData}
use Rattle.algebra.specs.HeldPaths.{Held, has_path}
use Rattle.conditions.specs.Conditions.{Cond, value_of}
use Rattle.core_program.specs.Core.{Method}
use Rattle.core_program.specs.Typed.{IsTyped}
use Rattle.rules.specs.Near.{AreRelevant}
use Rattle.rules.specs.Rules.{IsSubset, AtMost, held_in}
use Rattle.rules.specs.Search.{row_at}
use Rattle.rules.specs.Nearest.{LeadTo, near, further, AreNearest}
use Rattle.rules.proofs.BasicLemmas.{below_chain}
use Rattle.rules.proofs.SetLemmas.{first, second}
use Rattle.rules.proofs.Required.{required_in_rel}
use Rattle.books.specs.Books.{Line}
use Rattle.book_check.specs.declared.judge.Judge.{Judge}
use Rattle.book_check.specs.declared.overs.Overs.{Overs}
use Rattle.book_check.specs.declared.overs.Overs.TheVariants.{Below, Unknown}
use Rattle.book_check.specs.Conclusions.{tree_numbered}
use Rattle.book_check.specs.Good.{IsAntitoneValue, IsTabled, IsUnderIn}
use Rattle.book_check.specs.Judges.{judge_assignment, judge_program, judge_rel, judge_table, judge_value, number_value, numbered}
use Rattle.book_check.specs.Overs.{AreOversBelow, IsAboveNearest, AreAboveNearest, AreOvers, AreOversOf, AreOversFirst}
use Rattle.book_check.specs.Passes.{tree_numbers}
use Rattle.book_check.proofs.Admissible.{cond_is, looks_at}
use Rattle.book_check.proofs.PassLemmas.{LinesSoFar, below_or, front_of}

-- the value of a line's tree, by the tree
numbered_is : (table : List Cond) (o : Option ℕ) (H : Held) → number_value table o H ≡ value_of (numbered table o) H
numbered_is table None H = refl
numbered_is table (Some n) H = cond_is (slice_get table n) H

module _ (judge : Judge) (typed : IsTyped (judge_program judge)) (relevant : AreRelevant (judge_program judge) judge.sets.now) (rows : List (List ℕ))
    (nearest : AreNearest (judge_program judge) rows) (all : AreAboveNearest judge rows) where
  falls : (m : ℕ) (method : Method) → slice_get (judge_program judge).methods m ≡ Some method → IsAntitoneValue (judge_assignment judge m)
  falls m method is H K part =
      let o = slice_get judge.lines.now m in
      subst (λ z. AtMost z (judge_assignment judge m H)) (sym (numbered_is (judge_table judge) o K))
      (subst (λ z. AtMost (value_of (numbered (judge_table judge) o) K) z) (sym (numbered_is (judge_table judge) o H)) ((all m method is).tabled.falls H K part))

  looks : (m : ℕ) (method : Method) → slice_get (judge_program judge).methods m ≡ Some method → (H : Held) → judge_assignment judge m H ≡ judge_assignment judge m (held_in (judge_rel judge m) H)
  looks m method is H =
      let o = slice_get judge.lines.now m in
      numbered_is (judge_table judge) o H ∙ looks_at (judge_rel judge m) (numbered (judge_table judge) o) H (all m method is).tabled.relevant
      ∙ sym (numbered_is (judge_table judge) o (held_in (judge_rel judge m) H))

  -- a method of the row is below at every set that has the required paths
  listed_below : (m n : ℕ) (method : Method) → slice_get (judge_program judge).methods m ≡ Some method → Contains (row_at rows m) n → (H : Held) → IsSubset (has_path method.requires_) H →
      AtMost (judge_assignment judge n H) (judge_assignment judge m H)
  listed_below m n method is listed H has =
      let rel = judge_rel judge m in
      let K : Held = held_in rel H in
      let o = nearest.sound m n listed in
      let needs = required_in_rel (judge_program judge) judge.sets.now relevant typed m method is in
      below_chain (judge_assignment judge n H) (judge_assignment judge n K) (judge_assignment judge m H)
      (falls n o.method o.is K H (λ q e. second (has_path rel q) (H q) e))
      (subst (λ z. AtMost (judge_assignment judge n K) z) (sym (looks m method is H))
      ((all m method is).below n listed K (λ q e. first (has_path rel q) (H q) e) (λ q e. and_from (has_path rel q) (H q) (needs q e) (has q e))))

  -- the second method requires what the first does, and what is assigned to it is below what is assigned there
  record Follows (m over : ℕ) (method : Method) (H : Held) : Type 0 where
    other : Method
    is : slice_get (judge_program judge).methods over ≡ Some other
    same : other.requires_ ≡ method.requires_
    below : AtMost (judge_assignment judge over H) (judge_assignment judge m H)

  follows : (m over : ℕ) (method : Method) → slice_get (judge_program judge).methods m ≡ Some method → (H : Held) → IsSubset (has_path method.requires_) H → LeadTo rows m over → Follows m over method H
  follows m over method is H has (near listed) =
      let o = nearest.sound m over listed in
      record { other = o.method; is = o.is; same = (typed.overriding over m o.method method o o.is is).requires_; below = listed_below m over method is listed H has }
  follows m over method is H has (further middle lead listed) =
      let f = follows m middle method is H has lead in
      let o = nearest.sound middle over listed in
      record {
        other = o.method;
        is = o.is;
        same = (typed.overriding over middle o.method f.other o o.is f.is).requires_ ∙ f.same;
        below = below_chain (judge_assignment judge over H) (judge_assignment judge middle H) (judge_assignment judge m H)
            (listed_below middle over f.other f.is listed H (λ q e. has q (subst (λ ps. has_path ps q ≡ true) f.same e))) f.below;
      }

  pub all_below : AreOversBelow judge
  all_below m method is over o H within has = (follows m over method is H has (nearest.lead m over o)).below

-- one method more
pub above_more : (judge : Judge) (rows : List (List ℕ)) (m : ℕ) (method : Method) → slice_get (judge_program judge).methods m ≡ Some method → IsAboveNearest judge rows m method →
    ((k : ℕ) (other : Method) → k < m → slice_get (judge_program judge).methods k ≡ Some other → IsAboveNearest judge rows k other) →
    (k : ℕ) (other : Method) → k < m + 1 → slice_get (judge_program judge).methods k ≡ Some other → IsAboveNearest judge rows k other
above_more judge rows m method is here before k other below at = chosen (below_or k m below)
  where
    chosen : (k < m) ⊎ (k ≡ m) → IsAboveNearest judge rows k other
    chosen (inl l) = before k other l at
    chosen (inr e) =
        let same : method ≡ other = same_Some method other (sym is ∙ ap (slice_get (judge_program judge).methods) (sym e) ∙ at) in
        subst (λ j. IsAboveNearest judge rows j other) (sym e) (subst (λ x. IsAboveNearest judge rows m x) same here)

-- all of them
pub above_all : (judge : Judge) (rows : List (List ℕ)) (m : ℕ) → m ≡ length (judge_program judge).methods →
    ((k : ℕ) (other : Method) → k < m → slice_get (judge_program judge).methods k ≡ Some other → IsAboveNearest judge rows k other) → AreAboveNearest judge rows
above_all judge rows m size before k other at = before k other (let within = slice_get_within (judge_program judge).methods k other at in omega (arith, within, size)) at

number_at : (ls : List Line) (m : ℕ) (line : Line) → slice_get ls m ≡ Some line → slice_get (tree_numbers ls) m ≡ Some line.number
number_at [] m line e = absurd (let no : None ≡ Some line = e in cc)
number_at (l ∷ ls) zero line e = ap (λ x. Some x.number) (same_Some l line e)
number_at (l ∷ ls) (suc m) line e = number_at ls m line e

-- what is known of the methods is known of them with their lines
pub overs_of_lines : (judge : Judge) (lines : List Line) → judge.lines.now ≡ tree_numbers lines → (over : Overs) → AreOvers judge over → AreOversOf judge lines over
overs_of_lines judge lines numbers Below known m method line is at = λ over o.
    let here : slice_get judge.lines.now m ≡ Some line.number = ap (λ ns. slice_get ns m) numbers ∙ number_at lines m line at in
    subst (λ v. IsUnderIn (judge_rel judge m) method.requires_ (judge_assignment judge over) v) (λ i H. number_value (judge_table judge) (here i) H) (known m method is over o)
overs_of_lines judge lines numbers (Unknown rows) known m method line is at = known

pub first_overs : (judge : Judge) (lines rest : List Line) (m : ℕ) (method : Method) (over : Overs) → LinesSoFar judge lines m rest → slice_get (judge_program judge).methods m ≡ Some method →
    AreOversOf judge lines over → AreOversFirst judge m method rest over
first_overs judge lines [] m method over so_far is known = tt
first_overs judge lines (line ∷ behind) m method over so_far is known = known m method line is (front_of lines m line behind (sym so_far.at)).here

-- the tree of a method's line, by its number
pub above_of : (judge : Judge) (rows : List (List ℕ)) (m : ℕ) (method : Method) (number : ℕ) (rel required : List PathData) (overs : List ℕ) → slice_get judge.lines.now m ≡ Some number →
    IsTabled rel (tree_numbered (slice_get (judge_table judge) number)) → rel ≡ judge_rel judge m → required ≡ method.requires_ → overs ≡ row_at rows m → {E : Type 0} (r : Result Bool E) →
    IfOk r (λ b. (b ≡ true) ↔ ((n : ℕ) → Contains overs n → IsUnderIn rel required (judge_assignment judge n) (judge_value judge number))) → IfOk r (λ b. b ≡ true → IsAboveNearest judge rows m method)
above_of judge rows m method number rel required overs line tabled same_rel same_required row (Err e) test = tt
above_of judge rows m method number rel required overs line tabled same_rel same_required row (Ok b) test = λ e. record {
  tabled = subst (λ o. IsTabled (judge_rel judge m) (numbered (judge_table judge) o)) (sym line) (subst (λ ps. IsTabled ps (tree_numbered (slice_get (judge_table judge) number))) same_rel tabled);
  below = λ n has.
      subst (λ v. IsUnderIn (judge_rel judge m) method.requires_ (judge_assignment judge n) v) (λ i H. number_value (judge_table judge) (sym line i) H)
      (subst (λ ps. IsUnderIn ps method.requires_ (judge_assignment judge n) (judge_value judge number)) same_rel
      (subst (λ ps. IsUnderIn rel ps (judge_assignment judge n) (judge_value judge number)) same_required (test.0 e n (subst (λ ns. Contains ns n) (sym row) has))));
}

-- what a test tells, in other words
pub tells : {E : Type 0} (r : Result Bool E) (A B : Type 0) → (A → B) → IfOk r (λ b. b ≡ true → A) → IfOk r (λ b. b ≡ true → B)
tells (Ok b) A B goes test = λ e. goes (test e)
tells (Err e) A B goes test = tt
