-- What is said of the methods of a list, joined with a basic, up to so much.
use Rattle.std.proofs.Common.{◌≡◌, ℕ, zero, suc, ◌+◌, ◌<◌, ◌≤◌, ◌&&◌, Bool, true, List, [], ◌∷◌, drop, get_or, length, slice_get, refl, sym, ap, subst, ◌∙◌, arith}
use Rattle.std.specs.Prelude.{Option, Some, None, IfSome, MatchOption}
use Rattle.std.specs.List.{AllByRecursion}
use Rattle.std.proofs.lemmas.Bool.{or_left, or_right}
use Rattle.base.proofs.Lists.{next_drop}
use Rattle.paths.specs.Paths.{PathData, path_eq}
use Rattle.paths.proofs.PathOrder.{eq_itself}
use Rattle.algebra.specs.declared.basic.Basic.{Basic}
use Rattle.algebra.specs.Basics.{below_of, join_of}
use Rattle.algebra.specs.HeldPaths.{Held, has_path}
use Rattle.algebra.specs.Tables.{half_table}
use Rattle.core_program.specs.Core.{Program}
use Rattle.rules.specs.Overriding.{AreOverriders}
use Rattle.rules.specs.Effect.{Assignment}
use Rattle.rules.specs.Rules.{AtMost, held_in}
use Rattle.rules.specs.Search.{row_at}
use Rattle.rules.proofs.BasicLemmas.{below_chain, both_below}
use Rattle.refutation.specs.Lines.{joined_over, body_effect, certified_effect}
use Rattle.refutation.specs.Tables.{table_entry, said_by}
use Rattle.refutation.proofs.RowLemmas.{run_is}
use Rattle.refutation.proofs.Sets.{join_least, join_first, join_assoc, join_const}

-- What is said at a set is said at those of its paths that are relevant.

had_later : (p : PathData) (rel ps : List PathData) → AllByRecursion (λ q. has_path rel q ≡ true) ps → AllByRecursion (λ q. has_path (p ∷ rel) q ≡ true) ps
had_later p rel [] all = tt
had_later p rel (q ∷ ps) all = (or_right (path_eq p q) (has_path rel q) all.0, had_later p rel ps all.1)

all_had : (rel : List PathData) → AllByRecursion (λ q. has_path rel q ≡ true) rel
all_had [] = tt
all_had (p ∷ ps) = (or_left (path_eq p p) (has_path ps p) (eq_itself p), had_later p ps ps (all_had ps))

entry_in : (rel ps : List PathData) (table : List Basic) (H : Held) → AllByRecursion (λ q. has_path rel q ≡ true) ps → table_entry ps table (held_in rel H) ≡ table_entry ps table H
entry_in rel [] table H all = refl
entry_in rel (p ∷ ps) table H all =
    let same : held_in rel H p ≡ H p = ap (λ b. b && H p) all.0 in
    ap (λ b. table_entry ps (half_table b table) (held_in rel H)) same ∙ entry_in rel ps (half_table (H p) table) H all.1

pub said_in : (rel : ℕ → List PathData) (tables : List (List Basic)) (m : ℕ) (H : Held) → said_by rel tables m (held_in (rel m) H) ≡ said_by rel tables m H
said_in rel tables m H = entry_in (rel m) (rel m) (row_at tables m) H (all_had (rel m))

-- The methods of a list, one after the other.

-- what is joined so far is at least the first basic, and with that of the rest it is that of all
pub record JoinedSoFar (rel : ℕ → List PathData) (A : Assignment) (ms : List ℕ) (H : Held) (first so_far : Basic) (i : ℕ) : Type 0 where
  pub above : AtMost first so_far
  pub whole : join_of so_far (joined_over rel A (drop i ms) H) ≡ join_of first (joined_over rel A ms H)

-- one method more
pub joined_more : (rel : ℕ → List PathData) (tables : List (List Basic)) (ms : List ℕ) (H : Held) (first so_far there now : Basic) (i m : ℕ) → i < length ms → m ≡ get_or ms i m → there ≡ said_by rel tables m H → now ≡ join_of so_far there
    → JoinedSoFar rel (said_by rel tables) ms H first so_far i → JoinedSoFar rel (said_by rel tables) ms H first now (i + 1)
joined_more rel tables ms H first so_far there now i m below is said joined so =
    let A = said_by rel tables in
    let rest = joined_over rel A (drop (i + 1) ms) H in
    let one : there ≡ A m (held_in (rel m) H) = said ∙ sym (said_in rel tables m H) in
    record {
      above = subst (AtMost first) (sym joined) (below_chain first so_far (join_of so_far there) so.above (join_first so_far there));
      whole = (λ k. join_of (joined k) rest) ∙ join_assoc so_far there rest ∙ ap (λ b. join_of so_far (join_of b rest)) one
          ∙ ap (λ ns. join_of so_far (joined_over rel A ns H)) (sym (next_drop ms i m below is)) ∙ so.whole;
    }

module _ (rel : ℕ → List PathData) (A : Assignment) (ms : List ℕ) (H : Held) (first so_far : Basic) (i : ℕ) (so : JoinedSoFar rel A ms H first so_far i) where
  joined_low : AtMost so_far (join_of first (joined_over rel A ms H))
  joined_low = subst (AtMost so_far) so.whole (join_first so_far (joined_over rel A (drop i ms) H))

  -- what is at least all that is said comes to no more
  pub joined_enough : (enough : Basic) → AtMost enough so_far → AtMost (joined_over rel A ms H) enough → so_far ≡ join_of first (joined_over rel A ms H)
  joined_enough enough high low = both_below so_far (join_of first (joined_over rel A ms H)) joined_low
      (join_least first (joined_over rel A ms H) so_far so.above (below_chain (joined_over rel A ms H) enough so_far low high))

  -- what is reached so far is reached by all
  pub joined_reaches : (enough : Basic) → AtMost enough so_far → below_of enough so_far ≡ below_of enough (join_of first (joined_over rel A ms H))
  joined_reaches enough high = high ∙ sym (below_chain enough so_far (join_of first (joined_over rel A ms H)) high joined_low)

  pub joined_all : length ms ≤ i → so_far ≡ join_of first (joined_over rel A ms H)
  joined_all past = sym (join_const so_far) ∙ ap (λ ns. join_of so_far (joined_over rel A ns H)) (sym (none ms i past)) ∙ so.whole
    where
      none : (xs : List ℕ) (k : ℕ) → length xs ≤ k → drop k xs ≡ []
      none [] zero h = refl
      none [] (suc k) h = refl
      none (x ∷ xs) zero h = absurd (omega (arith, h))
      none (x ∷ xs) (suc k) h = none xs k (omega (arith, h))

-- A body, and what is said of the methods that override.

pub run_with : (P : Program) (rel : ℕ → List PathData) (A : Assignment) (H : Held) (rows : List (List ℕ)) (m : ℕ) (ms : List ℕ) (body : Basic) → AreOverriders P rows → ms ≡ row_at rows m → body ≡ body_effect P rel A (slice_get P.methods m) H
    → join_of body (joined_over rel A ms H) ≡ certified_effect P rel A m H
run_with P rel A H rows m ms body are row is = run_is P rel A H rows m ms body (joined_over rel A ms H) (join_of body (joined_over rel A ms H)) are row is refl refl

-- what a body reaches, a call of its method does
pub body_reaches : (P : Program) (rel : ℕ → List PathData) (A : Assignment) (m : ℕ) (H : Held) (found body : Basic) → body ≡ body_effect P rel A (slice_get P.methods m) H → AtMost found body → true ≡ below_of found (certified_effect P rel A m H)
body_reaches P rel A m H found body is low = sym (below_chain found (body_effect P rel A (slice_get P.methods m) H) (certified_effect P rel A m H) (subst (AtMost found) is low) (join_first _ _))

-- What is told of a line that was looked at.

pub told_is : (o : Option Bool) (b x : Bool) → o ≡ Some b → IfSome o (λ b. b ≡ x) → b ≡ x
told_is o b x is told = subst (λ y. IfSome y (λ b. b ≡ x)) is told

-- the work that it took, and that too little was left
pub told_spent : (less spent : Type 0) (o : Option Bool) (b : Bool) → o ≡ Some b → MatchOption o less (λ _. spent) → spent
told_spent less spent o b is told = subst (λ x. MatchOption x less (λ _. spent)) is told

pub told_none : (less spent : Type 0) (o : Option Bool) → o ≡ None → MatchOption o less (λ _. spent) → less
told_none less spent o is told = subst (λ x. MatchOption x less (λ _. spent)) is told
