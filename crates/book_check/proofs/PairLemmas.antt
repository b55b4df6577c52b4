-- A sequence is at most a value exactly where each two of its parts are, one after the other.
use Rattle.std.proofs.Common.{◌≡◌, ℕ, ◌↔◌, ◌&&◌, Bool, true, false, List, [], ◌∷◌, Some, Result, Ok, Err, IfOk, refl, sym, ◌∙◌, ap, subst, map, length, arith, slice_get}
use Rattle.std.proofs.lemmas.Bool.{and_from, and_parts}
use Rattle.algebra.specs.declared.basic.Basic.{Basic}
use Rattle.algebra.specs.declared.basic.Basic.TheVariants.{Const, Mover, Atomic, Cmpd, Error}
use Rattle.algebra.specs.Basics.{below_of, join_of, seq_of, star_of}
use Rattle.algebra.specs.HeldPaths.{Held}
use Rattle.conditions.specs.Conditions.{Cond, LeafC, value_of}
use Rattle.rules.specs.Rules.{AtMost}
use Rattle.rules.proofs.BasicLemmas.{every, implies, follows, each}
use Rattle.std.specs.List.{list_all}
use Rattle.core_program.specs.Core.{Program}
use Rattle.core_program.specs.declared.tree.CoreStmt.{CoreStmt}
use Rattle.core_program.specs.Views.{stmt_of, stmts_from}
use Rattle.effects.specs.Rules.{Value, in_sequence, block_value, choice_value, loop_value}
use Rattle.book_check.specs.Conclusions.{tree_value, table_value}
use Rattle.algebra.proofs.Sequences.{unit_after}
use Rattle.book_check.specs.Blocks.{keeps_paths}
use Rattle.book_check.proofs.BlockLemmas.{Same, kept_set}
use Rattle.book_check.specs.Pairs.{IsPairBelow, ArePairsBelow, IsSequenceBelow}

pub leaves_decide : (t u d : Cond) (x y z both : Basic) (b : Bool) → t ≡ LeafC x → u ≡ LeafC y → d ≡ LeafC z → both ≡ seq_of x y → b ≡ below_of both z →
    (b ≡ true) ↔ IsPairBelow (value_of t) (value_of u) (value_of d)
leaves_decide t u d x y z both b is_t is_u is_d together test =
    let same : (H : Held) → below_of (seq_of (value_of t H) (value_of u H)) (value_of d H) ≡ b =
    λ H. (λ i. below_of (seq_of (value_of (is_t i) H) (value_of (is_u i) H)) (value_of (is_d i) H)) ∙ ap (λ k. below_of k z) (sym together) ∙ sym test in
    ((λ e H. same H ∙ e), (λ all. sym (same (λ q. false)) ∙ all (λ q. false)))

four : (p : Basic → Basic → Basic → Basic → Bool) → every (λ a. every (λ b. every (λ c. every (λ d. p a b c d)))) ≡ true → (a b c d : Basic) → p a b c d ≡ true
four p all a b c d =
    each (p a b c) (each (λ c. every (λ d. p a b c d)) (each (λ b. every (λ c. every (λ d. p a b c d))) (each (λ a. every (λ b. every (λ c. every (λ d. p a b c d)))) all a) b) c) d

-- of three parts in sequence, each two are at most what all are
first_two : (a b c d : Basic) → AtMost (seq_of a (seq_of b c)) d → AtMost (seq_of a b) d
first_two a b c d = follows _ _ (four (λ a b c d. implies (below_of (seq_of a (seq_of b c)) d) (below_of (seq_of a b) d)) refl a b c d)

outer_two : (a b c d : Basic) → AtMost (seq_of a (seq_of b c)) d → AtMost (seq_of a c) d
outer_two a b c d = follows _ _ (four (λ a b c d. implies (below_of (seq_of a (seq_of b c)) d) (below_of (seq_of a c) d)) refl a b c d)

last_two : (a b c d : Basic) → AtMost (seq_of a (seq_of b c)) d → AtMost (seq_of b c) d
last_two a b c d = follows _ _ (four (λ a b c d. implies (below_of (seq_of a (seq_of b c)) d) (below_of (seq_of b c) d)) refl a b c d)

-- and where each two are, all are
all_three : (a b c d : Basic) → AtMost (seq_of a b) d → AtMost (seq_of a c) d → AtMost (seq_of b c) d → AtMost (seq_of a (seq_of b c)) d
all_three a b c d first outer last =
    follows _ _ (follows _ _ (follows _ _ (four (λ a b c d. implies (below_of (seq_of a b) d) (implies (below_of (seq_of a c) d) (implies (below_of (seq_of b c) d) (below_of (seq_of a (seq_of b c)) d))))
    refl a b c d) first) outer) last

turned : (a b c d : Basic) → AtMost (seq_of (seq_of a b) c) d → AtMost (seq_of a (seq_of b c)) d
turned a b c d = follows _ _ (four (λ a b c d. implies (below_of (seq_of (seq_of a b) c) d) (below_of (seq_of a (seq_of b c)) d)) refl a b c d)

turned_back : (a b c d : Basic) → AtMost (seq_of a (seq_of b c)) d → AtMost (seq_of (seq_of a b) c) d
turned_back a b c d = follows _ _ (four (λ a b c d. implies (below_of (seq_of a (seq_of b c)) d) (below_of (seq_of (seq_of a b) c) d)) refl a b c d)

alone : (a b d : Basic) → AtMost (seq_of a b) d → AtMost (seq_of a Const) d
alone a b d = follows _ _ (four (λ a b c d. implies (below_of (seq_of a b) d) (below_of (seq_of a Const) d)) refl a b b d)

pairs_down : (v d : Value) (ws : List Value) → ((H : Held) → AtMost (seq_of (v H) (in_sequence ws H)) (d H)) → ArePairsBelow v ws d
pairs_down v d [] all = tt
pairs_down v d (w ∷ ws) all = ((λ H. first_two (v H) (w H) (in_sequence ws H) (d H) (all H)), pairs_down v d ws (λ H. outer_two (v H) (w H) (in_sequence ws H) (d H) (all H)))

pairs_up : (v l d : Value) (ws : List Value) → ArePairsBelow v ws d → IsPairBelow v l d → IsSequenceBelow ws l d → (H : Held) → AtMost (seq_of (v H) (in_sequence ws H)) (d H)
pairs_up v l d [] pairs end rest H = alone (v H) (l H) (d H) (end H)
pairs_up v l d (w ∷ ws) pairs end rest H =
    let here = turned (w H) (in_sequence ws H) (l H) (d H) (rest H) in
    all_three (v H) (w H) (in_sequence ws H) (d H) (pairs.0 H)
    (pairs_up v l d ws pairs.1 end (λ K. last_two (w K) (in_sequence ws K) (l K) (d K) (turned (w K) (in_sequence ws K) (l K) (d K) (rest K))) H)
    (first_two (w H) (in_sequence ws H) (l H) (d H) here)

-- a part before others
sequence_down : (v l d : Value) (ws : List Value) → IsSequenceBelow (v ∷ ws) l d → ArePairsBelow v ws d × IsPairBelow v l d × IsSequenceBelow ws l d
sequence_down v l d ws all =
    let whole : (H : Held) → AtMost (seq_of (v H) (seq_of (in_sequence ws H) (l H))) (d H) = λ H. turned (v H) (in_sequence ws H) (l H) (d H) (all H) in (
      pairs_down v d ws (λ H. first_two (v H) (in_sequence ws H) (l H) (d H) (whole H)),
      (λ H. outer_two (v H) (in_sequence ws H) (l H) (d H) (whole H)),
      (λ H. last_two (v H) (in_sequence ws H) (l H) (d H) (whole H)),
    )

sequence_up : (v l d : Value) (ws : List Value) → ArePairsBelow v ws d → IsPairBelow v l d → IsSequenceBelow ws l d → IsSequenceBelow (v ∷ ws) l d
sequence_up v l d ws pairs end rest = λ H.
    turned_back (v H) (in_sequence ws H) (l H) (d H)
    (all_three (v H) (in_sequence ws H) (l H) (d H) (pairs_up v l d ws pairs end rest H) (end H) (rest H))

pair_same : (x w y d : Value) → Same x w → IsPairBelow x y d → IsPairBelow w y d
pair_same x w y d same below = λ H. subst (λ z. AtMost (seq_of z (y H)) (d H)) (same H) (below H)

pair_same_second : (v x w d : Value) → Same x w → IsPairBelow v x d → IsPairBelow v w d
pair_same_second v x w d same below = λ H. subst (λ z. AtMost (seq_of (v H) z) (d H)) (same H) (below H)

pairs_same : (x w d : Value) (ws : List Value) → Same x w → ArePairsBelow x ws d → ArePairsBelow w ws d
pairs_same x w d [] same below = tt
pairs_same x w d (y ∷ ws) same below = (pair_same x w y d same below.0, pairs_same x w d ws same below.1)

back : (x w : Value) → Same x w → Same w x
back x w same = λ H. sym (same H)

no_test : (b : Bool) (A : Type 0) → b ≡ false → (b ≡ true) ↔ A → A → ⊥
no_test b A fails test a = absurd (let wrong : false ≡ true = sym fails ∙ test.1 a in cc)

pub tabled_same : (table : List Cond) (n : ℕ) (t : Cond) → slice_get table n ≡ Some t → (H : Held) → value_of t H ≡ table_value table n H
tabled_same table n t is H = sym (ap (λ o. tree_value o H) is)

-- a loop over parts, of which those before are at most the bound with the first value: what is left decides
pub pairs_kept : (V : ℕ → Value) (rest others : List ℕ) (n : ℕ) (v d x : Value) (A : Type 0) (b : Bool) → rest ≡ n ∷ others → ((H : Held) → x H ≡ V n H) → b ≡ true →
    (b ≡ true) ↔ IsPairBelow v x d → ArePairsBelow v (map V rest) d ↔ A → ArePairsBelow v (map V others) d ↔ A
pairs_kept V rest others n v d x A b is same holds test so_far =
    let here = subst (λ z. ArePairsBelow v (map V z) d ↔ A) is so_far in (
      (λ left. here.0 (pair_same_second v x (V n) d same (test.0 holds), left)),
      (λ a. (here.1 a).1),
    )

pub pairs_stopped : (V : ℕ → Value) (rest others : List ℕ) (n : ℕ) (v d x : Value) (A : Type 0) (b : Bool) → rest ≡ n ∷ others → ((H : Held) → x H ≡ V n H) → b ≡ false →
    (b ≡ true) ↔ IsPairBelow v x d → ArePairsBelow v (map V rest) d ↔ A → (false ≡ true) ↔ A
pairs_stopped V rest others n v d x A b is same fails test so_far =
    let here = subst (λ z. ArePairsBelow v (map V z) d ↔ A) is so_far in (
      (λ e. absurd (let wrong : false ≡ true = e in cc)),
      (λ a. absurd (no_test b (IsPairBelow v x d) fails test (pair_same_second v (V n) x d (back x (V n) same) (here.1 a).0))),
    )

none_left : (xs : List ℕ) → length xs ≡ 0 → xs ≡ []
none_left [] e = refl
none_left (x ∷ xs) e = absurd (omega (arith, e))

pub pairs_done : (V : ℕ → Value) (rest : List ℕ) (v d : Value) (A : Type 0) → length rest ≡ 0 → ArePairsBelow v (map V rest) d ↔ A → (true ≡ true) ↔ A
pairs_done V rest v d A is so_far =
    let here = subst (λ z. ArePairsBelow v (map V z) d ↔ A) (none_left rest is) so_far in (
      (λ e. here.0 tt),
      (λ a. refl),
    )

-- a loop over parts before a last one
pub sequence_kept : (V : ℕ → Value) (rest others : List ℕ) (n : ℕ) (l d x : Value) (A : Type 0) (b c : Bool) → rest ≡ n ∷ others → ((H : Held) → x H ≡ V n H) → b ≡ true → c ≡ true →
    (b ≡ true) ↔ ArePairsBelow x (map V others) d → (c ≡ true) ↔ IsPairBelow x l d → IsSequenceBelow (map V rest) l d ↔ A → IsSequenceBelow (map V others) l d ↔ A
sequence_kept V rest others n l d x A b c is same holds too first second so_far =
    let here = subst (λ z. IsSequenceBelow (map V z) l d ↔ A) is so_far in (
      (λ left. here.0 (sequence_up (V n) l d (map V others) (pairs_same x (V n) d (map V others) same (first.0 holds)) (pair_same x (V n) l d same (second.0 too)) left)),
      (λ a. (sequence_down (V n) l d (map V others) (here.1 a)).2),
    )

pub sequence_stopped : (V : ℕ → Value) (rest others : List ℕ) (n : ℕ) (l d x : Value) (A : Type 0) (b : Bool) → rest ≡ n ∷ others → ((H : Held) → x H ≡ V n H) → b ≡ false →
    (b ≡ true) ↔ ArePairsBelow x (map V others) d → IsSequenceBelow (map V rest) l d ↔ A → (false ≡ true) ↔ A
sequence_stopped V rest others n l d x A b is same fails test so_far =
    let here = subst (λ z. IsSequenceBelow (map V z) l d ↔ A) is so_far in (
      (λ e. absurd (let wrong : false ≡ true = e in cc)),
      (λ a. absurd (no_test b (ArePairsBelow x (map V others) d) fails test
          (pairs_same (V n) x d (map V others) (back x (V n) same) (sequence_down (V n) l d (map V others) (here.1 a)).0))),
    )

pub sequence_ended : (V : ℕ → Value) (rest others : List ℕ) (n : ℕ) (l d x : Value) (A : Type 0) (b : Bool) → rest ≡ n ∷ others → ((H : Held) → x H ≡ V n H) → b ≡ false →
    (b ≡ true) ↔ IsPairBelow x l d → IsSequenceBelow (map V rest) l d ↔ A → (false ≡ true) ↔ A
sequence_ended V rest others n l d x A b is same fails test so_far =
    let here = subst (λ z. IsSequenceBelow (map V z) l d ↔ A) is so_far in (
      (λ e. absurd (let wrong : false ≡ true = e in cc)),
      (λ a. absurd (no_test b (IsPairBelow x l d) fails test (pair_same (V n) x l d (back x (V n) same) (sequence_down (V n) l d (map V others) (here.1 a)).1))),
    )

pub sequence_done : {E : Type 0} (V : ℕ → Value) (rest : List ℕ) (l d none : Value) (A : Type 0) (r : Result Bool E) → length rest ≡ 0 → ((H : Held) → none H ≡ Const) →
    IfOk r (λ b. (b ≡ true) ↔ IsPairBelow none l d) → IsSequenceBelow (map V rest) l d ↔ A → IfOk r (λ b. (b ≡ true) ↔ A)
sequence_done V rest l d none A (Ok b) is same test so_far =
    let here = subst (λ z. IsSequenceBelow (map V z) l d ↔ A) (none_left rest is) so_far in (
      (λ e. here.0 (pair_same none (λ H. Const) l d same (test.0 e))),
      (λ a. test.1 (pair_same (λ H. Const) none l d (back none (λ H. Const) same) (here.1 a))),
    )
sequence_done V rest l d none A (Err e) is same test so_far = tt

-- a block whose statements all keep the paths that are held has the value of their sequence
pub block_kept : (P : Program) (V : ℕ → Value) (body : List CoreStmt) (numbers : List ℕ) (H : Held) → length body ≡ length numbers → list_all (λ s. keeps_paths (stmt_of s)) body ≡ true →
    block_value P (stmts_from body) (map V numbers) H ≡ in_sequence (map V numbers) H
block_kept P V [] [] H same kept = refl
block_kept P V [] (n ∷ numbers) H same kept = absurd (omega (arith, same))
block_kept P V (s ∷ body) [] H same kept = absurd (omega (arith, same))
block_kept P V (s ∷ body) (n ∷ numbers) H same kept =
    let both = and_parts (keeps_paths (stmt_of s)) (list_all (λ s. keeps_paths (stmt_of s)) body) kept in
    ap (λ K. seq_of (V n H) (block_value P (stmts_from body) (map V numbers) K)) (kept_set P (stmt_of s) H both.0)
    ∙ ap (λ z. seq_of (V n H) z) (block_kept P V body numbers H (omega (arith, same)) both.1)

-- a block that has the value of the sequence of its statements
pub block_step : {E : Type 0} (r : Result Bool E) (vs : List Value) (block l d : Value) → ((H : Held) → block H ≡ in_sequence vs H) → ((H : Held) → l H ≡ Const) →
    IfOk r (λ b. (b ≡ true) ↔ IsSequenceBelow vs l d) → IfOk r (λ b. (b ≡ true) ↔ ((H : Held) → AtMost (block H) (d H)))
block_step (Ok b) vs block l d same const test =
    let as_one : (H : Held) → seq_of (in_sequence vs H) (l H) ≡ block H =
    λ H. ap (λ z. seq_of (in_sequence vs H) z) (const H) ∙ unit_after (in_sequence vs H) ∙ sym (same H) in (
      (λ e H. subst (λ z. AtMost z (d H)) (as_one H) (test.0 e H)),
      (λ all. test.1 (λ H. subst (λ z. AtMost z (d H)) (sym (as_one H)) (all H))),
    )
block_step (Err e) vs block l d same const test = tt

-- a rule that is a sequence before a last value
pub sequence_step : {E : Type 0} (r : Result Bool E) (vs : List Value) (l last d rule : Value) → ((H : Held) → rule H ≡ seq_of (in_sequence vs H) (last H)) →
    ((H : Held) → l H ≡ last H) → IfOk r (λ b. (b ≡ true) ↔ IsSequenceBelow vs l d) → IfOk r (λ b. (b ≡ true) ↔ ((H : Held) → AtMost (rule H) (d H)))
sequence_step (Ok b) vs l last d rule is same test =
    let as_one : (H : Held) → seq_of (in_sequence vs H) (l H) ≡ rule H = λ H. ap (seq_of (in_sequence vs H)) (same H) ∙ sym (is H) in (
      (λ e H. subst (λ z. AtMost z (d H)) (as_one H) (test.0 e H)),
      (λ all. test.1 (λ H. subst (λ z. AtMost z (d H)) (sym (as_one H)) (all H))),
    )
sequence_step (Err e) vs l last d rule is same test = tt

-- two values, under other names
pub pair_as : {E : Type 0} (r : Result Bool E) (x y v w d : Value) → Same x v → Same y w → IfOk r (λ b. (b ≡ true) ↔ IsPairBelow x y d) → IfOk r (λ b. (b ≡ true) ↔ IsPairBelow v w d)
pair_as (Ok b) x y v w d first second test = (
  (λ e. pair_same x v w d first (pair_same_second x y w d second (test.0 e))),
  (λ all. test.1 (pair_same_second x w y d (back y w second) (pair_same v x w d (back x v first) all))),
)
pair_as (Err e) x y v w d first second test = tt

-- either of two, behind a value
either_first : (a b c d : Basic) → AtMost (seq_of a (join_of b c)) d → AtMost (seq_of a b) d
either_first a b c d = follows _ _ (four (λ a b c d. implies (below_of (seq_of a (join_of b c)) d) (below_of (seq_of a b) d)) refl a b c d)

either_second : (a b c d : Basic) → AtMost (seq_of a (join_of b c)) d → AtMost (seq_of a c) d
either_second a b c d = follows _ _ (four (λ a b c d. implies (below_of (seq_of a (join_of b c)) d) (below_of (seq_of a c) d)) refl a b c d)

either_both : (a b c d : Basic) → AtMost (seq_of a b) d → AtMost (seq_of a c) d → AtMost (seq_of a (join_of b c)) d
either_both a b c d first second =
    follows _ _ (follows _ _ (four (λ a b c d. implies (below_of (seq_of a b) d) (implies (below_of (seq_of a c) d) (below_of (seq_of a (join_of b c)) d))) refl a b c d) first) second

pub choice_below : (V : ℕ → Value) (numbers branches others none : List ℕ) (c v w : ℕ) (d : Value) (a b both : Bool) → numbers ≡ c ∷ branches → branches ≡ v ∷ others → others ≡ w ∷ none →
    both ≡ (a && b) → (a ≡ true) ↔ IsPairBelow (V c) (V v) d → (b ≡ true) ↔ IsPairBelow (V c) (V w) d → (both ≡ true) ↔ ((H : Held) → AtMost (choice_value (map V numbers) H) (d H))
choice_below V numbers branches others none c v w d a b both first second third is in_first in_second =
    let whole : numbers ≡ c ∷ (v ∷ (w ∷ none)) = first ∙ ap (λ z. c ∷ z) (second ∙ ap (λ z. v ∷ z) third) in
    subst (λ z. (both ≡ true) ↔ ((H : Held) → AtMost (choice_value (map V z) H) (d H))) (sym whole) (
      (λ e. let parts = and_parts a b (sym is ∙ e) in λ H. either_both (V c H) (V v H) (V w H) (d H) (in_first.0 parts.0 H) (in_second.0 parts.1 H)),
      (λ all. is ∙ and_from a b (in_first.1 (λ H. either_first (V c H) (V v H) (V w H) (d H) (all H))) (in_second.1 (λ H. either_second (V c H) (V v H) (V w H) (d H) (all H)))),
    )

-- any number of turns are as much as two
turn_twice : (a b : Basic) → seq_of a (star_of (seq_of b a)) ≡ seq_of (seq_of a (seq_of b (seq_of a (seq_of b (seq_of a Const))))) Const
turn_twice Const Const = refl
turn_twice Const Mover = refl
turn_twice Const Atomic = refl
turn_twice Const Cmpd = refl
turn_twice Const Error = refl
turn_twice Mover Const = refl
turn_twice Mover Mover = refl
turn_twice Mover Atomic = refl
turn_twice Mover Cmpd = refl
turn_twice Mover Error = refl
turn_twice Atomic Const = refl
turn_twice Atomic Mover = refl
turn_twice Atomic Atomic = refl
turn_twice Atomic Cmpd = refl
turn_twice Atomic Error = refl
turn_twice Cmpd Const = refl
turn_twice Cmpd Mover = refl
turn_twice Cmpd Atomic = refl
turn_twice Cmpd Cmpd = refl
turn_twice Cmpd Error = refl
turn_twice Error b = refl

pub turns_are : (V : ℕ → Value) (c b : ℕ) (turns : List ℕ) (H : Held) → turns ≡ c ∷ b ∷ c ∷ b ∷ c ∷ [] →
    seq_of (V c H) (star_of (seq_of (V b H) (V c H))) ≡ seq_of (in_sequence (map V turns) H) Const
turns_are V c b turns H is = turn_twice (V c H) (V b H) ∙ ap (λ ns. seq_of (in_sequence (map V ns) H) Const) (sym is)

pub loop_as : (V : ℕ → Value) (numbers bodies others : List ℕ) (c b : ℕ) (H : Held) → numbers ≡ c ∷ bodies → bodies ≡ b ∷ others →
    seq_of (V c H) (star_of (seq_of (V b H) (V c H))) ≡ loop_value (map V numbers) H
loop_as V numbers bodies others c b H first second = sym (ap (λ ns. loop_value (map V ns) H) (first ∙ ap (λ ns. c ∷ ns) second))
