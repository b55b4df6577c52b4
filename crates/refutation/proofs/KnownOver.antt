-- What is known of the methods that override others: a table that is kept, one that is read in place of a row of methods, and what stays
-- known where a method rose.
use Rattle.std.proofs.Common.{◌≡◌, ℕ, ◌<◌, Bool, true, false, ◌||◌, ◌==◌, List, [], ◌∷◌, ◌++◌, length, slice_set, Some, refl, sym, ap, subst, ◌∙◌, arith}
use Rattle.std.specs.Prelude.{Option, IfSome}
use Rattle.std.proofs.lemmas.Bool.{eqb-true, eqb-false, false_from_ne_true, both_ways}
use Rattle.std.proofs.lemmas.Option.{slice_get_within}
use Rattle.base.proofs.Lists.{get_below, set_here, set_other}
use Rattle.paths.specs.Paths.{PathData}
use Rattle.algebra.specs.declared.basic.Basic.{Basic}
use Rattle.algebra.specs.Basics.{join_of}
use Rattle.algebra.specs.HeldPaths.{Held}
use Rattle.core_program.specs.Core.{Program}
use Rattle.rules.specs.Called.{stmt_calls, has_method, method_calls, counts_as_caller, callers_of_method, AreCallers}
use Rattle.rules.specs.Effect.{Assignment}
use Rattle.rules.specs.Near.{MethodPaths, rel_of}
use Rattle.rules.specs.Overriding.{AreOverriders}
use Rattle.rules.specs.Rules.{held_in}
use Rattle.rules.specs.Search.{row_at, row_or_none}
use Rattle.rules.proofs.CallsSame.{first_false, second_false}
use Rattle.refutation.specs.Lines.{LineData, floor, joined_over}
use Rattle.refutation.specs.Tables.{said_by}
use Rattle.refutation.specs.Ends.{KeptAgrees}
use Rattle.refutation.specs.Overs.{TellsOver, TellsRow, AreOversTold}
use Rattle.refutation.specs.Waiting.{Adds, AreWoken, IsAsleep, AreOversKnown}
use Rattle.refutation.proofs.Sets.{const_joined, join_const, join_assoc}
use Rattle.refutation.proofs.Reached.{said_in}
use Rattle.refutation.proofs.RiseLemmas.{others_stay}
use Rattle.refutation.proofs.RowLemmas.{row_same}

-- what is said of the value, where there is one
pub some_is : {X : Type 0} (P : X → Type 0) (o : Option X) (x : X) → o ≡ Some x → IfSome o P → P x
some_is P o x is h = subst (λ o. IfSome o P) is h

-- A table that is kept.

-- of those that override a method it tells what it tells of its row
pub tells_row : (P : Program) (rel : ℕ → List PathData) (A : Assignment) (rows : List (List ℕ)) (m : ℕ) (table : List Basic) (whole : Bool) → AreOverriders P rows → TellsOver P rel A m table whole → whole ≡ true → TellsRow rel A m (row_at rows m) table
tells_row P rel A rows m table whole are tells e H part = tells e H part ∙ sym (row_same rel A H P rows m are)

pub kept_more : (rows : List (List ℕ)) (rel : ℕ → List PathData) (A : Assignment) (tables now : List (List Basic)) (waits next : List Bool) (m : ℕ) (table : List Basic) → m < length tables → now ≡ slice_set tables m table → IsAsleep waits next m
    → AreOversTold rows rel A tables waits → TellsRow rel A m (row_at rows m) table → AreOversTold rows rel A now next
kept_more rows rel A tables now waits next m table below put sleeps told tells n asleep = by (n == m) refl
  where
    by : (b : Bool) → (n == m) ≡ b → TellsRow rel A n (row_at rows n) (row_at now n)
    by true e =
        let here : row_at now m ≡ table = ap (λ ts. row_at ts m) put ∙ ap row_or_none (set_here tables m table below) in
        subst (λ k. TellsRow rel A k (row_at rows k) (row_at now k)) (sym (eqb-true n m e)) (subst (TellsRow rel A m (row_at rows m)) (sym here) tells)
    by false e =
        let differs = eqb-false n m e in
        let there : row_at now n ≡ row_at tables n = ap (λ ts. row_at ts n) put ∙ ap row_or_none (set_other tables m n table differs) in
        subst (TellsRow rel A n (row_at rows n)) (sym there) (told n (sleeps n asleep differs))

-- A table that is read in place of a row.

module _ (rel : ℕ → List PathData) (A : Assignment) (H : Held) where
  -- what is assigned to the methods of two lists
  joined_both : (ns ms : List ℕ) → joined_over rel A (ns ++ ms) H ≡ join_of (joined_over rel A ns H) (joined_over rel A ms H)
  joined_both [] ms = sym (const_joined (joined_over rel A ms H))
  joined_both (n ∷ ns) ms = ap (join_of (A n (held_in (rel n) H))) (joined_both ns ms) ∙ sym (join_assoc (A n (held_in (rel n) H)) (joined_over rel A ns H) (joined_over rel A ms H))

module _ (rel : ℕ → List PathData) (tables : List (List Basic)) (H : Held) (m : ℕ) (behind : List ℕ) where
  -- a method, and those behind it
  pub front_alone : (before now : Basic) → now ≡ join_of before (said_by rel tables m H) → join_of now (joined_over rel (said_by rel tables) behind H) ≡ join_of before (joined_over rel (said_by rel tables) (m ∷ behind) H)
  front_alone before now joined =
      ap (λ b. join_of b (joined_over rel (said_by rel tables) behind H)) joined
      ∙ join_assoc before (said_by rel tables m H) (joined_over rel (said_by rel tables) behind H)
      ∙ ap (λ b. join_of before (join_of b (joined_over rel (said_by rel tables) behind H))) (sym (said_in rel tables m H))

  -- those behind it begin with a row, of which a table tells
  pub front_known : (overs left : List ℕ) (before between now told : Basic) → between ≡ join_of before (said_by rel tables m H) → now ≡ join_of between told → told ≡ joined_over rel (said_by rel tables) overs H → behind ≡ overs ++ left
      → join_of now (joined_over rel (said_by rel tables) left H) ≡ join_of before (joined_over rel (said_by rel tables) (m ∷ behind) H)
  front_known overs left before between now told first second tells begins =
      let rest = joined_over rel (said_by rel tables) left H in
      ap (λ b. join_of b rest) (second ∙ ap (join_of between) tells)
      ∙ join_assoc between (joined_over rel (said_by rel tables) overs H) rest
      ∙ ap (join_of between) (sym (joined_both rel (said_by rel tables) H overs left) ∙ ap (λ ns. joined_over rel (said_by rel tables) ns H) (sym begins))
      ∙ front_alone before between first

-- no method is left
pub front_done : (rel : ℕ → List PathData) (A : Assignment) (H : Held) (rest : List ℕ) (b : Basic) → length rest ≡ 0 → b ≡ join_of b (joined_over rel A rest H)
front_done rel A H [] b none = sym (join_const b)
front_done rel A H (n ∷ ns) b none = absurd (omega (arith, none))

-- What stays known.

-- what the tables of all methods say, the lines say
pub told_by : (P : Program) (sets kept : List MethodPaths) (rows : List (List Basic)) (lines : List LineData) (overs : List (List ℕ)) (tables : List (List Basic)) (waits : List Bool) → KeptAgrees P sets kept rows lines
    → AreOversTold overs (rel_of sets) (floor (rel_of sets) lines) tables waits → AreOversTold overs (rel_of kept) (said_by (rel_of kept) rows) tables waits
told_by P sets kept rows lines overs tables waits agrees told =
    subst (λ (A : Assignment). AreOversTold overs (rel_of kept) A tables waits) (sym agrees.says.says) (subst (λ s. AreOversTold overs (rel_of s) (floor (rel_of s) lines) tables waits) (sym agrees.same) told)

pub told_still : (P : Program) (sets kept : List MethodPaths) (rows : List (List Basic)) (lines : List LineData) (overs : List (List ℕ)) (tables : List (List Basic)) (waits : List Bool) → KeptAgrees P sets kept rows lines
    → AreOversTold overs (rel_of kept) (said_by (rel_of kept) rows) tables waits → AreOversTold overs (rel_of sets) (floor (rel_of sets) lines) tables waits
told_still P sets kept rows lines overs tables waits agrees told =
    subst (λ s. AreOversTold overs (rel_of s) (floor (rel_of s) lines) tables waits) agrees.same (subst (λ (A : Assignment). AreOversTold overs (rel_of kept) A tables waits) agrees.says.says told)

module _ (P : Program) (rel : ℕ → List PathData) (m : ℕ) (old new : List LineData) (adds : Adds m old new) where
  -- of methods without the one that rose as much is said
  row_stays : (H : Held) (ns : List ℕ) → has_method ns m ≡ false → joined_over rel (floor rel old) ns H ≡ joined_over rel (floor rel new) ns H
  row_stays H [] none = refl
  row_stays H (n ∷ ns) none =
      let other = others_stay P rel m old new adds n (first_false (n == m) (has_method ns m) none) (held_in (rel n) H) in
      let others = row_stays H ns (second_false (n == m) (has_method ns m) none) in
      (λ i. join_of (other i) (others i))

  -- where the tables of those that it overrides wait
  pub known_risen : (overs callers : List (List ℕ)) (tables : List (List Basic)) (waits now : List Bool) (looking : List ℕ) → AreCallers P (row_at overs) callers → m < length callers → looking ≡ callers_of_method callers m
      → AreOversKnown P overs rel old tables waits → length now ≡ length waits → AreWoken waits now looking → AreOversKnown P overs rel new tables now
  known_risen overs callers tables waits now looking all many theirs known same wakes = record {
    size = same ∙ known.size;
    told = λ n asleep H part.
        let before = wakes n asleep in
        let there = get_below P.methods n (omega (arith, slice_get_within waits n false before.0, known.size)) in
        let apart = false_from_ne_true (counts_as_caller P (row_at overs) n m) (λ c. both_ways (has_method looking n) before.1 (ap (λ r. has_method r n) theirs ∙ all m n many c)) in
        let quiet : (stmt_calls (λ k. k == m) there.0.body || has_method (row_at overs n) m) ≡ false = subst (λ o. method_calls o (row_at overs n) m ≡ false) there.1 apart in
        known.told n before.0 H part ∙ row_stays H (row_at overs n) (second_false (stmt_calls (λ k. k == m) there.0.body) (has_method (row_at overs n) m) quiet);
  }
