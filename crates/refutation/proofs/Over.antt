-- The methods that override another: the list has exactly those, and what is assigned to them together.
use Rattle.std.proofs.Common.{◌≡◌, ◌≢◌, ℕ, zero, suc, ◌+◌, ◌<◌, Bool, true, false, List, [], ◌∷◌, length, Some, None, refl, sym, ap, subst, ◌∙◌, ◌==◌, arith}
use Rattle.std.specs.Prelude.{Option, filter, not, slice_get, if◌then◌else◌}
use Rattle.std.proofs.lemmas.Bool.{and_from, eq-eqb, ne_eqb, eqb-false, not-true}
use Rattle.std.proofs.lemmas.Option.{slice_get_within}
use Rattle.paths.specs.Paths.{PathData}
use Rattle.algebra.specs.declared.basic.Basic.{Basic}
use Rattle.algebra.specs.HeldPaths.{Held}
use Rattle.core_program.specs.Core.{Program, Method}
use Rattle.core_program.specs.Dispatch.{target_of, Overrides}
use Rattle.rules.specs.Clauses.{method_class, is_this_number}
use Rattle.rules.specs.Effect.{Assignment}
use Rattle.rules.specs.Rules.{AtMost, held_in}
use Rattle.rules.proofs.BasicLemmas.{below_chain}
use Rattle.rules.proofs.SetLemmas.{first, second}
use Rattle.rules.proofs.Reaching.{number_is}
use Rattle.refutation.specs.Lines.{runs_in, overrides, numbers, overriding, joined_over}
use Rattle.refutation.proofs.Sets.{below_const, join_least, join_first, join_second}

is_number_of : (o : Option ℕ) (n : ℕ) → o ≡ Some n → is_this_number o n ≡ true
is_number_of o n e = subst (λ x. is_this_number x n ≡ true) (sym e) (eq-eqb n n refl)

-- the test is exact
pub overrides_is : (P : Program) (over m : ℕ) → overrides P over m ≡ true → Overrides P over m
overrides_is P over m e =
    let apart = eqb-false over m (not-true (over == m) (first (not (over == m)) (runs_in P (method_class (slice_get P.methods over)) over m) e)) in
    let runs = second (not (over == m)) (runs_in P (method_class (slice_get P.methods over)) over m) e in
    by (slice_get P.methods over) refl runs apart
  where
    by : (o : Option Method) → slice_get P.methods over ≡ o → runs_in P (method_class o) over m ≡ true → over ≢ m → Overrides P over m
    by None is runs apart = absurd (let f : false ≡ true = runs in cc)
    by (Some method) is runs apart = record { differs = apart; method = method; is = is; runs = number_is (target_of P method.class m) over runs }

pub is_overrides : (P : Program) (over m : ℕ) → Overrides P over m → overrides P over m ≡ true
is_overrides P over m h = and_from (not (over == m)) (runs_in P (method_class (slice_get P.methods over)) over m)
    (ap not (ne_eqb over m h.differs))
    (subst (λ o. runs_in P (method_class o) over m ≡ true) (sym h.is) (is_number_of (target_of P h.method.class m) over h.runs))

module _ (rel : ℕ → List PathData) (A : Assignment) (test : ℕ → Bool) (H : Held) where
  pub joined_least : (ns : List ℕ) (b : Basic) → ((n : ℕ) → test n ≡ true → AtMost (A n (held_in (rel n) H)) b) → AtMost (joined_over rel A (filter test ns) H) b
  joined_least [] b h = below_const b
  joined_least (n ∷ ns) b h = elim (test n) as (λ t. test n ≡ t → AtMost (joined_over rel A (if t then n ∷ filter test ns else filter test ns) H) b) [
    | true ↦ λ e. join_least _ _ b (h n e) (joined_least ns b h)
    | false ↦ λ e. joined_least ns b h
  ] refl

  pub joined_above : (start count n : ℕ) → test n ≡ true → (k : ℕ) → n ≡ start + k → k < count → AtMost (A n (held_in (rel n) H)) (joined_over rel A (filter test (numbers start count)) H)
  joined_above start zero n is k at below = absurd (omega arith)
  joined_above start (suc count) n is zero at below =
      let same : start ≡ n = omega (arith, at) in
      let passes : test start ≡ true = ap test same ∙ is in
      subst (λ t. AtMost (A n (held_in (rel n) H)) (joined_over rel A (if t then start ∷ filter test (numbers (start + 1) count) else filter test (numbers (start + 1) count)) H)) (sym passes)
      (subst (λ x. AtMost (A n (held_in (rel n) H)) (joined_over rel A (x ∷ filter test (numbers (start + 1) count)) H)) (sym same) (join_first _ _))
  joined_above start (suc count) n is (suc k) at below =
      let rest = joined_above (start + 1) count n is k (omega (arith, at)) (omega arith) in
      elim (test start) as (λ t. AtMost (A n (held_in (rel n) H)) (joined_over rel A (if t then start ∷ filter test (numbers (start + 1) count) else filter test (numbers (start + 1) count)) H)) [
        | true ↦ below_chain _ _ _ rest (join_second _ _)
        | false ↦ rest
      ]

module _ (P : Program) (rel : ℕ → List PathData) (A : Assignment) (m : ℕ) (H : Held) where
  -- what is assigned to overriding methods is at most a basic where that of each is
  pub over_least : (b : Basic) → ((n : ℕ) → Overrides P n m → AtMost (A n (held_in (rel n) H)) b) → AtMost (joined_over rel A (overriding P m) H) b
  over_least b h = joined_least rel A (λ n. overrides P n m) H (numbers 0 (length P.methods)) b (λ n e. h n (overrides_is P n m e))

  -- that of each is at most that of all
  pub over_above : (n : ℕ) → Overrides P n m → AtMost (A n (held_in (rel n) H)) (joined_over rel A (overriding P m) H)
  over_above n h =
      let within = slice_get_within P.methods n h.method h.is in
      let zero_more : n ≡ 0 + n = omega arith in
      joined_above rel A (λ n. overrides P n m) H 0 (length P.methods) n (is_overrides P n m h) n zero_more within
