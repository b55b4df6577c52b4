-- Walks stay in a set that no step that interrupts nobody leaves.
use Rattle.std.proofs.Common.{◌≡◌, ℕ, zero, ◌-◌, Bool, true, false, List, [], ◌∷◌, refl, sym, subst, arith, ◌==◌}
use Rattle.std.proofs.lemmas.Grind.{common_steps}
use Rattle.std.specs.Prelude.{Option, Some, None, nat_lt, count_by, if◌then◌else◌}
use Rattle.std.proofs.lemmas.Bool.Decides.{nat_tests}
use Rattle.core_program.specs.Core.{Program}
use Rattle.state.specs.States.{State, initial}
use Rattle.witness.specs.Walks.{must_step_next, walk, entry_counts, less, none_left, IsClosedSet}
use Rattle.witness.specs.Witness.{IsKeptAs, IsReachedAs}
use Rattle.witness.proofs.WalkLemmas.{begins, uninterrupted_walks}

-- One entry of a list fewer.

pub first_counted : (t : ℕ) (r : List ℕ) → nat_lt 0 (entry_counts (t ∷ r) t) ≡ true
first_counted t r = grind (arith, nat_tests, common_steps)

less_counts_at : (t : ℕ) (r : List ℕ) (v : ℕ) → less (entry_counts (t ∷ r)) t v ≡ entry_counts r v
less_counts_at t r v = by_test (t == v) refl
  where
    by_test : (b : Bool) → (t == v) ≡ b → less (entry_counts (t ∷ r)) t v ≡ entry_counts r v
    by_test true is = grind (arith, nat_tests, common_steps)
    by_test false is = grind (arith, nat_tests, common_steps)

pub less_counts : (t : ℕ) (r : List ℕ) → less (entry_counts (t ∷ r)) t ≡ entry_counts r
less_counts t r = λ i v. less_counts_at t r v i

none_less : (b : Bool) → (if b then 0 - 1 else 0) ≡ zero
none_less true = refl
none_less false = refl

pub less_none : (t : ℕ) → less none_left t ≡ none_left
less_none t = λ i v. none_less (t == v) i

module _ (P : Program) (Node : State → Option ℕ → (ℕ → ℕ) → Type 0) (Bad : State → Type 0) where
  counted_on : IsClosedSet P true Node Bad → (r : List ℕ) (q : State) (busy : Option ℕ) (e : State) → Node q busy (entry_counts r) → walk P q busy r ≡ Some e → Bad e → ⊥
  counted_on closed [] q busy e node walks bad =
      let same : q ≡ e = cc in
      closed.good q busy (entry_counts []) node (λ t. refl) (subst Bad (sym same) bad)
  counted_on closed (t ∷ r) q busy e node walks bad =
      let b = begins P q busy t r e walks in
      counted_on closed r b.next (must_step_next P b.next t) e
      (subst (Node b.next (must_step_next P b.next t)) (less_counts t r) (closed.goes q busy (entry_counts (t ∷ r)) t b.next node (first_counted t r) b.may b.steps)) b.rest bad

  whole_on : IsClosedSet P false Node Bad → (r : List ℕ) (q : State) (busy : Option ℕ) (e : State) → Node q busy none_left → walk P q busy r ≡ Some e → Bad e → ⊥
  whole_on closed [] q busy e node walks bad =
      let same : q ≡ e = cc in
      closed.good q busy none_left node (λ t. refl) (subst Bad (sym same) bad)
  whole_on closed (t ∷ r) q busy e node walks bad =
      let b = begins P q busy t r e walks in
      whole_on closed r b.next (must_step_next P b.next t) e
      (subst (Node b.next (must_step_next P b.next t)) (less_none t) (closed.goes q busy none_left t b.next node refl b.may b.steps)) b.rest bad

-- lists with equally many of each have the same counts
pub same_counts : (s r : List ℕ) → ((t : ℕ) → count_by (λ u. u == t) s ≡ count_by (λ u. u == t) r) → entry_counts s ≡ entry_counts r
same_counts s r each = λ i t. each t i

module _ (P : Program) (Like : State → State → Type 0) (Node : State → Option ℕ → (ℕ → ℕ) → Type 0) where
  -- a closed set with the entries of the schedule shows that it has no order
  pub none_kept : (s : List ℕ) (q : State) → IsClosedSet P true Node (Like q) → Node (initial P) None (entry_counts s) → IsKeptAs P Like s q → ⊥
  none_kept s q closed start kept =
      let r = kept.0 in
      let order = kept.1 in
      counted_on P Node (Like q) closed r (initial P) None order.last
      (subst (Node (initial P) None) (same_counts s r order.rearranges) start) (uninterrupted_walks P r order.last order.runs order.uninterrupted) order.like

  -- one without counts, that no schedule that interrupts nobody ends so
  pub none_reached : (q : State) → IsClosedSet P false Node (Like q) → Node (initial P) None none_left → IsReachedAs P Like q → ⊥
  none_reached q closed start reached =
      let way = reached.1 in
      whole_on P Node (Like q) closed reached.0 (initial P) None way.last start (uninterrupted_walks P reached.0 way.last way.runs way.uninterrupted) way.like
