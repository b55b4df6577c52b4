-- Where the search goes on alone no schedule is lost.
use Rattle.std.proofs.Common.{◌≡◌, ℕ, zero, suc, ◌+◌, ◌-◌, ◌<◌, ◌≤◌, Bool, true, false, List, [], ◌∷◌, length, refl, sym, ap, subst, ◌∙◌, arith, ◌==◌}
use Rattle.std.proofs.lemmas.Grind.{common_steps}
use Rattle.std.specs.Prelude.{Option, Some, None, nat_lt, if◌then◌else◌}
use Rattle.std.proofs.lemmas.Bool.{eqb-true, eqb-false, ltb-false, cond-false}
use Rattle.std.proofs.lemmas.Bool.Decides.{nat_tests}
use Rattle.std.proofs.lemmas.Option.{same_Some}
use Rattle.core_program.specs.Core.{Program}
use Rattle.state.specs.States.{State, initial}
use Rattle.semantics.specs.Run.{inside}
use Rattle.semantics.specs.Step.{step}
use Rattle.witness.specs.Walks.{may_step, must_step_next, walk, entry_counts, less, none_left}
use Rattle.witness.specs.Witness.{IsKeptAs, IsReachedAs}
use Rattle.witness.specs.Unseen.{HasUnseenStep, GoesAlone, is_there, goes_on, comes_at_once, IsClosedUpTo, IsOfShared}
use Rattle.witness.proofs.WalkLemmas.{Begins, begins, begun, uninterrupted_walks}
use Rattle.witness.proofs.ClosedSets.{first_counted, less_counts, less_none, same_counts}
use Rattle.witness.proofs.UnseenSteps.{unseen_next, unseen_steps, unseen_outside, unseen_heap, unseen_output, unseen_stays, unseen_passes, unseen_inside}

-- another one than this thread has to go on, or none
abbrev IsOther : Option ℕ → ℕ → Type 0
IsOther None t = Unit {0}
IsOther (Some u) t = u ≡ t → ⊥

-- where this thread may step though another one would have to go on, none has to
walks_free : (P : Program) (q : State) (busy : Option ℕ) (t : ℕ) (r : List ℕ) (e : State) → IsOther busy t → may_step busy t ≡ true → walk P q None r ≡ Some e → walk P q busy r ≡ Some e
walks_free P q None t r e other may walks = walks
walks_free P q (Some u) t r e other may walks = absurd (other (sym (eqb-true t u may)))

other_next : (b : Bool) (u t : ℕ) → (u ≡ t → ⊥) → IsOther (if b then Some u else None) t
other_next true u t differ = differ
other_next false u t differ = tt

-- Counts of the entries behind another one's.

counted_later : (u t : ℕ) (r : List ℕ) → (u ≡ t → ⊥) → nat_lt 0 (entry_counts (u ∷ r) t) ≡ true → nat_lt 0 (entry_counts r t) ≡ true
counted_later u t r differ some = by_test (u == t) refl
  where
    by_test : (b : Bool) → (u == t) ≡ b → nat_lt 0 (entry_counts r t) ≡ true
    by_test true is = absurd (differ (eqb-true u t is))
    by_test false is = grind (arith, nat_tests, common_steps)

count_first : (u : ℕ) (r : List ℕ) (v : ℕ) → entry_counts (u ∷ r) v ≡ (if u == v then 1 else 0) + entry_counts r v
count_first u r v = grind (arith, nat_tests, common_steps)

less_later_at : (u t : ℕ) (a b : ℕ) (v : ℕ) (s : Bool) → (t == v) ≡ s → (c : Bool) → (u == v) ≡ c → (u ≡ t → ⊥) → a ≡ (if s then b - 1 else b) → (if c then 1 else 0) + a ≡ (if s then (if c then 1 else 0) + b - 1 else (if c then 1 else 0) + b)
less_later_at u t a b v true same true both differ is = absurd (differ (eqb-true u v both ∙ sym (eqb-true t v same)))
less_later_at u t a b v true same false both differ is = omega (arith, is)
less_later_at u t a b v false same true both differ is = omega (arith, is)
less_later_at u t a b v false same false both differ is = omega (arith, is)

less_later : (u t : ℕ) (r s : List ℕ) → (u ≡ t → ⊥) → entry_counts s ≡ less (entry_counts r) t → entry_counts (u ∷ s) ≡ less (entry_counts (u ∷ r)) t
less_later u t r s differ is = λ i v. at v i
  where
    at : (v : ℕ) → entry_counts (u ∷ s) v ≡ less (entry_counts (u ∷ r)) t v
    at v =
        count_first u s v
        ∙ less_later_at u t (entry_counts s v) (entry_counts r v) v (t == v) refl (u == v) refl differ (ap (λ (f : ℕ → ℕ). f v) is)
        ∙ ap (λ (n : ℕ). if t == v then n - 1 else n) (sym (count_first u r v))

-- whether a thread is still to step
none_of : (t : ℕ) (r : List ℕ) → nat_lt 0 (entry_counts r t) ≡ false → entry_counts r t ≡ 0
none_of t r none = let l = ltb-false 0 (entry_counts r t) none in omega (arith, l)

none_first : (u t : ℕ) (r : List ℕ) → nat_lt 0 (entry_counts (u ∷ r) t) ≡ false → u ≡ t → ⊥
none_first u t r none same =
    let one : nat_lt 0 (entry_counts (t ∷ r) t) ≡ true = first_counted t r in
    let e : false ≡ true = sym none ∙ ap (λ x. nat_lt 0 (entry_counts (x ∷ r) t)) same ∙ one in
    cc

none_later : (u t : ℕ) (r : List ℕ) → nat_lt 0 (entry_counts (u ∷ r) t) ≡ false → nat_lt 0 (entry_counts r t) ≡ false
none_later u t r none =
    let l = ltb-false 0 (entry_counts (u ∷ r) t) none in
    let c = count_first u r t in
    grind (arith, nat_tests, l, c)

-- what is left of a walk when a step of a thread in it has come at once
record Earlier (P : Program) (next : State) (busy : Option ℕ) (t : ℕ) (r : List ℕ) (e : State) : Type 0 where
  rest : List ℕ
  walks : walk P next busy rest ≡ Some e
  counts : entry_counts rest ≡ less (entry_counts r) t
  shorter : length r ≡ suc (length rest)

-- the end of a walk that a step of a thread has come before
record Added (P : Program) (next : State) (busy : Option ℕ) (r : List ℕ) (e : State) : Type 0 where
  end : State
  walks : walk P next busy r ≡ Some end
  heap : e.heap ≡ end.heap
  output : e.output ≡ end.output

module _ (P : Program) where
  -- who has to go on behind another one's step
  next_same : (p r : State) (u : ℕ) → inside P r u ≡ inside P p u → must_step_next P r u ≡ must_step_next P p u
  next_same p r u same = ap (λ (b : Bool). if b then Some u else None) same

  -- by what is so behind the first entry of a walk
  module _ (u : ℕ) (r : List ℕ) (q : State) (busy : Option ℕ) (t : ℕ) (e : State) (is : HasUnseenStep P q t) (other : IsOther busy t) (some : nat_lt 0 (entry_counts (u ∷ r) t) ≡ true) (walks : walk P q busy (u ∷ r) ≡ Some e) where
    abbrev b : Begins P q busy u r e
    b = begins P q busy u r e walks

    earlier_first : u ≡ t → Earlier P (unseen_next P q t is) busy t (u ∷ r) e
    earlier_first same =
        let next = unseen_next P q t is in
        let there : next ≡ b.next = same_Some next b.next (sym (unseen_steps P q t is) ∙ ap (step P q) (sym same) ∙ b.steps) in
        let who : must_step_next P b.next u ≡ None = ap (must_step_next P b.next) same ∙ cond-false (inside P b.next t) _ _ (ap (λ x. inside P x t) (sym there) ∙ unseen_outside P q t is) in
        let rest : walk P next None r ≡ Some e = ap (λ x. walk P x None r) there ∙ ap (λ x. walk P b.next x r) (sym who) ∙ b.rest in
        record {
          rest = r;
          walks = walks_free P next busy t r e other (ap (may_step busy) (sym same) ∙ b.may) rest;
          counts = sym (less_counts t r) ∙ ap (λ x. less (entry_counts (x ∷ r)) t) (sym same);
          shorter = refl;
        }

    earlier_later : ((still : HasUnseenStep P b.next t) → IsOther (must_step_next P b.next u) t → nat_lt 0 (entry_counts r t) ≡ true → Earlier P (unseen_next P b.next t still) (must_step_next P b.next u) t r e) → (u ≡ t → ⊥)
        → Earlier P (unseen_next P q t is) busy t (u ∷ r) e
    earlier_later behind differ =
        let still = unseen_stays P q t is u differ b.next b.steps in
        let found = behind still (other_next (inside P b.next u) u t differ) (counted_later u t r differ some) in
        let after = unseen_next P b.next t still in
        let here : step P b.next t ≡ Some after = unseen_steps P b.next t still in
        record {
          rest = u ∷ found.rest;
          walks = begun P (unseen_next P q t is) busy u found.rest after b.may (unseen_passes P q t is u differ b.next b.steps ∙ here)
              ∙ ap (λ x. walk P after x found.rest) (next_same b.next after u (unseen_inside P q t is u differ b.next b.steps after here)) ∙ found.walks;
          counts = less_later u t r found.rest differ found.counts;
          shorter = ap suc found.shorter;
        }

    earlier : ((still : HasUnseenStep P b.next t) → IsOther (must_step_next P b.next u) t → nat_lt 0 (entry_counts r t) ≡ true → Earlier P (unseen_next P b.next t still) (must_step_next P b.next u) t r e) → (same : Bool) → (u == t) ≡ same
        → Earlier P (unseen_next P q t is) busy t (u ∷ r) e
    earlier behind true same = earlier_first (eqb-true u t same)
    earlier behind false same = earlier_later behind (eqb-false u t same)

  at_once : (r : List ℕ) (q : State) (busy : Option ℕ) (t : ℕ) (e : State) (is : HasUnseenStep P q t) → IsOther busy t → nat_lt 0 (entry_counts r t) ≡ true → walk P q busy r ≡ Some e → Earlier P (unseen_next P q t is) busy t r e
  at_once [] q busy t e is other some walks = absurd cc
  at_once (u ∷ r) q busy t e is other some walks =
      let b = begins P q busy u r e walks in
      earlier u r q busy t e is other some walks (λ still free more. at_once r b.next (must_step_next P b.next u) t e still free more b.rest) (u == t) refl

  -- a step of a thread that never steps in a walk may come before it, and leaves an end that others see as the same
  before_all : (r : List ℕ) (q : State) (busy : Option ℕ) (t : ℕ) (e : State) (is : HasUnseenStep P q t) → nat_lt 0 (entry_counts r t) ≡ false → walk P q busy r ≡ Some e → Added P (unseen_next P q t is) busy r e
  before_all [] q busy t e is none walks =
      let same : q ≡ e = same_Some q e walks in
      record {
        end = unseen_next P q t is;
        walks = refl;
        heap = ap (λ (s : State). s.heap) (sym same) ∙ unseen_heap P q t is;
        output = ap (λ (s : State). s.output) (sym same) ∙ unseen_output P q t is;
      }
  before_all (u ∷ r) q busy t e is none walks =
      let differ = none_first u t r none in
      let b = begins P q busy u r e walks in
      let still = unseen_stays P q t is u differ b.next b.steps in
      let found = before_all r b.next (must_step_next P b.next u) t e still (none_later u t r none) b.rest in
      let after = unseen_next P b.next t still in
      let here : step P b.next t ≡ Some after = unseen_steps P b.next t still in
      record {
        end = found.end;
        walks = begun P (unseen_next P q t is) busy u r after b.may (unseen_passes P q t is u differ b.next b.steps ∙ here)
            ∙ ap (λ x. walk P after x r) (next_same b.next after u (unseen_inside P q t is u differ b.next b.steps after here)) ∙ found.walks;
        heap = found.heap;
        output = found.output;
      }

module _ (P : Program) (Bad : State → Type 0) (Node : State → Option ℕ → (ℕ → ℕ) → Type 0) where
  -- a step of the one thread that has to go on
  on_alone : (q : State) (t u : ℕ) (next : State) (r : List ℕ) (e : State) → step P q t ≡ Some next → walk P q (Some t) (u ∷ r) ≡ Some e → (u ≡ t) × (walk P next (must_step_next P next t) r ≡ Some e)
  on_alone q t u next r e steps walks =
      let b = begins P q (Some t) u r e walks in
      let who : u ≡ t = eqb-true u t b.may in
      let there : b.next ≡ next = same_Some b.next next (sym b.steps ∙ ap (step P q) who ∙ steps) in (
        who,
        subst (λ x. walk P x (must_step_next P x t) r ≡ Some e) there (subst (λ v. walk P b.next (must_step_next P b.next v) r ≡ Some e) who b.rest),
      )

  -- the state behind a step that nobody else sees
  behind_it : (q : State) (t : ℕ) (next : State) (unseen : HasUnseenStep P q t) → step P q t ≡ Some next → unseen_next P q t unseen ≡ next
  behind_it q t next unseen steps = same_Some (unseen_next P q t unseen) next (sym (unseen_steps P q t unseen) ∙ steps)

  module _ (closed : IsClosedUpTo P true Bad Node) where
    -- no walk that is shorter than this ends badly
    abbrev CountedBelow : ℕ → Type 0
    CountedBelow n = (r : List ℕ) (q : State) (busy : Option ℕ) (left : ℕ → ℕ) (e : State) → length r < n → left ≡ entry_counts r → GoesAlone P true Bad Node q busy left → walk P q busy r ≡ Some e → Bad e → ⊥

    counted_one : (n : ℕ) → CountedBelow n → (r : List ℕ) (q : State) (busy : Option ℕ) (left : ℕ → ℕ) (e : State) → length r ≤ n → left ≡ entry_counts r → GoesAlone P true Bad Node q busy left → walk P q busy r ≡ Some e → Bad e → ⊥
    counted_one n shorter [] _ _ _ e long same (is_there q busy left node) walks bad =
        closed.good q busy left node (λ t. ap (λ (f : ℕ → ℕ). f t) same) (subst Bad (sym (same_Some q e walks)) bad)
    counted_one n shorter (t ∷ r) _ _ _ e long same (is_there q busy left node) walks bad =
        let b = begins P q busy t r e walks in
        shorter r b.next (must_step_next P b.next t) (less left t) e (omega (arith, long)) (ap (λ f. less f t) same ∙ less_counts t r)
        (closed.goes q busy left t b.next node (ap (λ (f : ℕ → ℕ). nat_lt 0 (f t)) same ∙ first_counted t r) b.may b.steps) b.rest bad
    counted_one n shorter [] _ _ _ e long same (goes_on q t left next allowed ends steps comes) walks bad =
        absurd (let c : true ≡ false = sym allowed ∙ ap (λ (f : ℕ → ℕ). nat_lt 0 (f t)) same in cc)
    counted_one n shorter (u ∷ r) _ _ _ e long same (goes_on q t left next allowed ends steps comes) walks bad =
        let on = on_alone q t u next r e steps walks in
        shorter r next (must_step_next P next t) (less left t) e (omega (arith, long)) (ap (λ f. less f t) same ∙ ap (λ v. less (entry_counts (v ∷ r)) t) on.0 ∙ less_counts t r) comes on.1 bad
    counted_one n shorter r _ _ _ e long same (comes_at_once q t left next allowed unseen steps comes) walks bad =
        let found = at_once P r q None t e unseen tt (sym (ap (λ (f : ℕ → ℕ). nat_lt 0 (f t)) same) ∙ allowed) walks in
        let there = behind_it q t next unseen steps in
        let short = found.shorter in
        shorter found.rest next None (less left t) e (omega (arith, long, short)) (ap (λ f. less f t) same ∙ sym found.counts) comes (ap (λ x. walk P x None found.rest) (sym there) ∙ found.walks) bad

    counted_below : (n : ℕ) → CountedBelow n
    counted_below zero r q busy left e long same comes walks bad = absurd (omega (arith, long))
    counted_below (suc n) r q busy left e long same comes walks bad = counted_one n (counted_below n) r q busy left e (omega (arith, long)) same comes walks bad

  module _ (closed : IsClosedUpTo P false Bad Node) (shared : IsOfShared Bad) where
    -- the same where entries aren't counted
    abbrev WholeBelow : ℕ → Type 0
    WholeBelow n = (r : List ℕ) (q : State) (busy : Option ℕ) (left : ℕ → ℕ) (e : State) → length r < n → left ≡ none_left → GoesAlone P false Bad Node q busy left → walk P q busy r ≡ Some e → Bad e → ⊥

    -- a step that nobody else sees is in the walk, and comes first; or it isn't, and then it comes first without harm
    whole_at_once : (n : ℕ) → WholeBelow n → (r : List ℕ) (q : State) (t : ℕ) (left : ℕ → ℕ) (next e : State) → length r ≤ n → less left t ≡ none_left → HasUnseenStep P q t → step P q t ≡ Some next
        → GoesAlone P false Bad Node next None (less left t) → walk P q None r ≡ Some e → Bad e → ((end : State) → walk P next None r ≡ Some end → Bad end → ⊥) → (some : Bool) → nat_lt 0 (entry_counts r t) ≡ some → ⊥
    whole_at_once n shorter r q t left next e long same unseen steps comes walks bad again true some =
        let found = at_once P r q None t e unseen tt some walks in
        let short = found.shorter in
        shorter found.rest next None (less left t) e (omega (arith, long, short)) same comes (ap (λ x. walk P x None found.rest) (sym (behind_it q t next unseen steps)) ∙ found.walks) bad
    whole_at_once n shorter r q t left next e long same unseen steps comes walks bad again false none =
        let found = before_all P r q None t e unseen none walks in
        again found.end (ap (λ x. walk P x None r) (sym (behind_it q t next unseen steps)) ∙ found.walks) (shared e found.end found.heap found.output bad)

    whole_one : (n : ℕ) → WholeBelow n → (r : List ℕ) (q : State) (busy : Option ℕ) (left : ℕ → ℕ) (e : State) → length r ≤ n → left ≡ none_left → GoesAlone P false Bad Node q busy left → walk P q busy r ≡ Some e → Bad e → ⊥
    whole_one n shorter [] _ _ _ e long same (is_there q busy left node) walks bad =
        closed.good q busy left node (λ t. ap (λ (f : ℕ → ℕ). f t) same) (subst Bad (sym (same_Some q e walks)) bad)
    whole_one n shorter (t ∷ r) _ _ _ e long same (is_there q busy left node) walks bad =
        let b = begins P q busy t r e walks in
        shorter r b.next (must_step_next P b.next t) (less left t) e (omega (arith, long)) (ap (λ f. less f t) same ∙ less_none t)
        (closed.goes q busy left t b.next node refl b.may b.steps) b.rest bad
    whole_one n shorter [] _ _ _ e long same (goes_on q t left next allowed ends steps comes) walks bad =
        ends (λ u. ap (λ (f : ℕ → ℕ). f u) same) (subst Bad (sym (same_Some q e walks)) bad)
    whole_one n shorter (u ∷ r) _ _ _ e long same (goes_on q t left next allowed ends steps comes) walks bad =
        shorter r next (must_step_next P next t) (less left t) e (omega (arith, long)) (ap (λ f. less f t) same ∙ less_none t) comes (on_alone q t u next r e steps walks).1 bad
    whole_one n shorter r _ _ _ e long same (comes_at_once q t left next allowed unseen steps comes) walks bad =
        let none : less left t ≡ none_left = ap (λ f. less f t) same ∙ less_none t in
        whole_at_once n shorter r q t left next e long none unseen steps comes walks bad
        (λ end on ends. whole_one n shorter r next None (less left t) end long none comes on ends) (nat_lt 0 (entry_counts r t)) refl

    whole_below : (n : ℕ) → WholeBelow n
    whole_below zero r q busy left e long same comes walks bad = absurd (omega (arith, long))
    whole_below (suc n) r q busy left e long same comes walks bad = whole_one n (whole_below n) r q busy left e (omega (arith, long)) same comes walks bad

module _ (P : Program) (Like : State → State → Type 0) (Bad : State → Type 0) (Node : State → Option ℕ → (ℕ → ℕ) → Type 0) where
  -- such a set with the entries of the schedule shows that it has no order
  pub none_kept_up_to : (s : List ℕ) (q : State) → ((e : State) → Like q e → Bad e) → IsClosedUpTo P true Bad Node → GoesAlone P true Bad Node (initial P) None (entry_counts s) → IsKeptAs P Like s q → ⊥
  none_kept_up_to s q bad closed start kept =
      let r = kept.0 in
      let order = kept.1 in
      counted_below P Bad Node closed (suc (length r)) r (initial P) None (entry_counts s) order.last (omega arith) (same_counts s r order.rearranges) start
      (uninterrupted_walks P r order.last order.runs order.uninterrupted) (bad order.last order.like)

  -- one without counts, that no schedule that interrupts nobody ends so
  pub none_reached_up_to : (q : State) → ((e : State) → Like q e → Bad e) → IsOfShared Bad → IsClosedUpTo P false Bad Node → GoesAlone P false Bad Node (initial P) None none_left → IsReachedAs P Like q → ⊥
  none_reached_up_to q bad shared closed start reached =
      let way = reached.1 in
      whole_below P Bad Node closed shared (suc (length reached.0)) reached.0 (initial P) None none_left way.last (omega arith) refl start
      (uninterrupted_walks P reached.0 way.last way.runs way.uninterrupted) (bad way.last way.like)
