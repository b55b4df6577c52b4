-- Sets of nodes that grow, and what they show at the end.
use Rattle.std.proofs.Common.{◌≡◌, ℕ, zero, suc, ◌+◌, ◌<◌, ◌≤◌, ◌==◌, Bool, true, false, List, [], ◌∷◌, ◌++◌, length, get_or, refl, sym, ap, subst, ◌∙◌, arith, append-nil}
use Rattle.std.proofs.Common.{inl, inr}
use Rattle.std.specs.Prelude.{Option, Some, None, Result, IfOk, nat_lt, slice_get, map, Vec}
use Rattle.std.proofs.lemmas.List.{length-map}
use Rattle.std.proofs.lemmas.Result.{IfOk-weaker}
use Rattle.std.specs.declared.alloc.Global.{Global}
use Rattle.std.specs.declared.alloc.AllocError.{AllocError}
use Rattle.std.proofs.lemmas.Option.{same_Some, slice_get-get_or, slice_get_past, slice_get_within}
use Rattle.std.proofs.lemmas.Bool.{eqb-true, ltb-true, ltb-false}
use Rattle.std.proofs.lemmas.Bool.Decides.{nat_tests}
use Rattle.base.proofs.Lists.{at_left, at_either, get_last, get_below}
use Rattle.core_program.specs.Core.{Program}
use Rattle.state.specs.States.{State, initial}
use Rattle.state.specs.Frames.{code_thread}
use Rattle.semantics.specs.Step.{step, state_after, turn, seen_by}
use Rattle.machine.proofs.Simulation.{threads_long}
use Rattle.machine.specs.Standing.{program_run}
use Rattle.witness.specs.Walks.{walk, must_step_next, entry_counts, less, none_left}
use Rattle.witness.proofs.UnseenWalks.{none_kept_up_to, none_reached_up_to}
use Rattle.witness.proofs.PassedLemmas.{comes_then, sought_shared}
use Rattle.witness.specs.Unseen.{is_there, IsClosedUpTo}
use Rattle.witness.proofs.WalkLemmas.{walk_runs, walk_uninterrupted}
use Rattle.witness.specs.declared.judge.Judged.{Judged}
use Rattle.witness.specs.declared.judge.Judged.TheVariants as answer
use Rattle.witness.specs.declared.node.Node.{Node}
use Rattle.witness.specs.declared.search.Search.{Search}
use Rattle.witness.specs.Judging.{AreLike, IsGoal, IsJudged, IsJudgedWhole}
use Rattle.witness.specs.Nodes.{left_at, Covers, IsStart, IsTwin, IsChild}
use Rattle.witness.specs.Searching.{searched, start_left, IsNode, WalksTo, IsScheduleTo, at_start, on_from, AreNodes, IsNextNode, InSet, Extends, IsEndSought, IsPassed, LeadsIn, IsNodeAdded, IsNodeReached, IsFollowed, IsExpanded, IsFound}
use Rattle.witness.proofs.NodeLemmas.{twin_covers, leads_node, leads_comes, leads_in, no_child, start_node, start_comes, start_covers}

pub same_extends : (nodes : List Node) → Extends nodes nodes
same_extends nodes k n there = there

pub then_extends : (xs ys zs : List Node) → Extends xs ys → Extends ys zs → Extends xs zs
then_extends xs ys zs one other k n there = other k n (one k n there)

pub in_more : (old new : List Node) → Extends old new → (q : State) (busy : Option ℕ) (left : ℕ → ℕ) → InSet old q busy left → InSet new q busy left
in_more old new extends q busy left within = (within.0, within.1, extends within.0 within.1 within.2, within.3)

pub leads_more : (s : Search) (old new : List Node) (n : Node) (t : ℕ) → Extends old new → LeadsIn s old n t → LeadsIn s new n t
leads_more s old new n t extends leads q busy left next h allowed may steps =
    comes_then s (InSet old) (InSet new) (λ p b l there. is_there p b l (in_more old new extends p b l there)) next (must_step_next (searched s) next t) (less left t) (leads q busy left next h allowed may steps)

-- where nodes are added the schedules that lead to the others stay
pub leads_to_more : (old new : List Node) → Extends old new → (place : ℕ) (r : List ℕ) → IsScheduleTo old place r → IsScheduleTo new place r
leads_to_more old new extends _ _ at_start = at_start
leads_to_more old new extends _ _ (on_from place n before there earlier leads) = on_from place n before (extends place n there) earlier (leads_to_more old new extends n.from before leads)

-- A node is added.

-- where a twin is there already
pub known_added : (s : Search) (nodes : List Node) (n : Node) (room : Bool) → AreNodes s nodes → IsNode s n → ((k : ℕ) × (m : Node) × (slice_get nodes k ≡ Some m) × IsTwin m n) → IsNodeAdded s nodes nodes n room
known_added s nodes n room are node twin = record {
  nodes = are;
  extends = same_extends nodes;
  within = λ is q busy left h. (twin.0, twin.1, twin.2, twin_covers s twin.1 n (are.each twin.0 twin.1 twin.2) node twin.3 q busy left h);
}

-- where there is no room
pub full_added : (s : Search) (nodes : List Node) (n : Node) (room : Bool) → AreNodes s nodes → room ≡ false → IsNodeAdded s nodes nodes n room
full_added s nodes n room are none = record { nodes = are; extends = same_extends nodes; within = λ is. absurd (let e : false ≡ true = sym none ∙ is in cc) }

-- at the end of the list
last_is : (n m : Node) (j : ℕ) → slice_get (n ∷ []) j ≡ Some m → (n ≡ m) × (j ≡ 0)
last_is n m zero there = (same_Some n m there, refl)
last_is n m (suc j) there = absurd cc

pub one_more : (s : Search) (nodes : List Node) (n : Node) → AreNodes s nodes → IsNextNode s nodes n → n.machine.made < 4294967295 → AreNodes s (nodes ++ n ∷ [])
one_more s nodes n are next few = record {
  each = λ k m there. elim (at_either nodes (n ∷ []) k m there) [ inl h ↦ are.each k m h | inr h ↦ subst (IsNode s) (last_is n m h.0 h.2).0 next.node ];
  few = λ k m there. elim (at_either nodes (n ∷ []) k m there) [
    | inl h ↦ are.few k m h
    | inr h ↦ subst (λ (x : Node). x.machine.made < 4294967295) (last_is n m h.0 h.2).0 few
  ];
  come = λ k m there. elim (at_either nodes (n ∷ []) k m there) [
    | inl h ↦ old_comes k m h
    | inr h ↦ let last = last_is n m h.0 h.2 in new_comes k m last.0 (omega (arith, h.1, last.1)) there
  ];
}
  where
    extends : Extends nodes (nodes ++ n ∷ [])
    extends k m there = at_left nodes (n ∷ []) k m there

    old_comes : (k : ℕ) (m : Node) → slice_get nodes k ≡ Some m → (r : List ℕ) × IsScheduleTo (nodes ++ n ∷ []) k r × WalksTo s r m
    old_comes k m there = let come = are.come k m there in (come.0, leads_to_more nodes (nodes ++ n ∷ []) extends k come.0 come.1, come.2)

    new_comes : (k : ℕ) (m : Node) → n ≡ m → k ≡ length nodes → slice_get (nodes ++ n ∷ []) k ≡ Some m → (r : List ℕ) × IsScheduleTo (nodes ++ n ∷ []) k r × WalksTo s r m
    new_comes k m same is there =
        let earlier : n.from < k = omega (arith, next.earlier, is) in
        subst (λ (x : Node). (r : List ℕ) × IsScheduleTo (nodes ++ n ∷ []) k r × WalksTo s r x) same (
          next.before ++ n.steps.items,
          on_from k n next.before (there ∙ ap Some (sym same)) earlier (leads_to_more nodes (nodes ++ n ∷ []) extends n.from next.before next.leads),
          next.comes,
        )

pub new_added : (s : Search) (nodes new : List Node) (n : Node) (room : Bool) → new ≡ nodes ++ n ∷ [] → AreNodes s nodes → IsNextNode s nodes n → n.machine.made < 4294967295 → IsNodeAdded s nodes new n room
new_added s nodes new n room is are next few = subst (λ xs. IsNodeAdded s nodes xs n room) (sym is) (record {
  nodes = one_more s nodes n are next few;
  extends = λ k m there. at_left nodes (n ∷ []) k m there;
  within = λ room_is q busy left h. (length nodes, n, get_last nodes n, h);
})

-- what the search came to was added
pub reached_added : (s : Search) (old new : List Node) (n m : Node) (room : Bool) → IsPassed s n m → IsNodeAdded s old new m room → IsNodeReached s old new n room
reached_added s old new n m room passed added = record {
  nodes = added.nodes;
  extends = added.extends;
  within = λ is q busy left h. comes_then s (Covers m) (InSet new) (λ p b l c. is_there p b l (added.within is p b l c)) q busy left (passed.comes q busy left h);
}

-- behind a node that may be added, the one to which the search went on may be
pub passed_next : (s : Search) (nodes : List Node) (n m : Node) → IsNextNode s nodes n → IsPassed s n m → IsNextNode s nodes m
passed_next s nodes n m next passed = record {
  node = passed.node;
  earlier = omega (arith, passed.from, next.earlier);
  before = next.before;
  leads = subst (λ k. IsScheduleTo nodes k next.before) (sym passed.from) next.leads;
  comes = passed.steps next.before next.comes;
}

-- the first node, at the start
only_node : (s : Search) (n : Node) → IsStart s.program.now s.code.now s.left.now n → AreNodes s (n ∷ [])
only_node s n start = record {
  each = λ k m there. subst (IsNode s) (last_is n m k there).0 (start_node s n start);
  few = λ k m there. subst (λ (x : Node). x.machine.made < 4294967295) (last_is n m k there).0 (omega (arith, start.made));
  come = λ k m there.
      let last = last_is n m k there in
      ([], subst (λ j. IsScheduleTo (n ∷ []) j []) (sym last.1) at_start, subst (WalksTo s []) last.0 (start_comes s n start));
}

pub first_nodes : (s : Search) (nodes old : List Node) (n : Node) → old ≡ [] → nodes ≡ old ++ n ∷ [] → IsStart s.program.now s.code.now s.left.now n → AreNodes s nodes
first_nodes s nodes old n none is start = subst (AreNodes s) (sym (is ∙ ap (λ xs. xs ++ n ∷ []) none)) (only_node s n start)

pub first_set : (s : Search) (nodes old : List Node) (n : Node) → old ≡ [] → nodes ≡ old ++ n ∷ [] → IsStart s.program.now s.code.now s.left.now n → InSet nodes (initial (searched s)) None (start_left s)
first_set s nodes old n none is start = (0, n, ap (λ xs. slice_get xs 0) (is ∙ ap (λ xs. xs ++ n ∷ []) none), start_covers s n start)

-- Threads that aren't there.

absent_waits : (P : Program) (q : State) (t : ℕ) → slice_get q.threads t ≡ None → step P q t ≡ None
absent_waits P q t gone = ap (λ c. state_after q t (turn P (seen_by t q) t c)) gone

pub absent_leads : (s : Search) (nodes : List Node) (n : Node) (t : ℕ) → length n.machine.state.threads ≤ t → LeadsIn s nodes n t
absent_leads s nodes n t past q busy left next h allowed may steps =
    let long = threads_long (program_run n.machine) n.machine.code.code.items (map code_thread n.machine.state.threads) q.threads h.stands.threads in
    let many = length-map n.machine.state.threads code_thread in
    let gone : slice_get q.threads t ≡ None = slice_get_past q.threads t (omega (arith, past, long, many)) in
    absurd (let e : None ≡ Some next = sym (absent_waits (searched s) q t gone) ∙ steps in cc)

-- A step of a thread is followed.

-- the node that stands at this place
pub node_at : (nodes : List Node) (n : Node) (k : ℕ) → k < length nodes → n ≡ get_or nodes k n → slice_get nodes k ≡ Some n
node_at nodes n k within is = slice_get-get_or nodes k n within ∙ ap Some (sym is)

module _ (s : Search) (nodes : List Node) (n : Node) (place t : ℕ) (here : slice_get nodes place ≡ Some n) (are : AreNodes s nodes) where
  pub child_node : (next : Node) → IsChild s.counted n place t (Some next) → IsNextNode s nodes next
  child_node next child =
      let come = are.come place n here in
      let within = slice_get_within nodes place n here in
      record {
        node = leads_node s n next t (are.each place n here) child.2;
        earlier = omega (arith, child.3, within);
        before = come.0;
        leads = subst (λ k. IsScheduleTo nodes k come.0) (sym child.3) come.1;
        comes = subst (λ xs. WalksTo s (come.0 ++ xs) next) (sym child.4) (leads_comes s n next t (are.each place n here) child.2 come.0 come.2 child.0 child.1);
      }

  pub child_followed : (new : List Node) (next : Node) (room : Bool) → IsChild s.counted n place t (Some next) → IsNodeReached s nodes new next room → IsFollowed s nodes new place t room
  child_followed new next room child added = record {
    nodes = added.nodes;
    extends = added.extends;
    leads = λ is m there.
        let same : n ≡ m = same_Some n m (sym here ∙ there) in
        subst (λ x. LeadsIn s new x t) same (leads_in s n next t (are.each place n here) child.2 new (added.within is));
  }

  pub none_leads : IsChild s.counted n place t None → IsFollowed s nodes nodes place t true
  none_leads none = record {
    nodes = are;
    extends = same_extends nodes;
    leads = λ is m there.
        let same : n ≡ m = same_Some n m (sym here ∙ there) in
        subst (λ x. LeadsIn s nodes x t) same (no_child s n place t nodes (are.each place n here) none);
  }

-- What is found.

-- no node without entries left has an end like this
abbrev pub IsNoEnd : Search → State → Node → Type 0
IsNoEnd s q n = (e : State) → Covers n e n.busy (left_at n) → AreLike s.goal.by q e → ((t : ℕ) → left_at n t ≡ 0) → ⊥

module _ (s : Search) (q : State) where
  abbrev Like : State → State → Type 0
  Like = AreLike s.goal.by

  closed_set : (nodes : List Node) → ((k : ℕ) (n : Node) (t : ℕ) → slice_get nodes k ≡ Some n → LeadsIn s nodes n t) → ((p : State) → IsGoal s.goal p → (k : ℕ) (n : Node) → slice_get nodes k ≡ Some n → IsNoEnd s p n)
      → IsClosedUpTo (searched s) s.counted (IsEndSought s) (InSet nodes)
  closed_set nodes leads ends = record {
    goes = λ p busy left t next within allowed may steps. leads within.0 within.1 t within.2 p busy left next within.3 allowed may steps;
    good = λ p busy left within zeros bad. ends bad.0 bad.1 within.0 within.1 within.2 p (record { stands = within.3.stands; waits = refl; counts = refl }) bad.2 (λ t. ap (λ (f : ℕ → ℕ). f t) within.3.counts ∙ zeros t);
  }

  pub broken_found : (nodes : List Node) → IsGoal s.goal q → InSet nodes (initial (searched s)) None (start_left s)
      → ((k : ℕ) (n : Node) (t : ℕ) → slice_get nodes k ≡ Some n → LeadsIn s nodes n t) → ((p : State) → IsGoal s.goal p → (k : ℕ) (n : Node) → slice_get nodes k ≡ Some n → IsNoEnd s p n)
      → IsFound s q answer.Broken
  broken_found nodes goal start leads ends = (
    λ counted r same. none_kept_up_to (searched s) Like (IsEndSought s) (InSet nodes) r q (λ e like. (q, goal, like)) (subst (λ b. IsClosedUpTo (searched s) b (IsEndSought s) (InSet nodes)) counted (closed_set nodes leads ends))
        (is_there (initial (searched s)) None (entry_counts r) (subst (InSet nodes (initial (searched s)) None) (sym same) start)),
    λ whole none. none_reached_up_to (searched s) Like (IsEndSought s) (InSet nodes) q (λ e like. (q, goal, like)) (sought_shared s) (subst (λ b. IsClosedUpTo (searched s) b (IsEndSought s) (InSet nodes)) whole (closed_set nodes leads ends))
        (is_there (initial (searched s)) None none_left (subst (InSet nodes (initial (searched s)) None) none start)),
  )

  pub kept_found : (n : Node) (r : Vec ℕ Global) → WalksTo s r.items n → ((e : State) → Covers n e n.busy (left_at n) → Like q e) → ((t : ℕ) → left_at n t ≡ 0) → IsFound s q (answer.Kept r)
  kept_found n r comes like zeros = (
    comes.last,
    ap (walk (searched s) (initial (searched s)) None) (sym (append-nil r.items)) ∙ comes.walks [],
    like comes.last (record { stands = comes.stands; waits = refl; counts = refl }),
    λ counted t. total counted t,
  )
    where
      total : s.counted ≡ true → (t : ℕ) → entry_counts r.items t ≡ start_left s t
      total counted t = let sum = comes.total counted t in omega (arith, sum, zeros t)

-- the node at a place, at an end that is looked for
pub kept_at : (s : Search) (q : State) (nodes : List Node) (place : ℕ) (n : Node) (b : Bool) (r : Vec ℕ Global) → slice_get nodes place ≡ Some n → AreNodes s nodes → ((xs : List ℕ) → IsScheduleTo nodes place xs → r.items ≡ xs)
    → IsGoal s.goal q → b ≡ true → ((p e : State) → IsGoal s.goal p → Covers n e n.busy (left_at n) → b ≡ true → AreLike s.goal.by p e) → (b ≡ true → (t : ℕ) → left_at n t ≡ 0) → IsFound s q (answer.Kept r)
kept_at s q nodes place n b r there are is goal so like used =
    let come = are.come place n there in
    kept_found s q n r (subst (λ xs. WalksTo s xs n) (sym (is come.0 come.1)) come.2) (λ e covers. like q e goal covers so) (used so)

-- What is judged.

module _ (s : Search) (q : State) where
  pub judged_orders : (schedule : List ℕ) (j : Judged) → s.counted ≡ true → ((t : ℕ) → start_left s t ≡ entry_counts schedule t) → IsFound s q j → IsJudged (searched s) (AreLike s.goal.by) s.most schedule q j
  judged_orders schedule (answer.Kept r) counted same found = record {
    rearranges = λ t. sym (found.3 counted t ∙ same t);
    uninterrupted = walk_uninterrupted (searched s) r.items found.0 found.1;
    last = found.0;
    runs = walk_runs (searched s) r.items (initial (searched s)) None found.0 found.1;
    like = found.2;
  }
  judged_orders schedule answer.Broken counted same found = found.0 counted schedule (λ i t. sym (same t) i)
  judged_orders schedule (answer.Undecided seen) counted same found = found

  pub judged_ways : (j : Judged) → s.counted ≡ false → ((t : ℕ) → start_left s t ≡ 0) → IsFound s q j → IsJudgedWhole (searched s) (AreLike s.goal.by) s.most q j
  judged_ways (answer.Kept r) whole none found = record {
    uninterrupted = walk_uninterrupted (searched s) r.items found.0 found.1;
    last = found.0;
    runs = walk_runs (searched s) r.items (initial (searched s)) None found.0 found.1;
    like = found.2;
  }
  judged_ways answer.Broken whole none found = found.1 whole (λ i t. none t i)
  judged_ways (answer.Undecided seen) whole none found = found

-- what is answered, where memory wasn't wanting
pub orders_judged : (s : Search) (q : State) (r : Result Judged AllocError) (schedule : List ℕ) → IfOk r (IsFound s q) → s.counted ≡ true → ((t : ℕ) → start_left s t ≡ entry_counts schedule t)
    → IfOk r (IsJudged (searched s) (AreLike s.goal.by) s.most schedule q)
orders_judged s q r schedule found counted same = IfOk-weaker r (IsFound s q) (IsJudged (searched s) (AreLike s.goal.by) s.most schedule q) (λ j found. judged_orders s q schedule j counted same found) found

pub ways_judged : (s : Search) (q : State) (r : Result Judged AllocError) → IfOk r (IsFound s q) → s.counted ≡ false → ((t : ℕ) → start_left s t ≡ 0) → IfOk r (IsJudgedWhole (searched s) (AreLike s.goal.by) s.most q)
ways_judged s q r found whole none = IfOk-weaker r (IsFound s q) (IsJudgedWhole (searched s) (AreLike s.goal.by) s.most q) (λ j found. judged_ways s q j whole none found) found

-- a node that was found to be at no such end
pub no_end_at : (s : Search) (nodes : List Node) (place : ℕ) (n : Node) (b : Bool) → slice_get nodes place ≡ Some n → b ≡ false
    → ((q e : State) → IsGoal s.goal q → Covers n e n.busy (left_at n) → AreLike s.goal.by q e → ((t : ℕ) → left_at n t ≡ 0) → b ≡ true)
    → (q : State) → IsGoal s.goal q → (m : Node) → slice_get nodes place ≡ Some m → IsNoEnd s q m
no_end_at s nodes place n b here fails told q goal m there =
    subst (IsNoEnd s q) (same_Some n m (sym here ∙ there)) (λ e covers like zeros. absurd (let f : false ≡ true = sym fails ∙ told q e goal covers like zeros in cc))

-- The nodes that are expanded.
pub record Explored (s : Search) (nodes : List Node) (place : ℕ) : Type 0 where
  pub are : AreNodes s nodes
  pub start : InSet nodes (initial (searched s)) None (start_left s)
  pub leads : (k : ℕ) (n : Node) (t : ℕ) → k < place → slice_get nodes k ≡ Some n → LeadsIn s nodes n t
  pub ends : (q : State) → IsGoal s.goal q → (k : ℕ) (n : Node) → k < place → slice_get nodes k ≡ Some n → IsNoEnd s q n

pub none_explored : (s : Search) (nodes : List Node) → AreNodes s nodes → InSet nodes (initial (searched s)) None (start_left s) → Explored s nodes 0
none_explored s nodes are start = record {
  are = are;
  start = start;
  leads = λ k n t less. absurd (omega (arith, less));
  ends = λ q goal k n less. absurd (omega (arith, less));
}

module _ (s : Search) (old new : List Node) (place : ℕ) (within : place < length old) (h : Explored s old place) (x : IsExpanded s old new place true) where
  -- a node before the ones that were added is one of the old ones
  old_one : (k : ℕ) (n : Node) → k < length old → slice_get new k ≡ Some n → slice_get old k ≡ Some n
  old_one k n less there =
      let found = get_below old k less in
      let same : found.0 ≡ n = same_Some found.0 n (sym (x.extends k found.0 found.1) ∙ there) in
      found.1 ∙ ap Some same

  before : (k : ℕ) → k < place + 1 → (k ≡ place → ⊥) → k < place
  before k less other = omega (arith, less, other)

  pub explored_more : ((q : State) → IsGoal s.goal q → (n : Node) → slice_get old place ≡ Some n → IsNoEnd s q n) → Explored s new (place + 1)
  explored_more ends = record {
    are = x.nodes;
    start = in_more old new x.extends (initial (searched s)) None (start_left s) h.start;
    leads = λ k n t less there. leads_at k n t less there (k == place) refl;
    ends = λ q goal k n less there. ends_at q goal k n less there (k == place) refl;
  }
    where
      leads_at : (k : ℕ) (n : Node) (t : ℕ) → k < place + 1 → slice_get new k ≡ Some n → (b : Bool) → (k == place) ≡ b → LeadsIn s new n t
      leads_at k n t less there true is =
          let same = eqb-true k place is in
          x.leads refl n (ap (slice_get old) (sym same) ∙ old_one k n (omega (arith, same, within)) there) t
      leads_at k n t less there false is =
          let less : k < place = grind (arith, nat_tests, is, less) in
          leads_more s old new n t x.extends (h.leads k n t less (old_one k n (omega (arith, less, within)) there))

      ends_at : (q : State) → IsGoal s.goal q → (k : ℕ) (n : Node) → k < place + 1 → slice_get new k ≡ Some n → (b : Bool) → (k == place) ≡ b → IsNoEnd s q n
      ends_at q goal k n less there true is =
          let same = eqb-true k place is in
          ends q goal n (ap (slice_get old) (sym same) ∙ old_one k n (omega (arith, same, within)) there)
      ends_at q goal k n less there false is =
          let less : k < place = grind (arith, nat_tests, is, less) in
          h.ends q goal k n less (old_one k n (omega (arith, less, within)) there)

pub explored_all : (s : Search) (nodes : List Node) (place : ℕ) → Explored s nodes place → length nodes ≤ place → (q : State) → IsGoal s.goal q → IsFound s q answer.Broken
explored_all s nodes place h all q goal =
    broken_found s q nodes goal h.start
    (λ k n t there. h.leads k n t (let less = slice_get_within nodes k n there in omega (arith, less, all)) there)
    (λ p is k n there. h.ends p is k n (let less = slice_get_within nodes k n there in omega (arith, less, all)) there)

-- The threads whose steps from a node lead into the set.
pub record Followed (s : Search) (old new : List Node) (place count : ℕ) : Type 0 where
  pub are : AreNodes s new
  pub extends : Extends old new
  pub leads : (n : Node) (t : ℕ) → slice_get old place ≡ Some n → t < count → LeadsIn s new n t

pub none_followed : (s : Search) (nodes : List Node) (place : ℕ) → AreNodes s nodes → Followed s nodes nodes place 0
none_followed s nodes place are = record { are = are; extends = same_extends nodes; leads = λ n t there less. absurd (omega (arith, less)) }

pub one_followed : (s : Search) (old mid new : List Node) (place count : ℕ) → Followed s old mid place count → IsFollowed s mid new place count true → Followed s old new place (count + 1)
one_followed s old mid new place count h x = record {
  are = x.nodes;
  extends = then_extends old mid new h.extends x.extends;
  leads = λ n t there less. at n t there less (t == count) refl;
}
  where
    at : (n : Node) (t : ℕ) → slice_get old place ≡ Some n → t < count + 1 → (b : Bool) → (t == count) ≡ b → LeadsIn s new n t
    at n t there less true is =
        let same = eqb-true t count is in
        subst (LeadsIn s new n) (sym same) (x.leads refl n (h.extends place n there))
    at n t there less false is =
        let less : t < count = grind (arith, nat_tests, is, less) in
        leads_more s mid new n t x.extends (h.leads n t there less)

-- where the set is full
pub full_followed : (s : Search) (old mid new : List Node) (place count t : ℕ) → Followed s old mid place count → IsFollowed s mid new place t false → IsExpanded s old new place false
full_followed s old mid new place count t h x = record {
  nodes = x.nodes;
  extends = then_extends old mid new h.extends x.extends;
  leads = λ is. absurd cc;
}

-- all threads there are
pub all_followed : (s : Search) (old new : List Node) (place count : ℕ) (n : Node) → slice_get old place ≡ Some n → length n.machine.state.threads ≤ count → Followed s old new place count → IsExpanded s old new place true
all_followed s old new place count n there many h = record {
  nodes = h.are;
  extends = h.extends;
  leads = λ is m here t. at m here t (nat_lt t count) refl;
}
  where
    at : (m : Node) → slice_get old place ≡ Some m → (t : ℕ) → (b : Bool) → nat_lt t count ≡ b → LeadsIn s new m t
    at m here t true is = h.leads m t here (ltb-true t count is)
    at m here t false is =
        let same : n ≡ m = same_Some n m (sym there ∙ here) in
        subst (λ x. LeadsIn s new x t) same (absent_leads s new n t (let past = ltb-false t count is in omega (arith, past, many)))
