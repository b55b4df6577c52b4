-- Nodes that are passed while one thread goes on alone.
use Rattle.std.proofs.Common.{◌≡◌, ℕ, ◌<◌, Bool, true, false, List, [], ◌∷◌, ◌++◌, refl, sym, ap, subst, ◌∙◌, ◌+◌, append_assoc}
use Rattle.std.specs.Prelude.{Option, Some, None, IfSome, if◌then◌else◌}
use Rattle.std.proofs.lemmas.Option.{same_Some}
use Rattle.std.proofs.lemmas.Bool.{eq-eqb}
use Rattle.core_program.specs.Views.{program_of}
use Rattle.state.specs.States.{State}
use Rattle.semantics.specs.Run.{inside}
use Rattle.semantics.specs.Step.{step}
use Rattle.machine.specs.Standing.{StandsFor, IsSame}
use Rattle.witness.specs.declared.node.Node.{Node}
use Rattle.witness.specs.declared.search.Search.{Search}
use Rattle.witness.specs.declared.goal.Compared.{Compared}
use Rattle.witness.specs.declared.goal.Compared.TheVariants as by
use Rattle.witness.specs.Tables.{count_at}
use Rattle.witness.specs.Walks.{walk, may_step, must_step_next, entry_counts, less, allows}
use Rattle.witness.specs.Judging.{AreLike}
use Rattle.witness.specs.Nodes.{left_at, Covers, StepsTo, IsAdvanced}
use Rattle.witness.specs.Unseen.{HasUnseenStep, is_there, goes_on, comes_at_once, IsOfShared}
use Rattle.witness.specs.Searching.{searched, IsNode, WalksTo, Comes, IsEndSought, IsAlone, IsLone, IsPassed}
use Rattle.witness.proofs.NodeLemmas.{stands_too, leads_covers, leads_node, leads_comes}
use Rattle.witness.proofs.UnseenSteps.{unseen_next, unseen_steps, unseen_outside}

-- what comes to nodes from which the search comes further comes further
pub comes_then : (s : Search) (One Other : State → Option ℕ → (ℕ → ℕ) → Type 0) → ((q : State) (busy : Option ℕ) (left : ℕ → ℕ) → One q busy left → Comes s Other q busy left)
    → (q : State) (busy : Option ℕ) (left : ℕ → ℕ) → Comes s One q busy left → Comes s Other q busy left
comes_then s One Other on _ _ _ (is_there q busy left node) = on q busy left node
comes_then s One Other on _ _ _ (goes_on q t left next allowed ends steps comes) = goes_on q t left next allowed ends steps (comes_then s One Other on next (must_step_next (searched s) next t) (less left t) comes)
comes_then s One Other on _ _ _ (comes_at_once q t left next allowed unseen steps comes) = comes_at_once q t left next allowed unseen steps (comes_then s One Other on next None (less left t) comes)

-- ends that are looked for are told by what threads share
like_shared : (c : Compared) (g q e : State) → q.heap ≡ e.heap → q.output ≡ e.output → AreLike c g q → AreLike c g e
like_shared by.Objects g q e heap output like = (sym heap ∙ like.0, sym output ∙ like.1)
like_shared by.Output g q e heap output like = sym output ∙ like

pub sought_shared : (s : Search) → IsOfShared (IsEndSought s)
sought_shared s q e heap output sought = (sought.0, sought.1, like_shared s.goal.by sought.0 q e heap output sought.2)

-- One step more.
module _ (s : Search) (m k : Node) (t : ℕ) (node : IsNode s m) (to : StepsTo m t k) where
  -- nobody has to go on behind a step that nobody else sees
  nobody : (q next : State) → HasUnseenStep (searched s) q t → step (searched s) q t ≡ Some next → must_step_next (searched s) next t ≡ None
  nobody q next unseen steps =
      let P = searched s in
      let there : unseen_next P q t unseen ≡ next = same_Some (unseen_next P q t unseen) next (sym (unseen_steps P q t unseen) ∙ steps) in
      ap (λ (b : Bool). if b then Some t else None) (sym (ap (λ x. inside P x t) there) ∙ unseen_outside P q t unseen)

  alone_comes : (q next : State) (busy : Option ℕ) (left : ℕ → ℕ) → allows s.counted left t ≡ true → left_at m ≡ left → StandsFor m.machine q → step (searched s) q t ≡ Some next
      → Covers k next (must_step_next (searched s) next t) (less left t) → IsAlone s m t busy → Comes s (Covers k) q busy left
  alone_comes q next None left allowed counts stands steps covers alone =
      let unseen = alone q stands in
      comes_at_once q t left next allowed unseen steps (is_there next None (less left t) (subst (λ b. Covers k next b (less left t)) (nobody q next unseen steps) covers))
  alone_comes q next (Some u) left allowed counts stands steps covers alone =
      subst (λ v. Comes s (Covers k) q (Some v) left) (sym alone.0)
      (goes_on q t left next allowed (λ zeros bad. alone.1 q stands (λ v. ap (λ (f : ℕ → ℕ). f v) counts ∙ zeros v) bad) steps (is_there next (must_step_next (searched s) next t) (less left t) covers))

  covers_comes : IsLone s m t → (q : State) (busy : Option ℕ) (left : ℕ → ℕ) → Covers m q busy left → Comes s (Covers k) q busy left
  covers_comes lone q busy left h =
      let made = to.steps q h.stands in
      let steps : step (searched s) q t ≡ Some made.0 = ap (λ p. step p q t) (sym (ap program_of node.runs)) ∙ made.1 in
      alone_comes q made.0 busy left (ap (λ f. allows s.counted f t) (sym h.counts) ∙ lone.allowed) h.counts h.stands steps
      (leads_covers s m k t node to q busy left made.0 h steps) (subst (IsAlone s m t) h.waits lone.alone)

  may_alone : (busy : Option ℕ) → IsAlone s m t busy → may_step busy t ≡ true
  may_alone None alone = refl
  may_alone (Some u) alone = eq-eqb t u (sym alone.0)

  lone_comes : IsLone s m t → (xs : List ℕ) → WalksTo s xs m → WalksTo s (xs ++ t ∷ []) k
  lone_comes lone xs comes = leads_comes s m k t node to xs comes lone.allowed (may_alone m.busy lone.alone)

pub passed_none : (s : Search) (n : Node) → IsNode s n → IsPassed s n n
passed_none s n node = record { node = node; from = refl; steps = λ before comes. comes; comes = λ q busy left h. is_there q busy left h }

pub passed_one : (s : Search) (n m k : Node) (t : ℕ) → IsPassed s n m → IsLone s m t → IsAdvanced m t k true → IsPassed s n k
passed_one s n m k t passed lone to = record {
  node = leads_node s m k t passed.node to.0;
  from = to.1 ∙ passed.from;
  steps = λ before comes.
      subst (λ xs. WalksTo s xs k) (append_assoc before m.steps.items (t ∷ []) ∙ ap (λ xs. before ++ xs) (sym to.2))
      (lone_comes s m k t passed.node to.0 lone (before ++ m.steps.items) (passed.steps before comes));
  comes = λ q busy left h. comes_then s (Covers m) (Covers k) (covers_comes s m k t passed.node to.0 lone) q busy left (passed.comes q busy left h);
}

-- Where there was no step the node is as it was.
module _ (s : Search) (m k : Node) (node : IsNode s m) (machine : IsSame k.machine m.machine) (busy : k.busy ≡ m.busy) (left : k.left.items ≡ m.left.items) where
  still_stands : (q : State) → StandsFor m.machine q → StandsFor k.machine q
  still_stands q h = stands_too k.machine m.machine q machine.program machine.code machine.state h

  still_node : IsNode s k
  still_node = record { runs = machine.program ∙ node.runs; coded = machine.code ∙ node.coded }

  still_comes : (xs : List ℕ) → WalksTo s xs m → WalksTo s xs k
  still_comes xs comes = record {
    last = comes.last;
    stands = still_stands comes.last comes.stands;
    walks = λ more. comes.walks more ∙ ap (λ b. walk (searched s) comes.last b more) (sym busy);
    total = λ counted u. (λ i. entry_counts xs u + count_at (left i) u) ∙ comes.total counted u;
  }

  still_covers : (q : State) (b : Option ℕ) (l : ℕ → ℕ) → Covers m q b l → Covers k q b l
  still_covers q b l h = record { stands = still_stands q h.stands; waits = busy ∙ h.waits; counts = ap count_at left ∙ h.counts }

pub passed_still : (s : Search) (n m k : Node) (t : ℕ) → IsPassed s n m → IsAdvanced m t k false → IsPassed s n k
passed_still s n m k t passed still = record {
  node = still_node s m k passed.node still.0 still.1 still.2;
  from = still.3 ∙ passed.from;
  steps = λ before comes. still_comes s m k passed.node still.0 still.1 still.2 (before ++ k.steps.items) (subst (λ xs. WalksTo s (before ++ xs) m) (sym still.4) (passed.steps before comes));
  comes = λ q busy left h. comes_then s (Covers m) (Covers k) (λ p b l c. is_there p b l (still_covers s m k passed.node still.0 still.1 still.2 p b l c)) q busy left (passed.comes q busy left h);
}

-- who goes on alone where nobody has to go on
pub lone_unseen : (s : Search) (n : Node) (o : Option ℕ) → n.busy ≡ None → n.machine.made < 4294967295 → IfSome o (λ t. (allows s.counted (left_at n) t ≡ true) × IsAlone s n t None) → IfSome o (IsLone s n)
lone_unseen s n None free few found = tt
lone_unseen s n (Some t) free few found = record { allowed = found.0; few = few; alone = subst (IsAlone s n t) (sym free) found.1 }
