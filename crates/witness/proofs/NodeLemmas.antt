-- Nodes, and what steps of theirs lead to.
use Rattle.std.proofs.Common.{◌≡◌, ◌≢◌, ℕ, ◌+◌, ◌-◌, ◌<◌, ◌==◌, Bool, true, false, List, [], ◌∷◌, ◌++◌, refl, sym, ap, subst, ◌∙◌, arith, append_assoc}
use Rattle.std.specs.Prelude.{Option, Some, None, Ok, Err, nat_lt, not, ◌||◌, if◌then◌else◌}
use Rattle.std.proofs.lemmas.Bool.{eqb-true}
use Rattle.std.proofs.lemmas.Bool.Decides.{nat_tests}
use Rattle.std.proofs.lemmas.Grind.{common_steps}
use Rattle.std.proofs.lemmas.Option.{same_Some}
use Rattle.core_program.specs.Core.{Program}
use Rattle.core_program.specs.Views.{program_of}
use Rattle.state.specs.States.{State, Thread, initial}
use Rattle.std.specs.Option.{option_map}
use Rattle.semantics.specs.Run.{is_inside, is_inside_some}
use Rattle.semantics.specs.Step.{Outcome, Moves, Absent, IsDone, HadFaulted, Waits, outcome, step, state_after}
use Rattle.machine.specs.declared.deed.StepEnd.{StepEnd}
use Rattle.machine.specs.declared.deed.StepEnd.TheVariants as ends
use Rattle.machine.specs.Likeness.{StateStands}
use Rattle.machine.specs.MachineValue.{MachineValue, code_state}
use Rattle.machine.specs.Standing.{program_run, StandsFor, IsTurn}
use Rattle.machine.proofs.Schedules.{turned}
use Rattle.witness.specs.Walks.{walk, may_step, must_step_next, entry_counts, less, allows}
use Rattle.witness.proofs.WalkLemmas.{begun}
use Rattle.witness.specs.declared.node.Node.{Node}
use Rattle.witness.specs.declared.search.Search.{Search}
use Rattle.witness.specs.Tables.{count_at}
use Rattle.witness.specs.Nodes.{left_at, Covers, HasStepped, IsStart, StepsTo, IsChild, IsTwin}
use Rattle.witness.specs.Searching.{searched, start_left, IsNode, WalksTo, InSet, Comes, LeadsIn}

-- Who stands inside an atomic call.

pub inside_some : (P : Program) (o : Option Thread) (r : Option Bool) (b : Bool) → r ≡ option_map (is_inside P) o → r ≡ Some b → b ≡ is_inside_some P o
inside_some P None r b is found = absurd (let e : Some b ≡ None = sym found ∙ is in cc)
inside_some P (Some thread) r b is found = let e : Some b ≡ Some (is_inside P thread) = sym found ∙ is in same_Some b (is_inside P thread) e

pub inside_none : (P : Program) (o : Option Thread) (r : Option Bool) → r ≡ option_map (is_inside P) o → r ≡ None → false ≡ is_inside_some P o
inside_none P None r is found = refl
inside_none P (Some thread) r is found = absurd (let e : None ≡ Some (is_inside P thread) = sym found ∙ is in cc)

-- One step of a machine.

-- a refusal for another reason than want of memory is no step
stuck : (t : ℕ) (why : StepEnd) (m : MachineValue) (q : State) (o : Outcome) → IsTurn t (Err why) m q o → why ≢ ends.NoMemory → state_after q t o ≡ None
stuck t why m q (Moves move) is other = absurd (other is)
stuck t why m q Absent is other = refl
stuck t why m q IsDone is other = refl
stuck t why m q (HadFaulted kind) is other = refl
stuck t why m q (Waits a holder) is other = refl

module _ (m copy new : MachineValue) (t : ℕ) (same : copy ≡ m) where
  -- the copy stands for what the machine does
  copied : (q : State) → StandsFor m q → StandsFor copy q
  copied q stands = subst (λ x. StandsFor x q) (sym same) stands

  pub has_stepped : ((q : State) → StandsFor copy q → IsTurn t (Ok tt) new q (outcome (program_run copy) q t)) → (q : State) → StandsFor m q → HasStepped (program_run m) q t (Some new)
  has_stepped turn q stands = subst (λ x. HasStepped (program_run x) q t (Some new)) same (turned t new q (outcome (program_run copy) q t) (turn q (copied q stands)))

  pub has_not_stepped : (why : StepEnd) → ((q : State) → StandsFor copy q → IsTurn t (Err why) new q (outcome (program_run copy) q t)) → why ≢ ends.NoMemory → (q : State) → StandsFor m q → HasStepped (program_run m) q t None
  has_not_stepped why turn other q stands = subst (λ x. step (program_run x) q t ≡ None) same (stuck t why new q (outcome (program_run copy) q t) (turn q (copied q stands)) other)

-- the machines of two programs that are the same stand for the same
pub stands_too : (m n : MachineValue) (q : State) → m.program ≡ n.program → m.code ≡ n.code → code_state m.state ≡ code_state n.state → StandsFor n q → StandsFor m q
stands_too m n q programs codes states h = subst (λ X. X) (λ j. StateStands (program_of (sym programs j)) ((sym codes j).code.items) (sym states j) q) h

-- Twins are the nodes for the same.
pub twin_covers : (s : Search) (n m : Node) → IsNode s n → IsNode s m → IsTwin n m → (q : State) (busy : Option ℕ) (left : ℕ → ℕ) → Covers m q busy left → Covers n q busy left
twin_covers s n m one other twin q busy left h = record {
  stands = stands_too n.machine m.machine q (one.runs ∙ sym other.runs) (one.coded ∙ sym other.coded) twin.state h.stands;
  waits = twin.waits ∙ h.waits;
  counts = ap count_at twin.counts ∙ h.counts;
}

-- The node behind a step.
module _ (s : Search) (n next : Node) (t : ℕ) (node : IsNode s n) (to : StepsTo n t next) where
  abbrev P : Program
  P = searched s

  runs_still : program_run n.machine ≡ P
  runs_still = ap program_of node.runs

  runs_next : program_run to.machine ≡ P
  runs_next = ap program_of (to.runs ∙ node.runs)

  -- who has to go on there
  busy_next : (r : State) → StandsFor to.machine r → next.busy ≡ must_step_next P r t
  busy_next r stands = to.behind.waits r stands ∙ ap (λ p. must_step_next p r t) runs_next

  stands_next : (r : State) → StandsFor to.machine r → StandsFor next.machine r
  stands_next r stands = subst (λ m. StandsFor m r) (sym to.behind.machine) stands

  pub leads_covers : (q : State) (busy : Option ℕ) (left : ℕ → ℕ) (r : State) → Covers n q busy left → step P q t ≡ Some r → Covers next r (must_step_next P r t) (less left t)
  leads_covers q busy left r h steps =
      let made = to.steps q h.stands in
      let same : made.0 ≡ r = same_Some made.0 r (sym made.1 ∙ ap (λ p. step p q t) runs_still ∙ steps) in
      let stands : StandsFor to.machine r = subst (StandsFor to.machine) same made.2 in
      record {
        stands = stands_next r stands;
        waits = busy_next r stands;
        counts = λ i u. (to.behind.counts u ∙ ap (λ f. less f t u) h.counts) i;
      }

  -- one entry more of the schedule, one less that is left
  moved_one : (a b : ℕ) (left : ℕ → ℕ) (u : ℕ) (is : Bool) → (t == u) ≡ is → (allowed : nat_lt 0 (left t) ≡ true) → a + left u ≡ b → (a + (if is then 1 else 0)) + (if is then left u - 1 else left u) ≡ b
  moved_one a b left u true is allowed total =
      let same = eqb-true t u is in
      let some : 0 < left u = subst (λ v. 0 < left v) same (grind (arith, nat_tests, allowed)) in
      omega (arith, some, total)
  moved_one a b left u false is allowed total = omega (arith, total)

  pub leads_node : IsNode s next
  leads_node = record {
    runs = ap (λ m. m.program) to.behind.machine ∙ to.runs ∙ node.runs;
    coded = ap (λ m. m.code) to.behind.machine ∙ to.coded ∙ node.coded;
  }

  pub leads_comes : (xs : List ℕ) → WalksTo s xs n → allows s.counted (left_at n) t ≡ true → may_step n.busy t ≡ true → WalksTo s (xs ++ t ∷ []) next
  leads_comes xs comes allowed may =
      let made = to.steps comes.last comes.stands in
      let r = made.0 in
      let steps : step P comes.last t ≡ Some r = ap (λ p. step p comes.last t) (sym runs_still) ∙ made.1 in
      record {
        last = r;
        stands = stands_next r made.2;
        walks = λ more. ap (walk P (initial P) None) (append_assoc xs (t ∷ []) more)
            ∙ comes.walks (t ∷ more)
            ∙ begun P comes.last n.busy t more r may steps
            ∙ ap (λ b. walk P r b more) (sym (busy_next r made.2));
        total = λ counted u. total_next counted u;
      }
    where
      -- in a counted search entries are left
      some_left : (b : Bool) (x : ℕ) → b ≡ true → (not b || nat_lt 0 x) ≡ true → nat_lt 0 x ≡ true
      some_left true x is h = h
      some_left false x is h = absurd cc

      counts_more : (u : ℕ) → entry_counts (xs ++ t ∷ []) u ≡ entry_counts xs u + (if t == u then 1 else 0)
      counts_more u = grind (arith, common_steps)

      total_next : s.counted ≡ true → (u : ℕ) → entry_counts (xs ++ t ∷ []) u + left_at next u ≡ start_left s u
      total_next counted u =
          (λ i. counts_more u i + to.behind.counts u i)
          ∙ moved_one (entry_counts xs u) (start_left s u) (left_at n) u (t == u) refl (some_left s.counted (left_at n t) counted allowed) (comes.total counted u)

  pub leads_made : next.machine.made ≡ n.machine.made + 1
  leads_made = ap (λ m. m.made) to.behind.machine ∙ to.made

  -- each step of the thread leads to the node
  pub leads_in : (nodes : List Node) → ((q : State) (busy : Option ℕ) (left : ℕ → ℕ) → Covers next q busy left → Comes s (InSet nodes) q busy left) → LeadsIn s nodes n t
  leads_in nodes within q busy left r h allowed may steps = within r (must_step_next P r t) (less left t) (leads_covers q busy left r h steps)

-- where there is no child no step leads anywhere
pub no_child : (s : Search) (n : Node) (place t : ℕ) (nodes : List Node) → IsNode s n → IsChild s.counted n place t None → LeadsIn s nodes n t
no_child s n place t nodes node none q busy left r h allowed may steps =
    let here : allows s.counted (left_at n) t ≡ true = ap (λ f. allows s.counted f t) h.counts ∙ allowed in
    let free : may_step n.busy t ≡ true = ap (λ b. may_step b t) h.waits ∙ may in
    let gone : step (searched s) q t ≡ None = ap (λ p. step p q t) (sym (ap program_of node.runs)) ∙ none here free q h.stands in
    absurd (let e : None ≡ Some r = sym gone ∙ steps in cc)

-- The node at the start.
pub start_node : (s : Search) (n : Node) → IsStart s.program.now s.code.now s.left.now n → IsNode s n
start_node s n start = record { runs = start.runs; coded = start.coded }

pub start_comes : (s : Search) (n : Node) → IsStart s.program.now s.code.now s.left.now n → WalksTo s [] n
start_comes s n start = record {
  last = initial (searched s);
  stands = start.stands;
  walks = λ more. ap (λ b. walk (searched s) (initial (searched s)) b more) (sym start.waits);
  total = λ counted t. let same : left_at n t ≡ start_left s t = ap (λ xs. count_at xs t) start.counts in omega (arith, same);
}

pub start_covers : (s : Search) (n : Node) → IsStart s.program.now s.code.now s.left.now n → Covers n (initial (searched s)) None (start_left s)
start_covers s n start = record { stands = start.stands; waits = start.waits; counts = ap count_at start.counts }
