-- From the least assignment and the verdict on it to the accepted source or its refusal.
use Rattle.std.proofs.Common.{◌≡◌, ◌↔◌, ℕ, ◌≤◌, ◌^◌, true, false, List, Option, Some, None, Result, Ok, Err, IfSome, IfErr, OnOk, is_ok, sym, subst, ap, ◌∙◌, arith, length, slice_get, option_map}
use Rattle.std.proofs.lemmas.List.{length-map}
use Rattle.std.proofs.lemmas.Option.{slice_get-map, same_Some}
use Rattle.algebra.specs.HeldPaths.{Held}
use Rattle.classes.specs.Views.{table_data}
use Rattle.conditions.specs.Conditions.{Cond, value_of, IsCanonical}
use Rattle.conditions.specs.declared.table.Node.{Node}
use Rattle.conditions.specs.Nodes.{Items, IsTable}
use Rattle.conditions.specs.Shown.{IsAmongFirst, AreAmongFirst, node_tree, node_value, trees_at}
use Rattle.conditions.proofs.ShownLemmas.{node_canonical}
use Rattle.core_program.specs.Core.{Program}
use Rattle.core_program.specs.Typed.{IsTyped}
use Rattle.core_program.specs.Views.{program_of}
use Rattle.infer.specs.Least.{IsLeast}
use Rattle.infer.specs.declared.bounds.Broken.{Broken}
use Rattle.infer.specs.Verdicts.{basic_at, HoldBounds, IsFirstBroken, IsBrokenByAll}
use Rattle.report.specs.Verdicts.{broken_line}
use Rattle.rules.specs.Near.{MethodPaths, AreRelevant, AreFew, rel_of}
use Rattle.rules.specs.Rules.{IsAccepted}
use Rattle.syntax.specs.Trees.{ProgramTree}
use Rattle.sources.specs.declared.checking.Source.{Source}
use Rattle.sources.specs.declared.refusal.Ending.TheVariants.{Inadmissible}
use Rattle.sources.specs.declared.refusal.Refusal.{Refusal}
use Rattle.sources.specs.Refusals.{IsRight, Tells}
use Rattle.sources.specs.Checking.{IsSource, IsWellFormedSource}
use Rattle.sources.specs.Judged.{IsJudgedSource, IsJudgement, by_nodes}
use Rattle.sources.specs.Verdicts.{Show, IsShownLeast, NoAccepted, refuted}
use Rattle.sources.proofs.Told.{right_refusal}

-- what was read as a source is a well-formed one
pub well_formed_source : (file : List ℕ) (tree : ProgramTree) (source : Source) → IsSource file tree source → IsWellFormedSource file tree (program_of source.program)
well_formed_source file tree source is = record { has_core = is.has_core; well_formed = (source.sets, is.relevant, is.few) }

-- the trees of nodes show what the nodes assign
shows : (P : Program) (is : Items) (nodes : List Node) → IsTable is → length nodes ≡ length P.methods → AreAmongFirst (length is) nodes → Show P (by_nodes is nodes) (trees_at is nodes)
shows P is nodes table count known = record {
  count = length-map nodes (node_tree is) ∙ count;
  canonical = λ m tree at. canonical m tree (slice_get nodes m) (sym (slice_get-map (node_tree is) nodes m) ∙ at) (known m);
  values = λ m tree at H. value m tree H (slice_get nodes m) (sym (slice_get-map (node_tree is) nodes m) ∙ at);
}
  where
    canonical : (m : ℕ) (tree : Cond) (o : Option Node) → option_map (node_tree is) o ≡ Some tree → IfSome o (IsAmongFirst (length is)) → IsCanonical tree
    canonical m tree (Some n) at known = subst IsCanonical (same_Some (node_tree is n) tree at) (node_canonical is n table known)
    canonical m tree None at known = absurd cc

    value : (m : ℕ) (tree : Cond) (H : Held) (o : Option Node) → option_map (node_tree is) o ≡ Some tree → value_of tree H ≡ basic_at node_value is o H
    value m tree H (Some n) at = ap (λ c. value_of c H) (sym (same_Some (node_tree is n) tree at))
    value m tree H None at = absurd cc

-- the verdict on the nodes of a least closed assignment
pub judgement : (P : Program) (sets : List MethodPaths) (is : Items) (nodes : List Node) (r : Result (Unit {0}) Broken) → IsTyped P → AreRelevant P sets → AreFew sets
    → length nodes ≡ length P.methods → AreAmongFirst (length is) nodes → IsLeast P (rel_of sets) (by_nodes is nodes)
    → (is_ok r ≡ true) ↔ IsAccepted P → OnOk r (HoldBounds P (by_nodes is nodes)) → IfErr r (λ b. IsFirstBroken P (by_nodes is nodes) b.method b.declared b.found)
    → IfErr r (λ b. (others : List MethodPaths) → IsTyped P → AreRelevant P others → IsLeast P (rel_of others) (by_nodes is nodes) → IsBrokenByAll P (rel_of others) b.method)
    → IsJudgement P sets is nodes r
judgement P sets is nodes r typed relevant few count known least accepts holds first all = record {
  least = record { relevant = relevant; few = few; least = least };
  count = count;
  known = known;
  accepted = accepts;
  holds = holds;
  broken = first;
  by_all = by r all;
}
  where
    by : (r : Result (Unit {0}) Broken) → IfErr r (λ b. (others : List MethodPaths) → IsTyped P → AreRelevant P others → IsLeast P (rel_of others) (by_nodes is nodes) → IsBrokenByAll P (rel_of others) b.method)
        → IfErr r (λ b. IsBrokenByAll P (rel_of sets) b.method)
    by (Ok u) h = h
    by (Err b) h = h sets typed relevant least

-- where every bound is kept
pub judged : (P : Program) (sets : List MethodPaths) (is : Items) (nodes : List Node) (r : Result (Unit {0}) Broken) → IsJudgement P sets is nodes r → is_ok r ≡ true → IsJudgedSource P is nodes
judged P sets is nodes r judgement ok = record {
  sets = sets;
  least = judgement.least;
  accepted = judgement.accepted.0 ok;
  count = judgement.count;
  known = judgement.known;
}

-- the trees of what was judged
pub shown_least : (P : Program) (is : Items) (nodes : List Node) (trees : List Cond) → IsTable is → IsJudgedSource P is nodes → trees ≡ trees_at is nodes → IsShownLeast P trees
shown_least P is nodes trees table judged same = record {
  sets = judged.sets;
  assignment = by_nodes is nodes;
  least = judged.least;
  accepted = judged.accepted;
  shown = subst (Show P (by_nodes is nodes)) (sym same) (shows P is nodes table judged.count judged.known);
}

-- where a bound is broken
pub refuted_source : (file : List ℕ) (tree : ProgramTree) (source : Source) (is : Items) (nodes : List Node) (r : Result (Unit {0}) Broken) (b : Broken) (refusal : Refusal)
    → IsSource file tree source → IsJudgement (program_of source.program) source.sets is nodes r → r ≡ Err b
    → Tells Inadmissible (broken_line (table_data source.table) b.method b.declared b.found) refusal → IsRight (NoAccepted file) refusal
refuted_source file tree source is nodes r b refusal whole judgement err tells =
    let P = program_of source.program in
    right_refusal (NoAccepted file) Inadmissible _ refusal
    (refuted tree P b.method b.declared b.found (well_formed_source file tree source whole) (record {
      sets = source.sets;
      assignment = by_nodes is nodes;
      least = judgement.least;
      none = λ accepted. absurd (let c : true ≡ false = sym (judgement.accepted.1 accepted) ∙ ap is_ok err in cc);
      first = subst (λ x. IfErr x (λ e. IsFirstBroken P (by_nodes is nodes) e.method e.declared e.found)) err judgement.broken;
      broken = subst (λ x. IfErr x (λ e. IsBrokenByAll P (rel_of source.sets) e.method)) err judgement.by_all;
    }))
    (subst (λ t. Tells Inadmissible (broken_line t b.method b.declared b.found) refusal) whole.table tells)

-- a typed program has few methods
pub few_methods : (P : Program) → IsTyped P → length P.methods ≤ 2 ^ 32
few_methods P typed = omega (arith, typed.size)
