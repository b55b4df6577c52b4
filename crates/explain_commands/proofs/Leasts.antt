-- The least closed assignment that nodes of a table stand for is the one that their trees show.
use Rattle.std.proofs.Common.{◌≡◌, ℕ, true, false, List, Option, Some, None, Result, Ok, Err, IfErr, OnOk, is_ok, refl, sym, ap, subst, ◌∙◌, slice_get, option_map}
use Rattle.std.proofs.lemmas.Option.{slice_get-map}
use Rattle.algebra.specs.HeldPaths.{Held}
use Rattle.conditions.specs.Conditions.{Cond}
use Rattle.core_program.specs.Core.{Program}
use Rattle.explain.specs.Shown.{basic_of_tree, shown}
use Rattle.infer.specs.declared.bounds.Broken.{Broken}
use Rattle.infer.specs.Verdicts.{HoldBounds, IsFirstBroken, basic_at}
use Rattle.conditions.specs.declared.table.Node.{Node}
use Rattle.conditions.specs.Nodes.{Items}
use Rattle.conditions.specs.Shown.{node_tree, node_value, trees_at}
use Rattle.rules.specs.Near.{MethodPaths}
use Rattle.sources.specs.declared.refusal.Ending.{Ending}
use Rattle.sources.specs.declared.refusal.Ending.TheVariants.{Done, Inadmissible}
use Rattle.sources.specs.Judged.{IsJudgement, by_nodes}
use Rattle.sources.specs.Verdicts.{HasLeast}
use Rattle.explain_commands.specs.declared.words.Order.TheVariants.{Why}
use Rattle.explain_commands.specs.Broken.{broken_methods, ending_for}
use Rattle.explain_commands.specs.Orders.{IsProgramVerdict}
use Rattle.explain_commands.specs.Least.{IsLeastJudged}
use Rattle.explain_commands.proofs.Breaking.{none_broken, some_broken}

at_option : (is : Items) (o : Option Node) (H : Held) → basic_of_tree (option_map (node_tree is) o) H ≡ basic_at node_value is o H
at_option is None H = refl
at_option is (Some n) H = refl

same_at : (is : Items) (nodes : List Node) (m : ℕ) (H : Held) → shown (trees_at is nodes) m H ≡ by_nodes is nodes m H
same_at is nodes m H = ap (λ o. basic_of_tree o H) (slice_get-map (node_tree is) nodes m) ∙ at_option is (slice_get nodes m) H

shown_nodes : (is : Items) (nodes : List Node) (trees : List Cond) → trees ≡ trees_at is nodes → by_nodes is nodes ≡ shown trees
shown_nodes is nodes trees same = (λ i m H. sym (same_at is nodes m H) i) ∙ ap shown (sym same)

module _ (P : Program) (sets : List MethodPaths) (is : Items) (nodes : List Node) (r : Result (Unit {0}) Broken) (trees : List Cond) (same : trees ≡ trees_at is nodes)
    (judgement : IsJudgement P sets is nodes r) where
  judged : (ending : Ending) → ending ≡ ending_for (broken_methods P (by_nodes is nodes)) → IsProgramVerdict Why P ending → IsLeastJudged P sets trees ending
  judged ending ends verdict =
      let e = shown_nodes is nodes trees same in
      record {
        least = subst (HasLeast P sets) e judgement.least;
        ending_is = ends ∙ ap (λ A. ending_for (broken_methods P A)) e;
        verdict = verdict;
      }

  -- where every bound is kept
  pub judged_done : (u : Unit {0}) → r ≡ Ok u → IsLeastJudged P sets trees Done
  judged_done u ok = judged Done (none_broken P (by_nodes is nodes) (subst (λ x. OnOk x (HoldBounds P (by_nodes is nodes))) ok judgement.holds)) (judgement.accepted.0 (ap is_ok ok))

  -- where a bound is broken
  pub judged_broken : (b : Broken) → r ≡ Err b → IsLeastJudged P sets trees Inadmissible
  judged_broken b err =
      judged Inadmissible
      (some_broken P (by_nodes is nodes) b.method b.declared b.found (subst (λ x. IfErr x (λ e. IsFirstBroken P (by_nodes is nodes) e.method e.declared e.found)) err judgement.broken))
      (λ accepted. let c : true ≡ false = sym (judgement.accepted.1 accepted) ∙ ap is_ok err in cc)
