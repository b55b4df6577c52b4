-- One set more.
use Rattle.std.proofs.Common.{◌≡◌, ◌+◌, ◌∷◌, ◌++◌, [], false, rules, drop, sym, ap, subst, ◌∙◌}
use Rattle.std.specs.List.{AllByRecursion}
use Rattle.std.specs.List.Sorted.{IsStrictlySortedBy}
use Rattle.base.proofs.Lists.{next_drop}
use Rattle.paths.specs.Paths.{path_order}
use Rattle.algebra.specs.HeldPaths.{has_path}
use Rattle.core_program.specs.Views.{program_of}
use Rattle.rules.specs.Near.{rel_of}
use Rattle.rules.specs.Rules.{IsSubset}
use Rattle.refutation.specs.Ends.{cells_at, continued}
use Rattle.refutation.specs.Bodies.{IsBodyKnown}
use Rattle.refutation.proofs.BodyTables.{known_first, known_behind}
use Rattle.refutation.proofs.MakerLemmas.{sets_step}
use Rattle.refutation.proofs.WaitLemmas.{adds_both, over_stays}
use Rattle.refutation.proofs.ask.ask_sets.Goals as goal

pub ask_unsaid-requires-clause-said : goal.ask_unsaid-requires-clause-said
ask_unsaid-requires-clause-said c =
    over_stays (program_of c.args.judged.now.program.now) (rel_of c.args.judged.now.sets.now) c.args.over.now.method c.args.over.now.table c.args.over.now.whole c.args.over.now.most c.args.said.now.lines.items c.loop-part.said.lines.items
    c.loop-part.invariant.adds c.requires.said

pub ask_unsaid-requires-clause-body : goal.ask_unsaid-requires-clause-body
ask_unsaid-requires-clause-body c =
    let P = program_of c.args.judged.now.program.now in
    let rel = rel_of c.args.judged.now.sets.now in
    let parts = c.args.parts.now in
    let k = c.loop-part.part-index in
    let lines = c.loop-part.said.lines.items in
    let m = c.args.over.now.method in
    let bodies = c.args.bodies.now in
    let all = subst (λ ps. IsBodyKnown P rel m ps lines bodies.table bodies.is_told bodies.is_said) (next_drop parts k c.part-item.result c.loop-part-test.true c.part-item.is) c.loop-part.invariant.body in
    let here = known_first P rel m c.part-item.result (drop (k + 1) parts) lines bodies.table bodies.is_told bodies.is_said all in
    subst (λ held. IsBodyKnown P rel m (held ∷ []) lines bodies.table bodies.is_told bodies.is_said) (sym (c.as_slice-held.ensures.value ∙ c.part.view_is)) here

pub loop-part-preserved : goal.loop-part-preserved
loop-part-preserved c =
    let P = program_of c.args.judged.now.program.now in
    let rel = rel_of c.args.judged.now.sets.now in
    let parts = c.args.parts.now in
    let k = c.loop-part.part-index in
    let m = c.args.over.now.method in
    let bodies = c.args.bodies.now in
    let before = c.loop-part.invariant in
    let none : c.in_ok-ask_unsaid.field-0 ≡ false = search rules in
    record {
      agrees = c.in_ok-ask_unsaid.ensures.agrees;
      ascend = (subst (AllByRecursion (IsStrictlySortedBy path_order)) (next_drop parts k c.part-item.result c.loop-part-test.true c.part-item.is) before.ascend).1;
      inside = (subst (AllByRecursion (λ held. IsSubset (has_path held) (has_path (rel c.args.over.now.method)))) (next_drop parts k c.part-item.result c.loop-part-test.true c.part-item.is) before.inside).1;
      body = known_behind P rel m c.part-item.result (drop (k + 1) parts) c.loop-part.said.lines.items c.ask_unsaid.new.said.lines.items bodies.table bodies.is_told bodies.is_said c.in_ok-ask_unsaid.ensures.adds
          (subst (λ ps. IsBodyKnown P rel m ps c.loop-part.said.lines.items bodies.table bodies.is_told bodies.is_said) (next_drop parts k c.part-item.result c.loop-part-test.true c.part-item.is) before.body);
      adds = adds_both c.args.over.now.method c.args.said.now.lines.items c.loop-part.said.lines.items c.ask_unsaid.new.said.lines.items before.adds c.in_ok-ask_unsaid.ensures.adds;
      asked = λ cs. before.asked cs
          ∙ sets_step P rel c.args.over.now.method parts k c.part-item.result c.as_slice-held.result.now c.loop-part.said.lines.items c.ask_unsaid.new.said.lines.items c.in_ok-ask_unsaid.field-0 c.loop-part-test.true c.part-item.is
          (c.as_slice-held.ensures.value ∙ c.part.view_is) c.in_ok-ask_unsaid.ensures.asked cs
          ∙ ap (λ b. continued P rel (cells_at c.args.over.now.method (drop (k + 1) parts) ++ cs) c.ask_unsaid.new.said.lines.items b) none;
    }
