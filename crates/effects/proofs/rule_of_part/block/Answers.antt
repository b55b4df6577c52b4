-- One statement earlier.
use Rattle.std.proofs.Common.{◌≡◌, ◌-◌, ◌<◌, suc, length, sym, ap, ◌∙◌, arith}
use Rattle.algebra.specs.Basics.{seq_of}
use Rattle.core_program.specs.Views.{stmt_of}
use Rattle.effects.proofs.Blocks.{block_from, block_end, block_earlier}
use Rattle.effects.proofs.Values.{known_at, keeps_both}
use Rattle.effects.proofs.rule_of_part.block.Goals as goal

pub loop-place-init : goal.loop-place-init
loop-place-init g c = record {
  within = omega (arith, c.min-place.ensures);
  counted = omega (arith, c.min-place.ensures);
  known = c.in_ok-rest.ensures.known;
  value = λ H. c.in_ok-rest.ensures.value H
      ∙ sym (block_end (g.C.Context.after c.args.context.now) (g.G.Algebra.value c.args.algebra.now) c.args.body.now c.args.values.now c.min-place.result H c.min-place.ensures);
  keeps = c.leaf.ensures.keeps;
}

pub statement_and_rest-requires-clause-first : goal.statement_and_rest-requires-clause-first
statement_and_rest-requires-clause-first g c =
    let k = c.loop-place.place - 1 in
    let below : k < length c.args.values.now = omega (arith, c.loop-place.invariant.counted, c.loop-place-test.true) in
    c.loop-place.invariant.keeps.known c.index-values-place.result
    (known_at g.G.Algebra.IsKnown c.args.algebra.now c.args.values.now k c.index-values-place.result below c.index-values-place.is c.requires.values)

pub loop-place-preserved : goal.loop-place-preserved
loop-place-preserved g c =
    let after = g.C.Context.after c.args.context.now in
    let V = g.G.Algebra.value c.args.algebra.now in
    let xs = c.args.values.now in
    let body = c.args.body.now in
    let k = c.loop-place.place - 1 in
    let s = c.index-body-place.result in
    let x = c.index-values-place.result in
    let before = c.loop-place.invariant in
    let below : k < length xs = omega (arith, before.counted, c.loop-place-test.true) in
    let within : k < length body = omega (arith, before.within, c.loop-place-test.true) in
    let place : c.loop-place.place ≡ suc k = omega (arith, c.loop-place-test.true) in
    let known = known_at g.G.Algebra.IsKnown c.args.algebra.now xs k x below c.index-values-place.is c.requires.values in
    record {
      within = omega (arith, before.within);
      counted = omega (arith, before.counted);
      known = c.in_ok-rest-2.ensures.known;
      value = λ H.
          let first = before.keeps.same x known H ∙ ap (λ y. V y H) c.index-values-place.is in
          let K = after (stmt_of s) H in
          let later = before.value K ∙ ap (λ n. block_from after V body xs n K) place in
          c.in_ok-rest-2.ensures.value H ∙ (λ i. seq_of (first i) (later i)) ∙ sym (block_earlier after V body xs k s x H within below c.index-body-place.is);
      keeps = keeps_both g.G.Algebra.IsKnown g.G.Algebra.value c.args.algebra.now c.loop-place.algebra c.statement_and_rest.new.algebra before.keeps c.statement_and_rest.ensures.keeps;
    }
