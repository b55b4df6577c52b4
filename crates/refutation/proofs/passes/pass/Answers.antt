-- The first method that waits, and one method more.
use Rattle.std.proofs.Common.{◌≡◌, ◌+◌, ◌≤◌, true, false, rules, drop, length, refl, ap, ◌∙◌, arith}
use Rattle.core_program.specs.Views.{program_of}
use Rattle.rules.specs.Near.{rel_of}
use Rattle.rules.proofs.CallerLookups.{found_method}
use Rattle.refutation.specs.Passes.{cells_from}
use Rattle.refutation.specs.Ends.{continued}
use Rattle.refutation.proofs.MakerLemmas.{method_step}
use Rattle.refutation.proofs.WaitLemmas.{skip_settled}
use Rattle.refutation.proofs.passes.pass.Goals as goal

pub loop-place-init : goal.loop-place-init
loop-place-init c =
    let P = program_of c.args.asking.now.judged.now.program.now in
    let next = c.next-place.ensures in
    let within : c.next-place.result ≤ length P.methods = omega (arith, next.within, c.requires.waits) in
    record {
      agrees = c.requires.agrees;
      size = refl;
      body_size = refl;
      settled = c.requires.settled;
      bodies = c.requires.bodies;
      known = c.requires.known;
      within = within;
      passed = skip_settled P (rel_of c.args.asking.now.judged.now.sets.now) c.args.said.now.lines.items c.args.waits.now.methods 0 c.next-place.result c.requires.settled (omega arith) within next.asleep;
    }

pub ask_noting-requires-clause-is : goal.ask_noting-requires-clause-is
ask_noting-requires-clause-is c =
    found_method c.methods-methods.result.now (program_of c.args.asking.now.judged.now.program.now).methods c.loop-place.place c.index-methods-place.result c.methods-methods.ensures c.loop-place-test.true c.index-methods-place.is

pub returns-then-branch-clause-passed : goal.returns-then-branch-clause-passed
returns-then-branch-clause-passed c =
    let P = program_of c.args.asking.now.judged.now.program.now in
    let rel = rel_of c.args.asking.now.judged.now.sets.now in
    let place = c.loop-place.place in
    let broken : c.in_ok-ask_noting.field-0 ≡ true = search rules in
    c.loop-place.invariant.passed
    ∙ method_step P rel c.methods-methods.result.now place place c.index-methods-place.result c.loop-place.said.lines.items c.ask_noting.new.said.lines.items c.in_ok-ask_noting.field-0
    c.methods-methods.ensures c.loop-place-test.true c.index-methods-place.is refl c.in_ok-ask_noting.ensures.asked
    ∙ ap (λ b. continued P rel (cells_from rel (place + 1) (drop (place + 1) P.methods)) c.ask_noting.new.said.lines.items b) broken

pub loop-place-preserved : goal.loop-place-preserved
loop-place-preserved c =
    let P = program_of c.args.asking.now.judged.now.program.now in
    let rel = rel_of c.args.asking.now.judged.now.sets.now in
    let place = c.loop-place.place in
    let before = c.loop-place.invariant in
    let new = c.ask_noting.new.said.lines.items in
    let kept : c.in_ok-ask_noting.field-0 ≡ false = search rules in
    let size = c.ask_noting.ensures.size ∙ before.size in
    let settled = c.in_ok-ask_noting.ensures.settled kept in
    let next = c.next-place-in-loop-place.ensures in
    let within : c.next-place-in-loop-place.result ≤ length P.methods = omega (arith, next.within, size, c.requires.waits) in
    record {
      agrees = c.in_ok-ask_noting.ensures.agrees;
      size = size;
      body_size = c.ask_noting.ensures.body_size ∙ before.body_size;
      settled = settled;
      bodies = c.in_ok-ask_noting.ensures.bodies kept;
      known = c.in_ok-ask_noting.ensures.known kept;
      within = within;
      passed = before.passed
          ∙ method_step P rel c.methods-methods.result.now place place c.index-methods-place.result c.loop-place.said.lines.items new c.in_ok-ask_noting.field-0
          c.methods-methods.ensures c.loop-place-test.true c.index-methods-place.is refl c.in_ok-ask_noting.ensures.asked
          ∙ ap (λ b. continued P rel (cells_from rel (place + 1) (drop (place + 1) P.methods)) new b) kept
          ∙ skip_settled P rel new c.ask_noting.new.waits.methods (place + 1) c.next-place-in-loop-place.result settled next.after within next.asleep;
    }
