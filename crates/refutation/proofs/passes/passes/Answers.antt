-- The first pass, and one pass more.
use Rattle.std.proofs.Common.{◌≡◌, false, length, rules, ap, arith, ◌∙◌}
use Rattle.core_program.specs.Views.{program_of}
use Rattle.rules.specs.Near.{rel_of}
use Rattle.refutation.proofs.MakerLemmas.{going_none, going_more, room_less}
use Rattle.refutation.proofs.passes.passes.Goals as goal

pub rounds-init : goal.rounds-init
rounds-init c = record { agrees = c.requires.agrees; size = c.requires.waits; body_size = c.requires.body_waits; settled = c.requires.settled; bodies = c.requires.bodies; known = c.requires.known; going = going_none (program_of c.args.asking.now.judged.now.program.now) (rel_of c.args.asking.now.judged.now.sets.now) c.args.said.now.lines.items c.requires.none }

pub rounds-smaller : goal.rounds-smaller
rounds-smaller c =
    let kept : c.in_ok-pass.field-0 ≡ false = search rules in
    room_less (program_of c.args.asking.now.judged.now.program.now) (rel_of c.args.asking.now.judged.now.sets.now) c.rounds.said.lines.items c.pass.new.said.lines.items c.in_ok-pass.field-0 c.rounds.invariant.going c.in_ok-pass.ensures.passed kept
    (λ e. c.if-len-before.false (omega (arith, e, c.len.ensures, c.len-before.ensures, c.pass.new.said.lines.ok, c.rounds.said.lines.ok)))

pub rounds-preserved : goal.rounds-preserved
rounds-preserved c =
    let kept : c.in_ok-pass.field-0 ≡ false = search rules in
    record {
      agrees = c.in_ok-pass.ensures.agrees;
      size = c.pass.ensures.size ∙ ap length c.narrow.ensures ∙ c.rounds.invariant.size;
      body_size = c.pass.ensures.body_size ∙ c.rounds.invariant.body_size;
      settled = c.in_ok-pass.ensures.settled kept;
      bodies = c.in_ok-pass.ensures.bodies kept;
      known = c.in_ok-pass.ensures.known kept;
      going = going_more (program_of c.args.asking.now.judged.now.program.now) (rel_of c.args.asking.now.judged.now.sets.now) c.rounds.said.lines.items c.pass.new.said.lines.items c.in_ok-pass.field-0 c.rounds.invariant.going c.in_ok-pass.ensures.passed kept
          (λ e. c.if-len-before.false (omega (arith, e, c.len.ensures, c.len-before.ensures, c.pass.new.said.lines.ok, c.rounds.said.lines.ok)));
    }
