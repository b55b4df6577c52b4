-- A loop by the numbers of its parts.
use Rattle.std.proofs.Common.{map, refl}
use Rattle.algebra.specs.Basics.{seq_of, star_of}
use Rattle.conditions.specs.Conditions.{cond_of, value_of}
use Rattle.book_check.specs.Judges.{judge_value}
use Rattle.effects.specs.Rules.{loop_value}
use Rattle.book_check.proofs.PairLemmas.{loop_as}
use Rattle.book_check.proofs.StepLemmas.{step_is}
use Rattle.book_check.proofs.sequences.loop_below.Goals as goal

pub returns : goal.returns
returns c =
    let V = judge_value c.args.judge.now in
    let condition = c.in-Some.condition.now in
    let body = c.in-Some-split_first.body.now in
    let d = value_of (cond_of c.args.d.now) in
    step_is c.turns_below.result (λ H. seq_of (V condition H) (star_of (seq_of (V body H) (V condition H)))) d (loop_value (map V c.args.numbers.now)) d
    (λ H. loop_as V c.args.numbers.now c.in-Some.bodies.now c.in-Some-split_first.field-0-1.now condition body H c.in-Some.ensures.cases.0 c.in-Some-split_first.ensures.cases.0)
    (λ H. refl) c.turns_below.ensures
