-- Where a path of the chain isn't held, the conclusion is an error.
use Rattle.std.proofs.Common.{sym, ◌∙◌, map}
use Rattle.conditions.specs.Conditions.{cond_of}
use Rattle.book_check.specs.Judges.{judge_assignment, judge_program, judge_rel, judge_value}
use Rattle.effects.specs.Rules.{rule_of}
use Rattle.effects.specs.Bodies.{part_of}
use Rattle.book_check.proofs.ChainLemmas.{below_at}
use Rattle.book_check.proofs.chain.is_step_at_end.Goals as goal

pub returns : goal.returns
returns c = λ e H.
    let j = c.args.judge.now in
    below_at (cond_of c.args.d.now) c.in-Some.last c.in-Some-part_at.value
    (rule_of (judge_program j) (judge_rel j) (judge_assignment j) (part_of c.args.part) (map (judge_value j) c.args.numbers.now) H) H
    c.in-Some.ensures (c.in-Some-part_at.ensures H) (sym c.below.ensures ∙ e)
