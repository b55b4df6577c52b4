-- A statement's rule as a sequence.
use Rattle.std.proofs.Common.{map}
use Rattle.conditions.specs.Conditions.{cond_of, value_of}
use Rattle.core_program.specs.Views.{stmt_of}
use Rattle.book_check.specs.Judges.{judge_assignment, judge_program, judge_rel, judge_value}
use Rattle.effects.specs.Rules.{stmt_rule}
use Rattle.book_check.proofs.PairLemmas.{sequence_step}
use Rattle.book_check.proofs.sequences.plain_stmt_below.Goals as goal

pub returns : goal.returns
returns c =
    let j = c.args.judge.now in
    let V = judge_value j in
    sequence_step c.sequence_below.result (map V c.in-Some.before.now) (value_of (cond_of c.leaf-last.result)) (λ H. c.in-Some.last) (value_of (cond_of c.args.d.now))
    (stmt_rule (judge_program j) (judge_rel j) (judge_assignment j) (stmt_of c.args.s.now) (map V c.args.numbers.now))
    (λ H. c.in-Some.ensures (judge_program j) (judge_rel j) (judge_assignment j) V H) c.leaf-last.ensures.value c.sequence_below.ensures
