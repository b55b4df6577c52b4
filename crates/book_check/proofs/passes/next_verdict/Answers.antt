-- The verdict on the first line.
use Rattle.std.proofs.Common.{subst}
use Rattle.core_program.specs.Views.{method_of}
use Rattle.books.specs.Books.{Line}
use Rattle.books.specs.Derivations.{node}
use Rattle.book_check.specs.Faults.{IsLineVerdict}
use Rattle.book_check.specs.Judges.{judge_assignment, judge_program, judge_rel, judge_table}
use Rattle.book_check.specs.Overs.{AreOversFirst}
use Rattle.book_check.proofs.VerdictLemmas.{no_bound, verdict_good, verdict_wrong}
use Rattle.book_check.proofs.passes.next_verdict.Goals as goal

pub returns-in-Some-2-clause-step : goal.returns-in-Some-2-clause-step
returns-in-Some-2-clause-step g c =
    let j = c.args.steps.now.judge.now in
    let f = c.in-Some.line in
    let line : Line = record { id = f.id; number = f.number; body = node f.word f.node (g.L.Premises.Nodes.nodes f.premises) } in
    let method = method_of c.args.method.now in
    verdict_wrong g.L.Lines.lines j c.args.steps.now.method method (g.L.Lines.lines c.args.from) (g.L.Lines.lines f.rest) line c.in-Some-2.wrong c.in-Some.ensures.some
    (subst (λ o. IsLineVerdict (judge_program j) (judge_rel j) (judge_table j) (judge_assignment j) c.args.steps.now.method method line o) c.in-Some-2.is c.in_ok-wrong.ensures.verdict)

pub returns-in-None-clause-step : goal.returns-in-None-clause-step
returns-in-None-clause-step g c =
    let j = c.args.steps.now.judge.now in
    let f = c.in-Some.line in
    let line : Line = record { id = f.id; number = f.number; body = node f.word f.node (g.L.Premises.Nodes.nodes f.premises) } in
    let method = method_of c.args.method.now in
    verdict_good g.L.Lines.lines j c.args.steps.now.method method (g.L.Lines.lines c.args.from) line f.rest c.in-Some.ensures.some
    (subst (λ o. IsLineVerdict (judge_program j) (judge_rel j) (judge_table j) (judge_assignment j) c.args.steps.now.method method line o) c.in-None.is c.in_ok-wrong.ensures.verdict)

pub returns-in-Some-2-clause-near : goal.returns-in-Some-2-clause-near
returns-in-Some-2-clause-near g c = λ own near.
    let j = c.args.steps.now.judge.now in
    let f = c.in-Some.line in
    let line : Line = record { id = f.id; number = f.number; body = node f.word f.node (g.L.Premises.Nodes.nodes f.premises) } in
    let method = method_of c.args.method.now in
    no_bound (judge_program j) (judge_rel j) (judge_table j) (judge_assignment j) c.args.steps.now.method method line c.in-Some-2.wrong
    (subst (λ o. IsLineVerdict (judge_program j) (judge_rel j) (judge_table j) (judge_assignment j) c.args.steps.now.method method line o) c.in-Some-2.is c.in_ok-wrong.ensures.verdict)

pub line_verdict-requires-clause-overs : goal.line_verdict-requires-clause-overs
line_verdict-requires-clause-overs g c =
    let j = c.args.steps.now.judge.now in
    subst (λ ls. AreOversFirst j c.args.steps.now.method (method_of c.args.method.now) ls c.args.over.now) c.in-Some.ensures.some c.requires.overs
