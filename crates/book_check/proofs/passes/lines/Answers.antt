-- One line more, the first that is wrong, and the end.
use Rattle.std.proofs.Common.{arith, [], drop, sym, ◌∙◌, ap, subst}
use Rattle.core_program.specs.Views.{method_of}
use Rattle.book_check.specs.Judges.{judge_program, judge_table}
use Rattle.book_check.specs.Passes.{AreGoodLines}
use Rattle.book_check.proofs.OverLemmas.{first_overs}
use Rattle.book_check.proofs.PassLemmas.{LinesSoFar, first_near, line_more, line_wrong, method_front, methods_end}
use Rattle.book_check.proofs.passes.lines.Goals as goal

pub returns-in-Err-clause-judged : goal.returns-in-Err-clause-judged
returns-in-Err-clause-judged g c = λ table.
    let j = c.args.judge.now in
    let inv = c.methods.invariant in
    let front = method_front (judge_program j).methods c.methods.m c.methods.rest.now c.in-Some.others.now c.in-Some.method.now inv.methods c.in-Some.ensures.cases.0 in
    line_wrong g.L.Lines.lines j table (g.L.Lines.lines c.args.from) c.methods.m (method_of c.in-Some.method.now) (g.L.Lines.lines c.methods.ahead) c.in-Err.wrong inv.so_far front.here c.in-Err.ensures.step

pub methods-preserved : goal.methods-preserved
methods-preserved g c =
    let j = c.args.judge.now in
    let inv = c.methods.invariant in
    let lines = g.L.Lines.lines c.args.from in
    let front = method_front (judge_program j).methods c.methods.m c.methods.rest.now c.in-Some.others.now c.in-Some.method.now inv.methods c.in-Some.ensures.cases.0 in
    let one = c.in_ok-m.ensures in
    record {
      kept = c.in-Ok.ensures.kept;
      methods = sym front.behind ∙ ap (λ k. drop k (judge_program j).methods) (sym one);
      within = omega (arith, front.below, one);
      so_far = subst (λ k. LinesSoFar j lines k (g.L.Lines.lines c.in-Ok.behind)) (sym one)
          (line_more g.L.Lines.lines j lines c.methods.m (method_of c.in-Some.method.now) (g.L.Lines.lines c.methods.ahead) c.in-Ok.behind inv.so_far front.here c.in-Ok.ensures.step);
    }

pub returns-clause-judged : goal.returns-clause-judged
returns-clause-judged g c = λ table.
    let j = c.args.judge.now in
    let inv = c.methods.invariant in
    subst (AreGoodLines j (record { table = []; lines = g.L.Lines.lines c.args.from })) (methods_end (judge_program j).methods c.methods.m c.methods.rest.now inv.methods c.in_default.ensures.cases inv.within) inv.so_far.good

pub returns-in-Err-clause-near : goal.returns-in-Err-clause-near
returns-in-Err-clause-near g c = λ own near.
    let j = c.args.judge.now in
    c.in-Err.ensures.near own (first_near j (judge_table j) (g.L.Lines.lines c.args.from) (g.L.Lines.lines c.methods.ahead) c.methods.m c.methods.invariant.so_far near)

pub next_verdict-requires-clause-overs : goal.next_verdict-requires-clause-overs
next_verdict-requires-clause-overs g c =
    let j = c.args.judge.now in
    let inv = c.methods.invariant in
    let front = method_front (judge_program j).methods c.methods.m c.methods.rest.now c.in-Some.others.now c.in-Some.method.now inv.methods c.in-Some.ensures.cases.0 in
    first_overs j (g.L.Lines.lines c.args.from) (g.L.Lines.lines c.methods.ahead) c.methods.m (method_of c.in-Some.method.now) c.args.over.now inv.so_far front.here c.requires.overs
