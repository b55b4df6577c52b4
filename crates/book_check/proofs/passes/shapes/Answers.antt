-- One line more, the first whose shape is wrong, and the end.
use Rattle.std.proofs.Common.{arith, drop, sym, ◌∙◌, ap, subst}
use Rattle.core_program.specs.Views.{method_of, program_of}
use Rattle.book_check.proofs.PassLemmas.{ShapesSoFar, shape_more, shape_wrong, shapes_done, shapes_more_lines, method_front, methods_end}
use Rattle.book_check.proofs.passes.shapes.Goals as goal

pub returns-in-Err-clause-shaped : goal.returns-in-Err-clause-shaped
returns-in-Err-clause-shaped g c = λ rel table.
    let P = program_of c.args.program.now in
    let inv = c.methods.invariant in
    let front = method_front P.methods c.methods.m c.methods.rest.now c.in-Some.others.now c.in-Some.method.now inv.methods c.in-Some.ensures.cases.0 in
    shape_wrong g.L.Lines.lines P rel (record { table = table; lines = g.L.Lines.lines c.args.from }) c.methods.m c.methods.numbers.items (method_of c.in-Some.method.now) (g.L.Lines.lines c.methods.ahead) c.in-Err.wrong
    inv.so_far front.here c.in-Err.ensures.step

pub methods-preserved : goal.methods-preserved
methods-preserved g c =
    let P = program_of c.args.program.now in
    let inv = c.methods.invariant in
    let lines = g.L.Lines.lines c.args.from in
    let front = method_front P.methods c.methods.m c.methods.rest.now c.in-Some.others.now c.in-Some.method.now inv.methods c.in-Some.ensures.cases.0 in
    let one = c.in_ok-m.ensures in
    record {
      kept = c.in-Ok.ensures.kept;
      methods = sym front.behind ∙ ap (λ k. drop k P.methods) (sym one);
      within = omega (arith, front.below, one);
      so_far = subst (λ k. ShapesSoFar P.methods lines k c.push.new.self.items (g.L.Lines.lines c.in-Ok.next.1)) (sym one)
          (shape_more g.L.Lines.lines P.methods lines c.methods.m c.methods.numbers.items c.push.new.self.items (g.L.Lines.lines c.methods.ahead) c.in-Ok.next (method_of c.in-Some.method.now)
          inv.so_far front.here c.in_ok-push.ensures.items c.in-Ok.ensures.step);
    }

pub returns-in-None-clause-shaped : goal.returns-in-None-clause-shaped
returns-in-None-clause-shaped g c = λ rel table.
    let P = program_of c.args.program.now in
    let inv = c.methods.invariant in
    shapes_done P rel (record { table = table; lines = g.L.Lines.lines c.args.from }) c.methods.m c.methods.numbers.items (g.L.Lines.lines c.methods.ahead) c.in-None.ensures.none inv.so_far
    (methods_end P.methods c.methods.m c.methods.rest.now inv.methods c.in_default.ensures.cases inv.within)

pub returns-in-Some-first_line-clause-shaped : goal.returns-in-Some-first_line-clause-shaped
returns-in-Some-first_line-clause-shaped g c = λ rel table.
    let P = program_of c.args.program.now in
    let inv = c.methods.invariant in
    shapes_more_lines P rel (record { table = table; lines = g.L.Lines.lines c.args.from }) c.methods.m c.methods.numbers.items (g.L.Lines.lines c.methods.ahead) _ _ c.in-Some-first_line.ensures.some inv.so_far
    (methods_end P.methods c.methods.m c.methods.rest.now inv.methods c.in_default.ensures.cases inv.within)
