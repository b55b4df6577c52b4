-- One line more, and the end of lines.
use Rattle.std.proofs.Common.{ap, arith, map}
use Rattle.conditions.specs.Conditions.{cond_of}
use Rattle.core_program.specs.Views.{method_of}
use Rattle.books.specs.Books.{Line}
use Rattle.books.specs.Derivations.{node}
use Rattle.book_check.proofs.WorkLemmas.{first_line_work, lines_done}
use Rattle.book_check.proofs.book_work.left_behind_lines.Goals as goal

pub loop-line-preserved : goal.loop-line-preserved
loop-line-preserved g c =
    let f = c.in-Some.line in
    let line : Line = record { id = f.id; number = f.number; body = node f.word f.node (g.L.Premises.Nodes.nodes f.premises) } in
    let one = first_line_work (map cond_of c.args.table.now) (map method_of c.loop-line.methods.now) (map method_of c.in-Some-split_first.others.now) (g.L.Lines.lines c.loop-line.ahead) (g.L.Lines.lines f.rest)
    (method_of c.in-Some-split_first.method.now) line (ap (map method_of) c.in-Some-split_first.ensures.cases.0) c.in-Some.ensures.some in
    record {
      kept = c.in-Some.ensures.rest_kept;
      spent = omega (arith, one, c.loop-line.invariant.spent, c.in-Some-left_behind_line.ensures);
    }

pub returns : goal.returns
returns g c =
    let none = lines_done (map cond_of c.args.table.now) (map method_of c.loop-line.methods.now) (g.L.Lines.lines c.loop-line.ahead) c.in_default.ensures.none in
    omega (arith, none, c.loop-line.invariant.spent)
