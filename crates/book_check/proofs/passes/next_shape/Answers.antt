-- The least node whose shape is wrong.
use Rattle.std.proofs.Common.{◌≢◌, IfErr, sym, subst}
use Rattle.std.proofs.lemmas.Result.{err_from_is_err_and}
use Rattle.book_check.specs.declared.wrong.Wrong.TheVariants.{Work}
use Rattle.book_check.proofs.WalkLemmas.{plain_nodes}
use Rattle.core_program.specs.Views.{method_of}
use Rattle.books.specs.Books.{Line}
use Rattle.books.specs.Derivations.{node}
use Rattle.effects.specs.Parts.{StmtP}
use Rattle.book_check.specs.Parts.{places, FitsPart}
use Rattle.book_check.specs.Walks.{IsWalkEnd}
use Rattle.book_check.proofs.VerdictLemmas.{memory_no_bound, shape_bad}
use Rattle.book_check.proofs.passes.next_shape.Goals as goal

pub returns-in-Bad-clause-step : goal.returns-in-Bad-clause-step
returns-in-Bad-clause-step g c =
    let f = c.in-Some.line in
    let line : Line = record { id = f.id; number = f.number; body = node f.word f.node (g.L.Premises.Nodes.nodes f.premises) } in
    let method = method_of c.args.method.now in
    shape_bad g.L.Lines.lines c.args.m method (g.L.Lines.lines c.args.from) (g.L.Lines.lines f.rest) line c.in-Bad.node c.in-Some.ensures.some (c.is_method.ensures.0 c.if-not-is_method.false)
    (subst (λ e. IsWalkEnd FitsPart (places (StmtP method.body) line.body) 0 e) c.in-Bad.is c.in_ok-walk_node.ensures.end)

pub returns-in_err-walk_node-clause-judged : goal.returns-in_err-walk_node-clause-judged
returns-in_err-walk_node-clause-judged g c =
    let f = c.in-Some.line in
    let p = err_from_is_err_and c.from_residual.result c.from_residual.ensures.1 in
    subst (λ r. IfErr r (λ fault. fault ≢ Work)) (sym p.1)
    (memory_no_bound c.in_err-walk_node.field-0.0 p.0 p.2 (c.in_err-walk_node.ensures.near (plain_nodes (node f.word f.node (g.L.Premises.Nodes.nodes f.premises)))))
