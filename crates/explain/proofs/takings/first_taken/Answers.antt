-- The first lock that a call takes, and none.
use Rattle.std.proofs.Common.{Some, ap, ◌∙◌, ◌&&◌}
use Rattle.algebra.specs.HeldPaths.{has_path}
use Rattle.core_program.specs.Locks.{path_of}
use Rattle.core_program.specs.Views.{expr_of, exprs_from, program_of}
use Rattle.rules.specs.Mentions.{paths_of}
use Rattle.rules.specs.Near.{rel_of}
use Rattle.rules.specs.Search.{row_at}
use Rattle.explain.specs.Takings.{is_freed, takes_only}
use Rattle.explain.proofs.Taken.{all_named, first_named, is_named, named, named_here, named_nowhere}
use Rattle.explain.proofs.takings.first_taken.Goals as goal

pub returns-then-branch : goal.returns-then-branch
returns-then-branch g c =
    let P = program_of c.args.walk.now.program.now in let rel = rel_of c.args.walk.now.sets.now in let A = g.A.Assigned.assigned c.args.walk.now.assigned.now in
    let m = c.args.call.now.callee in
    let overs = row_at c.args.over.now m in
    let receiver = path_of P (expr_of c.args.call.now.receiver.now) in
    let args = paths_of P (exprs_from c.args.call.now.args.now) in
    let H = has_path c.args.held.now in
    let K = has_path c.in_ok-known.known.items in
    let pair = c.pairs-item.result in
    let passes =
    named P rel A overs m receiver args H K pair c.in-Some.name c.in_ok-takes.field-0 c.in-Some.is
    (c.in_ok-takes.ensures ∙ (λ i. is_freed P rel A m receiver args H (Some c.in-Some.name) && takes_only P rel A (c.of.ensures i) pair.0 m (has_path (c.as_slice.ensures.value i))))
    ∙ c.if-branch.true in
    ap Some c.copy.ensures
    ∙ named_here (is_named P rel A overs m receiver args H K) c.as_slice-path-items.result.now c.pairs.path-index pair c.pairs-test.true c.pairs-item.is c.pairs.invariant c.in-Some.name c.in-Some.is passes
    ∙ ap (first_named (is_named P rel A overs m receiver args H K)) (c.as_slice-path-items.ensures.value ∙ c.renaming.view_is ∙ c.in_ok-renaming.ensures)
    ∙ all_named P rel A overs m receiver args H K (rel m) c.in_ok-known.ensures

pub returns : goal.returns
returns g c =
    let P = program_of c.args.walk.now.program.now in let rel = rel_of c.args.walk.now.sets.now in let A = g.A.Assigned.assigned c.args.walk.now.assigned.now in
    let m = c.args.call.now.callee in
    let overs = row_at c.args.over.now m in
    let receiver = path_of P (expr_of c.args.call.now.receiver.now) in
    let args = paths_of P (exprs_from c.args.call.now.args.now) in
    let H = has_path c.args.held.now in
    let K = has_path c.in_ok-known.known.items in
    named_nowhere (is_named P rel A overs m receiver args H K) c.as_slice-path-items.result.now c.pairs.path-index c.pairs-test.false c.pairs.invariant
    ∙ ap (first_named (is_named P rel A overs m receiver args H K)) (c.as_slice-path-items.ensures.value ∙ c.renaming.view_is ∙ c.in_ok-renaming.ensures)
    ∙ all_named P rel A overs m receiver args H K (rel m) c.in_ok-known.ensures
