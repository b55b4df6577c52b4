-- The walk through each kind of statement, and through blocks.
use Rattle.std.proofs.Common.{◌≡◌, ◌++◌, [], true, Some, ap, sym, ◌∙◌, arith, subst, if◌then◌else◌}
use Rattle.std.proofs.Math.ListN.{drop_of_length-le}
use Rattle.std.proofs.lemmas.Result.{IfOk-weaker}
use Rattle.algebra.specs.declared.basic.Basic.TheVariants.{Mover}
use Rattle.algebra.specs.Basics.{below_of, seq_of, star_of}
use Rattle.algebra.specs.HeldPaths.{has_path}
use Rattle.core_program.proofs.ViewLemmas.{stmt_of-Block}
use Rattle.core_program.specs.Core.{SyncS}
use Rattle.core_program.specs.Locks.{path_of}
use Rattle.core_program.specs.Views.{expr_of, stmt_of, stmts_from, program_of}
use Rattle.effects.specs.Parts.{Part, StmtP}
use Rattle.rules.specs.Effect.{access_of}
use Rattle.rules.specs.Near.{rel_of}
use Rattle.explain.specs.Visits.{visit}
use Rattle.explain.specs.Views.{visits_of}
use Rattle.explain.specs.Walked.{InsideStmt, WalkedExpr, WalkedStmt, WalkedBlock, WalkedBranches}
use Rattle.explain.proofs.Measures.{stmt_measure, stmts_measure, stmt_lighter}
use Rattle.explain.proofs.WalkedStatements.{entered_stmt, block_walked, set_field_known, if_walked, while_walked, taken_walked, branches_walked, start_stmts, more_stmts, end_stmts}
use Rattle.explain.proofs.walk.+statements.Goals as goal

pub walk_stmt-returns : goal.walk_stmt-returns
walk_stmt-returns g t c =
    let P = program_of c.args.walk.now.program.now in let rel = rel_of c.args.walk.now.sets.now in let A = g.A.Assigned.assigned c.args.walk.now.assigned.now in
    entered_stmt P rel A (stmt_of c.args.s.now) (has_path c.args.held.now) c.args.looped c.args.found.now c.enter.new.self c.inside_stmt.new.found c.leave.new.self c.in_ok-effect.effect c.leave.result c.in_ok-place.place
    c.in_ok-place.ensures.place c.in_ok-place.ensures.basics c.enter.ensures.steps c.enter.ensures.heavy c.in_ok-effect.ensures
    c.leave.ensures.effect c.leave.ensures.basics c.leave.ensures.steps c.leave.ensures.heavy

pub walk_block-loop-s-init : goal.walk_block-loop-s-init
walk_block-loop-s-init g t c =
    let P = program_of c.args.walk.now.program.now in let rel = rel_of c.args.walk.now.sets.now in let A = g.A.Assigned.assigned c.args.walk.now.assigned.now in
    start_stmts P rel A (stmts_from c.args.body.now) (has_path c.in_ok-now.now.items) (has_path c.args.held.now) c.args.looped c.args.found.now (ap has_path c.in_ok-now.ensures)

pub walk_block-loop-s-preserved : goal.walk_block-loop-s-preserved
walk_block-loop-s-preserved g t c =
    let P = program_of c.args.walk.now.program.now in let rel = rel_of c.args.walk.now.sets.now in let A = g.A.Assigned.assigned c.args.walk.now.assigned.now in
    more_stmts P rel A c.args.body.now c.loop-s.s-index c.s-item.result (has_path c.loop-s.now.items) (has_path c.in_ok-now-2.now.items) (has_path c.args.held.now) c.args.looped (stmts_from c.args.body.now) c.args.found.now c.loop-s.found c.walk_stmt.new.found
    c.loop-s.so_far c.in_ok-walk_stmt.field-0 c.seq-so_far.result c.loop-s-test.true c.s-item.is
    (subst (λ ps. WalkedStmt P rel A (stmt_of c.s-item.result) (has_path ps) c.args.looped c.loop-s.found c.in_ok-walk_stmt.field-0 c.walk_stmt.new.found) c.as_slice.ensures.value c.in_ok-walk_stmt.ensures)
    c.seq-so_far.ensures c.in_ok-now-2.ensures c.loop-s.invariant

pub walk_block-returns : goal.walk_block-returns
walk_block-returns g t c =
    let P = program_of c.args.walk.now.program.now in let rel = rel_of c.args.walk.now.sets.now in let A = g.A.Assigned.assigned c.args.walk.now.assigned.now in
    end_stmts P rel A c.args.body.now c.loop-s.s-index (has_path c.loop-s.now.items) (has_path c.args.held.now) c.args.looped (stmts_from c.args.body.now) c.args.found.now c.loop-s.found c.loop-s.so_far
    (drop_of_length-le c.args.body.now c.loop-s-test.false) c.loop-s.invariant

pub walk_block-walk_stmt-requires : goal.walk_block-walk_stmt-requires
walk_block-walk_stmt-requires g t c κs within =
    let lighter = stmt_lighter c.args.body.now c.loop-s.s-index c.s-item.result c.loop-s-test.true c.s-item.is in
    (omega arith, within)

pub inside_stmt-walk_block-requires : goal.inside_stmt-walk_block-requires
inside_stmt-walk_block-requires g t c κs within =
    let e = ap (λ x. stmt_measure (stmt_of x)) c.in-Block.is ∙ ap stmt_measure (stmt_of-Block c.in-Block.body) in
    let a = ap (λ xs. stmts_measure (stmts_from xs)) c.as_slice.ensures.value in
    (omega arith, within)

pub inside_stmt-returns-in-Block : goal.inside_stmt-returns-in-Block
inside_stmt-returns-in-Block g t c =
    let P = program_of c.args.walk.now.program.now in let rel = rel_of c.args.walk.now.sets.now in let A = g.A.Assigned.assigned c.args.walk.now.assigned.now in
    let H = has_path c.args.held.now in let loop = c.args.looped in let old = c.args.found.now in
    let ss = stmts_from c.in-Block.body.items in
    let new = c.walk_block.new.found in
    IfOk-weaker c.walk_block.result (λ b. WalkedBlock P rel A (stmts_from c.as_slice.result.now) H loop old b new) (λ b. InsideStmt P rel A (stmt_of c.args.s.now) c.args.place H loop old b new)
    (λ b w. subst (λ z. InsideStmt P rel A z c.args.place H loop old b new) (sym (ap stmt_of c.in-Block.is ∙ stmt_of-Block c.in-Block.body))
    (block_walked P rel A ss H loop c.args.place c.requires (subst (λ l. WalkedBlock P rel A (stmts_from l) H loop old b new) c.as_slice.ensures.value w)))
    c.walk_block.ensures

pub inside_stmt-returns-in_ok-note-in-SetField : goal.inside_stmt-returns-in_ok-note-in-SetField
inside_stmt-returns-in_ok-note-in-SetField g t c =
    let P = program_of c.args.walk.now.program.now in let rel = rel_of c.args.walk.now.sets.now in let A = g.A.Assigned.assigned c.args.walk.now.assigned.now in
    let H = has_path c.args.held.now in let loop = c.args.looped in let old = c.args.found.now in
    let e = expr_of c.in-SetField.a.value in let f = expr_of c.in-SetField.b.value in
    let mid = c.walk_expr.new.found in let late = c.walk_expr-in-SetField.new.found in
    let one = subst (λ z. WalkedExpr P rel A (expr_of z) H loop old c.in_ok-receiver-in-SetField.receiver mid) c.deref.ensures c.in_ok-receiver-in-SetField.ensures in
    let other = subst (λ z. WalkedExpr P rel A (expr_of z) H loop mid c.in_ok-value-in-SetField.value late) c.deref-in-SetField.ensures c.in_ok-value-in-SetField.ensures in
    let own : c.access-own.result ≡ access_of P true c.in-SetField.field (path_of P e) H =
    c.access-own.ensures ∙ ap (λ z. access_of P true c.in-SetField.field (path_of P (expr_of z)) H) c.deref-in-SetField-2.ensures in
    set_field_known P rel A (stmt_of c.args.s.now) e c.in-SetField.field f H loop c.args.place c.note.new.self c.access-own.result c.seq.result c.seq-in-SetField.result (ap stmt_of c.in-SetField.is) c.requires one other own
    c.note.ensures.basics c.in_ok-note-in-SetField.ensures.steps c.in_ok-note-in-SetField.ensures.heavy c.seq.ensures c.seq-in-SetField.ensures

pub inside_stmt-returns-in_ok-either-in-If : goal.inside_stmt-returns-in_ok-either-in-If
inside_stmt-returns-in_ok-either-in-If g t c =
    let P = program_of c.args.walk.now.program.now in let rel = rel_of c.args.walk.now.sets.now in let A = g.A.Assigned.assigned c.args.walk.now.assigned.now in
    let H = has_path c.args.held.now in let loop = c.args.looped in let old = c.args.found.now in
    let e = expr_of c.in-If.c.value in let r = stmt_of c.in-If.a.value in let s = stmt_of c.in-If.b.value in
    let mid = c.walk_expr-in-If.new.found in let new = c.walk_branches.new.found in
    let one = subst (λ z. WalkedExpr P rel A (expr_of z) H loop old c.in_ok-test-in-If.test mid) c.deref-in-If.ensures c.in_ok-test-in-If.ensures in
    let other = subst (λ z. WalkedBranches P rel A (stmt_of z) s H loop mid c.in_ok-either-in-If.either new) c.deref-in-If-2.ensures
    (subst (λ z. WalkedBranches P rel A (stmt_of c.deref-in-If-2.result.now) (stmt_of z) H loop mid c.in_ok-either-in-If.either new) c.deref-in-If-3.ensures c.in_ok-either-in-If.ensures) in
    subst (λ z. InsideStmt P rel A z c.args.place H loop old c.seq-in-If.result new) (sym (ap stmt_of c.in-If.is))
    (if_walked P rel A e r s H loop c.args.place c.seq-in-If.result c.requires one other c.seq-in-If.ensures)

pub inside_stmt-returns-in_ok-turn-in-While : goal.inside_stmt-returns-in_ok-turn-in-While
inside_stmt-returns-in_ok-turn-in-While g t c =
    let P = program_of c.args.walk.now.program.now in let rel = rel_of c.args.walk.now.sets.now in let A = g.A.Assigned.assigned c.args.walk.now.assigned.now in
    let H = has_path c.args.held.now in let loop = c.args.looped in let old = c.args.found.now in
    let e = expr_of c.in-While.c.value in let s = stmt_of c.in-While.a.value in
    let mid = c.walk_expr-in-While.new.found in let new = c.walk_stmt.new.found in
    let one = subst (λ z. WalkedExpr P rel A (expr_of z) H (Some c.args.place) old c.in_ok-test-in-While.test mid) c.deref-in-While.ensures c.in_ok-test-in-While.ensures in
    let other = subst (λ z. WalkedStmt P rel A (stmt_of z) H (Some c.args.place) mid c.in_ok-turn-in-While.turn new) c.deref-in-While-2.ensures c.in_ok-turn-in-While.ensures in
    subst (λ z. InsideStmt P rel A z c.args.place H loop old c.seq-in-While-2.result new) (sym (ap stmt_of c.in-While.is))
    (while_walked P rel A e s H loop c.args.place c.seq-in-While-2.result c.requires one other
    (c.seq-in-While-2.ensures ∙ ap (λ z. seq_of c.in_ok-test-in-While.test z) (c.star.ensures ∙ ap star_of c.seq-in-While.ensures)))

pub inside_stmt-returns-in-Sync : goal.inside_stmt-returns-in-Sync
inside_stmt-returns-in-Sync g t c =
    let P = program_of c.args.walk.now.program.now in let rel = rel_of c.args.walk.now.sets.now in let A = g.A.Assigned.assigned c.args.walk.now.assigned.now in
    let H = has_path c.args.held.now in let loop = c.args.looped in let old = c.args.found.now in let new = c.walk_sync.new.found in
    let s = stmt_of c.deref-in-Sync.result.now in
    let whole : stmt_of c.args.s.now ≡ SyncS c.in-Sync.path s = ap stmt_of c.in-Sync.is ∙ ap (λ z. SyncS c.in-Sync.path (stmt_of z)) (sym c.deref-in-Sync.ensures) in
    IfOk-weaker c.walk_sync.result (λ b. StmtP (stmt_of c.args.s.now) ≡ StmtP (SyncS c.in-Sync.path s) → InsideStmt P rel A (SyncS c.in-Sync.path s) c.args.place H loop old b new) (λ b. InsideStmt P rel A (stmt_of c.args.s.now) c.args.place H loop old b new)
    (λ b w. subst (λ z. InsideStmt P rel A z c.args.place H loop old b new) (sym whole) (w (ap StmtP whole)))
    c.walk_sync.ensures

pub walk_sync-returns : goal.walk_sync-returns
walk_sync-returns g t c =
    let P = program_of c.args.walk.now.program.now in let rel = rel_of c.args.walk.now.sets.now in let A = g.A.Assigned.assigned c.args.walk.now.assigned.now in
    let H = has_path c.args.reached.held.now in let loop = c.args.reached.looped in let old = c.args.found.now in let n = c.args.reached.node in
    let s = stmt_of c.args.a.now in
    let mid = c.walk_stmt-2.new.found in
    let w = subst (λ ps. WalkedStmt P rel A s (has_path ps) loop old c.in_ok-taken.taken mid) (c.as_slice.ensures.value ∙ c.in_ok-more.ensures) c.in_ok-taken.ensures in
    λ part. taken_walked P rel A c.args.path.now s H loop n c.note_lock.new.found c.lift.result (sym c.has.ensures ∙ c.if-has.false) c.requires w
    c.note_lock.ensures.basics
    (c.in_ok-note_lock.ensures.steps ∙ ap (λ (p : Part). visits_of mid.steps.items ++ (if below_of c.in_ok-taken.taken Mover then visit n p H loop else [])) part)
    (c.in_ok-note_lock.ensures.heavy ∙ ap (λ (p : Part). visits_of mid.heavy.items ++ visit n p H loop) part) c.lift.ensures

pub walk_branches-returns : goal.walk_branches-returns
walk_branches-returns g t c =
    let P = program_of c.args.walk.now.program.now in let rel = rel_of c.args.walk.now.sets.now in let A = g.A.Assigned.assigned c.args.walk.now.assigned.now in
    let H = has_path c.args.held.now in let loop = c.args.looped in let old = c.args.found.now in
    branches_walked P rel A (stmt_of c.args.a.now) (stmt_of c.args.b.now) H loop old c.set_aside-before.new.self c.walk_stmt.new.found c.set_aside-steps.new.self c.walk_stmt-2.new.found c.choose.new.self c.put_before.new.self
    c.in_ok-first.first c.in_ok-second.second c.join.result
    c.set_aside-before.ensures.basics c.set_aside-before.ensures.steps c.set_aside-before.ensures.heavy c.in_ok-first.ensures
    c.set_aside-steps.ensures.basics c.set_aside-steps.ensures.steps c.set_aside-steps.ensures.heavy c.in_ok-second.ensures
    c.below.result c.below.ensures
    c.choose.ensures.basics (c.choose.ensures.steps ∙ ap (λ z. if c.below.result then z.items else c.walk_stmt-2.new.found.steps.items) c.set_aside-steps.ensures.result) c.choose.ensures.heavy
    c.put_before.ensures.basics (c.in_ok-put_before.ensures.steps ∙ ap (λ z. z.items ++ c.choose.new.self.steps.items) c.set_aside-before.ensures.result) c.put_before.ensures.heavy
    c.join.ensures
