-- The names from one slot more, and from all.
use Rattle.std.proofs.Common.{ap, ◌∙◌, arith}
use Rattle.algebra.specs.HeldPaths.{has_path}
use Rattle.core_program.specs.Locks.{path_of}
use Rattle.core_program.specs.Views.{program_of, expr_of, exprs_from}
use Rattle.rules.specs.Mentions.{paths_of}
use Rattle.level_check.specs.Passed.{passed_names}
use Rattle.level_check.proofs.Known.{names_are, more_names, all_names}
use Rattle.level_check.proofs.passed.names_in_callee.Goals as goal

pub loop-place-preserved : goal.loop-place-preserved
loop-place-preserved c =
    more_names c.in_ok-passed.passed.items c.args.held.now c.loop-place.place c.in_ok-slot_at.field-0 c.index.result.now c.loop-place.names.items c.add_names.new.names.items (passed_names 0 c.in_ok-passed.passed.items c.args.held.now)
    (omega (arith, c.loop-place-test.true, c.len-place-end.ensures)) c.index.ensures c.in_ok-slot_at.ensures c.in_ok-add_names.ensures c.loop-place.invariant

pub returns : goal.returns
returns c =
    let P = program_of c.args.program.now in
    let passed = c.in_ok-passed.passed.items in
    ap has_path (all_names passed c.args.held.now c.loop-place.place c.loop-place.names.items (passed_names 0 passed c.args.held.now) (omega (arith, c.loop-place-test.false, c.len-place-end.ensures)) c.loop-place.invariant)
    ∙ ap (λ os. has_path (passed_names 0 os c.args.held.now)) c.in_ok-passed.ensures
    ∙ names_are (path_of P (expr_of c.args.call.now.receiver.now)) (paths_of P (exprs_from c.args.call.now.args.now)) c.args.held.now
