-- Calls and `new` in memory.
use Rattle.std.proofs.Common.{ap, ◌∙◌}
use Rattle.algebra.specs.HeldPaths.{has_path}
use Rattle.core_program.specs.Views.{expr_of, program_of}
use Rattle.core_program.proofs.ViewLemmas.{expr_of-Call, expr_of-New}
use Rattle.rules.specs.Near.{rel_of}
use Rattle.effects.proofs.PartsAtSet.{call_read, new_read}
use Rattle.effects.proofs.walk_at.+expression_effect.Goals as goal

pub expr_effect-returns-in_ok-called-in-Call : goal.expr_effect-returns-in_ok-called-in-Call
expr_effect-returns-in_ok-called-in-Call g t c =
    call_read (program_of c.args.program.now) (rel_of c.args.sets.now) (g.A.Assigned.assigned c.args.assigned.now) (has_path c.args.held.now)
    (expr_of c.args.e.now) c.deref-in-Call.result.now c.deref-in-Call-2.result.now c.in-Call.a.value c.in-Call.callee c.as_slice.result.now c.as_slice-in-Call.result.now c.in-Call.args.items
    c.in_ok-receiver-in-Call.receiver c.in_ok-passed-in-Call.passed c.in_ok-called-in-Call.called c.seq-in-Call.result c.seq-in-Call-2.result
    (ap expr_of c.in-Call.is ∙ expr_of-Call c.in-Call.a c.in-Call.callee c.in-Call.args)
    c.deref-in-Call.ensures c.deref-in-Call-2.ensures c.as_slice.ensures.value c.as_slice-in-Call.ensures.value
    c.in_ok-receiver-in-Call.ensures c.in_ok-passed-in-Call.ensures c.in_ok-called-in-Call.ensures c.seq-in-Call.ensures c.seq-in-Call-2.ensures

pub expr_effect-returns-in_ok-passed-in-New : goal.expr_effect-returns-in_ok-passed-in-New
expr_effect-returns-in_ok-passed-in-New g t c =
    new_read (program_of c.args.program.now) (rel_of c.args.sets.now) (g.A.Assigned.assigned c.args.assigned.now) (has_path c.args.held.now)
    (expr_of c.args.e.now) c.in-New.field-0 c.as_slice-in-New.result.now c.in-New.args.items c.in_ok-passed-in-New.passed c.seq-in-New.result
    (ap expr_of c.in-New.is ∙ expr_of-New c.in-New.field-0 c.in-New.args) c.as_slice-in-New.ensures.value c.in_ok-passed-in-New.ensures c.seq-in-New.ensures
