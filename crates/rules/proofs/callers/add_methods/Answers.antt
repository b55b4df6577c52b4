-- One method more was looked at.
use Rattle.std.proofs.Common.{◌∙◌, refl, subst, arith}
use Rattle.core_program.specs.Views.{program_of, method_of}
use Rattle.rules.specs.Search.{row_at as overs_at}
use Rattle.rules.specs.Called.{HasCallers}
use Rattle.rules.proofs.CalleeLemmas.{none_so_far, method_callees, methods_more, methods_all}
use Rattle.rules.proofs.CallerLookups.{same_count}
use Rattle.rules.proofs.callers.add_methods.Goals as goal

pub loop-caller-init : goal.loop-caller-init
loop-caller-init g c = record { size = refl; callers = none_so_far (program_of c.args.program.now) (overs_at (g.R.Overriding.rows c.args.over.now)) c.args.rows.now }

pub loop-caller-preserved : goal.loop-caller-preserved
loop-caller-preserved g c =
    let P = program_of c.args.program.now in
    let here = method_callees c.methods-method-items.result.now P.methods c.loop-caller.caller c.method-item.result c.new-callees.result.items c.put_stmt.new.callees.items c.as_slice.result.now
    c.methods-method-items.ensures c.loop-caller-test.true c.method-item.is c.new-callees.ensures.items c.in_ok-put_stmt.ensures c.as_slice.ensures.value in
    record {
      size = c.in_ok-add_callers-2.ensures.size ∙ c.in_ok-add_callers.ensures.size ∙ c.loop-caller.invariant.size;
      callers = methods_more P (overs_at (g.R.Overriding.rows c.args.over.now)) c.loop-caller.rows c.add_callers.new.rows c.add_callers-in-loop-caller.new.rows c.loop-caller.caller (method_of c.method-item.result) here.0 c.loop-caller.invariant.callers
          (subst (λ callees. HasCallers c.loop-caller.rows c.add_callers.new.rows callees c.loop-caller.caller) here.1 c.in_ok-add_callers.ensures.added)
          (subst (λ overs. HasCallers c.add_callers.new.rows c.add_callers-in-loop-caller.new.rows overs c.loop-caller.caller) c.row.ensures c.in_ok-add_callers-2.ensures.added);
    }

pub returns-clause-callers : goal.returns-clause-callers
returns-clause-callers g c =
    let P = program_of c.args.program.now in
    methods_all P (overs_at (g.R.Overriding.rows c.args.over.now)) c.loop-caller.rows c.loop-caller.caller (omega (arith, c.loop-caller-test.false, same_count c.methods-method-items.result.now P.methods c.methods-method-items.ensures)) c.loop-caller.invariant.callers
