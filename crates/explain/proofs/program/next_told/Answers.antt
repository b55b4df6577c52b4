use Rattle.core_program.specs.Views.{method_of, program_of}
use Rattle.rules.specs.Near.{rel_of}
use Rattle.explain.proofs.Following.{ends_none, ends_missing, ends_there, goes_on}
use Rattle.explain.proofs.program.next_told.Goals as goal

pub returns-in_err-id-clause-none : goal.returns-in_err-id-clause-none
returns-in_err-id-clause-none g c =
    ends_none (program_of c.args.walk.now.program.now) (rel_of c.args.walk.now.sets.now) (g.A.Assigned.assigned c.args.walk.now.assigned.now) c.from_residual.result c.args.told.now c.args.next c.in_err-id.was

pub returns-in_err-method-clause-none : goal.returns-in_err-method-clause-none
returns-in_err-method-clause-none g c =
    ends_missing (program_of c.args.walk.now.program.now) (rel_of c.args.walk.now.sets.now) (g.A.Assigned.assigned c.args.walk.now.assigned.now) c.from_residual-in_err-method.result c.args.told.now c.args.next c.in_ok-id.id
    c.in_ok-id.was c.in_err-method.ensures

pub returns-clause-none : goal.returns-clause-none
returns-clause-none g c =
    ends_there (program_of c.args.walk.now.program.now) (rel_of c.args.walk.now.sets.now) (g.A.Assigned.assigned c.args.walk.now.assigned.now) c.args.told.now c.args.next c.in_ok-id.id (method_of c.in_ok-method.method.now)
    c.may_follow.result c.in_ok-id.was c.in_ok-method.ensures c.may_follow.ensures c.if-may_follow.false

pub returns-then-may_follow-clause-some : goal.returns-then-may_follow-clause-some
returns-then-may_follow-clause-some g c =
    goes_on (program_of c.args.walk.now.program.now) (rel_of c.args.walk.now.sets.now) (g.A.Assigned.assigned c.args.walk.now.assigned.now) c.args.told.now c.args.next c.in_ok-id.id (method_of c.in_ok-method.method.now)
    c.may_follow.result c.in_ok-id.was c.in_ok-method.ensures c.may_follow.ensures c.if-may_follow.true
