use Rattle.semantics.specs.Step.{outcome}
use Rattle.semantics.proofs.StepCases.{none_has_reason, reason_has_none, absent_is, absent_why, done_is, done_why, faulted_is, faulted_why, waits_is, waits_why, kind_none, none_kind}
use Rattle.semantics.proofs.laws.step_laws.Goals as goal

pub returns-clause-none : goal.returns-clause-none
returns-clause-none c P q t = (none_has_reason P q t, reason_has_none P q t)

pub returns-clause-absent : goal.returns-clause-absent
returns-clause-absent c P q t = (absent_why P q t, absent_is P q t)

pub returns-clause-done : goal.returns-clause-done
returns-clause-done c P q t = (done_why P q t, done_is P q t)

pub returns-clause-faulted : goal.returns-clause-faulted
returns-clause-faulted c P q t kind = (faulted_why P q t kind, λ is. faulted_is P q t kind is.0 is.1)

pub returns-clause-waits : goal.returns-clause-waits
returns-clause-waits c P q t a holder = (waits_why P q t a holder, waits_is P q t a holder)

pub returns-clause-kind : goal.returns-clause-kind
returns-clause-kind c P q t = (kind_none q t (outcome P q t), none_kind q t (outcome P q t))
