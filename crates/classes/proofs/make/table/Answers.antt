use Rattle.std.proofs.Common.{◌∙◌, sym, inl, inr}
use Rattle.syntax.specs.Views.{program_tree}
use Rattle.classes.proofs.Leasts.{first_is, none_is, one_first, no_first}
use Rattle.classes.proofs.make.table.Goals as goal

pub build-requires-clause-no_faults : goal.build-requires-clause-no_faults
build-requires-clause-no_faults c = none_is (program_tree c.args.program.now) (sym c.in_ok-fault.ensures.fault ∙ c.in-None.is)

pub returns-in-Some-clause-exact : goal.returns-in-Some-clause-exact
returns-in-Some-clause-exact c = inr (first_is (program_tree c.args.program.now) c.in-Some.fault (sym c.in_ok-fault.ensures.fault ∙ c.in-Some.is))

pub returns-in-Some-clause-fault_given : goal.returns-in-Some-clause-fault_given
returns-in-Some-clause-fault_given c f h =
    inl (one_first (program_tree c.args.program.now) c.in-Some.fault f (first_is (program_tree c.args.program.now) c.in-Some.fault (sym c.in_ok-fault.ensures.fault ∙ c.in-Some.is)) h)

pub returns-clause-exact : goal.returns-clause-exact
returns-clause-exact c =
    (none_is (program_tree c.args.program.now) (sym c.in_ok-fault.ensures.fault ∙ c.in-None.is), c.in_ok-build-in-None.ensures)

pub returns-clause-fault_given : goal.returns-clause-fault_given
returns-clause-fault_given c f h =
    no_first (program_tree c.args.program.now) f (none_is (program_tree c.args.program.now) (sym c.in_ok-fault.ensures.fault ∙ c.in-None.is)) h
