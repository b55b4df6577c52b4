-- The clauses of the bodies, and then what overriding methods tell.
use Rattle.core_program.specs.Views.{program_of}
use Rattle.rules.proofs.PassingLemmas.{gives_near}
use Rattle.rules.proofs.clauses.program_clauses.Goals as goal

pub returns : goal.returns
returns c = gives_near (program_of c.args.program.now) c.in_ok-clauses.clauses.items c.add_overriding.new.clauses.items c.in_ok-clauses.ensures c.in_ok-add_overriding.ensures
