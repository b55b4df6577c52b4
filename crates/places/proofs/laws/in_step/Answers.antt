use Rattle.places.proofs.AtNumbers.{made_at, made_count}
use Rattle.places.proofs.InStep.{expr_made}
use Rattle.places.proofs.InStepStmts.{stmt_made, body_made}
use Rattle.places.proofs.InPrograms.{named_body}
use Rattle.places.proofs.SlotsNamed.{any_goes}
use Rattle.places.specs.Making.{AnyScope}
use Rattle.places.proofs.laws.in_step.Goals as goal

pub returns-clause-expression : goal.returns-clause-expression
returns-clause-expression c = λ t class returns first scope u d is. expr_made t class returns first AnyScope scope tt u d is

pub returns-clause-statement : goal.returns-clause-statement
returns-clause-statement c = λ t class returns first scope before u s is. stmt_made t class returns first AnyScope (λ k xs. Unit {0}) (any_goes first) scope tt before u s is tt

pub returns-clause-body : goal.returns-clause-body
returns-clause-body c = λ t class returns first scope m ss is. body_made t class returns first AnyScope (λ k xs. Unit {0}) (any_goes first) scope tt m ss is tt

pub returns-clause-named : goal.returns-clause-named
returns-clause-named c = named_body

pub returns-clause-numbers : goal.returns-clause-numbers
returns-clause-numbers c = λ t class returns first xs us is. made_at t class returns first AnyScope is

pub returns-clause-count : goal.returns-clause-count
returns-clause-count c = λ t class returns first xs us is. made_count t class returns first AnyScope is
