use Rattle.std.proofs.Common.{ap}
use Rattle.core_examples.specs.Seen.{here, there, seven}
use Rattle.core_examples.specs.Small.{second_object, small, three_entries, lock_at}
use Rattle.core_examples.proofs.Maps.{field_is}
use Rattle.semantics.proofs.PlainRuns.{insert-from_sorted, remove-from_sorted}
use Rattle.core_examples.proofs.turns.what_changes.Goals as goal

pub returns-clause-field : goal.returns-clause-field
returns-clause-field c = ap (λ h. record small { heap = h }) (field_is three_entries tt second_object 1 seven)

pub returns-clause-object : goal.returns-clause-object
returns-clause-object c = ap (λ h. record small { heap = h }) (insert-from_sorted three_entries (record { thread = 1; count = 1 }) _ tt)

pub returns-clause-lock : goal.returns-clause-lock
returns-clause-lock c = ap (λ l. record small { locks = l }) (insert-from_sorted (lock_at there) here _ tt)

pub returns-clause-free : goal.returns-clause-free
returns-clause-free c = ap (λ l. record small { locks = l }) (remove-from_sorted (lock_at there) there tt)
