use Rattle.std.proofs.Common.{ap, slice_get}
use Rattle.core_examples.specs.Seen.{four_fields, here, there, seven}
use Rattle.state.specs.Memory.{field_value}
use Rattle.core_examples.specs.Small.{second_object, three_entries, lock_at}
use Rattle.core_examples.proofs.Maps.{get_is, field_is, made_is}
use Rattle.semantics.proofs.PlainRuns.{insert-from_sorted, remove-from_sorted}
use Rattle.core_examples.proofs.memory.what_memory_holds.Goals as goal

pub returns-clause-made : goal.returns-clause-made
returns-clause-made c = made_is three_entries tt 0

pub returns-clause-made_by_another : goal.returns-clause-made_by_another
returns-clause-made_by_another c = made_is three_entries tt 1

pub returns-clause-made_by_none : goal.returns-clause-made_by_none
returns-clause-made_by_none c = made_is three_entries tt 2

pub returns-clause-next : goal.returns-clause-next
returns-clause-next c = ap (λ n. record { thread = 0; count = n }) (made_is three_entries tt 0)

pub returns-clause-field : goal.returns-clause-field
returns-clause-field c = field_is three_entries tt second_object 1 seven

pub returns-clause-no_object : goal.returns-clause-no_object
returns-clause-no_object c = field_is three_entries tt (record { thread = 2; count = 0 }) 1 seven

pub returns-clause-taken : goal.returns-clause-taken
returns-clause-taken c = insert-from_sorted (lock_at there) here _ tt

pub returns-clause-held_otherwise : goal.returns-clause-held_otherwise
returns-clause-held_otherwise c = insert-from_sorted (lock_at there) there _ tt

pub returns-clause-free : goal.returns-clause-free
returns-clause-free c = remove-from_sorted (lock_at there) there tt

pub returns-clause-free_already : goal.returns-clause-free_already
returns-clause-free_already c = remove-from_sorted (lock_at there) here tt

pub returns-clause-in_the_heap : goal.returns-clause-in_the_heap
returns-clause-in_the_heap c = ap (λ o. field_value four_fields 1 o (slice_get four_fields.fields 1)) (get_is three_entries tt second_object)

pub returns-clause-not_in_the_heap : goal.returns-clause-not_in_the_heap
returns-clause-not_in_the_heap c = ap (λ o. field_value four_fields 1 o (slice_get four_fields.fields 1)) (get_is three_entries tt (record { thread = 2; count = 0 }))
