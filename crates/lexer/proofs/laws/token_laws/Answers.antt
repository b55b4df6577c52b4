use Rattle.std.proofs.Common.{refl, []}
use Rattle.lexer.proofs.Unique.{one_list, one_fault, never_both}
use Rattle.lexer.proofs.Laying.{laid_from, slices_from, ascend_from, no_memory_fault}
use Rattle.lexer.proofs.Total.{told}
use Rattle.lexer.proofs.Written.{kinds_from}
use Rattle.lexer.proofs.laws.token_laws.Goals as goal

pub returns-clause-one_list : goal.returns-clause-one_list
returns-clause-one_list c = λ text ts us h k. one_list h k

pub returns-clause-one_fault : goal.returns-clause-one_fault
returns-clause-one_fault c = λ text f g h k. one_fault h k

pub returns-clause-never_both : goal.returns-clause-never_both
returns-clause-never_both c = λ text ts its h k. never_both h k

pub returns-clause-no_memory_fault : goal.returns-clause-no_memory_fault
returns-clause-no_memory_fault c = λ text h. no_memory_fault h refl

pub returns-clause-laid : goal.returns-clause-laid
returns-clause-laid c = λ text ts h. laid_from h

pub returns-clause-slices : goal.returns-clause-slices
returns-clause-slices c = λ text ts h. slices_from text text [] 0 ts refl refl (laid_from h)

pub returns-clause-ascend : goal.returns-clause-ascend
returns-clause-ascend c = λ text ts h. ascend_from h

pub returns-clause-told : goal.returns-clause-told
returns-clause-told c = told

pub returns-clause-kinds : goal.returns-clause-kinds
returns-clause-kinds c = λ text ts h. kinds_from h
