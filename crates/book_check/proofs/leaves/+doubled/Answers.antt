-- Where nothing may be counted, there is too much.
use Rattle.book_check.proofs.WorkLemmas.{none_doubled}
use Rattle.book_check.proofs.leaves.+doubled.Goals as goal

pub returns-then-most-eq0 : goal.returns-then-most-eq0
returns-then-most-eq0 t c = none_doubled c.args.times c.args.most c.if-most-eq0.true
