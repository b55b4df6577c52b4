-- What is found where no entries are counted.
use Rattle.std.proofs.Common.{false, ap, refl, ◌∙◌}
use Rattle.witness.specs.Tables.{count_at}
use Rattle.witness.proofs.SearchLemmas.{ways_judged}
use Rattle.witness.proofs.judge.judge_ways.Goals as goal

pub returns : goal.returns
returns c = λ q goal.
    ways_judged (record { program = c.args.program; code = c.args.code; left = c.as_slice.result; counted = false; goal = c.args.goal; most = c.args.most }) q c.begin.result (c.begin.ensures q goal) refl
    (λ t. ap (λ xs. count_at xs t) (c.as_slice.ensures.value ∙ c.new-none.ensures.items))
