-- What is found of the entries of the schedule: the direct order, or what the search finds.
use Rattle.std.proofs.Common.{true, ap, subst, refl, ◌∙◌}
use Rattle.std.specs.Prelude.{Ok, IfSome}
use Rattle.witness.specs.declared.judge.Judged.TheVariants.{Kept}
use Rattle.witness.specs.declared.search.Search.{Search}
use Rattle.witness.specs.Tables.{count_at}
use Rattle.witness.specs.Searching.{IsFound}
use Rattle.witness.proofs.SearchLemmas.{orders_judged}
use Rattle.witness.proofs.judge.judge_orders.Goals as goal

pub returns : goal.returns
returns c = λ q goal.
    orders_judged (record { program = c.args.program; code = c.args.code; left = c.as_slice.result; counted = true; goal = c.args.goal; most = c.args.most }) q c.begin.result c.args.schedule.now (c.begin.ensures q goal) refl (λ t. ap (λ xs. count_at xs t) c.as_slice.ensures.value ∙ c.in_ok-left.ensures t)

pub returns-in-Some : goal.returns-in-Some
returns-in-Some c = λ q goal.
    let s : Search = record { program = c.args.program; code = c.args.code; left = c.as_slice.result; counted = true; goal = c.args.goal; most = c.args.most } in
    orders_judged s q (Ok (Kept c.in-Some.order)) c.args.schedule.now (subst (λ o. IfSome o (λ r. IsFound s q (Kept r))) c.in-Some.is (c.in_ok-order.ensures q goal)) refl
    (λ t. ap (λ xs. count_at xs t) c.as_slice.ensures.value ∙ c.in_ok-left.ensures t)
