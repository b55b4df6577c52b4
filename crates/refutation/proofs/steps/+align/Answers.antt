-- The next step is one of three.
use Rattle.std.proofs.Common.{◌≡◌, true, rules, sym, ◌∙◌}
use Rattle.refutation.proofs.StepLemmas.{along_both}
use Rattle.refutation.proofs.steps.+align.Goals as goal

pub returns-then-took-2 : goal.returns-then-took-2
returns-then-took-2 t c = λ more.
    let same : c.same.result ≡ true = search rules in
    let took : c.took-then-same.result ≡ true = search rules in
    along_both c.args.whole.now c.args.rel.now c.args.its.now c.args.steps.now.items c.took-then-same.new.steps.items c.align-then-took-2.new.steps.items
    c.in-Some-split_first.rest.now c.in-Some.behind.now c.in-Some-split_first.first.now c.in-Some.path.now c.in-Some-split_first.ensures.cases.0 c.in-Some.ensures.cases.0
    (sym c.same.ensures ∙ same) (c.took-then-same.ensures took) (c.align-then-took-2.ensures more)
