-- One path more is copied.
use Rattle.std.proofs.Common.{◌++◌, ◌∷◌, [], sym, ◌∙◌}
use Rattle.std.proofs.lemmas.List.{take_more}
use Rattle.infer.proofs.cells.copied.Goals as goal

pub loop-path-preserved : goal.loop-path-preserved
loop-path-preserved c =
    let next = c.copy.ensures ∙ c.path-item.is in
    c.in_ok-push.ensures.items ∙ (λ i. c.loop-path.invariant i ++ (next i ∷ [])) ∙ sym (take_more c.args.paths.now c.loop-path.path-index c.path-item.result c.loop-path-test.true)
