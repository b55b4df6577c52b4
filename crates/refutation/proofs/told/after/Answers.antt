-- One method more.
use Rattle.std.proofs.Common.{[], ◌∷◌, ◌++◌, take, get_or, ap, sym, ◌∙◌, append_assoc, ◌==◌}
use Rattle.std.proofs.lemmas.Bool.{eqb-true, not-false}
use Rattle.std.proofs.lemmas.List.{take_more}
use Rattle.refutation.proofs.told.after.Goals as goal

pub loop-method-preserved : goal.loop-method-preserved
loop-method-preserved c =
    let k = c.loop-method.method-index in
    let front = c.args.front.now in
    let m = c.method-item.result in
    let first = c.in-Some.first.now in
    let others = c.in-Some.others.now in
    let same = eqb-true first m (not-false (first == m) (sym c.ne.ensures ∙ c.if-ne.false)) in
    c.loop-method.invariant
    ∙ ap (λ xs. take k front ++ xs) (c.in-Some.ensures.cases.0 ∙ ap (λ x. x ∷ others) (same ∙ c.method-item.is))
    ∙ sym (append_assoc (take k front) (get_or front k m ∷ []) others)
    ∙ ap (λ xs. xs ++ others) (sym (take_more front k m c.loop-method-test.true))
