-- The end that is looked for.
use Rattle.witness.proofs.SearchLemmas.{kept_found}
use Rattle.witness.proofs.direct.steps_to.Goals as goal

pub returns : goal.returns
returns c = λ q goal.
    let yes = c.if-not-is_end.false in
    kept_found c.args.search.now q c.args.node c.args.node.steps c.requires.comes (λ e h. c.is_end.ensures.like q e goal h yes) (c.is_end.ensures.used yes)
