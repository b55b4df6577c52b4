use Rattle.std.proofs.Common.{◌≡◌, ◌∙◌, ap, sym, vec_len, arith}
use Rattle.rules.specs.Search.{rows_of}
use Rattle.rules.proofs.LimitLemmas.{more_sets}
use Rattle.rules.proofs.relevance.parted_sets.Goals as goal

pub loop-place-preserved : goal.loop-place-preserved
loop-place-preserved c = more_sets (rows_of c.args.near.now) c.methods-methods.result.now c.loop-place.place c.index-methods-place.result c.len-params.result c.row.result.now c.loop-place.sets.items c.push.new.self.items c.in_ok-parted.field-0 _ c.loop-place-test.true c.index-methods-place.is
    (let o = c.index-methods-place.result.params.ok in let e : c.len-params.result ≡ vec_len c.index-methods-place.result.params = c.len-params.ensures ∙ ap (λ m. vec_len m.params) (sym c.index-methods-place.is) in omega (arith, e, o)) c.row.ensures c.in_ok-push.ensures.items c.in_ok-parted.ensures.rel c.in_ok-parted.ensures.loc c.loop-place.invariant
