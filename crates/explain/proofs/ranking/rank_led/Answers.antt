-- A row that may not have the rank, and one to which it is given.
use Rattle.std.proofs.Common.{◌∙◌, ap, arith, slice_get, sym}
use Rattle.std.proofs.lemmas.Option.{get_or_from_slice_get}
use Rattle.explain.specs.declared.grounds.Ground.{Ground}
use Rattle.explain.specs.Ranking.{ground_with, may_rank}
use Rattle.explain.proofs.Ranked.{led_circling, led_row, may_be_there}
use Rattle.explain.proofs.ranking.rank_led.Goals as goal

pub returns-then-not-may_rank-clause-stuck : goal.returns-then-not-may_rank-clause-stuck
returns-then-not-may_rank-clause-stuck c =
    λ e. ap (λ rows. may_rank rows c.args.round (slice_get rows c.args.place)) (sym c.as_slice.ensures.value) ∙ sym c.may_rank.ensures ∙ c.if-not-may_rank.true

pub index_mut-requires : goal.index_mut-requires
index_mut-requires c =
    let may = ap (λ rows. may_rank rows c.args.round (slice_get rows c.args.place)) (sym c.as_slice.ensures.value) ∙ sym c.may_rank.ensures ∙ c.if-not-may_rank.false in
    let low = may_be_there c.args.grounds.now.items c.args.place c.args.round may in
    let of_items = c.args.grounds.now.ok in
    omega (arith, low, of_items)

pub returns-clause-ranked : goal.returns-clause-ranked
returns-clause-ranked c =
    λ bounds P rel A overs r.
    let may = ap (λ rows. may_rank rows c.args.round (slice_get rows c.args.place)) (sym c.as_slice.ensures.value) ∙ sym c.may_rank.ensures ∙ c.if-not-may_rank.false in
    led_row bounds P rel A overs c.args.grounds.now.items c.args.place _ c.args.round may c.requires
    (λ was is. ap (λ (x : Ground). ground_with c.args.round x.level x.lead) (c.index_mut.ensures.value ∙ get_or_from_slice_get c.args.grounds.now.items c.args.place was _ is)) r

pub returns-clause-circling : goal.returns-clause-circling
returns-clause-circling c =
    λ bounds P rel A overs r.
    let may = ap (λ rows. may_rank rows c.args.round (slice_get rows c.args.place)) (sym c.as_slice.ensures.value) ∙ sym c.may_rank.ensures ∙ c.if-not-may_rank.false in
    led_circling bounds P rel A overs c.args.grounds.now.items c.args.place _ c.args.round may c.requires
    (λ was is. ap (λ (x : Ground). ground_with c.args.round x.level x.lead) (c.index_mut.ensures.value ∙ get_or_from_slice_get c.args.grounds.now.items c.args.place was _ is)) r
