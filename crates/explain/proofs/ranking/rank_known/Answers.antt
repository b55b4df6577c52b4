-- The ground is given.
use Rattle.std.proofs.Common.{◌+◌, ◌∙◌, ap, slice_set, subst, sym}
use Rattle.core_program.specs.Views.{method_of, program_of}
use Rattle.rules.specs.Near.{rel_of}
use Rattle.rules.specs.Search.{row_at}
use Rattle.explain.specs.Grounds.{rank_at}
use Rattle.explain.specs.Ranking.{AreCircling, ground_by}
use Rattle.explain.proofs.Ranked.{known_next}
use Rattle.explain.proofs.ranking.rank_known.Goals as goal

pub returns-in-Some-clause-ranked : goal.returns-in-Some-clause-ranked
returns-in-Some-clause-ranked g c =
    let P = program_of c.args.walk.now.program.now in let rel = rel_of c.args.walk.now.sets.now in let A = g.A.Assigned.assigned c.args.walk.now.assigned.now in let overs = row_at c.args.over.now in
    let level = c.args.round.now.level in let number = c.args.round.now.number in let method = method_of c.args.method.now in
    let late = ap (λ rows. rank_at rows c.args.id) (sym c.as_slice.ensures.value) ∙ sym c.rank_at.ensures ∙ c.if-rank_at.false in
    let found = ap (λ rows. ground_by P rel A overs rows level number c.args.id method) (sym c.as_slice-2.ensures.value) ∙ sym c.in_ok-ground.ensures ∙ c.in-Some.is in
    λ bounds there r.
    subst (λ k. AreCircling bounds P rel A overs (slice_set c.args.grounds.now.items k c.in-Some.ground) (number + 1)) (sym c.id.view_is)
    (known_next bounds P rel A overs c.args.grounds.now.items c.args.id method c.in-Some.ground level number c.requires.place late c.requires.round c.requires.level found there r)
