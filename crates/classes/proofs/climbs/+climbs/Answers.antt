-- Half of the steps twice, and one more where there is one.
use Rattle.std.proofs.Common.{◌≡◌, ◌+◌, ◌-◌, ◌/◌, ap, sym, subst, ◌∙◌, arith}
use Rattle.std.specs.List.{list_all}
use Rattle.std.specs.Option.{is_none}
use Rattle.classes.specs.declared.climbs.Climb.{Climb}
use Rattle.classes.specs.Climbs.{AreClimbs}
use Rattle.classes.proofs.ClimbLemmas.{joined_climbs, ended, one_more}
use Rattle.classes.proofs.climbs.+climbs.Goals as goal

pub returns-then-have_ended : goal.returns-then-have_ended
returns-then-have_ended t c = λ tree up one.
    let n = c.args.steps in
    let rest : n ≡ n / 2 + (n - n / 2) = omega arith in
    ended tree up (n / 2) (n - n / 2) n c.in_ok-half.half.items rest
    (sym (ap (list_all (λ (x : Climb). is_none x.end)) c.as_slice.ensures.value) ∙ sym c.have_ended.ensures ∙ c.if-have_ended.true)
    (c.in_ok-half.ensures tree up one)

pub returns-then-steps-eq0 : goal.returns-then-steps-eq0
returns-then-steps-eq0 t c = λ tree up one.
    let n = c.args.steps in
    let even = c.if-steps-eq0.true in
    let twice : n ≡ n / 2 + n / 2 = omega (arith, even) in
    joined_climbs tree up (n / 2) (n / 2) n c.as_slice-2.result.now c.as_slice-3.result.now c.in_ok-twice.twice.items twice
    (subst (AreClimbs tree up (n / 2)) (sym c.as_slice-2.ensures.value) (c.in_ok-half.ensures tree up one))
    (subst (AreClimbs tree up (n / 2)) (sym c.as_slice-3.ensures.value) (c.in_ok-half.ensures tree up one))
    c.in_ok-twice.ensures

pub returns : goal.returns
returns t c =
    let n = c.args.steps in
    let odd = c.if-steps-eq0.false in
    let all : n ≡ 1 + (n / 2 + n / 2) = omega (arith, odd) in
    one_more (n / 2 + n / 2) n c.args.ones.now c.as_slice-4.result.now c.joined_climbs-2.result all
    (λ tree up one.
    subst (AreClimbs tree up (n / 2 + n / 2)) (sym c.as_slice-4.ensures.value)
    (let same : n / 2 + n / 2 ≡ n / 2 + n / 2 = omega arith in
    joined_climbs tree up (n / 2) (n / 2) (n / 2 + n / 2) c.as_slice-2.result.now c.as_slice-3.result.now c.in_ok-twice.twice.items same
    (subst (AreClimbs tree up (n / 2)) (sym c.as_slice-2.ensures.value) (c.in_ok-half.ensures tree up one))
    (subst (AreClimbs tree up (n / 2)) (sym c.as_slice-3.ensures.value) (c.in_ok-half.ensures tree up one))
    c.in_ok-twice.ensures))
    c.joined_climbs-2.ensures
