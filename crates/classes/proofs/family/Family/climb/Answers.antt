use Rattle.std.proofs.Common.{ap, ◌∙◌}
use Rattle.classes.specs.Climbs.{climb_at}
use Rattle.classes.proofs.family.Family.climb.Goals as goal

pub returns : goal.returns
returns c = c.climb_at.ensures ∙ ap (λ z. climb_at z c.args.number) c.as_slice.ensures.value ∙ c.requires.climbs c.args.number
