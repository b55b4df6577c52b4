use Rattle.classes.specs.Names.{has_text}
use Rattle.std.proofs.Common.{◌≡◌, drop, flat_map}
use Rattle.classes.specs.Faults.{type_faults}
use Rattle.classes.specs.Noted.{noted}
use Rattle.classes.proofs.members.note_types.Given as goal

abbrev pub invariant-loop-param : goal.invariant-loop-param
invariant-loop-param l =
    noted l.found (flat_map (λ p. type_faults (has_text l.classes) p.ty) (drop l.param-index l.params))
    ≡ noted l.fn.first (flat_map (λ p. type_faults (has_text l.classes) p.ty) l.params)
