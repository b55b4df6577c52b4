use Rattle.std.proofs.Common.{◌≡◌, ◌∷◌, ◌++◌, drop, map, codes}
use Rattle.places.proofs.slots.slot_names.Given as goal

-- the names so far, and then those of the other parameters, are `this` and those of all
abbrev pub invariant-loop-param : goal.invariant-loop-param
invariant-loop-param l =
    map (λ name. name.now) l.names.items ++ map (λ p. p.name.text) (drop l.param-index l.param-items)
    ≡ (codes "this" ∷ map (λ p. p.name.text) l.param-items)
