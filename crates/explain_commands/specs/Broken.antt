-- The methods that break their bounds.
use Rattle.std.specs.Prelude.{ℕ, ◌+◌, List, [], ◌∷◌, map, filter, if◌then◌else◌}
use Rattle.core_program.specs.Core.{Program, Method}
use Rattle.explain.specs.Programs.{keeps}
use Rattle.explain.specs.Whys.{ExplainedData}
use Rattle.rules.specs.Effect.{Assignment}
use Rattle.sources.specs.declared.refusal.Ending.{Ending}
use Rattle.sources.specs.declared.refusal.Ending.TheVariants.{Done, Inadmissible}

-- the numbers of those methods that break their bounds, where they are numbered from here on
abbrev pub broken_from : Assignment → ℕ → List Method → List ℕ
broken_from A m [] = []
broken_from A m (method ∷ methods) = if keeps A m method then broken_from A (m + 1) methods else m ∷ broken_from A (m + 1) methods

-- the numbers of the methods of a program that break their bounds, in source order
abbrev pub broken_methods : Program → Assignment → List ℕ
broken_methods P A = broken_from A 0 P.methods

-- the methods that explanations tell as refused, in their order
abbrev pub refused_in : List ExplainedData → List ℕ
refused_in xs = map (λ x. x.method) (filter (λ x. x.is_refused) xs)

-- how it ends where these methods break their bounds
abbrev pub ending_for : List ℕ → Ending
ending_for [] = Done
ending_for (m ∷ ms) = Inadmissible
