-- What of an explanation is compared: the numbers of parts and loops that it names.
use Rattle.std.specs.Prelude.{ℕ, Bool, List, [], ◌∷◌, map, Option, Some, None}
use Rattle.algebra.specs.declared.basic.Basic.{Basic}
use Rattle.explain.specs.Visits.{Visit}
use Rattle.explain.specs.Whys.{WhyData, Wrong, Looped, Compound, Two, Overridden, Nothing, ExplainedData}

-- a reason without the sets of held paths
pub data Outline : Type 0 where
  wrong : ℕ → Outline
  looped : (step loop : ℕ) → Outline
  compound : ℕ → Outline
  two : ℕ → ℕ → Outline
  overridden : ℕ → Basic → Outline
  nothing : Outline

abbrev pub outline : WhyData → Outline
outline (Wrong v) = wrong v.node
outline (Looped v n) = looped v.node n
outline (Compound v) = compound v.node
outline (Two v w) = two v.node w.node
outline (Overridden m b) = overridden m b
outline Nothing = nothing

-- a method that is told: its number, whether it is refused, its limit, what it is, and why
pub record ToldMethod : Type 0 where
  pub method : ℕ
  pub is_refused : Bool
  pub limit : Basic
  pub found : Basic
  pub why : Outline

abbrev pub told_outline : ExplainedData → ToldMethod
told_outline x = record { method = x.method; is_refused = x.is_refused; limit = x.limit; found = x.found; why = outline x.why }

abbrev pub visit_nodes : List Visit → List ℕ
visit_nodes vs = map (λ v. v.node) vs

-- a visit that may be missing, as a list
abbrev pub some_of : Option Visit → List Visit
some_of None = []
some_of (Some v) = v ∷ []
