-- Explanations as plain data.
use Rattle.std.specs.Prelude.{ℕ, Bool}
use Rattle.algebra.specs.declared.basic.Basic.{Basic}
use Rattle.explain.specs.Visits.{Visit}

-- a part that is an error by itself; a step, and the number of a loop that repeats it; a step that is compound by itself; two steps; a
-- method that overrides this one, and is this basic at its required paths; or nothing
pub data WhyData : Type 0 where
  Wrong : Visit → WhyData
  Looped : Visit → ℕ → WhyData
  Compound : Visit → WhyData
  Two : Visit → Visit → WhyData
  Overridden : ℕ → Basic → WhyData
  Nothing : WhyData

-- a method with the greatest basic that it may have, the one that it has at its required paths, and why that is more. A method that
-- isn't refused keeps its bound, and is told why it is no atomic one.
pub record ExplainedData : Type 0 where
  pub method : ℕ
  pub is_refused : Bool
  pub limit : Basic
  pub found : Basic
  pub why : WhyData
