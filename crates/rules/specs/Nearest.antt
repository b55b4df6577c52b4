-- The nearest of the methods that override a method: from these all others are reached, one after the other.
use Rattle.std.specs.Prelude.{ℕ, List, Contains}
use Rattle.core_program.specs.Core.{Program}
use Rattle.core_program.specs.Dispatch.{Overrides}
use Rattle.rules.specs.Search.{row_at}

-- from a method these rows lead to another: it stands in the method's row, or in the row of one that they lead to
pub data LeadTo (rows : List (List ℕ)) (m : ℕ) : ℕ → Type 0 where
  near : {over : ℕ} → Contains (row_at rows m) over → LeadTo rows m over
  further : {over : ℕ} (middle : ℕ) → LeadTo rows m middle → Contains (row_at rows middle) over → LeadTo rows m over

-- the row of each method has methods that override it alone, and the rows lead to all of them
pub record AreNearest (P : Program) (rows : List (List ℕ)) : Type 0 where
  pub sound : (m over : ℕ) → Contains (row_at rows m) over → Overrides P over m
  pub lead : (m over : ℕ) → Overrides P over m → LeadTo rows m over
