-- On what the explanation of each method rests. Methods that call each other could be explained by each other, in a circle in which no step
-- is told: `f` is compound since it calls `g`, and `g` since it calls `f`. So each method has a rank, and its explanation leads to a method of
-- smaller rank. Where that is so of what methods come to in the end, it is told as it is. A method of a circle is explained by what was
-- known before it: as if it, and each method whose rank isn't smaller, were no more than a level.
use Rattle.std.specs.Prelude.{ℕ, Bool, true, false, nat_le, List, Option, Some, None, slice_get, if◌then◌else◌}
use Rattle.paths.specs.Paths.{PathData}
use Rattle.algebra.specs.declared.basic.Basic.{Basic}
use Rattle.algebra.specs.Basics.{below_of}
use Rattle.core_program.specs.Core.{Program, Method}
use Rattle.rules.specs.Effect.{Assignment}
use Rattle.explain.specs.declared.grounds.Ground.{Ground}
use Rattle.explain.specs.Explaining.{why_of}
use Rattle.explain.specs.Whys.{WhyData}

-- the rank of a ground; 0 where there is none
abbrev pub rank_in_row : Option Ground → ℕ
rank_in_row None = 0
rank_in_row (Some row) = row.rank

-- its level: there is none where a method is explained as it is
abbrev pub level_in_row : Option Ground → Option Basic
level_in_row None = None
level_in_row (Some row) = row.level

-- the method to which its explanation leads
abbrev pub lead_in_row : Option Ground → Option ℕ
lead_in_row None = None
lead_in_row (Some row) = row.lead

-- the rank, the level and the lead of a method
abbrev pub rank_at : List Ground → ℕ → ℕ
rank_at grounds m = rank_in_row (slice_get grounds m)

abbrev pub level_at : List Ground → ℕ → Option Basic
level_at grounds m = level_in_row (slice_get grounds m)

abbrev pub lead_at : List Ground → ℕ → Option ℕ
lead_at grounds m = lead_in_row (slice_get grounds m)

-- the lesser of two basics
abbrev pub lesser : Basic → Basic → Basic
lesser a b = if below_of a b then a else b

-- a basic, or no more than a level
abbrev pub lowered_if : (is_lowered : Bool) → (level : Basic) → Basic → Basic
lowered_if true level b = lesser b level
lowered_if false level b = b

-- an assignment where methods whose rank is this one or greater are no more than a level
abbrev pub lowered : Assignment → List Ground → (from : ℕ) → (level : Basic) → Assignment
lowered A grounds from level m H = lowered_if (nat_le from (rank_at grounds m)) level (A m H)

module _ (P : Program) (rel : ℕ → List PathData) (A : Assignment) (overs : ℕ → List ℕ) (grounds : List Ground) where
  -- why a method is more than the limit; where there is a level, why it is more than that, by what is known before this rank
  abbrev pub why_from : (level : Option Basic) → (rank : ℕ) → ℕ → Method → (limit : Basic) → WhyData
  why_from None rank m method limit = why_of P rel A (overs m) m method limit
  why_from (Some level) rank m method limit = why_of P rel (lowered A grounds rank level) (overs m) m method level

  -- why a method is more than the limit, by its ground
  abbrev pub why_by : ℕ → Method → (limit : Basic) → WhyData
  why_by m method limit = why_from (level_at grounds m) (rank_at grounds m) m method limit
