-- How ranks are given, round by round. Each round gives its number to those methods without a rank whose explanation leads nowhere or to a
-- smaller rank. Where there are none, methods are explained by what is known before that rank.
use Rattle.std.specs.Prelude.{◌≡◌, ◌⊎◌, ℕ, ◌+◌, ◌-◌, ◌^◌, ◌<◌, Bool, true, false, not, ◌&&◌, ◌||◌, ◌==◌, List, [], ◌∷◌, Option, Some, None, length, slice_get, if◌then◌else◌}
use Rattle.paths.specs.Paths.{PathData}
use Rattle.algebra.specs.declared.basic.Basic.{Basic}
use Rattle.algebra.specs.declared.basic.Basic.TheVariants.{Atomic}
use Rattle.algebra.specs.Basics.{below_of}
use Rattle.core_program.specs.Core.{Program, Method}
use Rattle.rules.specs.Effect.{Assignment}
use Rattle.explain.specs.declared.grounds.Ground.{Ground}
use Rattle.explain.specs.declared.ranking.Bounds.{Bounds}
use Rattle.explain.specs.Explaining.{why_of}
use Rattle.explain.specs.Grounds.{level_at, lead_at, rank_at, why_by, why_from}
use Rattle.explain.specs.Leads.{IsLevel, IsMoreThanLimit, RunsInCircle, is_grounded_by, reason_lead, leads_below, limit_for}
use Rattle.explain.specs.Programs.{found_of}
use Rattle.explain.specs.Whys.{WhyData}

-- the rank of a method that has none yet
abbrev pub open_rank : ℕ
open_rank = 2 ^ 64 - 1

-- a rank, a level and a lead
abbrev pub ground_with : (rank : ℕ) → (level : Option Basic) → (lead : Option ℕ) → Ground
ground_with rank level lead = record { rank = rank; level = level; lead = lead }

-- a ground has no rank, and leads nowhere or to a rank that is smaller than this
abbrev pub may_rank : List Ground → (round : ℕ) → Option Ground → Bool
may_rank grounds round None = false
may_rank grounds round (Some found) = (found.rank == open_rank) && leads_below grounds round found.lead

module _ (P : Program) (rel : ℕ → List PathData) (A : Assignment) (overs : ℕ → List ℕ) where
  -- a method before ranks are given: where it is more than it may be it has none, and the lead of its explanation as it is
  abbrev pub first_ground : Bounds → ℕ → Method → Ground
  first_ground bounds m method =
      let limit = limit_for bounds P A m method in
      if below_of (found_of A m method) limit
      then ground_with 0 None None
      else ground_with open_rank None (reason_lead P rel (why_of P rel A (overs m) m method limit))

  -- methods that are numbered from here on
  abbrev pub first_from : Bounds → ℕ → List Method → List Ground
  first_from bounds m [] = []
  first_from bounds m (method ∷ methods) = first_ground bounds m method ∷ first_from bounds (m + 1) methods

  -- all methods
  abbrev pub first_grounds : Bounds → List Ground
  first_grounds bounds = first_from bounds 0 P.methods

  module _ (grounds : List Ground) (level : Basic) (round : ℕ) (m : ℕ) (method : Method) where
    -- the reason of a method by what is known before a rank, where that is no more than a level of methods with that rank or a greater one
    abbrev pub known_reason : WhyData
    known_reason = why_from P rel A overs grounds (Some level) round m method level

    -- the ground of a method with that reason, where there is one and it leads to a smaller rank
    abbrev pub ground_by : Option Ground
    ground_by = if is_grounded_by P rel grounds round known_reason then Some (ground_with round (Some level) (reason_lead P rel known_reason)) else None

    -- the method has a rank, or no such reason
    abbrev pub is_stuck_at : Bool
    is_stuck_at = not (rank_at grounds m == open_rank) || not (is_grounded_by P rel grounds round known_reason)

-- ranks are given that are smaller than this one: each method has its lead; one that has a rank leads nowhere or to one of smaller rank; one
-- that has none is more than it may be and explained as it is; and one that has a level runs into a circle, as it is
pub record AreRanked (bounds : Bounds) (P : Program) (rel : ℕ → List PathData) (A : Assignment) (overs : ℕ → List ℕ) (grounds : List Ground) (round : ℕ) : Type 0 where
  pub each : length grounds ≡ length P.methods
  pub early : (m : ℕ) → (rank_at grounds m < round) ⊎ (rank_at grounds m ≡ open_rank)
  pub leads : (m : ℕ) (method : Method) → IsMoreThanLimit bounds P A m method → lead_at grounds m ≡ reason_lead P rel (why_by P rel A overs grounds m method (limit_for bounds P A m method))
  pub levels : (m : ℕ) (method : Method) → IsMoreThanLimit bounds P A m method → IsLevel (level_at grounds m) (why_by P rel A overs grounds m method (limit_for bounds P A m method))
  pub falls : (m : ℕ) → (rank_at grounds m ≡ open_rank → ⊥) → leads_below grounds (rank_at grounds m) (lead_at grounds m) ≡ true
  pub plain : (m : ℕ) → rank_at grounds m ≡ open_rank → level_at grounds m ≡ None
  pub more : (m : ℕ) → rank_at grounds m ≡ open_rank → (method : Method) × IsMoreThanLimit bounds P A m method
  pub circles : (m : ℕ) (level : Basic) → level_at grounds m ≡ Some level → RunsInCircle bounds P rel A overs m

-- the same where no method can get its rank as it is: each that has none runs into a circle
pub record AreCircling (bounds : Bounds) (P : Program) (rel : ℕ → List PathData) (A : Assignment) (overs : ℕ → List ℕ) (grounds : List Ground) (round : ℕ) : Type 0 where
  pub ranked : AreRanked bounds P rel A overs grounds round
  pub open_ones : (m : ℕ) → rank_at grounds m ≡ open_rank → RunsInCircle bounds P rel A overs m

-- each method has a rank, or no reason by what is known before this one
abbrev pub AreStuck : Program → (rel : ℕ → List PathData) → Assignment → (overs : ℕ → List ℕ) → List Ground → (level : Basic) → (round : ℕ) → Type 0
AreStuck P rel A overs grounds level round = (m : ℕ) (method : Method) → slice_get P.methods m ≡ Some method → is_stuck_at P rel A overs grounds level round m method ≡ true

-- all ranks are given that can be given
pub record AreAllRanked (bounds : Bounds) (P : Program) (rel : ℕ → List PathData) (A : Assignment) (overs : ℕ → List ℕ) (grounds : List Ground) : Type 0 where
  pub round : ℕ
  pub below : round < open_rank
  pub ranked : AreRanked bounds P rel A overs grounds round
  pub stuck : AreStuck P rel A overs grounds Atomic round
