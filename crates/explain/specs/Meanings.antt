-- What the reason of a method means.
use Rattle.std.specs.Prelude.{◌≡◌, ◌⊎◌, ℕ, Bool, false, ◌&&◌, List, ◌∷◌, ◌++◌, Contains, Some, None}
use Rattle.std.specs.List.{list_all}
use Rattle.paths.specs.Paths.{PathData}
use Rattle.algebra.specs.declared.basic.Basic.{Basic}
use Rattle.algebra.specs.declared.basic.Basic.TheVariants.{Atomic, Cmpd, Error}
use Rattle.algebra.specs.Basics.{below_of}
use Rattle.algebra.specs.HeldPaths.{Held, has_path}
use Rattle.core_program.specs.Core.{Program, Method}
use Rattle.rules.specs.Effect.{Assignment, effect}
use Rattle.rules.specs.Rules.{held_in}
use Rattle.explain.specs.StepReadings.{own_at}
use Rattle.explain.specs.Steps.{stmt_steps}
use Rattle.explain.specs.Visits.{Visit, stmt_visits}
use Rattle.explain.specs.Whys.{WhyData, Wrong, Looped, Compound, Two, Overridden, Nothing}

-- the first of two stands before the second
pub record IsBefore (vs : List Visit) (v w : Visit) : Type 0 where
  pub before : List Visit
  pub between : List Visit
  pub after : List Visit
  pub whole : vs ≡ before ++ (v ∷ (between ++ (w ∷ after)))

-- a method that overrides one is this where these paths are held, and that is more than the limit
pub record IsAboveLimit (rel : ℕ → List PathData) (A : Assignment) (overs : List ℕ) (H : Held) (limit : Basic) (m : ℕ) (b : Basic) : Type 0 where
  pub there : Contains overs m
  pub is : b ≡ A m (held_in (rel m) H)
  pub above : below_of b limit ≡ false

module _ (P : Program) (rel : ℕ → List PathData) (A : Assignment) where
  -- one of these visits is this by itself
  pub record IsAmong (vs : List Visit) (b : Basic) (v : Visit) : Type 0 where
    pub there : Contains vs v
    pub own : own_at P rel A v ≡ b

  -- two steps, of which the first is done before the second: both are atomic, or one is and the other is a call that is compound by itself
  abbrev pub AreTwo : List Visit → Visit → Visit → Type 0
  AreTwo vs v w = IsBefore vs v w × ((IsAmong vs Atomic v × (IsAmong vs Atomic w ⊎ IsAmong vs Cmpd w)) ⊎ (IsAmong vs Cmpd v × IsAmong vs Atomic w))

  -- what a reason says of a body with these visits and steps, which these methods override and begin with these paths. Nothing is no reason
  abbrev pub Means : (visits steps : List Visit) → (overs : List ℕ) → Held → (limit : Basic) → WhyData → Type 0
  Means visits steps overs H limit (Wrong v) = IsAmong visits Error v
  Means visits steps overs H limit (Looped v n) = IsAmong steps Atomic v × (v.loop ≡ Some n)
  Means visits steps overs H limit (Compound v) = IsAmong steps Cmpd v
  Means visits steps overs H limit (Two v w) = AreTwo steps v w
  Means visits steps overs H limit (Overridden m b) = IsAboveLimit rel A overs H limit m b
  Means visits steps overs H limit Nothing = ⊥

  -- of a method with its required paths
  abbrev pub IsReasonOf : (overs : List ℕ) → Method → (limit : Basic) → WhyData → Type 0
  IsReasonOf overs method limit why =
      Means (stmt_visits P method.body 0 (has_path method.requires_) None) (stmt_steps P rel A method.body 0 (has_path method.requires_) None) overs (has_path method.requires_) limit why

  -- whether a method's body is at most this where its required paths are held, and so is each method that overrides it
  abbrev pub are_within : (overs : List ℕ) → Method → (limit : Basic) → Bool
  are_within overs method limit =
      below_of (effect P rel A method.body (has_path method.requires_)) limit && list_all (λ m. below_of (A m (held_in (rel m) (has_path method.requires_))) limit) overs
