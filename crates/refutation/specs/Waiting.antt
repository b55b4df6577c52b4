-- Which methods wait to be asked: a method has something new to be said of it only where one that it calls was raised since it was asked
-- last, or one that overrides it, of which more is said.
use Rattle.std.specs.Prelude.{◌≡◌, ℕ, ◌<◌, ◌≤◌, Bool, true, false, List, [], ◌++◌, length, Option, Some, None, slice_get}
use Rattle.std.specs.List.{AllByRecursion}
use Rattle.paths.specs.Paths.{PathData}
use Rattle.algebra.specs.declared.basic.Basic.{Basic}
use Rattle.algebra.specs.Basics.{below_of}
use Rattle.algebra.specs.HeldPaths.{Held, has_path}
use Rattle.core_program.specs.Core.{Program, Method}
use Rattle.rules.specs.Called.{has_method}
use Rattle.rules.specs.Rules.{AtMost}
use Rattle.refutation.specs.Lines.{LineData, floor, overriding, joined_over, body_effect}
use Rattle.refutation.specs.Overs.{AreOversTold}
use Rattle.refutation.specs.Passes.{MethodAtSet, cells_in, subsets_of, floor_at, up_at}

-- the new lines are the old ones, and some more of this method behind them
pub record Adds (m : ℕ) (old new : List LineData) : Type 0 where
  pub more : List LineData
  pub are : new ≡ old ++ more
  pub its : AllByRecursion (λ l. l.method ≡ m) more

-- no more than a basic is said of the methods that override one, whatever paths are held
abbrev pub IsMostOver : Program → (rel : ℕ → List PathData) → List LineData → ℕ → Basic → Type 0
IsMostOver P rel ls m most = (H : Held) → AtMost (joined_over rel (floor rel ls) (overriding P m) H) most

-- nothing new is to be said at these cells
abbrev pub AreSaid : Program → (rel : ℕ → List PathData) → List MethodAtSet → List LineData → Type 0
AreSaid P rel cs ls = AllByRecursion (λ c. below_of (up_at P rel ls c) (floor_at P rel ls c) ≡ true) cs

-- a method at the parts of its relevant paths that have its required ones; none where it isn't there
abbrev pub cells_with : (rel : ℕ → List PathData) → ℕ → Option Method → List MethodAtSet
cells_with rel m None = []
cells_with rel m (Some method) = cells_in m method.requires_ (subsets_of (rel m))

-- of a method that doesn't wait nothing new is to be said
abbrev pub AreSettled : Program → (rel : ℕ → List PathData) → List LineData → (waits : List Bool) → Type 0
AreSettled P rel ls waits = (m : ℕ) → slice_get waits m ≡ Some false → AreSaid P rel (cells_with rel m (slice_get P.methods m)) ls

-- what the bodies come to at these cells is said
abbrev pub AreBodiesSaid : Program → (rel : ℕ → List PathData) → List MethodAtSet → List LineData → Type 0
AreBodiesSaid P rel cs ls = AllByRecursion (λ c. AtMost (body_effect P rel (floor rel ls) (slice_get P.methods c.method) (has_path c.held)) (floor_at P rel ls c)) cs

-- what a body that doesn't wait comes to is said
abbrev pub AreBodiesSettled : Program → (rel : ℕ → List PathData) → List LineData → (bodies : List Bool) → Type 0
AreBodiesSettled P rel ls bodies = (m : ℕ) → slice_get bodies m ≡ Some false → AreBodiesSaid P rel (cells_with rel m (slice_get P.methods m)) ls

-- who doesn't wait now didn't before, and is none of these
abbrev pub AreWoken : (old new : List Bool) → List ℕ → Type 0
AreWoken old new methods = (m : ℕ) → slice_get new m ≡ Some false → (slice_get old m ≡ Some false) × (has_method methods m ≡ false)

-- who doesn't wait now didn't before, and is none of these, or this holds of it
abbrev pub AreWokenBut : (ℕ → Type 0) → (old new : List Bool) → List ℕ → Type 0
AreWokenBut Holds old new methods = (m : ℕ) → slice_get new m ≡ Some false → (slice_get old m ≡ Some false) × (has_method methods m ≡ true → Holds m)

-- who doesn't wait now didn't before, or is this one
abbrev pub IsAsleep : (old new : List Bool) → ℕ → Type 0
IsAsleep old new method = (m : ℕ) → slice_get new m ≡ Some false → (m ≡ method → ⊥) → slice_get old m ≡ Some false

-- who waits stands from the first of these places on and before the second
pub record WaitWithin (waits : List Bool) (first end : ℕ) : Type 0 where
  pub starts : first ≤ length waits
  pub ends : end ≤ length waits
  pub each : (m : ℕ) → slice_get waits m ≡ Some true → (first ≤ m) × (m < end)

-- of each method, the tables tell what the lines say of those that override it, where they don't wait to be made
pub record AreOversKnown (P : Program) (rows : List (List ℕ)) (rel : ℕ → List PathData) (lines : List LineData) (tables : List (List Basic)) (waits : List Bool) : Type 0 where
  pub size : length waits ≡ length P.methods
  pub told : AreOversTold rows rel (floor rel lines) tables waits
