-- Origins of paths: where a method that overrides another next knows a path that the other doesn't, the path has an origin, which knows it.
use Rattle.std.specs.Prelude.{◌≡◌, ℕ, true, List, Contains}
use Rattle.paths.specs.Paths.{PathData}
use Rattle.algebra.specs.HeldPaths.{has_path}
use Rattle.level_check.specs.Told.{OriginOf, known_to_origin, known_to}

-- each relevant path of one of these is one of the method, or has an origin
abbrev pub AreOriginsFor : (ℕ → List PathData) → ℕ → (next : List ℕ) → OriginOf → Type 0
AreOriginsFor rel m next origin = (k : ℕ) (p : PathData) → Contains next k → has_path (rel k) p ≡ true → known_to m origin (λ j. has_path (rel j)) p ≡ true

-- so it is for each method and those that override it next
abbrev pub AreOrigins : (ℕ → List PathData) → (over : ℕ → List ℕ) → OriginOf → Type 0
AreOrigins rel over origin = (m : ℕ) → AreOriginsFor rel m (over m) origin

-- a path that had an origin has one
abbrev pub KeepsOrigins : (ℕ → List PathData) → (old new : OriginOf) → Type 0
KeepsOrigins rel old new = (p : PathData) → known_to_origin (old p) (λ j. has_path (rel j)) p ≡ true → known_to_origin (new p) (λ j. has_path (rel j)) p ≡ true

-- paths that had origins have some, and each of these paths is one of the method, or has an origin
pub record AddsPaths (rel : ℕ → List PathData) (m : ℕ) (paths : List PathData) (old new : OriginOf) : Type 0 where
  pub kept : KeepsOrigins rel old new
  pub origins : (p : PathData) → has_path paths p ≡ true → known_to m new (λ j. has_path (rel j)) p ≡ true

-- paths that had origins have some, and there are origins for this method
pub record AddsOrigins (rel : ℕ → List PathData) (m : ℕ) (next : List ℕ) (old new : OriginOf) : Type 0 where
  pub kept : KeepsOrigins rel old new
  pub origins : AreOriginsFor rel m next new
