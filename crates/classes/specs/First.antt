-- The first of some faults: by their offsets, and at one offset by their ranks.
use Rattle.std.specs.Prelude.{◌≡◌, Bool, true, false, ◌&&◌, ◌||◌, ◌==◌, nat_lt, List, [], ◌∷◌, Option, Some, None, Contains, if◌then◌else◌}
use Rattle.classes.specs.declared.first.FaultPlace.{FaultPlace}

-- whether a place comes before another: by offset, and at one offset by rank
abbrev pub comes_before : FaultPlace → FaultPlace → Bool
comes_before p q = nat_lt p.offset q.offset || (p.offset == q.offset && nat_lt p.rank q.rank)

-- the first of two faults, if one was found before
abbrev pub earlier : {F : Type 0} → (F → FaultPlace) → Option F → F → F
earlier place None g = g
earlier place (Some f) g = if comes_before (place g) (place f) then g else f

-- whether a fault is told where another one may have been found before
abbrev pub is_told : {F : Type 0} → (F → FaultPlace) → Option F → F → Bool
is_told place None g = true
is_told place (Some f) g = comes_before (place g) (place f)

-- the first of these faults, and of one that was found before
abbrev pub first_noted : {F : Type 0} → (F → FaultPlace) → Option F → List F → Option F
first_noted place first [] = first
first_noted place first (f ∷ fs) = first_noted place (Some (earlier place first f)) fs

-- the fault that is told: it is one of these, and none of them comes before it
pub record IsFirstOfFaults {F : Type 0} (place : F → FaultPlace) (faults : List F) (f : F) : Type 0 where
  pub stands : Contains faults f
  pub least : (g : F) → Contains faults g → comes_before (place g) (place f) ≡ false
