-- The first of some faults, by tests on all of them.
use Rattle.std.proofs.Common.{◌≡◌, true, false, not, List}
use Rattle.std.specs.Prelude.{Contains}
use Rattle.std.specs.List.{list_all}
use Rattle.std.proofs.lemmas.Bool.{not-true}
use Rattle.base.proofs.Lists.{all_at}
use Rattle.classes.specs.declared.first.FaultPlace.{FaultPlace}
use Rattle.classes.specs.First.{comes_before, IsFirstOfFaults}

pub first_is : {F : Type 0} (place : F → FaultPlace) (faults : List F) (f : F) → Contains faults f → list_all (λ g. not (comes_before (place g) (place f))) faults ≡ true → IsFirstOfFaults place faults f
first_is place faults f stands all = record {
  stands = stands;
  least = λ g has. not-true (comes_before (place g) (place f)) (all_at (λ g. not (comes_before (place g) (place f))) faults all g has);
}

-- one comes before it
pub not_first : {F : Type 0} (place : F → FaultPlace) (faults : List F) (f g : F) → Contains faults g → comes_before (place g) (place f) ≡ true → IsFirstOfFaults place faults f → ⊥
not_first place faults f g has before first = let late : comes_before (place g) (place f) ≡ false = first.least g has in absurd cc
