-- Which methods override one badly, class by class, and which faults are told.
use Rattle.std.proofs.Common.{◌≡◌, ℕ, ◌-◌, ◌<◌, Bool, true, false, ◌||◌, List, [], ◌∷◌, Option, Some, None, refl, sym, ap, ◌∙◌, if◌then◌else◌}
use Rattle.std.specs.List.{list_any}
use Rattle.classes.specs.declared.fault.ClassFault.{ClassFault}
use Rattle.classes.specs.First.{is_told}
use Rattle.classes.specs.Faults.{class_fault_place}
use Rattle.classes.specs.Lines.{ancestors}
use Rattle.classes.specs.Noted.{noted}
use Rattle.classes.specs.Overriding.{Heading, clashes, overrides_badly}
use Rattle.classes.proofs.Climbing.{next_ancestor}

-- one class further up, where a method clashes with none of this one
pub badly_later : (methods : ℕ → List Heading) (up : ℕ → Option ℕ) (left class : ℕ) (m : Heading) (whole : Bool) → 0 < left → overrides_badly methods (ancestors up left (Some class)) m ≡ whole
    → list_any (clashes m) (methods class) ≡ false → overrides_badly methods (ancestors up (left - 1) (up class)) m ≡ whole
badly_later methods up left class m whole some so_far none =
    sym (ap (λ b. b || overrides_badly methods (ancestors up (left - 1) (up class)) m) none)
    ∙ ap (λ l. overrides_badly methods l m) (sym (next_ancestor up left class some))
    ∙ so_far

-- a fault that isn't told changes nothing
pub untold : (first : Option ClassFault) (f : ClassFault) (stands : Bool) → is_told class_fault_place first f ≡ false → first ≡ noted first (if stands then f ∷ [] else [])
untold first f false told = refl
untold None f true told = absurd (let clash : true ≡ false = told in cc)
untold (Some g) f true told = ap (λ b. Some (if b then f else g)) (sym told)
