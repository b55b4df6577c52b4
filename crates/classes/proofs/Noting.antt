-- How the first fault is found, part by part.
use Rattle.std.proofs.Common.{◌≡◌, ℕ, ◌+◌, ◌<◌, suc, List, ◌∷◌, ◌++◌, Option, length, map, flat_map, drop, get_or, ap, sym, ◌∙◌, arith}
use Rattle.std.proofs.Math.Seq.{drop-cons}
use Rattle.classes.proofs.FirstFaults as faults
use Rattle.classes.specs.declared.fault.ClassFault.{ClassFault}
use Rattle.classes.specs.Faults.{class_fault_place}
use Rattle.classes.specs.Noted.{noted}

pub noted_append : (first : Option ClassFault) (xs ys : List ClassFault) → noted first (xs ++ ys) ≡ noted (noted first xs) ys
noted_append first xs ys = faults.noted_append class_fault_place first xs ys

-- one part more
pub noted_step : {X Y : Type 0} (g : Y → List ClassFault) (f : X → Y) (xs : List X) (i : ℕ) (x : X) (found next all : Option ClassFault)
    → i < length xs → get_or xs i x ≡ x → noted found (flat_map g (map f (drop i xs))) ≡ all → next ≡ noted found (g (f x))
    → noted next (flat_map g (map f (drop (i + 1) xs))) ≡ all
noted_step {X} {Y} g f xs i x found next all within at so_far is =
    let next_is : suc i ≡ i + 1 = omega arith in
    let e : drop i xs ≡ x ∷ drop (i + 1) xs = drop-cons xs i x within ∙ ap (λ z. z ∷ drop (suc i) xs) at ∙ ap (λ n. x ∷ drop n xs) next_is in
    ap (λ z. noted z (flat_map g (map f (drop (i + 1) xs)))) is
    ∙ sym (noted_append found (g (f x)) (flat_map g (map f (drop (i + 1) xs))))
    ∙ ap (λ z. noted found (flat_map g (map f z))) (sym e)
    ∙ so_far
