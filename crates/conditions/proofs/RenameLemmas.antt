-- What a renaming of a tree means at every set.
use Rattle.std.proofs.Common.{◌≡◌, ◌&&◌, ◌||◌, Bool, true, false, List, [], ◌∷◌, Option, Some, None, refl, ◌∙◌, if◌then◌else◌}
use Rattle.paths.specs.Paths.{PathData, path_eq}
use Rattle.algebra.specs.declared.basic.Basic.{Basic}
use Rattle.algebra.specs.HeldPaths.{holds_at, is_named, partner_held, renamed}
use Rattle.conditions.specs.Conditions.{Cond, LeafC, TestC, value_of, IsCanonical}
use Rattle.conditions.specs.Operations.{hold, hold_some, hold_partners, rename_tree}
use Rattle.conditions.proofs.NodeLemmas.{Is, either}
use Rattle.conditions.proofs.LeafLemmas.{as_values}
use Rattle.conditions.proofs.HoldLemmas.{hold-is}

one_of : (c d : Bool) (x y : Basic) → (if c then x else (if d then x else y)) ≡ (if c || d then x else y)
one_of true d x y = refl
one_of false d x y = refl

hold_some-is : (p : Option PathData) (t u : Cond) → IsCanonical t → IsCanonical u → Is (λ H. if holds_at p H then value_of t H else value_of u H) (hold_some p t u)
hold_some-is None t u t_is u_is = record { canonical = u_is; same = λ H. refl }
hold_some-is (Some p) t u t_is u_is = hold-is p t u t_is u_is

hold_partners-is : (pairs : List (PathData × Option PathData)) (q : PathData) (t u : Cond) → IsCanonical t → IsCanonical u → Is (λ H. if partner_held pairs H q then value_of t H else value_of u H) (hold_partners pairs q t u)
hold_partners-is [] q t u t_is u_is = record { canonical = u_is; same = λ H. refl }
hold_partners-is (pair ∷ pairs) q t u t_is u_is =
    let rest = hold_partners-is pairs q t u t_is u_is in
    elim (path_eq pair.0 q) as (λ c. Is (λ H. if (c && holds_at pair.1 H) || partner_held pairs H q then value_of t H else value_of u H) (if c then hold_some pair.1 t (hold_partners pairs q t u) else hold_partners pairs q t u)) [
      | true ↦ as_values
          (λ H. if holds_at pair.1 H then value_of t H else value_of (hold_partners pairs q t u) H)
          (λ H. if holds_at pair.1 H || partner_held pairs H q then value_of t H else value_of u H)
          (hold_some pair.1 t (hold_partners pairs q t u))
          (hold_some-is pair.1 t (hold_partners pairs q t u) t_is rest.canonical)
          (λ H.
          (let k = rest.same H in λ i. if holds_at pair.1 H then value_of t H else k i)
          ∙ one_of (holds_at pair.1 H) (partner_held pairs H q) (value_of t H) (value_of u H))
      | false ↦ rest
    ]

pub rename-is : (pairs : List (PathData × Option PathData)) (t : Cond) → IsCanonical t → Is (λ H. value_of t (renamed pairs H)) (rename_tree pairs t)
rename-is pairs (LeafC b) is = record { canonical = tt; same = λ H. refl }
rename-is pairs (TestC q a b) is =
    let first = rename-is pairs a is.a_is in
    let second = rename-is pairs b is.b_is in
    let x = rename_tree pairs a in
    let y = rename_tree pairs b in
    elim (is_named pairs q) as (λ c. Is (λ H. if (if c then partner_held pairs H q else H q) then value_of a (renamed pairs H) else value_of b (renamed pairs H)) (if c then hold_partners pairs q x y else hold q x y)) [
      | true ↦ as_values
          (λ H. if partner_held pairs H q then value_of x H else value_of y H)
          (λ H. if partner_held pairs H q then value_of a (renamed pairs H) else value_of b (renamed pairs H))
          (hold_partners pairs q x y)
          (hold_partners-is pairs q x y first.canonical second.canonical)
          (λ H. let k = first.same H in let m = second.same H in λ i. if partner_held pairs H q then k i else m i)
      | false ↦ as_values
          (either q x y)
          (λ H. if H q then value_of a (renamed pairs H) else value_of b (renamed pairs H))
          (hold q x y)
          (hold-is q x y first.canonical second.canonical)
          (λ H. let k = first.same H in let m = second.same H in λ i. if H q then k i else m i)
    ]
