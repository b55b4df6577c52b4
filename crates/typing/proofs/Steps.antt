-- Rules one after the other: what they give, and the fault that they tell.
use Rattle.std.proofs.Common.{◌≡◌, Option, Some, Result, Ok, Err, ap, sym, ◌∙◌}
use Rattle.typing.specs.declared.fault.TypeFault.{TypeFault}
use Rattle.typing.specs.Noted.{type_noted}
use Rattle.typing.specs.Rulings.{gain, loss, then_rule}

-- a rule that gave something
pub gained : {A : Type 0} (r : Result A TypeFault) (a : A) → Some a ≡ gain r → r ≡ Ok a
gained (Ok b) a h = ap Ok (sym (same a b h)) where
  same : {A : Type 0} (a b : A) → Some a ≡ Some b → a ≡ b
  same a b h = cc
gained (Err f) a h = absurd cc

-- after a rule that gave something, the fault is that of the next
pub later_fault : {A B : Type 0} (r : Result A TypeFault) (a : A) (rule : A → Result B TypeFault) (first second : Option TypeFault)
    → Some a ≡ gain r → second ≡ type_noted first (loss r) → type_noted second (loss (rule a)) ≡ type_noted first (loss (then_rule r rule))
later_fault r a rule first second given noted_is =
    let is = gained r a given in
    ap (λ z. type_noted z (loss (rule a))) (noted_is ∙ ap (λ z. type_noted first (loss z)) is)
    ∙ ap (λ z. type_noted first (loss (then_rule z rule))) (sym is)
