use Rattle.std.proofs.Common.{◌≡◌, ℕ, List, [], Option, ap, arith, get_or, refl}
use Rattle.std.specs.Prelude.{unwrap_or}
use Rattle.explain_examples.proofs.slots.which_names_slots_have.Goals as goal

-- the first byte of a name
abbrev first_byte : Option (List ℕ) → ℕ
first_byte o = get_or (unwrap_or o []) 0 0

pub returns-clause-none : goal.returns-clause-none
returns-clause-none c = tt

pub returns-clause-one : goal.returns-clause-one
returns-clause-one c = record { this = refl; variables = (refl, tt) }

pub returns-clause-another : goal.returns-clause-another
returns-clause-another c = λ named. let e : 121 ≡ 120 = ap first_byte named.0 in absurd (omega (arith, e))

pub returns-clause-past : goal.returns-clause-past
returns-clause-past c = λ named. let is = named.0 in absurd cc

pub returns-clause-no_this : goal.returns-clause-no_this
returns-clause-no_this c = λ named. let e : 120 ≡ 116 = ap first_byte named.this in absurd (omega (arith, e))
