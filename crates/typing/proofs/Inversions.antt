-- What rules gave tells what their parts gave.
use Rattle.std.proofs.Common.{◌≡◌, Bool, true, false, Option, Some, None, is_none, Result, Ok, Err, refl, ap}
use Rattle.std.specs.Prelude.{ok_or}
use Rattle.std.proofs.lemmas.Option.{same_Some}
use Rattle.typing.specs.declared.fault.TypeFault.{TypeFault}
use Rattle.typing.specs.Rulings.{gain, ruled, both, demand, then_rule}

pub same_ok : {A : Type 0} (x y : A) → Path (Result A TypeFault) (Ok x) (Ok y) → x ≡ y
same_ok x y h = cc

pub gain_of : {A : Type 0} (r : Result A TypeFault) (a : A) → gain r ≡ Some a → r ≡ Ok a
gain_of (Ok b) a h = ap Ok (same_Some b a h)
gain_of (Err f) a h = absurd cc

pub given_of : {A B : Type 0} (rule : A → Result B TypeFault) (o : Option A) (b : B) → ruled rule o ≡ Some b
    → (a : A) × (o ≡ Some a) × (rule a ≡ Ok b)
given_of rule (Some a) b h = (a, refl, gain_of (rule a) b h)
given_of rule None b h = absurd cc

pub none_of : {A : Type 0} (o : Option A) → is_none o ≡ true → o ≡ None
none_of None h = refl
none_of (Some a) h = absurd (let e : false ≡ true = h in cc)

pub both_of : {A B : Type 0} (o : Option A) (p : Option B) (x : A × B) → both o p ≡ Some x → (o ≡ Some x.0) × (p ≡ Some x.1)
both_of (Some a) (Some b) x h = let e = same_Some (a, b) x h in (ap (λ z. Some z.0) e, ap (λ z. Some z.1) e)
both_of None p x h = absurd cc
both_of (Some a) None x h = absurd cc

pub demand_of : {A : Type 0} (b : Bool) (f : TypeFault) (x y : A) → demand b f x ≡ Ok y → (b ≡ true) × (x ≡ y)
demand_of true f x y h = (refl, same_ok x y h)
demand_of false f x y h = absurd cc

pub then_of : {A B : Type 0} (r : Result A TypeFault) (g : A → Result B TypeFault) (b : B) → then_rule r g ≡ Ok b
    → (a : A) × (r ≡ Ok a) × (g a ≡ Ok b)
then_of (Ok a) g b h = (a, refl, h)
then_of (Err f) g b h = absurd cc

pub ok_or_of : {A : Type 0} (o : Option A) (f : TypeFault) (a : A) → ok_or o f ≡ Ok a → o ≡ Some a
ok_or_of (Some b) f a h = ap Some (same_ok b a h)
ok_or_of None f a h = absurd cc
