-- How values, objects and held locks are stored, by which a proof tells them apart.
use Rattle.std.specs.Prelude.{◌≡◌, ◌⊎◌, ℕ, ℤ, Bool, List, Option, Some, None, refl}
use Rattle.std.proofs.Common.{inl, inr}
use Rattle.std.specs.Coded.{Coded, code_by, coded×, coded⊎, coded_ℕ, coded_ℤ, coded_bool, coded_list, coded_option}
use Rattle.state.specs.declared.value.Value.{Value}
use Rattle.state.specs.declared.value.Value.TheVariants.{Int, Truth, Null, Ref}
use Rattle.state.specs.Memory.{Object, Hold}

-- a value as a number, a truth value, or an address or none
abbrev pub Stored : Type 0
Stored = ℤ ⊎ (Bool ⊎ Option (ℕ × ℕ))

-- a value as it is stored
abbrev pub store : Value → Stored
store (Int n) = inl n
store (Truth b) = inr (inl b)
store Null = inr (inr None)
store (Ref a) = inr (inr (Some (a.thread, a.count)))

-- the value that is stored so
abbrev pub load : Stored → Value
load (inl n) = Int n
load (inr (inl b)) = Truth b
load (inr (inr None)) = Null
load (inr (inr (Some p))) = Ref (record { thread = p.0; count = p.1 })

-- a value that is stored and loaded is the same
pub load-store : (v : Value) → load (store v) ≡ v
load-store (Int n) = refl
load-store (Truth b) = refl
load-store Null = refl
load-store (Ref a) = refl

-- how a value is stored: a number, a truth value, `null`, or the address of an object
abbrev pub value_code : Coded Value
value_code = code_by Stored (coded⊎ coded_ℤ (coded⊎ coded_bool (coded_option (coded× coded_ℕ coded_ℕ)))) store load load-store

-- how an object is stored: its class and the values of its fields
abbrev pub object_code : Coded Object
object_code = code_by (ℕ × List Value) (coded× coded_ℕ (coded_list value_code)) (λ o. (o.class, o.values)) (λ p. record { class = p.0; values = p.1 }) (λ _. refl)

-- how a held lock is stored: its holder, and how often that one has taken it
abbrev pub hold_code : Coded Hold
hold_code = code_by (ℕ × ℕ) (coded× coded_ℕ coded_ℕ) (λ h. (h.holder, h.count)) (λ p. record { holder = p.0; count = p.1 }) (λ _. refl)
