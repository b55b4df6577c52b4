-- Tests for equal values and equal frames.
use Rattle.std.proofs.Common.{◌≡◌, ℕ, ◌+◌, ◌<◌, ◌==◌, Bool, true, List, [], ◌∷◌, ◌++◌, length, take, get_or, reverse, refl, sym, ap, ◌∙◌}
use Rattle.std.specs.Prelude.{map}
use Rattle.std.specs.Bool.{Decides}
use Rattle.std.specs.Cmp.{signed_Decides, booleans_Decides}
use Rattle.std.proofs.lemmas.Bool.{eqb-true, eq-eqb, and_parts, and_from}
use Rattle.std.proofs.lemmas.List.{reverse-reverse, take_more}
use Rattle.state.specs.declared.value.Address.{Address}
use Rattle.state.specs.declared.value.Value.{Value}
use Rattle.state.specs.declared.value.Value.TheVariants.{Int, Truth, Null, Ref}
use Rattle.state.specs.declared.value.Fault.{Fault}
use Rattle.state.specs.declared.value.Fault.TheVariants as fault
use Rattle.state.specs.declared.value.ThreadState.{ThreadState}
use Rattle.state.specs.declared.value.ThreadState.TheVariants as status
use Rattle.state.specs.contracts.value.FaultPartialEq.TheImpl as faults
use Rattle.state.specs.contracts.value.ThreadStatePartialEq.TheImpl as statuses
use Rattle.state.specs.contracts.value.AddressPartialEq.TheImpl as addresses
use Rattle.state.specs.contracts.value.ValuePartialEq.TheImpl as values
use Rattle.state.specs.Frames.{CellFrame, code_frame}
use Rattle.state.proofs.FrameLemmas.{map-append}

abbrev pub same_address : Address → Address → Bool
same_address = addresses.eq-value.it

abbrev pub same_value : Value → Value → Bool
same_value = values.eq-value.it

pub address_is : (a b : Address) → same_address a b ≡ true → a ≡ b
address_is a b told =
    let parts = and_parts (a.thread == b.thread) (a.count == b.count) told in
    let threads = eqb-true _ _ parts.0 in
    let places = eqb-true _ _ parts.1 in
    λ i. record { thread = threads i; count = places i }

address_itself : (a b : Address) → a ≡ b → same_address a b ≡ true
address_itself a b e = and_from (a.thread == b.thread) (a.count == b.count) (eq-eqb _ _ (ap (λ x. x.thread) e)) (eq-eqb _ _ (ap (λ x. x.count) e))

pub addresses_decide : (a b : Address) → Decides (same_address a b) (a ≡ b)
addresses_decide a b = (address_is a b, address_itself a b)

value_is : (a b : Value) → same_value a b ≡ true → a ≡ b
value_is (Int n) (Int m) told = ap Int ((signed_Decides n m).0 told)
value_is (Int n) (Truth y) told = absurd cc
value_is (Int n) Null told = absurd cc
value_is (Int n) (Ref b) told = absurd cc
value_is (Truth x) (Int m) told = absurd cc
value_is (Truth x) (Truth y) told = ap Truth ((booleans_Decides x y).0 told)
value_is (Truth x) Null told = absurd cc
value_is (Truth x) (Ref b) told = absurd cc
value_is Null (Int m) told = absurd cc
value_is Null (Truth y) told = absurd cc
value_is Null Null told = refl
value_is Null (Ref b) told = absurd cc
value_is (Ref a) (Int m) told = absurd cc
value_is (Ref a) (Truth y) told = absurd cc
value_is (Ref a) Null told = absurd cc
value_is (Ref a) (Ref b) told = ap Ref (address_is a b told)

value_itself : (a : Value) → same_value a a ≡ true
value_itself (Int n) = (signed_Decides n n).1 refl
value_itself (Truth x) = (booleans_Decides x x).1 refl
value_itself Null = refl
value_itself (Ref a) = address_itself a a refl

pub values_decide : (a b : Value) → Decides (same_value a b) (a ≡ b)
values_decide a b = (value_is a b, λ e. ap (same_value a) (sym e) ∙ value_itself a)

turned : {A : Type 0} (xs ys : List A) → reverse xs ≡ reverse ys → xs ≡ ys
turned xs ys e = sym (reverse-reverse xs) ∙ ap reverse e ∙ reverse-reverse ys

abbrev pub same_fault : Fault → Fault → Bool
same_fault = faults.eq-value.it

fault_is : (a b : Fault) → same_fault a b ≡ true → a ≡ b
fault_is fault.Null fault.Null told = refl
fault_is fault.Null fault.Zero told = absurd cc
fault_is fault.Null fault.Depth told = absurd cc
fault_is fault.Zero fault.Null told = absurd cc
fault_is fault.Zero fault.Zero told = refl
fault_is fault.Zero fault.Depth told = absurd cc
fault_is fault.Depth fault.Null told = absurd cc
fault_is fault.Depth fault.Zero told = absurd cc
fault_is fault.Depth fault.Depth told = refl

abbrev pub same_status : ThreadState → ThreadState → Bool
same_status = statuses.eq-value.it

-- equal statuses, told by the derived test
pub status_is : (a b : ThreadState) → same_status a b ≡ true → a ≡ b
status_is status.Ready status.Ready told = refl
status_is status.Ready status.Running told = absurd cc
status_is status.Ready status.Done told = absurd cc
status_is status.Ready (status.Faulted k) told = absurd cc
status_is status.Running status.Ready told = absurd cc
status_is status.Running status.Running told = refl
status_is status.Running status.Done told = absurd cc
status_is status.Running (status.Faulted k) told = absurd cc
status_is status.Done status.Ready told = absurd cc
status_is status.Done status.Running told = absurd cc
status_is status.Done status.Done told = refl
status_is status.Done (status.Faulted k) told = absurd cc
status_is (status.Faulted j) status.Ready told = absurd cc
status_is (status.Faulted j) status.Running told = absurd cc
status_is (status.Faulted j) status.Done told = absurd cc
status_is (status.Faulted j) (status.Faulted k) told = ap status.Faulted (fault_is j k told)

-- frames with equal parts
pub same_frame : (f g : CellFrame) → f.method ≡ g.method → f.place ≡ g.place → f.slots ≡ g.slots → reverse f.operands ≡ reverse g.operands → reverse f.taken ≡ reverse g.taken → code_frame f ≡ code_frame g
same_frame f g methods places slots operands taken =
    let ops = turned f.operands g.operands operands in
    let locks = turned f.taken g.taken taken in
    λ i. record { method = methods i; slots = slots i; operands = ops i; place = places i; taken = locks i }

-- lists whose elements look the same so far, with one element more
pub same_more : {A B : Type 0} (f : A → B) (xs ys : List A) (n : ℕ) (x y : A) → n < length xs → n < length ys → x ≡ get_or xs n x → y ≡ get_or ys n y → f x ≡ f y
    → map f (take n xs) ≡ map f (take n ys) → map f (take (n + 1) xs) ≡ map f (take (n + 1) ys)
same_more {A} {B} f xs ys n x y less below x_is y_is same so_far = one xs x less x_is ∙ (λ i. so_far i ++ same i ∷ []) ∙ sym (one ys y below y_is)
  where
    one : (zs : List A) (z : A) → n < length zs → z ≡ get_or zs n z → map f (take (n + 1) zs) ≡ map f (take n zs) ++ f z ∷ []
    one zs z less is = ap (map f) (take_more zs n z less) ∙ map-append f (take n zs) (get_or zs n z ∷ []) ∙ ap (λ v. map f (take n zs) ++ f v ∷ []) (sym is)
