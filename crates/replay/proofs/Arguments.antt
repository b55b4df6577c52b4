-- Arguments in order are operands with the last one topmost.
use Rattle.std.proofs.Common.{◌≡◌, ℕ, zero, suc, ◌++◌, List, [], ◌∷◌, length, reverse, refl, sym, ap, ◌∙◌, append_assoc, append-nil, arith}
use Rattle.std.proofs.lemmas.List.{reverse-append, length-reverse}
use Rattle.std.specs.Prelude.{Vec, Result, Ok, Err, IfOk, slice_get}
use Rattle.std.specs.declared.alloc.AllocError.{AllocError}
use Rattle.std.specs.declared.alloc.Global.{Global}
use Rattle.core_program.specs.Core.{Program, Method}
use Rattle.state.specs.Memory.{new_values}
use Rattle.state.specs.States.{fields_of, new_slots, new_object}
use Rattle.state.specs.declared.value.Value.{Value}
use Rattle.state.specs.Values.{top, dropped}
use Rattle.machine.specs.Listed.{listed}

dropped_behind : (xs bs : List Value) (n : ℕ) → n ≡ length xs → dropped n (xs ++ bs) ≡ bs
dropped_behind [] bs n e = ap (λ k. dropped k bs) e
dropped_behind (x ∷ xs) bs zero e = absurd (omega (arith, e))
dropped_behind (x ∷ xs) bs (suc n) e = dropped_behind xs bs n (omega (arith, e))

turned : (x : Value) (xs ys : List Value) → reverse (x ∷ xs) ++ ys ≡ reverse xs ++ (x ∷ ys)
turned x xs ys = ap (λ l. l ++ ys) (reverse-append (x ∷ []) xs) ∙ append_assoc (reverse xs) (x ∷ []) ys

listed_front : (xs ys : List Value) → listed (length xs) (reverse xs ++ ys) ≡ xs
listed_front [] ys = refl
listed_front (x ∷ xs) ys =
    ap (λ l. top (dropped (length xs) l) ∷ listed (length xs) l) (turned x xs ys)
    ∙ ap (λ l. top l ∷ listed (length xs) (reverse xs ++ (x ∷ ys))) (dropped_behind (reverse xs) (x ∷ ys) (length xs) (sym (length-reverse xs)))
    ∙ ap (λ l. x ∷ l) (listed_front xs (x ∷ ys))

pub listed_all : (xs : List Value) → listed (length xs) (reverse xs) ≡ xs
listed_all xs = ap (listed (length xs)) (sym (append-nil (reverse xs))) ∙ listed_front xs []

-- the slots of a frame from arguments in order
pub slots_in_order : (r : Result (Vec Value Global) AllocError) (m : Method) (this : Value) (xs : List Value) (slots : ℕ) → m.slots ≡ slots
    → IfOk r (λ v. (other : Method) → other.slots ≡ slots → v.items ≡ new_slots other this (listed (length xs) (reverse xs))) → IfOk r (λ v. v.items ≡ new_slots m this xs)
slots_in_order (Ok v) m this xs slots is f = f m is ∙ ap (new_slots m this) (listed_all xs)
slots_in_order (Err e) m this xs slots is f = tt

-- the object from arguments in order
pub values_in_order : (r : Result (Vec Value Global) AllocError) (P : Program) (class : ℕ) (xs : List Value)
    → IfOk r (λ v. v.items ≡ new_values P (fields_of (slice_get P.classes class)) (listed (length xs) (reverse xs))) → IfOk r (λ v. record { class = class; values = v.items } ≡ new_object P class xs)
values_in_order (Ok v) P class xs f = ap (λ l. record { class = class; values = l }) (f ∙ ap (new_values P (fields_of (slice_get P.classes class))) (listed_all xs))
values_in_order (Err e) P class xs f = tt
