-- Lists that grow by one.
use Rattle.std.proofs.Common.{◌≡◌, ℕ, zero, suc, List, [], ◌∷◌, ◌++◌, refl, sym, ap, ◌∙◌, append_assoc}
use Rattle.std.specs.Prelude.{replicate}
use Rattle.state.specs.declared.value.Value.{Value}
use Rattle.state.specs.Values.{top, under, dropped, popped}
use Rattle.machine.specs.Listed.{listed}

one_more : (xs : List Value) (v : Value) (ys : List Value) → (xs ++ v ∷ []) ++ ys ≡ xs ++ (v ∷ ys)
one_more xs v ys = simp append_assoc

-- one operand more was put down
pub one_operand : (old new whole : List Value) (left before : ℕ) (ops : List Value) (v : Value) → before ≡ suc left → v ≡ top (dropped left ops) → new ≡ old ++ v ∷ []
    → old ++ listed before ops ≡ whole → new ++ listed left ops ≡ whole
one_operand old new whole left before ops v is v_is new_is so_far =
    ap (λ xs. xs ++ listed left ops) new_is ∙ one_more old v (listed left ops) ∙ ap (λ x. old ++ (x ∷ listed left ops)) v_is
    ∙ sym (ap (λ n. old ++ listed n ops) is) ∙ so_far

-- one zero more
pub one_zero : (old new whole : List Value) (left before : ℕ) (v : Value) → before ≡ suc left → new ≡ old ++ v ∷ [] → old ++ replicate before v ≡ whole → new ++ replicate left v ≡ whole
one_zero old new whole left before v is new_is so_far =
    ap (λ xs. xs ++ replicate left v) new_is ∙ one_more old v (replicate left v) ∙ sym (ap (λ n. old ++ replicate n v) is) ∙ so_far

under_listed : (n : ℕ) (ops : List Value) → listed (suc n) ops ≡ listed n (under ops) ++ top ops ∷ []
under_listed zero ops = refl
under_listed (suc n) ops = ap (λ l. top (dropped n (under ops)) ∷ l) (under_listed n ops)

taken-listed : (n : ℕ) (found ops : List Value) → popped n found ops ≡ listed n ops ++ found
taken-listed zero found ops = refl
taken-listed (suc n) found ops = taken-listed n (top ops ∷ found) (under ops) ∙ sym (one_more (listed n (under ops)) (top ops) found) ∙ sym (ap (λ l. l ++ found) (under_listed n ops))

append_nothing : (xs : List Value) → xs ++ [] ≡ xs
append_nothing [] = refl
append_nothing (x ∷ xs) = ap (λ l. x ∷ l) (append_nothing xs)

-- the operands that are taken are those listed
pub taken_is : (n : ℕ) (ops : List Value) → popped n [] ops ≡ listed n ops
taken_is n ops = taken-listed n [] ops ∙ append_nothing (listed n ops)

pub dropped_one : (n : ℕ) (ops : List Value) → dropped (suc n) ops ≡ under (dropped n ops)
dropped_one zero ops = refl
dropped_one (suc n) ops = dropped_one n (under ops)
