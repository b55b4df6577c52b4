-- What was put down for a part with arguments, and for a line that is led on.
use Rattle.std.proofs.Common.{◌≡◌, ℕ, ◌+◌, List, [], ◌∷◌, ◌++◌, length, ◌∙◌, append_assoc, get_or}
use Rattle.std.proofs.Math.ListN.{set}
use Rattle.std.proofs.Math.Seq.{get_or-append_seam, set-append_seam}
use Rattle.core_program.specs.Core.{Expr, Exprs}
use Rattle.compile.specs.declared.stack.Instr.{Instr}
use Rattle.compile.specs.declared.stack.Code.{Code}
use Rattle.compile.specs.Emission.{code_line, weights, exprs_entry, emitted, emitted_args}

joined_three : (old : List Code) (l : Code) (xs ys : List Code) → ((old ++ l ∷ []) ++ xs) ++ ys ≡ old ++ (l ∷ (xs ++ ys))
joined_three old l xs ys = simp append_assoc

joined_two : (old : List Code) (l : Code) (xs : List Code) → (old ++ l ∷ []) ++ xs ≡ old ++ (l ∷ xs)
joined_two old l xs = simp append_assoc

-- the line of a call, its arguments and its receiver
pub call_lines : (old put_down with_args : List Code) (l : Code) (args args' : Exprs) (e e' : Expr) (n n1 n2 last arguments : ℕ)
    → put_down ≡ old ++ l ∷ [] → with_args ≡ put_down ++ emitted_args args' n1 last → args' ≡ args → e' ≡ e
    → n1 ≡ n + 1 → last ≡ n → n2 ≡ n1 + weights args' → arguments ≡ exprs_entry args' n1 last
    → with_args ++ emitted e' n2 arguments ≡ old ++ (l ∷ (emitted_args args (n + 1) n ++ emitted e (n + 1 + weights args) (exprs_entry args (n + 1) n)))
call_lines old put_down with_args l args args' e e' n n1 n2 last arguments is_put is_with is_args is_e is_n1 is_last is_n2 is_arguments =
    let first : with_args ≡ (old ++ l ∷ []) ++ emitted_args args (n + 1) n = is_with ∙ (λ j. is_put j ++ emitted_args (is_args j) (is_n1 j) (is_last j)) in
    let at : n2 ≡ n + 1 + weights args = is_n2 ∙ (λ j. is_n1 j + weights (is_args j)) in
    let next : arguments ≡ exprs_entry args (n + 1) n = is_arguments ∙ (λ j. exprs_entry (is_args j) (is_n1 j) (is_last j)) in
    (λ j. first j ++ emitted (is_e j) (at j) (next j))
    ∙ joined_three old l (emitted_args args (n + 1) n) (emitted e (n + 1 + weights args) (exprs_entry args (n + 1) n))

-- the line of a `new` and its arguments
pub new_lines : (old put_down : List Code) (l : Code) (args args' : Exprs) (n n1 last : ℕ)
    → put_down ≡ old ++ l ∷ [] → args' ≡ args → n1 ≡ n + 1 → last ≡ n
    → put_down ++ emitted_args args' n1 last ≡ old ++ (l ∷ emitted_args args (n + 1) n)
new_lines old put_down l args args' n n1 last is_put is_args is_n1 is_last =
    (λ j. is_put j ++ emitted_args (is_args j) (is_n1 j) (is_last j)) ∙ joined_two old l (emitted_args args (n + 1) n)

-- the line at the seam goes on elsewhere
pub led_on : (items before after : List Code) (instr : Instr) (old next at : ℕ) (found : Code)
    → items ≡ before ++ (code_line instr old ∷ after) → at ≡ length before → found ≡ get_or items at found
    → set items at (record { instr = found.instr; next = next }) ≡ before ++ (code_line instr next ∷ after)
led_on items before after instr old next at found is_items is_at is_found =
    let line_is : found ≡ code_line instr old = is_found ∙ (λ j. get_or (is_items j) (is_at j) found) ∙ get_or-append_seam before (code_line instr old) after found in
    (λ j. set (is_items j) (is_at j) (record { instr = (line_is j).instr; next = next })) ∙ set-append_seam before (code_line instr old) after (code_line instr next)
