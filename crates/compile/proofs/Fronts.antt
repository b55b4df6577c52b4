-- Lines at the front stay there.
use Rattle.std.proofs.Common.{◌≡◌, ℕ, zero, suc, ◌≤◌, List, [], ◌∷◌, ◌++◌, length, refl, ap, ◌∙◌, arith}
use Rattle.std.proofs.Math.ListN.{set}
use Rattle.std.proofs.lemmas.List.{length-append}
use Rattle.compile.specs.declared.stack.Code.{Code}
use Rattle.compile.specs.Emission.{KeepsCode}

set_behind : (front behind : List Code) (at : ℕ) (line : Code) → length front ≤ at → (more : List Code) × (set (front ++ behind) at line ≡ front ++ more)
set_behind [] behind at line far = (set behind at line, refl)
set_behind (x ∷ xs) behind zero line far = absurd (omega arith)
set_behind (x ∷ xs) behind (suc at) line far =
    let rest = set_behind xs behind at line (omega arith) in
    (rest.0, ap (λ ys. x ∷ ys) rest.1)

-- a line behind the front is changed
pub keeps_set : (front old new : List Code) (at : ℕ) (line : Code) → length front ≤ at → new ≡ set old at line → KeepsCode front old → KeepsCode front new
keeps_set front old new at line far is kept =
    let rest = set_behind front kept.behind at line far in
    record { behind = rest.0; whole = is ∙ ap (λ xs. set xs at line) kept.whole ∙ rest.1 }

-- the front is no longer than all lines
pub front_within : (front lines : List Code) → KeepsCode front lines → length front ≤ length lines
front_within front lines kept = omega (arith, ap length kept.whole, length-append front kept.behind)
