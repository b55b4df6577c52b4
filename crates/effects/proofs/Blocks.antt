-- The rest of a block from a place on.
use Rattle.std.proofs.Common.{◌≡◌, ℕ, zero, suc, ◌<◌, List, [], ◌∷◌, map, length, drop, get_or, min, sym, ap, arith}
use Rattle.algebra.specs.declared.basic.Basic.{Basic}
use Rattle.algebra.specs.declared.basic.Basic.TheVariants.{Const}
use Rattle.algebra.specs.Basics.{seq_of}
use Rattle.algebra.specs.HeldPaths.{Held}
use Rattle.core_program.specs.declared.tree.CoreStmt.{CoreStmt}
use Rattle.core_program.specs.Views.{stmt_of, stmts_from}
use Rattle.effects.specs.Rules.{After, Value, block_value_at}

-- the rest of a block from a place on, whatever stands for the values of its statements
abbrev pub block_from : {N : Type 0} → After → (N → Value) → List CoreStmt → List N → ℕ → Held → Basic
block_from after V body items place H = block_value_at after (stmts_from (drop place body)) (map V (drop place items)) H

pub block_end : {N : Type 0} (after : After) (V : N → Value) (body : List CoreStmt) (items : List N) (place : ℕ) (H : Held) → place ≡ min (length body) (length items) →
    block_from after V body items place H ≡ Const
block_end after V [] items place H e = let none : place ≡ 0 = omega (arith, e) in ap (λ k. block_from after V [] items k H) none
block_end after V (s ∷ body) [] place H e = let none : place ≡ 0 = omega (arith, e) in ap (λ k. block_from after V (s ∷ body) [] k H) none
block_end after V (s ∷ body) (n ∷ items) zero H e = absurd (omega (arith, e))
block_end after V (s ∷ body) (n ∷ items) (suc place) H e = block_end after V body items place H (omega (arith, e))

pub block_earlier : {N : Type 0} (after : After) (V : N → Value) (body : List CoreStmt) (items : List N) (place : ℕ) (s : CoreStmt) (d : N) (H : Held) →
    place < length body → place < length items → s ≡ get_or body place s →
    block_from after V body items place H ≡ seq_of (V (get_or items place d) H) (block_from after V body items (suc place) (after (stmt_of s) H))
block_earlier after V [] items place s d H below within is = absurd (omega (arith, below))
block_earlier after V (x ∷ body) [] place s d H below within is = absurd (omega (arith, within))
block_earlier after V (x ∷ body) (m ∷ items) zero s d H below within is = λ i. seq_of (V m H) (block_value_at after (stmts_from body) (map V items) (after (stmt_of (sym is i)) H))
block_earlier after V (x ∷ body) (m ∷ items) (suc place) s d H below within is = block_earlier after V body items place s d H (omega (arith, below)) (omega (arith, within)) is
