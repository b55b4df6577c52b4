-- The bodies of a typed program have few `synchronized`.
use Rattle.std.proofs.Common.{◌≡◌, ◌≤◌, ℕ, zero, suc, ◌+◌, List, [], ◌∷◌, Some, ap, arith}
use Rattle.std.specs.Prelude.{slice_get, length, sum_by, ◌^◌}
use Rattle.std.proofs.lemmas.List.Sums.{sum_by-cons}
use Rattle.std.proofs.lemmas.Option.{none-some, same_Some}
use Rattle.core_program.specs.Core.{Program, Method, Stmt, Stmts, EmptyS, BlockS, LocalS, SetVarS, SetFieldS, DoS, IfS, WhileS, SyncS, ReturnS, PrintS, StartS, no_stmts, and_stmt}
use Rattle.core_program.specs.Sizes.{nodes_of, stmt_nodes, stmt_nodes_each}
use Rattle.core_program.specs.Typed.{IsTyped}
use Rattle.levels.specs.Walks.{syncs_in, syncs_in_each}

from_none : (n : ℕ) → 0 ≤ n
from_none n = omega arith

both_parts : (a b x y z : ℕ) → a ≤ x → b ≤ y → a + b ≤ 1 + (z + (x + y))
both_parts a b x y z first second = omega (arith, first, second)

block_part : (a x : ℕ) → a ≤ x → a ≤ 1 + x
block_part a x le = omega (arith, le)

loop_part : (a x z : ℕ) → a ≤ x → a ≤ 1 + (z + x)
loop_part a x z le = omega (arith, le)

sync_part : (a x : ℕ) → a ≤ x → 1 + a ≤ 1 + x
sync_part a x le = omega (arith, le)

two_parts : (a b x y : ℕ) → a ≤ x → b ≤ y → a + b ≤ x + y
two_parts a b x y first second = omega (arith, first, second)

mutual
  syncs_few : (s : Stmt) → syncs_in s ≤ stmt_nodes s
  syncs_few EmptyS = from_none _
  syncs_few (BlockS ss) = block_part (syncs_in_each ss) (stmt_nodes_each ss) (each_few ss)
  syncs_few (LocalS x is_final ty e) = from_none _
  syncs_few (SetVarS x e) = from_none _
  syncs_few (SetFieldS e f g) = from_none _
  syncs_few (DoS e drops) = from_none _
  syncs_few (IfS c s t) = both_parts (syncs_in s) (syncs_in t) (stmt_nodes s) (stmt_nodes t) (nodes_of c) (syncs_few s) (syncs_few t)
  syncs_few (WhileS c s) = loop_part (syncs_in s) (stmt_nodes s) (nodes_of c) (syncs_few s)
  syncs_few (SyncS p s) = sync_part (syncs_in s) (stmt_nodes s) (syncs_few s)
  syncs_few (ReturnS e) = from_none _
  syncs_few (PrintS e) = from_none _
  syncs_few (StartS e) = from_none _

  each_few : (ss : Stmts) → syncs_in_each ss ≤ stmt_nodes_each ss
  each_few no_stmts = from_none _
  each_few (and_stmt s ss) = two_parts (syncs_in s) (syncs_in_each ss) (stmt_nodes s) (stmt_nodes_each ss) (syncs_few s) (each_few ss)

one_of_all : (ms : List Method) (m : ℕ) (method : Method) → slice_get ms m ≡ Some method → stmt_nodes method.body ≤ sum_by (λ (x : Method). stmt_nodes x.body) ms
one_of_all [] m method is = absurd (none-some method is)
one_of_all (x ∷ ms) zero method is = first (stmt_nodes method.body) (stmt_nodes x.body) (sum_by (λ (y : Method). stmt_nodes y.body) ms) (sum_by (λ (y : Method). stmt_nodes y.body) (x ∷ ms)) (ap (λ (y : Method). stmt_nodes y.body) (same_Some x method is)) (sum_by-cons (λ (y : Method). stmt_nodes y.body) x ms)
  where
    first : (a b c s : ℕ) → b ≡ a → s ≡ b + c → a ≤ s
    first a b c s same sum = omega (arith, same, sum)
one_of_all (x ∷ ms) (suc m) method is = later (stmt_nodes method.body) (stmt_nodes x.body) (sum_by (λ (y : Method). stmt_nodes y.body) ms) (sum_by (λ (y : Method). stmt_nodes y.body) (x ∷ ms)) (one_of_all ms m method is) (sum_by-cons (λ (y : Method). stmt_nodes y.body) x ms)
  where
    later : (a b c s : ℕ) → a ≤ c → s ≡ b + c → a ≤ s
    later a b c s le sum = omega (arith, le, sum)

-- the walk through each body can count its `synchronized`
pub typed_light : (P : Program) → IsTyped P → (m : ℕ) (method : Method) → slice_get P.methods m ≡ Some method → syncs_in method.body ≤ 2 ^ 63
typed_light P typed m method is =
    through (syncs_in method.body) (stmt_nodes method.body) (sum_by (λ (x : Method). stmt_nodes x.body) P.methods) (length P.classes) (length P.fields) (length P.methods) (syncs_few method.body) (one_of_all P.methods m method is) typed.size
  where
    through : (a b c x y z : ℕ) → a ≤ b → b ≤ c → x + y + z + c ≤ 262144 → a ≤ 2 ^ 63
    through a b c x y z first second size = omega (arith, first, second, size)
