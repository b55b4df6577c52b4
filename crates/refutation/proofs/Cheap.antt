-- The looks at a program with at most 262,144 nodes and pairs of overriding methods are no more work than is made.
use Rattle.std.proofs.Common.{◌≡◌, ℕ, zero, suc, ◌+◌, ◌*◌, ◌≤◌, List, [], ◌∷◌, length, ◌^◌, Bool, true, false, Some, None, slice_get, sum_by, refl, arith}
use Rattle.std.specs.Prelude.{Option, filter, if◌then◌else◌}
use Rattle.std.proofs.lemmas.Nat.{mul-le}
use Rattle.std.proofs.lemmas.List.Sums.{sum_by-cons}
use Rattle.paths.specs.Paths.{PathData}
use Rattle.algebra.specs.Tables.{count_of_parts}
use Rattle.core_program.specs.Core.{Program, Method}
use Rattle.core_program.specs.Dispatch.{Overrides}
use Rattle.core_program.specs.Sizes.{stmt_nodes}
use Rattle.core_program.specs.Typed.{IsTyped}
use Rattle.rules.specs.Near.{MethodPaths, AreFew, rel_of}
use Rattle.refutation.specs.Lines.{overrides, numbers}
use Rattle.refutation.specs.Works.{body_work, look_work, program_work, IsOverWork, body_nodes, nodes_and_pairs}
use Rattle.refutation.proofs.Over.{overrides_is}

-- the parts of at most so many paths
most_parts : ℕ → ℕ
most_parts zero = 1
most_parts (suc n) = most_parts n + most_parts n

few_parts : (n : ℕ) (ps : List PathData) → length ps ≤ n → count_of_parts ps ≤ most_parts n
unfolding most_parts
few_parts zero [] few = omega arith
few_parts zero (p ∷ ps) few = absurd (omega (arith, few))
few_parts (suc n) [] few = let one = few_parts n [] (omega arith) in omega (arith, one)
few_parts (suc n) (p ∷ ps) few = let rest = few_parts n ps (omega (arith, few)) in omega (arith, rest)

eight : most_parts 8 ≡ 256
unfolding most_parts
eight = refl

work_nodes : (o : Option Method) → body_work o ≡ 8 * body_nodes o
work_nodes None = omega arith
work_nodes (Some m) = refl

-- the nodes of so many bodies
nodes_upto : List Method → ℕ → ℕ
nodes_upto ms zero = 0
nodes_upto ms (suc n) = body_nodes (slice_get ms n) + nodes_upto ms n

nodes_later : (m : Method) (ms : List Method) (n : ℕ) → nodes_upto (m ∷ ms) (suc n) ≡ stmt_nodes m.body + nodes_upto ms n
unfolding nodes_upto
nodes_later m ms zero = omega arith
nodes_later m ms (suc n) = let rest = nodes_later m ms n in omega (arith, rest)

nodes_all : (ms : List Method) → nodes_upto ms (length ms) ≤ sum_by (λ m. stmt_nodes m.body) ms
unfolding nodes_upto
nodes_all [] = omega arith
nodes_all (m ∷ ms) = let rest = nodes_all ms in let here = nodes_later m ms (length ms) in let sum = sum_by-cons (λ m. stmt_nodes m.body) m ms in omega (arith, rest, here, sum)

-- looks at so many methods, by their nodes and the pairs of overriding methods
work_upto : (P : Program) (sets : List MethodPaths) → AreFew sets → (n : ℕ) → program_work (look_work P) (rel_of sets) n ≤ 8192 * nodes_and_pairs P n
work_upto P sets few zero = omega arith
work_upto P sets few (suc n) =
    let rest = work_upto P sets few n in
    let look = work_nodes (slice_get P.methods n) in
    let parts = few_parts 8 (rel_of sets n) (few.rel n) in
    let four : 4 * count_of_parts (rel_of sets n) ≤ 1024 = omega (arith, parts, eight) in
    let less = mul-le (look_work P n) (4 * count_of_parts (rel_of sets n)) (look_work P n) 1024 (omega arith) four in
    omega (arith, rest, less, look)

pub cheap : (P : Program) (sets : List MethodPaths) → AreFew sets → nodes_and_pairs P (length P.methods) ≤ 2 ^ 18 → IsOverWork P (rel_of sets) → ⊥
cheap P sets few small over = let work = work_upto P sets few (length P.methods) in omega (arith, work, small, over)

-- where nothing passes a test
none_pass : (test : ℕ → Bool) (xs : List ℕ) → ((x : ℕ) → test x ≡ true → ⊥) → length (filter test xs) ≡ 0
none_pass test [] none = refl
none_pass test (x ∷ xs) none = elim (test x) as (λ b. test x ≡ b → length (if b then x ∷ filter test xs else filter test xs) ≡ 0) [
  | true ↦ λ e. absurd (none x e)
  | false ↦ λ e. none_pass test xs none
] refl

no_pairs : (P : Program) → ((over m : ℕ) → Overrides P over m → ⊥) → (n : ℕ) → nodes_and_pairs P n ≡ nodes_upto P.methods n
unfolding nodes_upto
no_pairs P none zero = refl
no_pairs P none (suc n) =
    let rest = no_pairs P none n in
    let empty = none_pass (λ over. overrides P over n) (numbers 0 (length P.methods)) (λ over e. none over n (overrides_is P over n e)) in
    omega (arith, rest, empty)

pub cheap_alone : (P : Program) (sets : List MethodPaths) → IsTyped P → AreFew sets → ((over m : ℕ) → Overrides P over m → ⊥) → IsOverWork P (rel_of sets) → ⊥
cheap_alone P sets typed few none =
    let same = no_pairs P none (length P.methods) in
    let nodes = nodes_all P.methods in
    cheap P sets few (omega (arith, same, nodes, typed.size))
