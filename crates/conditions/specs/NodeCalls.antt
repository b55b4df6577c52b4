-- Calls on numbers, what each gives, and a list of results.
use Rattle.std.specs.Prelude.{◌≡◌, ◌<◌, ℕ, List, [], ◌∷◌, length, Option}
use Rattle.paths.specs.Paths.{PathData}
use Rattle.algebra.specs.declared.basic.Basic.{Basic}
use Rattle.algebra.specs.Basics.{seq_of, join_of, star_of, lift_of}
use Rattle.conditions.specs.Conditions.{Cond, IsCanonical}
use Rattle.conditions.specs.Operations.{node, each_leaf, both_leaves, sync_tree, hold, rename_tree}
use Rattle.conditions.specs.declared.rows.Item.{Item}
use Rattle.conditions.specs.declared.calls.Single.{Single}
use Rattle.conditions.specs.declared.calls.Single.TheVariants.{Star, Lift}
use Rattle.conditions.specs.declared.calls.Pair.{Pair}
use Rattle.conditions.specs.declared.calls.Pair.TheVariants.{Seq, Join}
use Rattle.conditions.specs.declared.calls.Call.{Call}
use Rattle.conditions.specs.declared.calls.Call.TheVariants.{Each, Both, HeldOr, Sync}
use Rattle.conditions.specs.declared.calls.Renamed.{Renamed}
use Rattle.conditions.specs.Nodes.{tree_at, StandsForTree}

-- what a call of one basic gives
abbrev pub single_of : Single → Basic → Basic
single_of Star = star_of
single_of Lift = lift_of

-- what a call of two basics gives
abbrev pub pair_of : Pair → Basic → Basic → Basic
pair_of Seq = seq_of
pair_of Join = join_of

-- the tree that a call gives
abbrev pub call_tree : List Item → Call → Cond
call_tree is (Each f n) = each_leaf (single_of f) (tree_at is n)
call_tree is (Both f m n) = both_leaves (pair_of f) (tree_at is m) (tree_at is n)
call_tree is (HeldOr p m n) = hold p (tree_at is m) (tree_at is n)
call_tree is (Sync p n) = sync_tree p (tree_at is n)

-- the operands of a call are there
abbrev pub AreOperandsThere : List Item → Call → Type 0
AreOperandsThere is (Each f n) = n < length is
AreOperandsThere is (Both f m n) = (m < length is) × (n < length is)
AreOperandsThere is (HeldOr p m n) = (m < length is) × (n < length is)
AreOperandsThere is (Sync p n) = n < length is

-- a number stands for the tree that the call gives
pub record IsResult (is : List Item) (call : Call) (n : ℕ) : Type 0 where
  pub there : AreOperandsThere is call
  pub stands : StandsForTree is n (call_tree is call)

-- a number stands for the tree of another, renamed
pub record IsRenamed (is : List Item) (pairs : List (PathData × Option PathData)) (n renamed : ℕ) : Type 0 where
  pub there : n < length is
  pub stands : StandsForTree is renamed (rename_tree pairs (tree_at is n))

-- this holds of each key of a list and the number beside it
abbrev pub AreKept : {K : Type 0} → (K → ℕ → Type 0) → List (K × ℕ) → Type 0
AreKept Is [] = Unit {0}
AreKept Is (e ∷ es) = Is e.0 e.1 × AreKept Is es

-- each number of a list of results is the result of the call beside it
abbrev pub AreResults : List Item → List (Call × ℕ) → Type 0
AreResults is es = AreKept (IsResult is) es

-- each number of a list is the one beside it, renamed
abbrev pub AreRenamed : List Item → List (PathData × Option PathData) → List (ℕ × ℕ) → Type 0
AreRenamed is pairs es = AreKept (IsRenamed is pairs) es

-- each number of a list is the one beside it, renamed as told there
abbrev pub AreRenamings : List Item → List (Renamed × ℕ) → Type 0
AreRenamings is es = AreKept (λ r. IsRenamed is r.pairs.items r.node) es

-- a call is a test of two numbers that are there
pub record IsCombined (is : List Item) (call : Call) (p : PathData) (held free : ℕ) : Type 0 where
  pub there : AreOperandsThere is call
  pub held_there : held < length is
  pub free_there : free < length is
  pub canonical : IsCanonical (call_tree is call)
  pub tree : call_tree is call ≡ node p (tree_at is held) (tree_at is free)
