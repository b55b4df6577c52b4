-- Programs with one fault or none.
use Rattle.std.specs.Prelude.{ℕ, zero, suc, ◌+◌, true, false, List, [], ◌∷◌, ◌++◌, Some, codes, decimal}
use Rattle.syntax.specs.declared.tree.Param.{Param}
use Rattle.syntax.specs.declared.tree.TypeName.TheVariants as Y
use Rattle.syntax.specs.Trees.{NumberE, StmtTrees, LocalS, no_stmts, more_stmts, MemberTree, MethodM, ProgramTree}
use Rattle.front_examples.specs.Written.{name, param, field, method_tree, class_tree, class_below, this_lock}
use Rattle.front_examples.specs.Shop.{n_param, main_class_tree}

-- a class with these members beside `Main`
abbrev pub with_main : List MemberTree → ProgramTree
with_main members = main_class_tree ∷ class_tree (name (codes "C") 10) members ∷ []

-- a class with these members, one below it with those, and `Main`
abbrev pub below_other : List MemberTree → List MemberTree → ProgramTree
below_other members more = class_tree (name (codes "B") 1) members ∷ class_below (name (codes "C") 20) (name (codes "B") 21) more ∷ main_class_tree ∷ []

-- `atomic int m(final int n) requires this { }`
abbrev pub same_method : ℕ → MemberTree
same_method at = MethodM (record (method_tree (name (codes "m") at) (n_param ∷ []) (Some Y.Int) no_stmts) { atomic = true; locks = this_lock ∷ [] })

-- so many int fields, each with the name and the offset of its number, from this one on
abbrev pub numbered_fields : (from count : ℕ) → List MemberTree
numbered_fields from zero = []
numbered_fields from (suc n) = field false Y.Int (name (codes "f" ++ decimal from) from) ∷ numbered_fields (from + 1) n

-- so many int parameters
abbrev pub numbered_params : (from count : ℕ) → List Param
numbered_params from zero = []
numbered_params from (suc n) = param false Y.Int (name (codes "p" ++ decimal from) from) ∷ numbered_params (from + 1) n

-- so many int locals, each with the name and the offset of its number
abbrev pub numbered_locals : (from count : ℕ) → StmtTrees
numbered_locals from zero = no_stmts
numbered_locals from (suc n) = more_stmts (LocalS false Y.Int (name (codes "y" ++ decimal from) from) (NumberE 7 8) 1) (numbered_locals (from + 1) n)
