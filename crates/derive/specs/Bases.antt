-- What a book is derived from: trees that are assigned to the methods of a program.
use Rattle.std.specs.Prelude.{map, List, slice_get}
use Rattle.conditions.specs.Conditions.{Cond, cond_of}
use Rattle.rules.specs.Effect.{Assignment}
use Rattle.book_check.specs.Conclusions.{tree_value}
use Rattle.derive.specs.declared.basis.Basis.{Basis}

-- what trees assign, one to each method
abbrev pub trees_assign : List Cond → Assignment
trees_assign trees m H = tree_value (slice_get trees m) H

-- the trees that are assigned to the methods
abbrev pub own_trees : Basis → List Cond
own_trees basis = map cond_of basis.own.now
