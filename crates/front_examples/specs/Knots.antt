-- `class Knot { final Knot left; final Knot right; Knot next; }`, with a plain variable `k` of this class in scope.
use Rattle.std.specs.Prelude.{ℕ, true, false, List, [], ◌∷◌, codes}
use Rattle.paths.specs.Paths.{PathData}
use Rattle.core_program.specs.declared.types.CoreType.TheVariants as T
use Rattle.classes.specs.Table.{TableData, table_of}
use Rattle.typing.specs.Scopes.{Scope}
use Rattle.front_examples.specs.Written.{name, class_type_name, field, class_tree}

-- the class table of the program with the class `Knot` alone
abbrev pub knots_table : TableData
knots_table = table_of (class_tree (name (codes "Knot") 0)
    (field true (class_type_name (codes "Knot") 1) (name (codes "left") 2) ∷ field true (class_type_name (codes "Knot") 3) (name (codes "right") 4) ∷ field false (class_type_name (codes "Knot") 5) (name (codes "next") 6) ∷ []) ∷ [])

-- the variable `k` in scope: it isn't final, and has the slot 1
abbrev pub knots_scope : Scope
knots_scope = record { name = codes "k"; variable = record { slot = 1; is_final = false; ty = T.Class 0 } } ∷ []

-- the path of a slot and the fields behind it
abbrev pub core_path : ℕ → List ℕ → PathData
core_path root fields = record { root = root; fields = fields }
