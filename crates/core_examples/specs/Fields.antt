-- A class with fields of every kind, and paths over them.
--     class Node {
--       final Node left; Node next; final int size; final Node right;
--       int v guarded_by this; int w guarded_by this.left; int x write_guarded_by this.left; int y guarded_by this.left.right; }
use Rattle.std.specs.Prelude.{ℕ, Bool, true, false, List, [], ◌∷◌, Option, Some, None}
use Rattle.paths.specs.Paths.{PathData}
use Rattle.core_program.specs.declared.types.CoreType.{CoreType}
use Rattle.core_program.specs.declared.types.CoreType.TheVariants as type
use Rattle.core_program.specs.Core.{Program, Field, Expr, ThisE, GetE, EmptyS}
use Rattle.core_program.specs.Examples.{plain_class, plain_method}

-- the path of a slot and the fields behind it
abbrev pub path : ℕ → List ℕ → PathData
path root fields = record { root = root; fields = fields }

-- a field of the class at this index
abbrev pub field_at_index : (index : ℕ) → (is_final : Bool) → CoreType → Option PathData → (writes_only : Bool) → Field
field_at_index index is_final ty guard writes_only =
    record { class = 0; index = index; is_final = is_final; ty = ty; guard = guard; writes_only = writes_only }

-- the type `Node`
abbrev pub node_type : CoreType
node_type = type.Class 0

-- the fields of the class `Node`: `left`, `next`, `size`, `right`, `v`, `w`, `x` and `y`
abbrev pub node_fields : List Field
node_fields =
    field_at_index 0 true node_type None false
    ∷ field_at_index 1 false node_type None false
    ∷ field_at_index 2 true type.Int None false
    ∷ field_at_index 3 true node_type None false
    ∷ field_at_index 4 false type.Int (Some (path 0 [])) false
    ∷ field_at_index 5 false type.Int (Some (path 0 (0 ∷ []))) false
    ∷ field_at_index 6 false type.Int (Some (path 0 (0 ∷ []))) true
    ∷ field_at_index 7 false type.Int (Some (path 0 (0 ∷ 3 ∷ []))) false ∷ []

-- the class `Node` as a program, with an empty method
abbrev pub nodes : Program
nodes = record {
  classes = plain_class (0 ∷ 1 ∷ 2 ∷ 3 ∷ 4 ∷ 5 ∷ 6 ∷ 7 ∷ []) (0 ∷ 2 ∷ 3 ∷ []) None 0 ∷ [];
  fields = node_fields;
  methods = plain_method 0 0 false EmptyS ∷ [];
  main_class = 0;
  main = 0;
}

-- `this.f`
abbrev pub of_this : ℕ → Expr
of_this f = GetE ThisE f
