-- The lines that are written of verdicts: a method's atomicity, and a bound that is broken.
-- A method, slot or field that the table hasn't is written as nothing, so that each line is defined for all numbers.
use Rattle.std.specs.Prelude.{ℕ, List, [], ◌∷◌, ◌++◌, Option, Some, None, option_map, slice_get, unwrap_or, codes}
use Rattle.algebra.specs.declared.basic.Basic.{Basic}
use Rattle.algebra.specs.Basics.{name_of}
use Rattle.classes.specs.Table.{TableData, method_title, slot_title}
use Rattle.conditions.specs.Conditions.{Cond, LeafC, TestC}
use Rattle.paths.specs.Paths.{PathData}

-- two names with a point between
abbrev pub dotted_title : Option (List ℕ × List ℕ) → List ℕ
dotted_title None = []
dotted_title (Some names) = names.0 ++ codes "." ++ names.1

-- a method: `Class.method`
abbrev pub title_text : TableData → ℕ → List ℕ
title_text table method = dotted_title (method_title table method)

-- a slot of a method: `this`, or the parameter's name
abbrev pub slot_text : TableData → ℕ → ℕ → List ℕ
slot_text table method slot = unwrap_or (slot_title table method slot) []

-- a field's name
abbrev pub field_text : TableData → ℕ → List ℕ
field_text table field = unwrap_or (option_map (λ f. f.name) (slice_get table.fields field)) []

-- `.field` for each field
abbrev pub fields_text : TableData → List ℕ → List ℕ
fields_text table [] = []
fields_text table (field ∷ fields) = codes "." ++ field_text table field ++ fields_text table fields

-- a path in a method: its slot, then its fields
abbrev pub method_path_text : TableData → ℕ → PathData → List ℕ
method_path_text table method path = slot_text table method path.root ++ fields_text table path.fields

-- a branch, given the text of its tree: in parentheses where the tree is a test
abbrev pub branch_text : Cond → List ℕ → List ℕ
branch_text (LeafC basic) text = text
branch_text (TestC path held free) text = codes "(" ++ text ++ codes ")"

-- a tree in a method: a basic's name, or `path ? X : Y` with X where the path is held and Y where it isn't
abbrev pub condition_text : TableData → ℕ → Cond → List ℕ
condition_text table method (LeafC basic) = name_of basic
condition_text table method (TestC path held free) =
    method_path_text table method path
    ++ codes " ? " ++ branch_text held (condition_text table method held)
    ++ codes " : " ++ branch_text free (condition_text table method free)

-- `Class.method`, a blank, the tree
abbrev pub atomicity_line : TableData → ℕ → Cond → List ℕ
atomicity_line table method tree = title_text table method ++ codes " " ++ condition_text table method tree ++ codes "\n"

-- `Class.method: declared D, found F`
abbrev pub broken_line : TableData → ℕ → Basic → Basic → List ℕ
broken_line table method declared found =
    title_text table method ++ codes ": declared " ++ name_of declared ++ codes ", found " ++ name_of found ++ codes "\n"
