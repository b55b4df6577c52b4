-- The parameters and locals that are in scope.
use Rattle.std.specs.Prelude.{ℕ, ◌+◌, Bool, true, List, [], ◌∷◌, Option, Some, None, bytes_eq, is_some, if◌then◌else◌}
use Rattle.core_program.specs.declared.types.CoreType.TheVariants as T
use Rattle.core_program.specs.Types.{Variable}
use Rattle.syntax.specs.declared.tree.Param.{Param}
use Rattle.classes.specs.Table.{TableData, type_of}

-- a parameter or local: its name, slot, finality and type
pub record Binding : Type 0 where
  pub name : List ℕ
  pub variable : Variable

-- what is in scope, in order of declaration
abbrev pub Scope : Type 0
Scope = List Binding

-- the variable of this name
abbrev pub variable : Scope → List ℕ → Option Variable
variable [] name = None
variable (b ∷ bs) name = if bytes_eq b.name name then Some b.variable else variable bs name

-- whether a variable has this name
abbrev pub is_bound : Scope → List ℕ → Bool
is_bound scope name = is_some (variable scope name)

-- `this`, as a final variable in slot 0
abbrev pub this_variable : ℕ → Variable
this_variable class = record { slot = 0; is_final = true; ty = T.Class class }

-- the parameters of a method, the first of them in this slot
abbrev pub scope_of_parameters : TableData → ℕ → List Param → Scope
scope_of_parameters t slot [] = []
scope_of_parameters t slot (p ∷ ps) =
    record { name = p.name.text; variable = record { slot = slot; is_final = p.is_final; ty = type_of t.names p.ty } }
    ∷ scope_of_parameters t (slot + 1) ps
