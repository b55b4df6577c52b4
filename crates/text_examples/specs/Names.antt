-- A table of names, an address, and a call of the program.
use Rattle.std.specs.Prelude.{true, false, [], ◌∷◌, Some, None, codes}
use Rattle.classes.specs.Table.{TableData}
use Rattle.core_program.specs.Core.{Program}
use Rattle.core_program.specs.declared.types.CoreType.TheVariants.{Class, Int}
use Rattle.state.specs.declared.value.Address.{Address}
use Rattle.edge.specs.Calls.{Call, call_record}

-- the names of `class Cell { int v; } class Main { final Cell c; void put(final Cell to, int n) { .. } void main() { .. } }`
abbrev pub names : TableData
names = record {
  names = codes "Cell" ∷ codes "Main" ∷ [];
  classes = [];
  fields = record { class = 0; name = codes "v"; is_final = false; ty = Int } ∷ record { class = 1; name = codes "c"; is_final = true; ty = Class 0 } ∷ [];
  methods =
      record { class = 1; name = codes "put"; params = record { name = codes "to"; is_final = true; ty = Class 0 } ∷ record { name = codes "n"; is_final = false; ty = Int } ∷ []; returns = None }
      ∷ record { class = 1; name = codes "main"; params = []; returns = None } ∷ [];
}

-- the classes of that source, each with its field
abbrev pub program : Program
program = record {
  classes = record { fields = 0 ∷ []; finals = []; run = None; above = None; targets = [] } ∷ record { fields = 1 ∷ []; finals = 1 ∷ []; run = None; above = None; targets = [] } ∷ [];
  fields = [];
  methods = [];
  main_class = 1;
  main = 1;
}

-- the third object of the second thread
abbrev pub third : Address
third = record { thread = 1; count = 2 }

-- a call in which each part has another number
abbrev pub one_call : Call
one_call = call_record (codes "check" ∷ []) (λ name. Some name) (λ name. 1) (λ name. 2) 3 4 None (Some (5 ∷ [])) 6
