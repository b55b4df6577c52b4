-- What a table holds.
use Rattle.std.specs.Prelude.{ℕ, ◌==◌, List, [], ◌∷◌, Option, Some, None, if◌then◌else◌, Vec}
use Rattle.std.specs.declared.alloc.Global.{Global}
use Rattle.logs.specs.declared.table.Table.{Table}
use Rattle.logs.specs.Numbers.{number_of_word}

module _ {V : Type 0} where
  -- the value of the first word that has this number
  abbrev pub at_number : List (Vec ℕ Global × V) → ℕ → Option V
  at_number [] n = None
  at_number (e ∷ es) n = if number_of_word e.0.items == n then Some e.1 else at_number es n

  -- what a table holds at the number of a word
  abbrev pub value_in_table : Table V → ℕ → Option V
  value_in_table table n = at_number table.values.entries n

  -- the values, with this one at this number
  abbrev pub values_with : ℕ → V → (ℕ → Option V) → ℕ → Option V
  values_with at v values = λ n. if at == n then Some v else values n
