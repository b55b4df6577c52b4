-- Programs in which no class extends another.
use Rattle.std.specs.Prelude.{◌≡◌, ℕ, ◌+◌, ◌==◌, List, [], ◌∷◌, Some, None, filter, slice_get, codes, if◌then◌else◌}
use Rattle.core_program.specs.Core.{Class, Field, Method}
use Rattle.core_program.specs.Typed.{fields_from, is_final_at}
use Rattle.syntax.specs.Trees.{ClassTree, ProgramTree}
use Rattle.classes.specs.Table.{TableData, own_method}

-- no class extends another
abbrev pub AreAlone : ProgramTree → Type 0
AreAlone tree = (k : ℕ) (c : ClassTree) → slice_get tree k ≡ Some c → c.above ≡ None

-- each method of the class with number k with itself, where the first of the methods has the number n
abbrev pub own_targets : ℕ → ℕ → List Method → List (ℕ × ℕ)
own_targets k n [] = []
own_targets k n (m ∷ ms) = if m.class == k then (n, n) ∷ own_targets k (n + 1) ms else own_targets k (n + 1) ms

-- the class with number k with its own members alone, in a core program with these fields and methods
abbrev pub class_alone : TableData → List Field → List Method → ℕ → ClassTree → Class
class_alone t fields methods k c = record {
  fields = fields_from k 0 fields;
  finals = filter (λ f. is_final_at (slice_get fields f)) (fields_from k 0 fields);
  run = if c.runnable then own_method t (codes "run") k else None;
  above = None;
  targets = own_targets k 0 methods;
}
