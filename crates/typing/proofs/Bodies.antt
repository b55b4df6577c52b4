-- Methods: their faults and their core nodes from those of their parts.
use Rattle.std.proofs.Common.{◌≡◌, ℕ, ◌+◌, ◌++◌, ◌&&◌, true, List, [], ◌∷◌, Option, Some, None, option_map, is_some, map, flat_map, length, Result, Ok, Err, OnOk, refl, ap, sym, ◌∙◌}
use Rattle.paths.specs.Paths.{PathData}
use Rattle.core_program.specs.declared.types.CoreType.{CoreType}
use Rattle.core_program.specs.Core.{Stmt, Stmts, Method, BlockS}
use Rattle.syntax.specs.Trees.{MethodTree}
use Rattle.syntax.specs.declared.tree.Param.{Param}
use Rattle.classes.specs.Table.{TableData, type_of}
use Rattle.typing.specs.declared.fault.TypeFault.{TypeFault}
use Rattle.typing.specs.Completion.{completes_each, locals_in_each}
use Rattle.typing.specs.Stmts.{return_faults}
use Rattle.typing.specs.Locks.{lock_rule}
use Rattle.typing.specs.Making.{method_from, types_in}
use Rattle.typing.specs.Noted.{type_noted}
use Rattle.typing.specs.Programs.{all_there, method_scope, method_result, method_faults, method_core, method_node, missing_return}
use Rattle.typing.specs.Rulings.{gain, loss, both}
use Rattle.typing.specs.Scopes.{Scope, scope_of_parameters}
use Rattle.typing.specs.Stmts.{block_core, block_faults}
use Rattle.typing.proofs.Noting.{noted_append}

-- a fact, whatever was answered
pub on_ok : {A E : Type 0} {P : Type 0} (r : Result A E) → P → OnOk r P
on_ok (Ok a) p = p
on_ok (Err e) p = tt

-- the types of the parameters in scope
pub types_from : (t : TableData) (slot : ℕ) (ps : List Param) → map (λ b. (b.variable.is_final, b.variable.ty)) (scope_of_parameters t slot ps) ≡ types_in t ps
types_from t slot [] = refl
types_from t slot (p ∷ ps) = ap (λ z. (p.is_final, type_of t.names p.ty) ∷ z) (types_from t (slot + 1) ps)

module _ (t : TableData) (k : ℕ) (m : MethodTree) (scope : Scope) (returns : Option CoreType) (first : ℕ) where
  abbrev lock_faults : Scope → List TypeFault
  lock_faults s = flat_map (λ l. loss (lock_rule t k s l)) m.locks

  abbrev body_faults : Option CoreType → ℕ → Scope → List TypeFault
  body_faults r n s = block_faults t k r n s 0 true m.body

  pub faults_told : (none one two three : Option TypeFault)
      → scope ≡ method_scope t m → returns ≡ method_result t m → first ≡ 1 + length m.params
      → one ≡ type_noted none (flat_map (λ l. loss (lock_rule t k scope l)) m.locks)
      → two ≡ type_noted one (block_faults t k returns first scope 0 true m.body)
      → three ≡ type_noted two (return_faults (is_some m.returns && completes_each m.body) m.end)
      → three ≡ type_noted none (method_faults t k m)
  faults_told none one two three scope_is returns_is first_is locks body last =
      let own = method_scope t m in
      let all = lock_faults own in
      let inner = body_faults (method_result t m) (1 + length m.params) own in
      last
      ∙ ap (λ z. type_noted z (missing_return t m))
      (body
      ∙ ap (λ z. type_noted one (body_faults z first scope)) returns_is
      ∙ ap (λ z. type_noted one (body_faults (method_result t m) z scope)) first_is
      ∙ ap (λ z. type_noted one (body_faults (method_result t m) (1 + length m.params) z)) scope_is
      ∙ ap (λ z. type_noted z inner) (locks ∙ ap (λ z. type_noted none (lock_faults z)) scope_is))
      ∙ sym (noted_append (type_noted none all) inner (missing_return t m))
      ∙ sym (noted_append none all (inner ++ missing_return t m))

  abbrev locks_there : Scope → Option (List PathData)
  locks_there s = all_there (map (λ l. gain (lock_rule t k s l)) m.locks)

  abbrev body_there : Option CoreType → ℕ → Scope → Option Stmt
  body_there r n s = option_map BlockS (block_core t k r n s 0 m.body)

  abbrev whole : Option CoreType → ℕ → Option (List PathData) → Option Stmt → ℕ → Option Method
  whole r n p b c = option_map (method_from t k r n m.atomic m.name.at m.params c) (both p b)

  made_from : (ps : Option (List PathData)) (ss : Option Stmts)
      → option_map (method_from t k (method_result t m) (1 + length m.params) m.atomic m.name.at m.params (locals_in_each m.body)) (both ps (option_map BlockS ss))
      ≡ option_map (method_node t k m) (both ps ss)
  made_from None ss = refl
  made_from (Some ps) None = refl
  made_from (Some ps) (Some ss) = refl

  pub node_made : (paths : Option (List PathData)) (body : Option Stmt) (locals : ℕ)
      → scope ≡ method_scope t m → returns ≡ method_result t m → first ≡ 1 + length m.params
      → paths ≡ all_there (map (λ l. gain (lock_rule t k scope l)) m.locks)
      → body ≡ option_map BlockS (block_core t k returns first scope 0 m.body)
      → locals ≡ locals_in_each m.body
      → option_map (method_from t k returns first m.atomic m.name.at m.params locals) (both paths body) ≡ method_core t k m
  node_made paths body locals scope_is returns_is first_is paths_are body_is counted =
      let own = method_scope t m in
      let result = method_result t m in
      let slot = 1 + length m.params in
      ap (λ z. whole returns first z body locals) (paths_are ∙ ap locks_there scope_is)
      ∙ ap (λ z. whole returns first (locks_there own) z locals)
      (body_is ∙ ap (λ z. body_there z first scope) returns_is ∙ ap (λ z. body_there result z scope) first_is ∙ ap (λ z. body_there result slot z) scope_is)
      ∙ ap (λ z. whole returns first (locks_there own) (body_there result slot own) z) counted
      ∙ ap (λ z. whole z first (locks_there own) (body_there result slot own) (locals_in_each m.body)) returns_is
      ∙ ap (λ z. whole result z (locks_there own) (body_there result slot own) (locals_in_each m.body)) first_is
      ∙ made_from (locks_there own) (block_core t k result slot own 0 m.body)
