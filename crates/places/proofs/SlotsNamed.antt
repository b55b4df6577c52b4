-- The names of slots along a body: what is in scope grows by declarations, whose locals are still to come.
use Rattle.std.proofs.Common.{◌≡◌, ℕ, ◌+◌, Bool, true, false, nat_lt, List, [], ◌∷◌, ◌++◌, length, map, Option, Some, None, slice_get, suc, refl, ap, ap₂, ◌∙◌, arith, length-append, if◌then◌else◌}
use Rattle.std.proofs.lemmas.List.{length-map}
use Rattle.base.proofs.Lists.{at_left, get_right}
use Rattle.core_program.specs.declared.types.CoreType.{CoreType}
use Rattle.core_program.specs.Types.{Variable}
use Rattle.core_program.specs.Typed.{most_locals}
use Rattle.syntax.specs.declared.tree.Name.{Name}
use Rattle.syntax.specs.declared.tree.Param.{Param}
use Rattle.syntax.specs.Trees.{StmtTree, StmtTrees, MethodTree, no_stmts, more_stmts}
use Rattle.syntax.specs.Trees as tree
use Rattle.classes.specs.Table.{TableData}
use Rattle.typing.specs.Completion.{locals_in, locals_in_each}
use Rattle.typing.specs.Programs.{method_scope}
use Rattle.typing.specs.Scopes.{Scope, scope_of_parameters}
use Rattle.typing.specs.Stmts.{declared}
use Rattle.places.specs.Making.{AnyScope, AreNamed, IsEachNamed}
use Rattle.places.specs.Slots.{local_names, block_locals, slot_names}

-- what holds of variables in scope, where the locals with these names are still to come and so many are declared before them: it holds
-- after each declaration, too
pub record GoesOn (first : ℕ) (Within : Scope → Type 0) (Coming : ℕ → List (List ℕ) → Type 0) : Type 0 where
  pub parts : (before : ℕ) (xs ys : List (List ℕ)) → Coming before (xs ++ ys) → Coming before xs × Coming (before + length xs) ys
  pub grows : (scope : Scope) (before : ℕ) (name : List ℕ) (fin : Bool) (ty : CoreType) → Within scope → Coming before (name ∷ [])
      → Within (scope ++ record { name = name; variable = record { slot = first + before; is_final = fin; ty = ty } } ∷ [])

-- ---- declarations

either : {A : Type 0} (Holds : A → Type 0) (b : Bool) (x y : A) → Holds x → Holds y → Holds (if b then x else y)
either Holds true x y one other = one
either Holds false x y one other = other

pub declared_within : (first : ℕ) (Within : Scope → Type 0) (Coming : ℕ → List (List ℕ) → Type 0) → GoesOn first Within Coming → (scope : Scope) → Within scope → (before : ℕ) (fin : Bool) (n : Name)
    → Coming before (n.text ∷ []) → (ty : Option CoreType) → Within (declared scope (first + before) before fin n ty)
declared_within first Within Coming goes scope within before fin n coming None = within
declared_within first Within Coming goes scope within before fin n coming (Some ty) =
    either Within (nat_lt before most_locals) (scope ++ record { name = n.text; variable = record { slot = first + before; is_final = fin; ty = ty } } ∷ []) scope
    (goes.grows scope before n.text fin ty within coming) within

-- ---- as many names as locals

mutual
  pub names_count : (s : StmtTree) → length (local_names s) ≡ locals_in s
  names_count (tree.EmptyS at) = refl
  names_count (tree.BlockS ss at) = names_count_each ss
  names_count (tree.LocalS fin ty n e at) = refl
  names_count (tree.SetVarS n e at) = refl
  names_count (tree.SetFieldS e n value at) = refl
  names_count (tree.DoS e at) = refl
  names_count (tree.IfS c s at) = names_count s
  names_count (tree.IfElseS c s u at) = length-append (local_names s) (local_names u) ∙ ap₂ (λ x y. x + y) (names_count s) (names_count u)
  names_count (tree.WhileS c s at) = names_count s
  names_count (tree.SyncS l ss at) = names_count_each ss
  names_count (tree.ReturnS value at) = refl
  names_count (tree.PrintS e at) = refl
  names_count (tree.StartS e at) = refl

  names_count_each : (ss : StmtTrees) → length (block_locals ss) ≡ locals_in_each ss
  names_count_each no_stmts = refl
  names_count_each (more_stmts s ss) = length-append (local_names s) (block_locals ss) ∙ ap₂ (λ x y. x + y) (names_count s) (names_count_each ss)

-- ---- any variables

pub any_goes : (first : ℕ) → GoesOn first AnyScope (λ before xs. Unit {0})
any_goes first = record { parts = λ before xs ys coming. (tt, tt); grows = λ scope before name fin ty within coming. tt }

-- ---- variables with these names

-- these names stand among those from a place on
abbrev pub StandAt : List (List ℕ) → ℕ → List (List ℕ) → Type 0
StandAt names k xs = (i : ℕ) (x : List ℕ) → slice_get xs i ≡ Some x → slice_get names (k + i) ≡ Some x

stand_first : (names : List (List ℕ)) (k : ℕ) (xs ys : List (List ℕ)) → StandAt names k (xs ++ ys) → StandAt names k xs
stand_first names k xs ys at i x is = at i x (at_left xs ys i x is)

stand_second : (names : List (List ℕ)) (k m : ℕ) (xs ys : List (List ℕ)) → m ≡ k + length xs → StandAt names k (xs ++ ys) → StandAt names m ys
stand_second names k m xs ys same at i x is =
    let e : m + i ≡ k + (length xs + i) = omega (arith, same) in
    ap (slice_get names) e ∙ at (length xs + i) x (get_right xs ys i ∙ is)

each_more : (names : List (List ℕ)) (scope : Scope) (name : List ℕ) (v : Variable) → IsEachNamed names scope → slice_get names v.slot ≡ Some name
    → IsEachNamed names (scope ++ record { name = name; variable = v } ∷ [])
each_more names [] name v each own = (own, tt)
each_more names (b ∷ bs) name v each own = (each.0, each_more names bs name v each.1 own)

pub named_goes : (names : List (List ℕ)) (first : ℕ) → GoesOn first (AreNamed names) (λ before xs. StandAt names (first + before) xs)
named_goes names first = record {
  parts = λ before xs ys coming.
      (stand_first names (first + before) xs ys coming, stand_second names (first + before) (first + (before + length xs)) xs ys (omega arith) coming);
  grows = λ scope before name fin ty within coming.
      let e : first + before ≡ first + before + 0 = omega arith in
      record {
        this = within.this;
        variables = each_more names scope name (record { slot = first + before; is_final = fin; ty = ty }) within.variables (ap (slice_get names) e ∙ coming 0 name refl);
      };
}

-- ---- the beginning of a body

parameters_named : (t : TableData) (names : List (List ℕ)) (slot : ℕ) (ps : List Param) → StandAt names slot (map (λ p. p.name.text) ps) → IsEachNamed names (scope_of_parameters t slot ps)
parameters_named t names slot [] at = tt
parameters_named t names slot (p ∷ ps) at =
    let e : slot ≡ slot + 0 = omega arith in (
      ap (slice_get names) e ∙ at 0 p.name.text refl,
      parameters_named t names (slot + 1) ps (λ i x is. let next : slot + 1 + i ≡ slot + suc i = omega arith in ap (slice_get names) next ∙ at (suc i) x is),
    )

all_stand : (m : MethodTree) → StandAt (slot_names m) 1 (map (λ p. p.name.text) m.params ++ block_locals m.body)
all_stand m i x is = let e : 1 + i ≡ suc i = omega arith in ap (slice_get (slot_names m)) e ∙ is

pub method_named : (t : TableData) (m : MethodTree) → AreNamed (slot_names m) (method_scope t m)
method_named t m = record {
  this = refl;
  variables = parameters_named t (slot_names m) 1 m.params (stand_first (slot_names m) 1 (map (λ p. p.name.text) m.params) (block_locals m.body) (all_stand m));
}

pub locals_stand : (m : MethodTree) → StandAt (slot_names m) (1 + length m.params + 0) (block_locals m.body)
locals_stand m =
    let count = length-map m.params (λ p. p.name.text) in
    stand_second (slot_names m) 1 (1 + length m.params + 0) (map (λ p. p.name.text) m.params) (block_locals m.body) (omega (arith, count)) (all_stand m)
