-- What is in scope is known in the core program: with a declaration more, and where a method begins.
use Rattle.classes.specs.Table.{TableData, type_of}
use Rattle.core_program.specs.Typed as typed
use Rattle.core_program.specs.Types.{Variable}
use Rattle.std.proofs.Common.{◌≡◌, ℕ, ◌+◌, ◌<◌, true, false, List, [], ◌∷◌, ◌++◌, map, Some, None, refl, subst, inl, inr, bytes_eq, arith, if◌then◌else◌, Contains, ◌⊎◌}
use Rattle.std.proofs.lemmas.List.Elements.{Contains-append_right}
use Rattle.std.proofs.lemmas.Option.{same_Some}
use Rattle.syntax.specs.declared.tree.Param.{Param}
use Rattle.typing.proofs.TypedExprs.{Seen}
use Rattle.typing.specs.Scopes.{Binding, Scope, variable, scope_of_parameters}
use Rattle.typing.proofs.EqualSignatures.{param_pair}

pub first_in : {A : Type 0} (x : A) (xs : List A) → Contains (x ∷ xs) x
first_in x xs = (0, omega arith, refl)

pub later_in : {A : Type 0} (x : A) (xs : List A) (y : A) → Contains xs y → Contains (x ∷ xs) y
later_in x xs y h = Contains-append_right (x ∷ []) xs y h

-- what is found with one variable more
found_in : (scope : Scope) (b : Binding) (name : List ℕ) (v : Variable) → variable (scope ++ b ∷ []) name ≡ Some v
    → (variable scope name ≡ Some v) ⊎ (b.variable ≡ v)
found_in [] b name v =
    elim (bytes_eq b.name name) as (λ x. (if x then Some b.variable else None) ≡ Some v → (None ≡ Some v) ⊎ (b.variable ≡ v)) [
      | true ↦ λ h. inr (same_Some b.variable v h)
      | false ↦ λ h. inl h
    ]
found_in (a ∷ rest) b name v =
    elim (bytes_eq a.name name)
    as (λ x. (if x then Some a.variable else variable (rest ++ b ∷ []) name) ≡ Some v
    → ((if x then Some a.variable else variable rest name) ≡ Some v) ⊎ (b.variable ≡ v)) [
      | true ↦ λ h. inl h
      | false ↦ λ h. found_in rest b name v h
    ]

pub seen_more : (scope : Scope) (vars : List Variable) (b : Binding) → Seen scope vars → 0 < b.variable.slot → Seen (scope ++ b ∷ []) (b.variable ∷ vars)
seen_more scope vars b s above = record {
  seen = λ name v h. elim (found_in scope b name v h) [
    | inl old ↦ later_in b.variable vars v (s.seen name v old)
    | inr new ↦ subst (Contains (b.variable ∷ vars)) new (first_in b.variable vars)
  ];
  above = λ name v h. elim (found_in scope b name v h) [
    | inl old ↦ s.above name v old
    | inr new ↦ subst (λ z. 0 < z.slot) new above
  ];
}

pub no_more_seen : Seen [] []
no_more_seen = record { seen = λ name v h. absurd (let e : None ≡ Some v = h in cc); above = λ name v h. absurd (let e : None ≡ Some v = h in cc) }

seen_first : (scope : Scope) (vars : List Variable) (b : Binding) → Seen scope vars → 0 < b.variable.slot → Seen (b ∷ scope) (b.variable ∷ vars)
seen_first scope vars b s above = record {
  seen = λ name v. elim (bytes_eq b.name name) as (λ x. (if x then Some b.variable else variable scope name) ≡ Some v → Contains (b.variable ∷ vars) v) [
    | true ↦ λ h. subst (λ z. Contains (b.variable ∷ vars) z) (same_Some b.variable v h) (first_in b.variable vars)
    | false ↦ λ h. later_in b.variable vars v (s.seen name v h)
  ];
  above = λ name v. elim (bytes_eq b.name name) as (λ x. (if x then Some b.variable else variable scope name) ≡ Some v → 0 < v.slot) [
    | true ↦ λ h. subst (λ z. 0 < z.slot) (same_Some b.variable v h) above
    | false ↦ λ h. s.above name v h
  ];
}

pub params_seen : (t : TableData) (x : ℕ) (ps : List Param) → 0 < x → Seen (scope_of_parameters t x ps) (typed.parameters_in_scope x (map (param_pair t.names) ps))
params_seen t x [] above = no_more_seen
params_seen t x (p ∷ ps) above =
    seen_first (scope_of_parameters t (x + 1) ps) (typed.parameters_in_scope (x + 1) (map (param_pair t.names) ps))
    (record { name = p.name.text; variable = record { slot = x; is_final = p.is_final; ty = type_of t.names p.ty } })
    (params_seen t (x + 1) ps (omega (arith, above))) above
