-- Methods with equal signatures in the tree have equal parameters and results in the core program.
use Rattle.std.proofs.Common.{◌≡◌, ℕ, ◌&&◌, Bool, true, false, List, [], ◌∷◌, map, Option, Some, None, refl, ap, ap₂, sym, position, bytes_eq, option_map, unwrap_or}
use Rattle.std.proofs.lemmas.Bool.{and_parts}
use Rattle.std.proofs.lemmas.Slice.Eq.{bytes_eq-Decides}
use Rattle.core_program.specs.declared.types.CoreType.{CoreType}
use Rattle.core_program.specs.declared.types.CoreType.TheVariants as type
use Rattle.syntax.specs.declared.tree.Param.{Param}
use Rattle.syntax.specs.declared.tree.TypeName.{TypeName}
use Rattle.syntax.specs.declared.tree.TypeName.TheVariants as Y
use Rattle.classes.specs.Members.{is_same_type}
use Rattle.classes.specs.Overriding.{same_mark, are_alike, is_same_result}
use Rattle.classes.specs.Table.{type_of}

pub marks_same : (a b : Bool) → same_mark a b ≡ true → a ≡ b
marks_same true b h = sym h
marks_same false false h = refl
marks_same false true h = absurd (let e : false ≡ true = h in cc)

types_same : (names : List (List ℕ)) (t u : TypeName) → is_same_type t u ≡ true → type_of names t ≡ type_of names u
types_same names Y.Int Y.Int h = refl
types_same names Y.Boolean Y.Boolean h = refl
types_same names (Y.Class m) (Y.Class n) h =
    ap (λ text. type.Class (unwrap_or (position (bytes_eq text) names) 0)) ((bytes_eq-Decides m.text n.text).0 h)
types_same names Y.Int Y.Boolean h = absurd (let e : false ≡ true = h in cc)
types_same names Y.Int (Y.Class n) h = absurd (let e : false ≡ true = h in cc)
types_same names Y.Boolean Y.Int h = absurd (let e : false ≡ true = h in cc)
types_same names Y.Boolean (Y.Class n) h = absurd (let e : false ≡ true = h in cc)
types_same names (Y.Class m) Y.Int h = absurd (let e : false ≡ true = h in cc)
types_same names (Y.Class m) Y.Boolean h = absurd (let e : false ≡ true = h in cc)

-- whether a parameter is final, and its type
abbrev pub param_pair : List (List ℕ) → Param → Bool × CoreType
param_pair names q = (q.is_final, type_of names q.ty)

pub params_same : (names : List (List ℕ)) (ps qs : List Param) → are_alike ps qs ≡ true → map (param_pair names) ps ≡ map (param_pair names) qs
params_same names [] [] h = refl
params_same names [] (q ∷ qs) h = absurd (let e : false ≡ true = h in cc)
params_same names (p ∷ ps) [] h = absurd (let e : false ≡ true = h in cc)
params_same names (p ∷ ps) (q ∷ qs) h =
    let a = and_parts (same_mark p.is_final q.is_final) (is_same_type p.ty q.ty && are_alike ps qs) h in
    let b = and_parts (is_same_type p.ty q.ty) (are_alike ps qs) a.1 in
    ap₂ (λ x xs. x ∷ xs) (ap₂ (λ x y. (x, y)) (marks_same p.is_final q.is_final a.0) (types_same names p.ty q.ty b.0)) (params_same names ps qs b.1)

pub results_same : (names : List (List ℕ)) (t u : Option TypeName) → is_same_result t u ≡ true → option_map (type_of names) t ≡ option_map (type_of names) u
results_same names None None h = refl
results_same names None (Some u) h = absurd (let e : false ≡ true = h in cc)
results_same names (Some t) None h = absurd (let e : false ≡ true = h in cc)
results_same names (Some t) (Some u) h = ap Some (types_same names t u h)
