-- Fields by their two productions.
use Rattle.std.proofs.Common.{◌≡◌, Bool, true, false, List, Option, None, refl, sym, ◌∙◌, ap, subst}
use Rattle.lexer.specs.declared.tokens.Token.{Token}
use Rattle.syntax.specs.declared.tree.Name.{Name}
use Rattle.syntax.specs.declared.tree.TypeName.{TypeName}
use Rattle.syntax.specs.Grammar.{SpellsBare, SpellsField, SpellsFinalField, SpellsMutableField}
use Rattle.syntax.specs.Trees.{LockTree, FieldTree, MemberTree, FieldM}

abbrev pub final_field : TypeName → Name → FieldTree
final_field ty n = record { is_final = true; ty = ty; name = n; guard = None; writes_only = false }

abbrev pub mutable_field : TypeName → Name → Bool → Option LockTree → FieldTree
mutable_field ty n writes_only guard = record { is_final = false; ty = ty; name = n; guard = guard; writes_only = writes_only }

-- a field is known by its five parts
field_is : (f : FieldTree) (fin writes_only : Bool) (guard : Option LockTree) → f.is_final ≡ fin → f.writes_only ≡ writes_only → f.guard ≡ guard
    → record { is_final = fin; ty = f.ty; name = f.name; guard = guard; writes_only = writes_only } ≡ f
field_is f fin writes_only guard a b c =
    let as_final : Bool → FieldTree = λ z. record { is_final = z; ty = f.ty; name = f.name; guard = guard; writes_only = writes_only } in
    let as_writes : Bool → FieldTree = λ z. record { is_final = f.is_final; ty = f.ty; name = f.name; guard = guard; writes_only = z } in
    let as_guard : Option LockTree → FieldTree = λ z. record { is_final = f.is_final; ty = f.ty; name = f.name; guard = z; writes_only = f.writes_only } in
    (ap as_final (sym a) ∙ ap as_writes (sym b)) ∙ ap as_guard (sym c)

module _ (P : List Token → MemberTree → Type 0)
    (final : (ty : TypeName) (n : Name) (ts : List Token) → SpellsFinalField (final_field ty n) ts → P ts (FieldM (final_field ty n)))
    (mutable : (ty : TypeName) (n : Name) (writes_only : Bool) (guard : Option LockTree) (ts : List Token)
    → SpellsMutableField (mutable_field ty n writes_only guard) ts → P ts (FieldM (mutable_field ty n writes_only guard))) where
  either : (fin : Bool) (f : FieldTree) (ts : List Token) → f.is_final ≡ fin → SpellsField fin f ts → P ts (FieldM f)
  either true f ts a (x, d, c, t, g, w, eq) =
      subst (λ z. P ts (FieldM z)) (field_is f true false None a w g) (final f.ty f.name ts (x, d, c, t, refl, refl, eq))
  either false f ts a s =
      subst (λ z. P ts (FieldM z)) (field_is f false f.writes_only f.guard a refl refl) (mutable f.ty f.name f.writes_only f.guard ts s)

  -- what holds of final fields and of the others holds of each field that the grammar knows
  pub each_field : (f : FieldTree) (ts : List Token) → SpellsBare (FieldM f) ts → P ts (FieldM f)
  each_field f ts s = either f.is_final f ts refl s
