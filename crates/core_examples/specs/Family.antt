-- Four classes, of which three extend each other.
--     class A { int f; void m() { } void n() { } }
--     class B extends A { int g; void m() { } }
--     class C extends B { int h; void o() { } }
--     class D { }
use Rattle.std.specs.Prelude.{ℕ, false, List, [], ◌∷◌, Option, Some, None}
use Rattle.core_program.specs.declared.types.CoreType.TheVariants as type
use Rattle.core_program.specs.Core.{Program, Class, Field, EmptyS}
use Rattle.core_program.specs.Examples.{plain_method}

-- a class without final fields and without `run`
abbrev pub class_with : (fields : List ℕ) → Option ℕ → List (ℕ × ℕ) → Class
class_with fields above targets = record { fields = fields; finals = []; run = None; above = above; targets = targets }

-- an int that nothing guards
abbrev pub free_field : (class index : ℕ) → Field
free_field class index = record { class = class; index = index; is_final = false; ty = type.Int; guard = None; writes_only = false }

-- three classes, each of which extends the one before it and has one field more, and one that stands alone; the second overrides the first method of
-- the first one
abbrev pub family : Program
family = record {
  classes = class_with (0 ∷ []) None ((0, 0) ∷ (1, 1) ∷ [])
      ∷ class_with (0 ∷ 1 ∷ []) (Some 0) ((0, 2) ∷ (1, 1) ∷ (2, 2) ∷ [])
      ∷ class_with (0 ∷ 1 ∷ 2 ∷ []) (Some 1) ((0, 2) ∷ (1, 1) ∷ (2, 2) ∷ (3, 3) ∷ [])
      ∷ class_with [] None [] ∷ [];
  fields = free_field 0 0 ∷ free_field 1 1 ∷ free_field 2 2 ∷ [];
  methods = plain_method 0 0 false EmptyS ∷ plain_method 0 0 false EmptyS ∷ plain_method 1 0 false EmptyS ∷ plain_method 2 0 false EmptyS ∷ [];
  main_class = 0;
  main = 0;
}
