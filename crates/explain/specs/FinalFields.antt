-- What becomes of a method where a field is made final, and which fields can be.
use Rattle.std.specs.Prelude.{ℕ, ◌+◌, Bool, false, not, ◌==◌, ◌||◌, ◌&&◌, List, [], ◌∷◌}
use Rattle.std.specs.List.{list_any}
use Rattle.paths.specs.Paths.{PathData}
use Rattle.algebra.specs.declared.basic.Basic.{Basic}
use Rattle.algebra.specs.Basics.{below_of}
use Rattle.algebra.specs.HeldPaths.{has_path}
use Rattle.core_program.specs.Core.{Field, Method, Program}
use Rattle.core_program.specs.Core.{Stmt, Stmts, BlockS, SetFieldS, IfS, WhileS, SyncS, no_stmts, and_stmt}
use Rattle.core_program.specs.Dispatch.{has_field}
use Rattle.rules.specs.Effect.{Assignment, effect}

-- Whether statements assign to a field.
abbrev mutual
  -- whether a statement assigns to this field of any object
  pub sets_field : (f : ℕ) → Stmt → Bool
  sets_field f (SetFieldS e g value) = g == f
  sets_field f (BlockS ss) = some_sets_field f ss
  sets_field f (IfS c s t) = sets_field f s || sets_field f t
  sets_field f (WhileS c s) = sets_field f s
  sets_field f (SyncS p s) = sets_field f s
  sets_field f _ = false

  -- whether one of the statements of a block does
  pub some_sets_field : (f : ℕ) → Stmts → Bool
  some_sets_field f no_stmts = false
  some_sets_field f (and_stmt s ss) = sets_field f s || some_sets_field f ss

-- whether a field can be made final with each method as it is: no method assigns to it, since a final field is set by constructors alone; and
-- `Main` hasn't got it, since that has no constructor. What each `new` of its class is given for it is left open.
abbrev pub can_be_final : Program → (f : ℕ) → Bool
can_be_final P f = not (has_field P P.main_class f) && not (list_any (λ m. sets_field f m.body) P.methods)

-- these fields, where they are numbered from here on, with this one final
abbrev pub final_from : (n f : ℕ) → List Field → List Field
final_from n f [] = []
final_from n f (field ∷ fields) = record field { is_final = field.is_final || (n == f) } ∷ final_from (n + 1) f fields

-- the program with this field final
abbrev pub with_final_field : Program → (f : ℕ) → Program
with_final_field P f = record P { fields = final_from 0 f P.fields }

module _ (P : Program) (rel : ℕ → List PathData) (A : Assignment) where
  -- the effect of a method's body in the program with a field final, at its required paths
  abbrev pub field_finalised : Method → (f : ℕ) → Basic
  field_finalised method f = effect (with_final_field P f) rel A method.body (has_path method.requires_)

  -- whether a field can be made final, and with it final the body is at most this
  abbrev pub final_field_fits : Method → (limit : Basic) → (f : ℕ) → Bool
  final_field_fits method limit f = can_be_final P f && below_of (field_finalised method f) limit
