-- A lock around the whole body of a method.
use Rattle.std.specs.Prelude.{ℕ, List, Option, Some, None, slice_get}
use Rattle.paths.specs.Paths.{PathData}
use Rattle.algebra.specs.declared.basic.Basic.{Basic}
use Rattle.algebra.specs.Basics.{below_of}
use Rattle.algebra.specs.HeldPaths.{has_path}
use Rattle.core_program.specs.Core.{Program, Method, SyncS}
use Rattle.rules.specs.Effect.{Assignment, effect}
use Rattle.explain.specs.Helping.{first_path}

module _ (P : Program) (rel : ℕ → List PathData) (A : Assignment) where
  -- the effect of a method's body in a `synchronized` of this lock, at its required paths
  abbrev pub wrapped : Method → PathData → Basic
  wrapped method p = effect P rel A (SyncS p method.body) (has_path method.requires_)

  -- the first of these locks with which, held around the whole body, the method is at most this
  abbrev pub lock_around : List PathData → Option Method → (limit : Basic) → Option PathData
  lock_around locks None limit = None
  lock_around locks (Some method) limit = first_path (λ p. below_of (wrapped method p) limit) locks

  -- that of the locks that are relevant to the method
  abbrev pub around : ℕ → (limit : Basic) → Option PathData
  around m limit = lock_around (rel m) (slice_get P.methods m) limit
