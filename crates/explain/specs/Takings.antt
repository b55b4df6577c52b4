-- Which lock a call takes and gives back: all that others can see of it, whichever body runs.
use Rattle.std.specs.Prelude.{◌≡◌, ℕ, Bool, true, false, ◌&&◌, ◌||◌, List, [], ◌∷◌, Option, Some, None, slice_get, if◌then◌else◌}
use Rattle.std.specs.List.{list_all}
use Rattle.paths.specs.Paths.{PathData, path_eq}
use Rattle.paths.specs.Renamings.{under_call}
use Rattle.algebra.specs.declared.basic.Basic.{Basic}
use Rattle.algebra.specs.declared.basic.Basic.TheVariants.{Const, Mover, Atomic, Cmpd, Error}
use Rattle.algebra.specs.Basics.{below_of}
use Rattle.algebra.specs.HeldPaths.{Held, with_path}
use Rattle.core_program.specs.Core.{Program, Method, SyncS}
use Rattle.effects.specs.Parts.{Part, StmtP}
use Rattle.rules.specs.Effect.{Assignment, call_of, held_under}
use Rattle.rules.specs.Rules.{held_in}
use Rattle.explain.specs.StepReadings.{own_at}
use Rattle.explain.specs.Visits.{Visit, stmt_visits}

-- whether a part is a `synchronized` of this lock
abbrev pub locks : PathData → Part → Bool
locks q (StmtP (SyncS p s)) = path_eq p q
locks q part = false

-- the lock of an atomic call; nothing is told of a call that is something else
abbrev pub if_atomic : Basic → Option PathData → Option PathData
if_atomic Const taken = None
if_atomic Mover taken = None
if_atomic Atomic taken = taken
if_atomic Cmpd taken = None
if_atomic Error taken = None

module _ (P : Program) (rel : ℕ → List PathData) (A : Assignment) where
  -- whether a part that a walk comes to can be moved by itself, or takes this lock
  abbrev pub is_taking : PathData → Visit → Bool
  is_taking q v = below_of (own_at P rel A v) Mover || locks q v.part

  -- whether each part of a method's body does so, in whichever branch, where the body begins with this set; false of a method that isn't there
  abbrev pub takes_in : PathData → Option Method → Held → Bool
  takes_in q None K = false
  takes_in q (Some method) K = list_all (is_taking q) (stmt_visits P method.body 0 K None)

  -- the same of a method and of those that override it, each begun with those of the paths that are relevant to it
  abbrev pub takes_only : List ℕ → PathData → ℕ → Held → Bool
  takes_only overs q m K = takes_in q (slice_get P.methods m) K && list_all (λ n. takes_in q (slice_get P.methods n) (held_in (rel n) K)) overs

  module _ (m : ℕ) (receiver : Option PathData) (args : List (Option PathData)) (H : Held) where
    -- whether the call can be moved where this lock is held too, if it has a name here
    abbrev pub is_freed : Option PathData → Bool
    is_freed None = false
    is_freed (Some p) = below_of (call_of P rel A m receiver args (with_path p H)) Mover

  module _ (overs : List ℕ) (m : ℕ) (receiver : Option PathData) (args : List (Option PathData)) (H : Held) where
    -- the name here of the first of these paths of the callee that the call takes and gives back: with it held the call can be moved, and
    -- whichever body runs does nothing else that others can see
    abbrev pub first_taken : List PathData → Option PathData
    first_taken [] = None
    first_taken (q ∷ qs) =
        if is_freed m receiver args H (under_call receiver args q) && takes_only overs q m (held_under (rel m) receiver args H) then under_call receiver args q else first_taken qs

    -- the lock that an atomic call takes and gives back, where it does nothing else
    abbrev pub taken_lock : Option PathData
    taken_lock = if_atomic (call_of P rel A m receiver args H) (first_taken (rel m))

    -- the call takes this lock and gives it back: it is the name here of a path of the callee, and isn't held; whichever body runs does nothing
    -- else that others can see; and the call can't be moved, but could be with the lock held
    pub record IsLockTaken (p : PathData) : Type 0 where
      pub path : PathData
      pub name : under_call receiver args path ≡ Some p
      pub free : H p ≡ false
      pub only : takes_only overs path m (held_under (rel m) receiver args H) ≡ true
      pub stays : below_of (call_of P rel A m receiver args H) Mover ≡ false
      pub moves : below_of (call_of P rel A m receiver args (with_path p H)) Mover ≡ true
