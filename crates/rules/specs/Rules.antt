-- The rules of atomicity: assignments that are closed and keep every bound, and accepted programs.
use Rattle.std.specs.Prelude.{◌≡◌, ℕ, Bool, true, ◌&&◌, List, Some, slice_get, if◌then◌else◌}
use Rattle.paths.specs.Paths.{PathData}
use Rattle.algebra.specs.declared.basic.Basic.{Basic}
use Rattle.algebra.specs.declared.basic.Basic.TheVariants.{Atomic, Cmpd}
use Rattle.algebra.specs.Basics.{below_of}
use Rattle.algebra.specs.HeldPaths.{Held, has_path}
use Rattle.core_program.specs.Core.{Program, Method}
use Rattle.core_program.specs.Dispatch.{Overrides}
use Rattle.rules.specs.Near.{MethodPaths, AreRelevant, AreFew, rel_of}
use Rattle.rules.specs.Effect.{Assignment, effect}

-- each path of the first set is in the second
abbrev pub IsSubset : Held → Held → Type 0
IsSubset H K = (q : PathData) → H q ≡ true → K q ≡ true

-- the first basic is at most the second
abbrev pub AtMost : Basic → Basic → Type 0
AtMost a b = below_of a b ≡ true

-- more held paths never give a greater basic
abbrev pub IsAntitone : (rel : ℕ → List PathData) → Assignment → Type 0
IsAntitone rel A = (m : ℕ) (H K : Held) → IsSubset K (has_path (rel m)) → IsSubset H K → AtMost (A m K) (A m H)

-- at each part of a method's relevant paths that has its required paths, the effect of its body is at most what is assigned
abbrev pub AreBodiesBelow : Program → (rel : ℕ → List PathData) → Assignment → Type 0
AreBodiesBelow P rel A = (m : ℕ) (method : Method) → slice_get P.methods m ≡ Some method →
    (H : Held) → IsSubset H (has_path (rel m)) → IsSubset (has_path method.requires_) H → AtMost (effect P rel A method.body H) (A m H)

-- those of the held paths that are among these
abbrev pub held_in : List PathData → Held → Held
held_in rel H = λ q. has_path rel q && H q

-- at each such part, what is assigned to a method that overrides this one, at those of the paths that are relevant to it, is at most what is assigned
abbrev pub AreOverridesBelow : Program → (rel : ℕ → List PathData) → Assignment → Type 0
AreOverridesBelow P rel A = (m over : ℕ) (method : Method) → slice_get P.methods m ≡ Some method → Overrides P over m →
    (H : Held) → IsSubset H (has_path (rel m)) → IsSubset (has_path method.requires_) H → AtMost (A over (held_in (rel over) H)) (A m H)

-- an assignment is closed: what a call of a method may come to, its body or that of an overriding method, is at most what is assigned to it
pub record IsClosed (P : Program) (rel : ℕ → List PathData) (A : Assignment) : Type 0 where
  pub bodies : AreBodiesBelow P rel A
  pub overrides : AreOverridesBelow P rel A

-- the greatest basic that a method may have at its required paths
abbrev pub declared_bound : (annotated : Bool) → Basic
declared_bound annotated = if annotated then Atomic else Cmpd

-- what is assigned to a method at its required paths is at most its bound
abbrev pub HoldsBound : Assignment → ℕ → Method → Type 0
HoldsBound A m method = AtMost (A m (has_path method.requires_)) (declared_bound method.annotated)

-- a falling assignment that is closed and keeps every bound
pub record IsAdmissible (P : Program) (rel : ℕ → List PathData) (A : Assignment) : Type 0 where
  pub falling : IsAntitone rel A
  pub closed : IsClosed P rel A
  pub bounds : (m : ℕ) (method : Method) → slice_get P.methods m ≡ Some method → HoldsBound A m method

-- a core program is accepted: it is well-formed, and some assignment is admissible
pub record IsAccepted (P : Program) : Type 0 where
  pub sets : List MethodPaths
  pub relevant : AreRelevant P sets
  pub few : AreFew sets
  pub assignment : Assignment
  pub admissible : IsAdmissible P (rel_of sets) assignment
