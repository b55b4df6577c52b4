-- Values of all methods as an assignment, and the first method whose bound it breaks.
use Rattle.std.specs.Prelude.{◌≡◌, ℕ, ◌<◌, false, List, Option, Some, None, IfSome, slice_get}
use Rattle.paths.specs.Paths.{PathData}
use Rattle.algebra.specs.declared.basic.Basic.{Basic}
use Rattle.algebra.specs.declared.basic.Basic.TheVariants.{Const}
use Rattle.algebra.specs.Basics.{below_of}
use Rattle.algebra.specs.HeldPaths.{Held, has_path}
use Rattle.core_program.specs.Core.{Program, Method}
use Rattle.rules.specs.Effect.{Assignment}
use Rattle.rules.specs.Rules.{IsAntitone, IsClosed, HoldsBound, declared_bound}

-- each value is known to its store
abbrev pub AreKnown : {S A : Type 0} → (S → A → Type 0) → S → List A → Type 0
AreKnown IsKnown store values = (m : ℕ) → IfSome (slice_get values m) (λ a. IsKnown store a)

-- the basic of a value that may be missing; const where it is
abbrev pub basic_at : {S A : Type 0} → (S → A → Held → Basic) → S → Option A → Held → Basic
basic_at value store None H = Const
basic_at value store (Some a) H = value store a H

-- the assignment of the values of all methods
abbrev pub assignment_of : {S A : Type 0} → (S → A → Held → Basic) → S → List A → Assignment
assignment_of value store values m H = basic_at value store (slice_get values m) H

-- this method breaks its bound, and none before it does
pub record IsFirstBroken (P : Program) (A : Assignment) (m : ℕ) (declared found : Basic) : Type 0 where
  pub method : Method
  pub is : slice_get P.methods m ≡ Some method
  pub declared_is : declared ≡ declared_bound method.annotated
  pub found_is : found ≡ A m (has_path method.requires_)
  pub breaks : below_of found declared ≡ false
  pub first : (k : ℕ) (earlier : Method) → k < m → slice_get P.methods k ≡ Some earlier → HoldsBound A k earlier

-- every method keeps its bound
abbrev pub HoldBounds : Program → Assignment → Type 0
HoldBounds P A = (m : ℕ) (method : Method) → slice_get P.methods m ≡ Some method → HoldsBound A m method

-- the program has this method, and whatever falling and closed assignment there is breaks the method's bound
pub record IsBrokenByAll (P : Program) (rel : ℕ → List PathData) (m : ℕ) : Type 0 where
  pub method : Method
  pub is : slice_get P.methods m ≡ Some method
  pub breaks : (B : Assignment) → IsAntitone rel B → IsClosed P rel B → HoldsBound B m method → ⊥
