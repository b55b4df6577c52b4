-- To which methods explanations lead, and that they don't lead in a circle.
use Rattle.std.specs.Prelude.{◌≡◌, ℕ, Bool, true, false, ◌&&◌, nat_lt, List, Contains, Option, Some, None, slice_get, if◌then◌else◌}
use Rattle.paths.specs.Paths.{PathData}
use Rattle.algebra.specs.declared.basic.Basic.{Basic}
use Rattle.algebra.specs.declared.basic.Basic.TheVariants.{Atomic}
use Rattle.algebra.specs.Basics.{below_of}
use Rattle.algebra.specs.HeldPaths.{Held}
use Rattle.core_program.specs.Core.{Program, Method}
use Rattle.rules.specs.Effect.{Assignment}
use Rattle.rules.specs.Rules.{AtMost, declared_bound}
use Rattle.explain.specs.declared.ranking.Bounds.{Bounds}
use Rattle.explain.specs.declared.ranking.Bounds.TheVariants.{Declared, Strict}
use Rattle.explain.specs.declared.grounds.Ground.{Ground}
use Rattle.explain.specs.Explaining.{is_error_of_part, why_of}
use Rattle.explain.specs.Grounds.{level_at, rank_at, why_by}
use Rattle.explain.specs.Meanings.{IsReasonOf}
use Rattle.explain.specs.Programs.{called_by, found_of, keeps, led_to}
use Rattle.explain.specs.Strict.{strict_limit}
use Rattle.explain.specs.Whys.{WhyData, ExplainedData, Wrong, Looped, Compound, Two, Overridden, Nothing}

-- the method by which another is what it is: the one that its compound step calls, that overrides it, or that is an error itself and is
-- called with all that it requires. Of two steps, and of one in a loop, each is a step by itself, whatever it calls.
abbrev pub reason_lead : Program → (rel : ℕ → List PathData) → WhyData → Option ℕ
reason_lead P rel (Wrong v) = if is_error_of_part P rel v.part v.held then None else called_by v.part
reason_lead P rel (Looped v n) = None
reason_lead P rel (Compound v) = called_by v.part
reason_lead P rel (Two v w) = None
reason_lead P rel (Overridden m b) = Some m
reason_lead P rel Nothing = None

module _ (P : Program) (rel : ℕ → List PathData) (xs : List ExplainedData) where
  -- one explanation of these leads to another
  pub record LeadsToTold (x y : ExplainedData) : Type 0 where
    pub first : Contains xs x
    pub second : Contains xs y
    pub leads : reason_lead P rel x.why ≡ Some y.method

  -- one leads to another, or to one from which such a chain goes on
  pub data IsReasonChain : ExplainedData → ExplainedData → Type 0 where
    link : {x y : ExplainedData} → LeadsToTold x y → IsReasonChain x y
    chain : {x y z : ExplainedData} → LeadsToTold x y → IsReasonChain y z → IsReasonChain x z

-- each method by which one of these explanations is that of a compound method, or that overrides it and is more, is told by one of them too,
-- unless it is atomic
abbrev pub LeadsAreTold : Program → Assignment → List ExplainedData → Type 0
LeadsAreTold P A xs = (x : ExplainedData) → Contains xs x → (m : ℕ) (method : Method) → led_to x.why ≡ Some m → slice_get P.methods m ≡ Some method → below_of (found_of A m method) Atomic ≡ false
    → (y : ExplainedData) × Contains xs y × (y.method ≡ m)

-- the greatest basic that a method may have without being told; of one that keeps the bound that it declares this is `atomic`, since it is told
-- where a refused one is compound by it
abbrev pub told_limit : Assignment → ℕ → Method → Basic
told_limit A m method = if keeps A m method then Atomic else declared_bound method.annotated

-- the same by which bounds are asked for
abbrev pub limit_for : Bounds → Program → Assignment → ℕ → Method → Basic
limit_for Declared P A m method = told_limit A m method
limit_for Strict P A m method = strict_limit P A m method

-- a method of the program that has more than that
pub record IsMoreThanLimit (bounds : Bounds) (P : Program) (A : Assignment) (m : ℕ) (method : Method) : Type 0 where
  pub there : slice_get P.methods m ≡ Some method
  pub above : below_of (found_of A m method) (limit_for bounds P A m method) ≡ false

-- the explanation of a method as it is leads to one of these
pub record LeadsAmong (bounds : Bounds) (P : Program) (rel : ℕ → List PathData) (A : Assignment) (overs : ℕ → List ℕ) (among : ℕ → Bool) (m : ℕ) : Type 0 where
  pub method : Method
  pub more : IsMoreThanLimit bounds P A m method
  pub next : ℕ
  pub leads : reason_lead P rel (why_of P rel A (overs m) m method (limit_for bounds P A m method)) ≡ Some next
  pub inside : among next ≡ true

-- the explanation of a method as it is runs into a circle: the method is one of some of which each leads to one of them, so no chain of their
-- explanations ends at a step
pub record RunsInCircle (bounds : Bounds) (P : Program) (rel : ℕ → List PathData) (A : Assignment) (overs : ℕ → List ℕ) (m : ℕ) : Type 0 where
  pub among : ℕ → Bool
  pub here : among m ≡ true
  pub each : (k : ℕ) → among k ≡ true → LeadsAmong bounds P rel A overs among k

-- a reason leads nowhere, or to a method of smaller rank than this
abbrev pub leads_below : List Ground → (rank : ℕ) → Option ℕ → Bool
leads_below grounds rank None = true
leads_below grounds rank (Some k) = nat_lt (rank_at grounds k) rank

-- there is a reason
abbrev pub is_reason : WhyData → Bool
is_reason Nothing = false
is_reason (Wrong v) = true
is_reason (Looped v n) = true
is_reason (Compound v) = true
is_reason (Two v w) = true
is_reason (Overridden m b) = true

-- a reason by what is known before a rank, where that is no more than a level of the methods that have this rank or a greater one: there is
-- one, and it leads below the rank
abbrev pub is_grounded_by : Program → (rel : ℕ → List PathData) → List Ground → (rank : ℕ) → WhyData → Bool
is_grounded_by P rel grounds rank why = is_reason why && leads_below grounds rank (reason_lead P rel why)

-- where an explanation is told by a level, there is a reason by it, and the level is `atomic` or more
abbrev pub IsLevel : Option Basic → WhyData → Type 0
IsLevel None why = Unit {0}
IsLevel (Some level) why = AtMost Atomic level × (is_reason why ≡ true)

-- the explanation of each method that is more than it may be leads nowhere, or to one of smaller rank; it is told by a level only where, as it
-- is, it runs into a circle
pub record AreGrounded (bounds : Bounds) (P : Program) (rel : ℕ → List PathData) (A : Assignment) (overs : ℕ → List ℕ) (grounds : List Ground) : Type 0 where
  pub falls : (m : ℕ) (method : Method) → IsMoreThanLimit bounds P A m method → leads_below grounds (rank_at grounds m) (reason_lead P rel (why_by P rel A overs grounds m method (limit_for bounds P A m method))) ≡ true
  pub levels : (m : ℕ) (method : Method) → IsMoreThanLimit bounds P A m method → IsLevel (level_at grounds m) (why_by P rel A overs grounds m method (limit_for bounds P A m method))
  pub circles : (m : ℕ) (level : Basic) → level_at grounds m ≡ Some level → RunsInCircle bounds P rel A overs m

-- a reason by a level, which is at least `atomic`: it is so by what is known, an assignment that is nowhere more than what methods come to
pub record IsReasonKnown (P : Program) (rel : ℕ → List PathData) (A : Assignment) (overs : List ℕ) (method : Method) (level : Basic) (why : WhyData) : Type 0 where
  pub known : Assignment
  pub less : (m : ℕ) (H : Held) → AtMost (known m H) (A m H)
  pub is_level : AtMost Atomic level
  pub reason : IsReasonOf P rel known overs method level why

-- the reason of a method: it is so of what methods come to; where it is told by a level, it is so by what is known
abbrev pub IsReasonBy : Program → (rel : ℕ → List PathData) → Assignment → (overs : List ℕ) → Method → (level : Option Basic) → (limit : Basic) → WhyData → Type 0
IsReasonBy P rel A overs method None limit why = IsReasonOf P rel A overs method limit why
IsReasonBy P rel A overs method (Some level) limit why = IsReasonKnown P rel A overs method level why
