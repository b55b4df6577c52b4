-- The explanations of a whole program.
use Rattle.std.specs.Prelude.{◌≡◌, ℕ, zero, suc, ◌+◌, Bool, true, false, not, ◌||◌, List, [], ◌∷◌, ◌++◌, map, length, Option, Some, None, slice_get, slice_set, unwrap_or, replicate, if◌then◌else◌}
use Rattle.paths.specs.Paths.{PathData}
use Rattle.algebra.specs.declared.basic.Basic.{Basic}
use Rattle.algebra.specs.declared.basic.Basic.TheVariants.{Atomic}
use Rattle.algebra.specs.Basics.{below_of}
use Rattle.algebra.specs.HeldPaths.{has_path}
use Rattle.core_program.specs.Core.{Program, Method, CallE}
use Rattle.effects.specs.Parts.{Part, ExprP}
use Rattle.rules.specs.Effect.{Assignment}
use Rattle.rules.specs.Rules.{declared_bound}
use Rattle.explain.specs.declared.grounds.Ground.{Ground}
use Rattle.explain.specs.Grounds.{why_by}
use Rattle.explain.specs.Whys.{WhyData, Wrong, Looped, Compound, Two, Overridden, Nothing, ExplainedData}

-- the method that a part calls, where it is a call
abbrev pub called_by : Part → Option ℕ
called_by (ExprP (CallE e m args)) = Some m
called_by part = None

-- the method by which an explained one is what it is: the one that its compound step calls, or that overrides it
abbrev pub led_to : WhyData → Option ℕ
led_to (Wrong v) = None
led_to (Looped v n) = None
led_to (Compound v) = called_by v.part
led_to (Two v w) = None
led_to (Overridden m b) = Some m
led_to Nothing = None

-- methods that are told
abbrev pub marked : List Bool → List ℕ → List Bool
marked told [] = told
marked told (m ∷ ms) = marked (slice_set told m true) ms

-- the methods of explanations
abbrev pub explained_methods : List ExplainedData → List ℕ
explained_methods xs = map (λ x. x.method) xs

-- what is assigned to a method at its required paths
abbrev pub found_of : Assignment → ℕ → Method → Basic
found_of A m method = A m (has_path method.requires_)

-- whether a method keeps its bound
abbrev pub keeps : Assignment → ℕ → Method → Bool
keeps A m method = below_of (found_of A m method) (declared_bound method.annotated)

-- what follows for a method that is there, isn't told, and keeps its bound; nothing for another
abbrev pub if_untold : Assignment → (told : List Bool) → ℕ → Option Method → (Method → List ExplainedData) → List ExplainedData
if_untold A told m None more = []
if_untold A told m (Some method) more = if unwrap_or (slice_get told m) true || not (keeps A m method) then [] else more method

-- the method that is told next is this one: an explanation leads to it, it is there, it isn't told yet, and it keeps its bound
pub record IsToldNext (P : Program) (A : Assignment) (told : List Bool) (next : Option ℕ) (m : ℕ) (method : Method) : Type 0 where
  pub is : next ≡ Some m
  pub there : slice_get P.methods m ≡ Some method
  pub untold : unwrap_or (slice_get told m) true ≡ false
  pub kept : keeps A m method ≡ true

module _ (P : Program) (rel : ℕ → List PathData) (A : Assignment) (overs : ℕ → List ℕ) (grounds : List Ground) where
  -- the explanation of a method that may be at most this
  abbrev pub explained : (is_refused : Bool) → (limit : Basic) → ℕ → Method → ExplainedData
  explained is_refused limit m method = record {
    method = m;
    is_refused = is_refused;
    limit = limit;
    found = found_of A m method;
    why = why_by P rel A overs grounds m method limit;
  }

  -- a method that breaks its bound
  abbrev pub refused : ℕ → Method → ExplainedData
  refused m method = explained true (declared_bound method.annotated) m method

  -- a method that keeps it, and isn't atomic
  abbrev pub compound : ℕ → Method → ExplainedData
  compound m method = explained false Atomic m method

  -- the compound methods to which an explanation leads, each the next one's reason, up to one that is told already or that is refused
  abbrev pub led : (fuel : ℕ) → (told : List Bool) → Option ℕ → List ExplainedData
  led zero told next = []
  led (suc fuel) told None = []
  led (suc fuel) told (Some m) =
      if_untold A told m (slice_get P.methods m) (λ method. compound m method ∷ led fuel (slice_set told m true) (led_to (compound m method).why))

  -- the explanations of methods that are numbered from here on, where these are told: of each that breaks its bound, and behind it of
  -- the compound ones to which that leads
  abbrev pub explanations_from : (told : List Bool) → ℕ → List Method → List ExplainedData
  explanations_from told m [] = []
  explanations_from told m (method ∷ methods) =
      if keeps A m method
      then explanations_from told (m + 1) methods
      else
      let more = led (length P.methods) told (led_to (refused m method).why) in
      refused m method ∷ (more ++ explanations_from (marked told (explained_methods more)) (m + 1) methods)

  -- the explanations of a program, of which none is told at first
  abbrev pub explanations : List ExplainedData
  explanations = explanations_from (replicate (length P.methods) false) 0 P.methods

  -- the methods that break their bounds, numbered from here on, each with its reason
  abbrev pub refused_from : ℕ → List Method → List ExplainedData
  refused_from m [] = []
  refused_from m (method ∷ methods) = if keeps A m method then refused_from (m + 1) methods else refused m method ∷ refused_from (m + 1) methods

  -- an explanation is that of a method of the program: as a refused one where it breaks its bound, and as a compound one where it keeps it
  pub record IsExplained (x : ExplainedData) : Type 0 where
    pub method : Method
    pub there : slice_get P.methods x.method ≡ Some method
    pub is : x ≡ (if keeps A x.method method then compound x.method method else refused x.method method)
