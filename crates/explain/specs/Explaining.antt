-- Why a method is more than it may be at its required paths.
use Rattle.std.specs.Prelude.{ℕ, Bool, true, false, not, ◌==◌, List, [], ◌∷◌, filter, Option, Some, None, slice_get, if◌then◌else◌}
use Rattle.std.specs.List.{list_all}
use Rattle.paths.specs.Paths.{PathData}
use Rattle.algebra.specs.declared.basic.Basic.{Basic}
use Rattle.algebra.specs.Basics.{below_of}
use Rattle.algebra.specs.HeldPaths.{Held, has_path}
use Rattle.core_program.specs.Core.{Program, Method, CallE}
use Rattle.core_program.specs.Locks.{path_of}
use Rattle.effects.specs.Parts.{Part, ExprP}
use Rattle.rules.specs.Effect.{Assignment, effect, held_under, required_paths}
use Rattle.rules.specs.Mentions.{paths_of}
use Rattle.rules.specs.Rules.{held_in}
use Rattle.explain.specs.StepReadings.{first_where, is_cmpd, is_error, own_at}
use Rattle.explain.specs.Steps.{stmt_steps}
use Rattle.explain.specs.Visits.{Visit, stmt_visits}
use Rattle.explain.specs.Views.{errors_in}
use Rattle.explain.specs.Whys.{WhyData, Wrong, Looped, Compound, Two, Overridden, Nothing}

-- the first, where there is one
abbrev pub first_wrong : List Visit → WhyData
first_wrong [] = Nothing
first_wrong (v ∷ vs) = Wrong v

-- this one, where there is one; else the first of these
abbrev pub wrong_or : Option Visit → List Visit → WhyData
wrong_or (Some v) vs = Wrong v
wrong_or None vs = first_wrong vs

-- a step that this loop repeats, or else this
abbrev pub looped_or : Visit → Option ℕ → WhyData → WhyData
looped_or v None why = why
looped_or v (Some n) why = Looped v n

-- a step, if there is one, and the first of these
abbrev pub with_first : Option Visit → List Visit → WhyData
with_first v [] = Nothing
with_first None (c ∷ cs) = Compound c
with_first (Some v) (c ∷ cs) = Two v c

-- this compound step, where there is one; else the first of these, behind another step if there is one
abbrev pub compound_or : Option Visit → Option Visit → List Visit → WhyData
compound_or (Some c) v cs = Compound c
compound_or None v cs = with_first v cs

-- whether a part is a call of this method
abbrev pub is_call_of_method : ℕ → Part → Bool
is_call_of_method m (ExprP (CallE e k args)) = k == m
is_call_of_method m part = false

-- the first compound step that doesn't call the method itself; else the first, behind another step if there is one
abbrev pub compound_why : (self : ℕ) → Option Visit → List Visit → WhyData
compound_why self v cs = compound_or (first_where (λ c. not (is_call_of_method self c.part)) cs) v cs

-- of two steps the one first that is done first: the call, where the steps begin with one that is compound by itself
abbrev pub done_in_order : (call_first : Bool) → WhyData → WhyData
done_in_order true (Two v w) = Two w v
done_in_order call_first why = why

-- why a body with these steps is compound: those that aren't compound by themselves, and those that are. The former are told rather than the
-- latter, since they lie in the method itself.
abbrev pub steps_why : (self : ℕ) → (call_first : Bool) → (own compounds : List Visit) → WhyData
steps_why self call_first [] cs = compound_why self None cs
steps_why self call_first (v ∷ []) cs = looped_or v v.loop (done_in_order call_first (compound_why self (Some v) cs))
steps_why self call_first (v ∷ w ∷ vs) cs = looped_or v v.loop (Two v w)

module _ (P : Program) (rel : ℕ → List PathData) where
  -- whether an error comes from the part itself, and not from a method that is called and is an error where it has what it requires
  abbrev pub is_error_of_part : Part → Held → Bool
  is_error_of_part (ExprP (CallE e m args)) H = not (list_all (held_under (rel m) (path_of P e) (paths_of P args) H) (required_paths (slice_get P.methods m)))
  is_error_of_part part H = true

  -- of parts that are an error by themselves the first whose error comes from itself; else the first
  abbrev pub wrong_of : List Visit → WhyData
  wrong_of vs = wrong_or (first_where (λ v. is_error_of_part v.part v.held) vs) vs

-- the first of these methods that is more than the limit at those of the held paths that are relevant to it
abbrev pub over_of : (rel : ℕ → List PathData) → Assignment → (limit : Basic) → List ℕ → Held → WhyData
over_of rel A limit [] H = Nothing
over_of rel A limit (m ∷ ms) H = if below_of (A m (held_in (rel m) H)) limit then over_of rel A limit ms H else Overridden m (A m (held_in (rel m) H))

module _ (P : Program) (rel : ℕ → List PathData) (A : Assignment) where
  -- whether steps begin with one that is compound by itself
  abbrev pub begins_compound : List Visit → Bool
  begins_compound [] = false
  begins_compound (v ∷ vs) = is_cmpd (own_at P rel A v)

  -- why a body with these steps is compound
  abbrev pub steps_of : (self : ℕ) → List Visit → WhyData
  steps_of self vs = steps_why self (begins_compound vs) (filter (λ v. not (is_cmpd (own_at P rel A v))) vs) (filter (λ v. is_cmpd (own_at P rel A v)) vs)

  -- why a body with this step alone is compound
  abbrev pub only_step_why : Visit → WhyData
  only_step_why v = if is_cmpd (own_at P rel A v) then Compound v else looped_or v v.loop Nothing

  -- why a body with this effect is an error or compound
  abbrev pub body_why : (self : ℕ) → Basic → (errors steps : List Visit) → WhyData
  body_why self b errors steps = if is_error b then wrong_of P rel errors else steps_of self steps

  -- why a method that these methods override is more than the limit: its body is, or one of these
  abbrev pub why_of : (overs : List ℕ) → (self : ℕ) → Method → (limit : Basic) → WhyData
  why_of overs self method limit =
      let H = has_path method.requires_ in
      let b = effect P rel A method.body H in
      if below_of b limit
      then over_of rel A limit overs H
      else body_why self b (errors_in P rel A (stmt_visits P method.body 0 H None)) (stmt_steps P rel A method.body 0 H None)
