-- What a list of visits says of the part that it was made of.
use Rattle.std.specs.Prelude.{◌≡◌, ℕ, ◌+◌, Bool, true, false, ◌||◌, List, [], ◌∷◌, ◌++◌, Option, Some, None, is_some, slice_get, if◌then◌else◌}
use Rattle.std.specs.List.{list_any}
use Rattle.paths.specs.Paths.{PathData}
use Rattle.algebra.specs.declared.basic.Basic.{Basic}
use Rattle.algebra.specs.declared.basic.Basic.TheVariants.{Const, Mover, Atomic, Cmpd, Error}
use Rattle.core_program.specs.Core.{Program}
use Rattle.rules.specs.Effect.{Assignment}
use Rattle.effects.specs.Parts.{Part}
use Rattle.explain.specs.PartEffects.{own_of}
use Rattle.explain.specs.Visits.{Visit}

-- whether a basic is compound
abbrev pub is_cmpd : Basic → Bool
is_cmpd Const = false
is_cmpd Mover = false
is_cmpd Atomic = false
is_cmpd Cmpd = true
is_cmpd Error = false

-- whether a basic is an error
abbrev pub is_error : Basic → Bool
is_error Const = false
is_error Mover = false
is_error Atomic = false
is_error Cmpd = false
is_error Error = true

-- whether there are two or more
abbrev pub are_two : List Visit → Bool
are_two [] = false
are_two (v ∷ []) = false
are_two (v ∷ w ∷ vs) = true

-- whether a loop repeats one of them
abbrev pub are_looped : List Visit → Bool
are_looped vs = list_any (λ v. is_some v.loop) vs

-- the first for which the test passes
abbrev pub first_where : (Visit → Bool) → List Visit → Option Visit
first_where test [] = None
first_where test (v ∷ vs) = if test v then Some v else first_where test vs

-- the first of a list for which the test passes: it stands behind those for which it fails
pub record IsFirstVisit (test : Visit → Bool) (vs : List Visit) (v : Visit) : Type 0 where
  pub before : List Visit
  pub after : List Visit
  pub whole : vs ≡ before ++ (v ∷ after)
  pub passes : test v ≡ true
  pub none_before : list_any test before ≡ false

-- the visit has the number of its part: that of the first part, and as many more as parts stand before it
pub record HasNumberOfPart (parts : List Part) (n : ℕ) (v : Visit) : Type 0 where
  pub index : ℕ
  pub number : v.node ≡ n + index
  pub part : slice_get parts index ≡ Some v.part

module _ (P : Program) (rel : ℕ → List PathData) (A : Assignment) where
  -- what the part does by itself at the set with which the walk comes to it
  abbrev pub own_at : Visit → Basic
  own_at v = own_of P rel A v.part v.held

  -- two steps or more, or one that a loop repeats, or one that is compound itself
  abbrev pub are_many : List Visit → Bool
  are_many vs = are_two vs || (are_looped vs || list_any (λ v. is_cmpd (own_at v)) vs)

  -- one step, which no loop repeats and which is atomic
  pub record IsOne (vs : List Visit) : Type 0 where
    pub step : Visit
    pub only : vs ≡ step ∷ []
    pub once : step.loop ≡ None
    pub atomic : own_at step ≡ Atomic

  -- the first that is an error by itself
  abbrev pub first_error : List Visit → Option Visit
  first_error vs = first_where (λ v. is_error (own_at v)) vs

  -- a visit of the list is an error by itself, and none before it is
  pub record IsFirstError (vs : List Visit) (v : Visit) : Type 0 where
    pub error : own_at v ≡ Error
    pub first : IsFirstVisit (λ w. is_error (own_at w)) vs v
