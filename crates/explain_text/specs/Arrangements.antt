-- Which explanations are told, and in which order. First those of methods that have a reason of their own. Then, of those that are errors only
-- since methods that they call are errors, for each such method the first, with the number of the others.
use Rattle.std.specs.Prelude.{◌≡◌, ◌==◌, ℕ, ◌+◌, List, [], ◌∷◌, ◌++◌, Option, Some, None, count_by, if◌then◌else◌}
use Rattle.std.specs.List.{list_any}
use Rattle.core_program.specs.Core.{Program}
use Rattle.explain.specs.declared.causes.Cause.{Cause}
use Rattle.explain.specs.declared.causes.Cause.TheVariants as cause
use Rattle.explain.specs.Causes.{cause_of}
use Rattle.explain.specs.Whys.{WhyData, Wrong, ExplainedData}
use Rattle.explain.specs.declared.names.Alias.{Alias}
use Rattle.explain_text.specs.Blocks.{IsBlock, more_lines}
use Rattle.explain_text.specs.Pages.{PageData}
use Rattle.rules.specs.Effect.{Assignment}
use Rattle.paths.specs.Paths.{PathData}

-- the method that a call with this cause calls, where that is an error itself
abbrev pub refused_callee : Cause → Option ℕ
refused_callee (cause.Refused m) = Some m
refused_callee _ = None

-- the method for whose error alone one is an error that has this reason: the error that is told calls it, and it is an error itself. Where
-- there is an error of another cause, that is told.
abbrev pub blamed : Program → (rel : ℕ → List PathData) → WhyData → Option ℕ
blamed P rel (Wrong v) = refused_callee (cause_of P rel [] v.held v.part)
blamed P rel why = None

-- an explanation that is told, and how many more methods are errors for the same method and are only counted
pub record ArrangedData : Type 0 where
  pub told : ExplainedData
  pub more : ℕ

-- an explanation of an error, and the method for whose error alone it is one
pub record BlamingData : Type 0 where
  pub told : ExplainedData
  pub callee : ℕ

-- an explanation as one that is told by itself, where it blames no method
abbrev pub alone : ExplainedData → Option ℕ → List ArrangedData
alone x None = record { told = x; more = 0 } ∷ []
alone x (Some m) = []

-- the same as one that blames this method, where it does
abbrev pub behind : ExplainedData → Option ℕ → List BlamingData
behind x None = []
behind x (Some m) = record { told = x; callee = m } ∷ []

module _ (P : Program) (rel : ℕ → List PathData) where
  -- those with a reason of their own
  abbrev pub firsthand : List ExplainedData → List ArrangedData
  firsthand [] = []
  firsthand (x ∷ xs) = alone x (blamed P rel x.why) ++ firsthand xs

  -- the others
  abbrev pub secondhand : List ExplainedData → List BlamingData
  secondhand [] = []
  secondhand (x ∷ xs) = behind x (blamed P rel x.why) ++ secondhand xs

-- how many of these blame this method
abbrev pub how_many : ℕ → List BlamingData → ℕ
how_many m ys = count_by (λ y. y.callee == m) ys

-- of each blamed method, which isn't among these, the first that blames it, and how many more do
abbrev pub first_blaming : (seen : List ℕ) → List BlamingData → List ArrangedData
first_blaming seen [] = []
first_blaming seen (y ∷ ys) =
    if list_any (λ m. m == y.callee) seen
    then first_blaming seen ys
    else record { told = y.told; more = how_many y.callee ys } ∷ first_blaming (seen ++ y.callee ∷ []) ys

-- what is told of explanations
abbrev pub arranged : Program → (rel : ℕ → List PathData) → List ExplainedData → List ArrangedData
arranged P rel xs = firsthand P rel xs ++ first_blaming [] (secondhand P rel xs)

-- how many explanations are told or counted
abbrev pub told_or_counted : List ArrangedData → ℕ
told_or_counted [] = 0
told_or_counted (a ∷ xs) = 1 + a.more + told_or_counted xs

-- the lines of what is told: those of the method, and how many more are counted
pub record IsArrangedBlock (P : Program) (rel : ℕ → List PathData) (A : Assignment) (page : PageData) (overs : ℕ → List ℕ) (aliases : List Alias) (a : ArrangedData) (text : List ℕ) : Type 0 where
  pub block : List ℕ
  pub is : IsBlock P rel A page overs aliases a.told block
  pub text_is : text ≡ block ++ more_lines page a.told.why a.more
