-- What is asked of a program: which bounds its methods have to keep, and which are told.
use Rattle.std.specs.Prelude.{◌≡◌, ℕ, Bool, true, false, List}
use Rattle.core_program.specs.Core.{Program}
use Rattle.explain.specs.declared.grounds.Ground.{Ground}
use Rattle.explain.specs.declared.ranking.Bounds.{Bounds}
use Rattle.explain.specs.declared.ranking.Bounds.TheVariants as bounds
use Rattle.explain.specs.Programs.{explanations}
use Rattle.explain.specs.Ranking.{AreAllRanked}
use Rattle.explain.specs.Strict.{IsStrictlyAccepted, keep_all, strict_explanations, strictly_broken}
use Rattle.explain.specs.Whys.{ExplainedData}
use Rattle.paths.specs.Paths.{PathData}
use Rattle.rules.specs.Effect.{Assignment}
use Rattle.rules.specs.Rules.{IsAccepted}
use Rattle.sources.specs.declared.refusal.Ending.{Ending}
use Rattle.sources.specs.declared.refusal.Ending.TheVariants.{Done, Inadmissible}
use Rattle.sources.specs.Checking.{IsWellFormedSource}
use Rattle.syntax.specs.Trees.{ProgramTree}
use Rattle.explain_commands.specs.declared.words.Order.{Order}
use Rattle.explain_commands.specs.declared.words.Order.TheVariants.{Why, All, Strict}
use Rattle.explain_commands.specs.Broken.{broken_methods}

-- the numbers of the methods that break their bounds, in source order: those that they declare, or those that they have where each counts as
-- `atomic`
abbrev pub broken_for : Order → Program → Assignment → List ℕ
broken_for Why P A = broken_methods P A
broken_for All P A = broken_methods P A
broken_for Strict P A = strictly_broken P A

-- which bounds are asked for
abbrev pub bounds_for : Order → Bounds
bounds_for Why = bounds.Declared
bounds_for All = bounds.Declared
bounds_for Strict = bounds.Strict

-- the explanations of these methods
abbrev pub explanations_for : Order → Program → (rel : ℕ → List PathData) → Assignment → (overs : ℕ → List ℕ) → (grounds : List Ground) → List ExplainedData
explanations_for Why P rel A overs grounds = explanations P rel A overs grounds
explanations_for All P rel A overs grounds = explanations P rel A overs grounds
explanations_for Strict P rel A overs grounds = strict_explanations P rel A overs grounds

-- these are the explanations that are asked for, by ranks that are given to all methods that can get one
pub record AreExplained (order : Order) (P : Program) (rel : ℕ → List PathData) (A : Assignment) (overs : ℕ → List ℕ) (xs : List ExplainedData) : Type 0 where
  pub grounds : List Ground
  pub are_grounds : AreAllRanked (bounds_for order) P rel A overs grounds
  pub xs_are : xs ≡ explanations_for order P rel A overs grounds

-- the program is accepted, with these bounds
abbrev pub IsAcceptedFor : Order → Program → Type 0
IsAcceptedFor Why P = IsAccepted P
IsAcceptedFor All P = IsAccepted P
IsAcceptedFor Strict P = IsStrictlyAccepted P

-- what an ending says of a program
abbrev pub IsProgramVerdict : Order → Program → Ending → Type 0
IsProgramVerdict order P Done = IsAcceptedFor order P
IsProgramVerdict order P Inadmissible = IsAcceptedFor order P → ⊥
IsProgramVerdict order P _ = ⊥

-- the bytes are a well-formed source whose program is accepted so
abbrev pub IsAcceptedSourceFor : Order → (file : List ℕ) → Type 0
IsAcceptedSourceFor order file = (tree : ProgramTree) × (P : Program) × IsWellFormedSource file tree P × IsAcceptedFor order P

-- the bytes are a well-formed source whose program isn't
abbrev pub IsRefusedSourceFor : Order → (file : List ℕ) → Type 0
IsRefusedSourceFor order file = (tree : ProgramTree) × (P : Program) × IsWellFormedSource file tree P × (IsAcceptedFor order P → ⊥)

-- how it ends by whether all keep the bounds that they have where each counts as `atomic`
abbrev pub strict_ending : (keep : Bool) → Ending
strict_ending true = Done
strict_ending false = Inadmissible

-- how it ends where it ends so by the bounds that methods declare
abbrev pub ending_in : Order → Program → Assignment → (declared : Ending) → Ending
ending_in Why P A declared = declared
ending_in All P A declared = declared
ending_in Strict P A declared = strict_ending (keep_all P A)
