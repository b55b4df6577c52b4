-- The sentence that the program is for: each explanation is told or counted, of exactly the methods whose bound the least closed
-- assignment breaks, and status 2 comes exactly where there is one; which is exactly where no assignment of atomicities is admissible. By
-- `--strict` the same, of the bounds that methods have where each counts as `atomic` but those that threads begin with.
use Rattle.std.specs.Prelude.{◌≡◌, ◌≢◌, ◌↔◌, ℕ, ◌≤◌, false, List, [], ◌∷◌, ◌++◌, Contains, Some, length, slice_get, ◌⊎◌}
use Rattle.std.specs.Io.KnownBytes.{Appends}
use Rattle.lexer.specs.Limits.{longest_source}
use Rattle.algebra.specs.declared.basic.Basic.{Basic}
use Rattle.algebra.specs.Basics.{below_of}
use Rattle.core_program.specs.Core.{Program, Method}
use Rattle.explain.specs.declared.names.Alias.{Alias}
use Rattle.explain.specs.declared.names.Lack.{Lack}
use Rattle.explain.specs.Causes.{cause_of}
use Rattle.explain.specs.declared.grounds.Ground.{Ground}
use Rattle.explain.specs.Fitting.{IsFitting, fitting}
use Rattle.explain.specs.Grounds.{level_at}
use Rattle.explain.specs.Leads.{IsReasonChain, IsReasonBy, LeadsAreTold, RunsInCircle}
use Rattle.explain.specs.Whys.{ExplainedData, Wrong}
use Rattle.edge.specs.Calls.{Call, HasNoFault}
use Rattle.reasons.specs.Causing.{IsCause}
use Rattle.rules.specs.Effect.{Assignment}
use Rattle.rules.specs.Near.{MethodPaths, rel_of}
use Rattle.rules.specs.Overriding.{AreOverriders}
use Rattle.rules.specs.Search.{row_at}
use Rattle.sources.specs.Checking.{IsWellFormedSource}
use Rattle.sources.specs.Verdicts.{HasLeast}
use Rattle.syntax.specs.Trees.{ProgramTree}
use Rattle.explain.specs.Visits.{Visit}
use Rattle.explain_commands.specs.declared.words.Order.{Order}
use Rattle.explain_commands.specs.declared.words.Order.TheVariants.{Why, All, Strict}
use Rattle.explain_commands.specs.Answers.{pages_of}
use Rattle.explain_text.specs.Arrangements.{arranged, told_or_counted}
use Rattle.explain_commands.specs.Broken.{refused_in}
use Rattle.explain_commands.specs.Explained.{AreTexts}
use Rattle.explain_commands.specs.Placed.{IsNamedBy, StandsInPlace}
use Rattle.explain_commands.specs.Orders.{IsAcceptedFor, bounds_for, broken_for, explanations_for}
use Rattle.explain_commands.specs.Warned.{warnings_text}
use Rattle.explain_commands.specs.Words.{AsksFor}

-- what the call wrote of the program of a well-formed source
pub record TellsBroken (order : Order) (call : Call) (name file : List ℕ) (tree : ProgramTree) (P : Program) : Type 0 where
  -- the relevant sets of the program, its least closed assignment, and for each method those that override it
  pub sets : List MethodPaths
  pub assignment : Assignment
  pub least : HasLeast P sets assignment
  pub overs : List (List ℕ)
  pub are_overs : AreOverriders P overs
  -- on what the explanation of each method rests: its rank, and the level by which it is told, if it isn't told as it is
  pub grounds : List Ground
  -- the lines are those of the explanations, and by `--strict` behind them the warnings
  pub text : List ℕ
  pub texts : AreTexts P (rel_of sets) assignment (pages_of name file tree) (row_at overs) (arranged P (rel_of sets) (explanations_for order P (rel_of sets) assignment (row_at overs) grounds)) text
  pub written : Appends call.written_before call.written_after (text ++ warnings_text order P (pages_of name file tree))
  -- each explanation is told, or counted at one that is told for the same error of a callee
  pub counts : told_or_counted (arranged P (rel_of sets) (explanations_for order P (rel_of sets) assignment (row_at overs) grounds)) ≡ length (explanations_for order P (rel_of sets) assignment (row_at overs) grounds)
  -- those of refused methods are of exactly the methods whose bound the assignment breaks, in source order
  pub methods : refused_in (explanations_for order P (rel_of sets) assignment (row_at overs) grounds) ≡ broken_for order P assignment
  -- each method that is told is more than it may be, also one to which another leads, and has a reason, which is so
  pub above : (x : ExplainedData) → Contains (explanations_for order P (rel_of sets) assignment (row_at overs) grounds) x → below_of x.found x.limit ≡ false
  pub reasons : (x : ExplainedData) → Contains (explanations_for order P (rel_of sets) assignment (row_at overs) grounds) x → (method : Method) → slice_get P.methods x.method ≡ Some method
      → IsReasonBy P (rel_of sets) assignment (row_at overs x.method) method (level_at grounds x.method) x.limit x.why
  -- and the methods that are told are closed: each method by which one of them is compound, or that overrides it and is more, is told too,
  -- unless it is atomic
  pub closed : LeadsAreTold P assignment (explanations_for order P (rel_of sets) assignment (row_at overs) grounds)
  -- a method is told by a level only where its explanation as it is runs into a circle
  pub levels : (m : ℕ) (level : Basic) → level_at grounds m ≡ Some level → RunsInCircle (bounds_for order) P (rel_of sets) assignment (row_at overs) m
  -- no chain of told methods, each of which is what it is by the next, comes back to where it began
  pub circle : (x : ExplainedData) → IsReasonChain P (rel_of sets) (explanations_for order P (rel_of sets) assignment (row_at overs) grounds) x x → ⊥
  -- and so has each access or call that lacks a lock: the line tells what lacks there
  pub causes : (x : ExplainedData) → Contains (explanations_for order P (rel_of sets) assignment (row_at overs) grounds) x → (v : Visit) → x.why ≡ Wrong v
      → (aliases : List Alias) → IsCause P (rel_of sets) assignment v.held v.part (cause_of P (rel_of sets) aliases v.held v.part)
  -- where the lines of a method say of a variable or a field that it isn't final, it can be: nothing assigns to the variable again, and no method
  -- to the field, which `Main` hasn't got; and with it final the method's body is at most what the method may be
  pub finals : (x : ExplainedData) → Contains (explanations_for order P (rel_of sets) assignment (row_at overs) grounds) x → (method : Method) → slice_get P.methods x.method ≡ Some method
      → (aliases : List Alias) (lack : Lack) → fitting P (rel_of sets) assignment aliases x ≡ Some lack → IsFitting P (rel_of sets) assignment method x.limit lack
  -- the lines of each part that a reason names stand where that stands of which elaboration made the part, and name slots as the source
  -- names the variables in scope there
  pub places : (x : ExplainedData) → Contains (explanations_for order P (rel_of sets) assignment (row_at overs) grounds) x → (method : Method) → slice_get P.methods x.method ≡ Some method → (v : Visit) → IsNamedBy x.why v
      → StandsInPlace tree (pages_of name file tree x.method) x.method method v
  -- status 2 comes exactly where there is one; else it is 0, and nothing is explained
  pub refused : (call.status ≡ 2) ↔ (broken_for order P assignment ≢ [])
  pub accepted : (call.status ≡ 0) ↔ (broken_for order P assignment ≡ [])
  pub silent : call.status ≡ 0 → text ≡ []
  -- which is exactly where no assignment is admissible
  pub inadmissible : (call.status ≡ 2) ↔ (IsAcceptedFor order P → ⊥)
  pub admissible : (call.status ≡ 0) ↔ IsAcceptedFor order P

-- explanations are asked for
abbrev pub AsksToExplain : Order → Type 0
AsksToExplain Why = Unit {0}
AsksToExplain All = ⊥
AsksToExplain Strict = Unit {0}

-- where the words ask for the explanations of a file that is told and within its limit, and nothing failed: of a well-formed source, unless
-- memory is refused, the call writes that
abbrev pub ExplainsBroken : Call → Type 0
ExplainsBroken call =
    (order : Order) (name file : List ℕ) → AsksToExplain order → AsksFor call.words order name → call.told name ≡ Some file → length file ≤ longest_source → HasNoFault call (name ∷ [])
    → (tree : ProgramTree) (P : Program) → IsWellFormedSource file tree P → (call.status ≡ 8) ⊎ TellsBroken order call name file tree P
