-- What the bytes of a source can be, as far as exit statuses tell it.
use Rattle.std.specs.Prelude.{ℕ, List}
use Rattle.core_program.specs.Core.{Program}
use Rattle.rules.specs.Rules.{IsAccepted}
use Rattle.syntax.specs.Trees.{ProgramTree}
use Rattle.sources.specs.declared.refusal.Ending.{Ending}
use Rattle.sources.specs.declared.refusal.Ending.TheVariants.{Done, Refused, Inadmissible}
use Rattle.sources.specs.Programs.{IsProgram}
use Rattle.sources.specs.Checking.{IsWellFormedSource}

-- the bytes are a program of the grammar
abbrev pub IsProgramText : List ℕ → Type 0
IsProgramText file = (tree : ProgramTree) × IsProgram file tree

-- the bytes are no program of the grammar
abbrev pub IsNoProgram : List ℕ → Type 0
IsNoProgram file = (tree : ProgramTree) → IsProgram file tree → ⊥

-- the bytes are no well-formed source
abbrev pub IsNotWellFormed : List ℕ → Type 0
IsNotWellFormed file = (tree : ProgramTree) (P : Program) → IsWellFormedSource file tree P → ⊥

-- the bytes are a well-formed source for which no assignment is admissible
abbrev pub HasNoAssignment : List ℕ → Type 0
HasNoAssignment file = (tree : ProgramTree) × (P : Program) × IsWellFormedSource file tree P × (IsAccepted P → ⊥)

-- the bytes are an accepted source: a well-formed one for which some assignment is admissible
abbrev pub IsAcceptedSource : List ℕ → Type 0
IsAcceptedSource file = (tree : ProgramTree) × (P : Program) × IsWellFormedSource file tree P × IsAccepted P

-- what an ending says of a file that is no accepted source
abbrev pub RefusedAs : List ℕ → Ending → Type 0
RefusedAs file Refused = IsNotWellFormed file
RefusedAs file Inadmissible = HasNoAssignment file
RefusedAs file _ = ⊥

-- when a command that judges a source alone ends how
abbrev pub CheckFact : List ℕ → Ending → Type 0
CheckFact file Refused = IsNotWellFormed file
CheckFact file Inadmissible = HasNoAssignment file
CheckFact file Done = IsAcceptedSource file
CheckFact file _ = ⊥
