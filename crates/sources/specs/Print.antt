-- `print FILE`: lexes and parses only.
use Rattle.std.specs.Prelude.{ℕ, List}
use Rattle.printer.specs.Printing.{canonical}
use Rattle.printer.specs.Reprinted.{ReadsBack}
use Rattle.syntax.specs.Trees.{ProgramTree}
use Rattle.sources.specs.declared.refusal.Ending.{Ending}
use Rattle.sources.specs.declared.refusal.Ending.TheVariants.{Done, Refused}
use Rattle.sources.specs.Programs.{IsProgram, NoProgram}
use Rattle.sources.specs.Facts.{IsProgramText, IsNoProgram}

-- the line that refuses the source; or the canonical text of its tree, which reads back as that tree but for offsets
pub data PrintAnswer (file : List ℕ) : Ending → List ℕ → Type 0 where
  no_program : {ending : Ending} {line : List ℕ} → NoProgram file ending line → PrintAnswer file ending line
  printed : (tree : ProgramTree) → IsProgram file tree → ReadsBack (canonical tree) tree → PrintAnswer file Done (canonical tree)

-- when `print` ends how
abbrev pub PrintFact : List ℕ → Ending → Type 0
PrintFact file Refused = IsNoProgram file
PrintFact file Done = IsProgramText file
PrintFact file _ = ⊥
