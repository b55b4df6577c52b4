-- The lines of `levels`.
use Rattle.std.specs.Prelude.{ℕ, List, [], ◌∷◌, ◌++◌, codes, decimal}
use Rattle.classes.specs.Table.{TableData}
use Rattle.level_check.specs.declared.reader.LevelsFault.{LevelsFault}
use Rattle.level_check.specs.declared.reader.LevelsFault.TheVariants as faults
use Rattle.report.specs.Refused.{refused_at_line}
use Rattle.report.specs.States.{class_text}
use Rattle.report.specs.Verdicts.{title_text}

-- what is written where the program is ordered
abbrev pub ordered_line : List ℕ
ordered_line = codes "ordered" ++ 10 ∷ []

-- `levels refused: C KIND`
abbrev pub refused_class_line : TableData → ℕ → List ℕ → List ℕ
refused_class_line t class kind = codes "levels refused: " ++ class_text t class ++ codes " " ++ kind ++ codes "\n"

-- the line for the first fault of a text; none for want of memory
abbrev pub levels_fault_line : TableData → LevelsFault → List ℕ
levels_fault_line t (faults.Form place) = refused_at_line (codes "levels") place (codes "form")
levels_fault_line t (faults.Unknown place) = refused_at_line (codes "levels") place (codes "unknown")
levels_fault_line t (faults.Twice place) = refused_at_line (codes "levels") place (codes "twice")
levels_fault_line t (faults.Missing class) = refused_class_line t class (codes "has none")
levels_fault_line t (faults.Unequal class) = refused_class_line t class (codes "differs")
levels_fault_line t faults.NoMemory = codes ""

-- `C.m: takes D under level N`
abbrev pub takes_line : TableData → (method class under : ℕ) → List ℕ
takes_line t method class under = title_text t method ++ codes ": takes " ++ class_text t class ++ codes " under level " ++ decimal under ++ codes "\n"
