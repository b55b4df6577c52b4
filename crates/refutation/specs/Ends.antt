-- Why there is no certificate, and where the passes stand.
use Rattle.std.specs.Prelude.{◌≡◌, ℕ, Bool, true, List, [], ◌++◌, length, map, if◌then◌else◌}
use Rattle.std.specs.List.{AllByRecursion}
use Rattle.paths.specs.Paths.{PathData}
use Rattle.core_program.specs.Core.{Program}
use Rattle.rules.specs.Near.{MethodPaths, rel_of}
use Rattle.rules.specs.Effect.{Assignment}
use Rattle.rules.specs.Rules.{IsAdmissible}
use Rattle.algebra.specs.declared.basic.Basic.{Basic}
use Rattle.refutation.specs.Lines.{LineData, AreAscending}
use Rattle.refutation.specs.Passes.{MethodAtSet, LinesWritten, pass, Passes}
use Rattle.refutation.specs.Certificates.{AreCertificateLines, keeps_bound}
use Rattle.refutation.specs.Tables.{TablesSay}
use Rattle.refutation.specs.declared.passes.BlameEnd.{BlameEnd}
use Rattle.refutation.specs.declared.passes.BlameEnd.TheVariants as ends

-- there is no certificate, since an assignment is admissible; or there was no memory
abbrev pub IsBlameEnd : Program → (rel : ℕ → List PathData) → BlameEnd → Type 0
IsBlameEnd P rel ends.Accepted = (A : Assignment) × IsAdmissible P rel A
IsBlameEnd P rel ends.NoMemory = Unit {0}

-- the method at these sets of held paths
abbrev pub cells_at : ℕ → List (List PathData) → List MethodAtSet
cells_at m sets = map (λ held. record { method = m; held = held }) sets

-- where a pass goes on after some cells: it has ended there with these lines, or goes on with them
abbrev pub continued : Program → (rel : ℕ → List PathData) → List MethodAtSet → List LineData → (broken : Bool) → LinesWritten
continued P rel cs lines broken = if broken then record { all = lines; broken = true } else pass P rel cs lines

-- asked at these cells first, a pass goes from the first lines to the second, with whatever cells behind
abbrev pub IsPass : Program → (rel : ℕ → List PathData) → List MethodAtSet → (old new : List LineData) → (broken : Bool) → Type 0
IsPass P rel cells old new broken = (cs : List MethodAtSet) → pass P rel (cells ++ cs) old ≡ continued P rel cs new broken

-- what is kept agrees: these sets are the program's, each method has a table, the tables say what the lines say, whose paths ascend
pub record KeptAgrees (P : Program) (sets kept : List MethodPaths) (tables : List (List Basic)) (lines : List LineData) : Type 0 where
  pub same : kept ≡ sets
  pub size : length tables ≡ length P.methods
  pub says : TablesSay (rel_of kept) tables lines
  pub ascend : AreAscending lines

-- the passes from these lines on end as those from none
pub record IsGoing (P : Program) (rel : ℕ → List PathData) (lines : List LineData) : Type 0 where
  pub each : AreCertificateLines P rel lines
  pub within : AllByRecursion (λ l. keeps_bound P l.method l.found ≡ true) lines
  pub back : (e : LinesWritten) → Passes P rel lines e → Passes P rel [] e
