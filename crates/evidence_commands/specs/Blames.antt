-- `blame FILE`: judges the source, and writes the certificate that refuses it, where no assignment is admissible.
use Rattle.std.specs.Prelude.{ℕ, true, List, []}
use Rattle.core_program.specs.Core.{Program}
use Rattle.rules.specs.Near.{MethodPaths, AreRelevant, rel_of}
use Rattle.rules.specs.Rules.{IsAccepted}
use Rattle.syntax.specs.Trees.{ProgramTree}
use Rattle.refutation.specs.Lines.{LineData}
use Rattle.refutation.specs.Certificates.{IsCertificate}
use Rattle.refutation.specs.Passes.{Passes}
use Rattle.refutation.specs.Texts.{IsCertificateText}
use Rattle.sources.specs.declared.refusal.Ending.{Ending}
use Rattle.sources.specs.declared.refusal.Ending.TheVariants as ending
use Rattle.sources.specs.Checking.{IsWellFormedSource, NoSource}
use Rattle.sources.specs.Facts.{IsNotWellFormed, HasNoAssignment, IsAcceptedSource}
use Rattle.evidence_commands.specs.CertificateLines.{nothing_line}

-- the bytes are the text of the certificate that the passes write
pub record IsWrittenText (P : Program) (out : List ℕ) : Type 0 where
  pub sets : List MethodPaths
  pub relevant : AreRelevant P sets
  pub lines : List LineData
  pub written : Passes P (rel_of sets) [] (record { all = lines; broken = true })
  pub certificate : IsCertificate P (rel_of sets) lines
  pub text : IsCertificateText out lines

-- the line that refuses the source, or that says that it is accepted; or the text of the certificate of a source with no admissible assignment
pub data BlameAnswer (file : List ℕ) : Ending → List ℕ → Type 0 where
  no_source : {ending : Ending} {line : List ℕ} → NoSource file ending line → BlameAnswer file ending line
  accepted : (tree : ProgramTree) (P : Program) → IsWellFormedSource file tree P → IsAccepted P → BlameAnswer file ending.NothingToBlame nothing_line
  blamed : {out : List ℕ} (tree : ProgramTree) (P : Program) → IsWellFormedSource file tree P → (IsAccepted P → ⊥) → IsWrittenText P out → BlameAnswer file ending.Done out

-- when `blame` ends how
abbrev pub BlameFact : List ℕ → Ending → Type 0
BlameFact file ending.Refused = IsNotWellFormed file
BlameFact file ending.NothingToBlame = IsAcceptedSource file
BlameFact file ending.Done = HasNoAssignment file
BlameFact file _ = ⊥
