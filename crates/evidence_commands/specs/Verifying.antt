-- `verify-blame FILE CERT`: judges the source, without the rules of atomicity, and then the certificate, whoever wrote it.
use Rattle.std.specs.Prelude.{◌≡◌, ◌≢◌, ℕ, List, Some}
use Rattle.core_program.specs.Core.{Program}
use Rattle.rules.specs.Near.{MethodPaths, AreRelevant, rel_of}
use Rattle.rules.specs.Rules.{IsAccepted}
use Rattle.syntax.specs.Trees.{ProgramTree}
use Rattle.refutation.specs.Lines.{LineData}
use Rattle.refutation.specs.Certificates.{IsCertificate}
use Rattle.refutation.specs.Wrongs.{IsWrongCertificate}
use Rattle.refutation.specs.declared.check.BlameWrong.{BlameWrong}
use Rattle.refutation.specs.declared.check.BlameWrong.TheVariants as wrong
use Rattle.refutation.specs.Reading.{first_certificate_fault}
use Rattle.refutation.specs.Texts.{IsCertificateText}
use Rattle.sources.specs.declared.refusal.Ending.{Ending}
use Rattle.sources.specs.declared.refusal.Ending.TheVariants as ending
use Rattle.sources.specs.Checking.{IsWellFormedSource, NoSource}
use Rattle.sources.specs.Facts.{IsNotWellFormed}
use Rattle.evidence_commands.specs.CertificateLines.{verified_certificate_line, certificate_form_line, wrong_certificate_line}

-- the bytes are the text of a certificate of refusal of the program
pub record HasCertificate (P : Program) (bytes : List ℕ) : Type 0 where
  pub sets : List MethodPaths
  pub relevant : AreRelevant P sets
  pub lines : List LineData
  pub text : IsCertificateText bytes lines
  pub certificate : IsCertificate P (rel_of sets) lines

-- the line that refuses bytes for a program: the first fault of a text that no lines have, or what is wrong with its lines first
pub data NoCertificate (P : Program) (bytes : List ℕ) : List ℕ → Type 0 where
  form : (place : ℕ) → first_certificate_fault bytes ≡ Some place → NoCertificate P bytes (certificate_form_line place)
  wrong_first : (sets : List MethodPaths) (lines : List LineData) (fault : BlameWrong) → AreRelevant P sets → IsCertificateText bytes lines
      → IsWrongCertificate P (rel_of sets) lines fault → fault ≢ wrong.NoMemory → fault ≢ wrong.Work → NoCertificate P bytes (wrong_certificate_line fault)

-- the line that refuses the source, else the certificate; or what is written where it is one, and so no assignment is admissible
pub data VerifyBlameAnswer (file bytes : List ℕ) : Ending → List ℕ → Type 0 where
  no_source : {ending : Ending} {line : List ℕ} → NoSource file ending line → VerifyBlameAnswer file bytes ending line
  no_certificate : {line : List ℕ} (tree : ProgramTree) (P : Program) → IsWellFormedSource file tree P → (HasCertificate P bytes → ⊥) → NoCertificate P bytes line
      → VerifyBlameAnswer file bytes ending.BlameRefused line
  verified : (tree : ProgramTree) (P : Program) → IsWellFormedSource file tree P → (IsAccepted P → ⊥) → HasCertificate P bytes → VerifyBlameAnswer file bytes ending.Done verified_certificate_line

-- when `verify-blame` ends how
abbrev pub VerifyBlameFact : List ℕ → List ℕ → Ending → Type 0
VerifyBlameFact file bytes ending.Refused = IsNotWellFormed file
VerifyBlameFact file bytes ending.BlameRefused = (tree : ProgramTree) × (P : Program) × IsWellFormedSource file tree P × (HasCertificate P bytes → ⊥)
VerifyBlameFact file bytes ending.Done = (tree : ProgramTree) × (P : Program) × IsWellFormedSource file tree P × (IsAccepted P → ⊥) × HasCertificate P bytes
VerifyBlameFact file bytes _ = ⊥
