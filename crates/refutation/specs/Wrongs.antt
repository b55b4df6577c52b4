-- Why a list of lines is no certificate.
use Rattle.std.specs.Prelude.{◌≡◌, ℕ, suc, ◌-◌, ◌<◌, Bool, true, false, List, length, take, Some, slice_get}
use Rattle.paths.specs.Paths.{PathData}
use Rattle.core_program.specs.Core.{Program}
use Rattle.refutation.specs.Lines.{LineData}
use Rattle.refutation.specs.Certificates.{is_placed, is_justified, breaks}
use Rattle.refutation.specs.Works.{IsOverWork}
use Rattle.refutation.specs.declared.check.BlameWrong.{BlameWrong}
use Rattle.refutation.specs.declared.check.BlameWrong.TheVariants as wrong

-- the line at a place has its place in the program
abbrev pub placed_at : Program → (rel : ℕ → List PathData) → ℕ → LineData → Bool
placed_at P rel k l = is_placed P rel l

-- the line at a place of the list follows from those before it
abbrev pub justified_at : Program → (rel : ℕ → List PathData) → List LineData → ℕ → LineData → Bool
justified_at P rel lines k l = is_justified P rel (take k lines) l

-- the lines before a place pass a test
abbrev pub PassBefore : (ℕ → LineData → Bool) → List LineData → ℕ → Type 0
PassBefore test lines n = (k : ℕ) (l : LineData) → k < n → slice_get lines k ≡ Some l → test k l ≡ true

-- all lines pass a test
abbrev pub AllPass : (ℕ → LineData → Bool) → List LineData → Type 0
AllPass test lines = (k : ℕ) (l : LineData) → slice_get lines k ≡ Some l → test k l ≡ true

-- the line at a place fails a test, and those before it pass
pub record IsFirstFailing (test : ℕ → LineData → Bool) (lines : List LineData) (k : ℕ) : Type 0 where
  pub line : LineData
  pub is : slice_get lines k ≡ Some line
  pub fails : test k line ≡ false
  pub before : PassBefore test lines k

-- the first cause in this order: a line without its place, one that doesn't follow, no broken bound; or what lines of the program can
-- take is above the bound of work. Lines count from 1.
abbrev pub IsWrongCertificate : Program → (rel : ℕ → List PathData) → List LineData → BlameWrong → Type 0
IsWrongCertificate P rel lines (wrong.Place n) = (k : ℕ) × (n ≡ suc k) × IsFirstFailing (placed_at P rel) lines k
IsWrongCertificate P rel lines (wrong.Step n) = (k : ℕ) × (n ≡ suc k) × AllPass (placed_at P rel) lines × IsFirstFailing (justified_at P rel lines) lines k
IsWrongCertificate P rel lines wrong.NoBound = AllPass (placed_at P rel) lines × AllPass (justified_at P rel lines) lines × (breaks P (slice_get lines (length lines - 1)) ≡ false)
IsWrongCertificate P rel lines wrong.NoMemory = Unit {0}
IsWrongCertificate P rel lines wrong.Work = AllPass (placed_at P rel) lines × IsOverWork P rel
