-- The line for the first fault of a text.
use Rattle.std.specs.Prelude.{◌≡◌, ℕ, List}
use Rattle.refutation.specs.declared.text_reader.BlameFault.{BlameFault}
use Rattle.refutation.specs.declared.text_reader.BlameFault.TheVariants as faults
use Rattle.evidence_commands.specs.CertificateLines.{certificate_form_line}

-- the fault isn't want of memory, and this is its line
abbrev pub IsFaultLine : BlameFault → List ℕ → Type 0
IsFaultLine (faults.Form place) line = line ≡ certificate_form_line place
IsFaultLine faults.NoMemory line = ⊥
