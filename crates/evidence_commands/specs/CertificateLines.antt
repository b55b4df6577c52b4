-- The lines that `blame` and `verify-blame` write beside certificates.
use Rattle.std.specs.Prelude.{ℕ, List, ◌++◌, codes, decimal}
use Rattle.refutation.specs.declared.check.BlameWrong.{BlameWrong}
use Rattle.refutation.specs.declared.check.BlameWrong.TheVariants as wrong
use Rattle.report.specs.Refused.{refused_at_line}

-- there is no certificate, since the source is accepted
abbrev pub nothing_line : List ℕ
nothing_line = codes "nothing to blame\n"

-- the certificate refuses the source
abbrev pub verified_certificate_line : List ℕ
verified_certificate_line = codes "refusal verified\n"

-- the text goes wrong at this byte
abbrev pub certificate_form_line : ℕ → List ℕ
certificate_form_line place = refused_at_line (codes "blame") place (codes "form")

-- a line of the certificate is wrong
abbrev pub line_line : ℕ → List ℕ → List ℕ
line_line line kind = codes "blame refused: line " ++ decimal line ++ codes ": " ++ kind ++ codes "\n"

-- what is wrong with the lines first; none for want of memory, or for too much work
abbrev pub wrong_certificate_line : BlameWrong → List ℕ
wrong_certificate_line (wrong.Place line) = line_line line (codes "place")
wrong_certificate_line (wrong.Step line) = line_line line (codes "step")
wrong_certificate_line wrong.NoBound = codes "blame refused: no bound broken\n"
wrong_certificate_line wrong.NoMemory = codes ""
wrong_certificate_line wrong.Work = codes ""
