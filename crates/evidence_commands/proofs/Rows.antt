-- Refusals and answers of the rows on certificates.
use Rattle.std.proofs.Common.{◌≡◌, ◌≢◌, ◌-◌, ℕ, List, [], true, Some, Result, Ok, Err, IfOk, MatchResult, String, Global, length, take, slice_get, string_bytes, refl, sym, subst}
use Rattle.std.proofs.lemmas.Bool.{both_ways}
use Rattle.core_program.specs.Core.{Program}
use Rattle.core_program.specs.Views.{program_of}
use Rattle.rules.specs.Near.{MethodPaths, AreRelevant, rel_of}
use Rattle.rules.specs.Effect.{Assignment}
use Rattle.rules.specs.Rules.{IsAdmissible, IsAccepted}
use Rattle.rules.proofs.UniqueSets.{unique_sets}
use Rattle.refutation.specs.Lines.{LineData}
use Rattle.refutation.specs.Certificates.{IsCertificate, is_placed, is_justified, breaks}
use Rattle.refutation.specs.Passes.{Passes}
use Rattle.refutation.specs.Wrongs.{IsWrongCertificate}
use Rattle.refutation.specs.declared.check.BlameWrong.{BlameWrong}
use Rattle.refutation.specs.declared.check.BlameWrong.TheVariants as wrong
use Rattle.refutation.proofs.Below.{certificate_rejects}
use Rattle.refutation.specs.declared.text_reader.BlameFault.{BlameFault}
use Rattle.refutation.specs.declared.text_reader.BlameFault.TheVariants as faults
use Rattle.refutation.specs.Reading.{first_certificate_fault}
use Rattle.refutation.specs.Texts.{IsCertificateText}
use Rattle.refutation.proofs.TextLaws.{one_blame, no_fault}
use Rattle.sources.specs.declared.checking.Source.{Source}
use Rattle.sources.specs.declared.refusal.Ending.TheVariants as ending
use Rattle.sources.specs.declared.refusal.Refusal.{Refusal}
use Rattle.sources.specs.declared.refusal.Refusal.TheVariants.{NoMemory}
use Rattle.sources.specs.Refusals.{IsRight, Tells}
use Rattle.sources.specs.Checking.{NoSource, IsSourceOf}
use Rattle.sources.proofs.Told.{right_of_more, right_refusal}
use Rattle.sources.proofs.Verdicts.{well_formed_source}
use Rattle.evidence_commands.specs.CertificateLines.{nothing_line, verified_certificate_line, wrong_certificate_line}
use Rattle.evidence_commands.specs.RefusedCertificates.{IsFaultLine}
use Rattle.evidence_commands.specs.Blames.{BlameAnswer, no_source as no_source_blamed, accepted, blamed}
use Rattle.evidence_commands.specs.Verifying.{HasCertificate, NoCertificate, form, wrong_first, VerifyBlameAnswer, no_certificate, verified}

pub blame_source_refused : (file : List ℕ) (r : Refusal) → IsRight (NoSource file) r → IsRight (BlameAnswer file) r
blame_source_refused file r is = right_of_more (NoSource file) (BlameAnswer file) (λ ended line i. no_source_blamed i) r is

-- a source with a certificate, and the text of it
pub blamed_text : (file out : List ℕ) (source : Source) (lines : List LineData) → IsSourceOf file source → Passes (program_of source.program) (rel_of source.sets) [] (record { all = lines; broken = true })
    → IsCertificate (program_of source.program) (rel_of source.sets) lines → IsCertificateText out lines → BlameAnswer file ending.Done out
blamed_text file out source lines is written certificate text =
    let P = program_of source.program in
    blamed is.0 P (well_formed_source file is.0 source is.1) (certificate_rejects P source.sets lines is.1.relevant certificate)
    (record { sets = source.sets; relevant = is.1.relevant; lines = lines; written = written; certificate = certificate; text = text })

-- a source with an admissible assignment is accepted
pub admissible_accepts : (file : List ℕ) (source : Source) → IsSourceOf file source → (A : Assignment) × IsAdmissible (program_of source.program) (rel_of source.sets) A → IsAccepted (program_of source.program)
admissible_accepts file source is found = record { sets = source.sets; relevant = is.1.relevant; few = is.1.few; assignment = found.0; admissible = found.1 }

-- the refusal of an accepted source
pub nothing_right : (file : List ℕ) (source : Source) (r : Refusal) → IsSourceOf file source → (A : Assignment) × IsAdmissible (program_of source.program) (rel_of source.sets) A → Tells ending.NothingToBlame nothing_line r → IsRight (BlameAnswer file) r
nothing_right file source r is found tells =
    right_refusal (BlameAnswer file) ending.NothingToBlame nothing_line r
    (accepted is.0 (program_of source.program) (well_formed_source file is.0 source is.1) (admissible_accepts file source is found)) tells

-- a certificate that was checked
pub verified_text : (file bytes out : List ℕ) (source : Source) (lines : List LineData) → IsSourceOf file source → IsCertificateText bytes lines → IsCertificate (program_of source.program) (rel_of source.sets) lines
    → out ≡ verified_certificate_line → VerifyBlameAnswer file bytes ending.Done out
verified_text file bytes out source lines is text certificate e =
    let P = program_of source.program in
    subst (VerifyBlameAnswer file bytes ending.Done) (sym e)
    (verified is.0 P (well_formed_source file is.0 source is.1) (certificate_rejects P source.sets lines is.1.relevant certificate)
    (record { sets = source.sets; relevant = is.1.relevant; lines = lines; text = text; certificate = certificate }))

-- lines with which something is wrong are no certificate
not_certificate : (P : Program) (sets : List MethodPaths) (lines : List LineData) (fault : BlameWrong) → IsWrongCertificate P (rel_of sets) lines fault → fault ≢ wrong.NoMemory → fault ≢ wrong.Work → IsCertificate P (rel_of sets) lines → ⊥
not_certificate P sets lines (wrong.Place n) is told idle c = both_ways (is_placed P (rel_of sets) is.2.line) is.2.fails (c.each.placed is.0 is.2.line is.2.is)
not_certificate P sets lines (wrong.Step n) is told idle c = both_ways (is_justified P (rel_of sets) (take is.0 lines) is.3.line) is.3.fails (c.each.steps is.0 is.3.line is.3.is)
not_certificate P sets lines wrong.NoBound is told idle c = both_ways (breaks P (slice_get lines (length lines - 1))) is.2 c.broken
not_certificate P sets lines wrong.NoMemory is told idle c = told refl
not_certificate P sets lines wrong.Work is told idle c = idle refl

-- so a text of such lines is no certificate's
no_certificate_text : (P : Program) (sets : List MethodPaths) (bytes : List ℕ) (lines : List LineData) (fault : BlameWrong) → AreRelevant P sets → IsCertificateText bytes lines → IsWrongCertificate P (rel_of sets) lines fault → fault ≢ wrong.NoMemory → fault ≢ wrong.Work
    → HasCertificate P bytes → ⊥
no_certificate_text P sets bytes lines fault relevant text is told idle has =
    not_certificate P sets lines fault is told idle
    (subst (λ ls. IsCertificate P (rel_of sets) ls) (one_blame bytes has.lines lines has.text text)
    (subst (λ s. IsCertificate P (rel_of s) has.lines) (unique_sets P has.sets sets has.relevant relevant) has.certificate))

-- the refusal of lines with which something is wrong
pub wrong_right : {E : Type 0} (file bytes : List ℕ) (source : Source) (lines : List LineData) (fault : BlameWrong) (line : Result (String Global) E) (r : Refusal) → IsSourceOf file source → IsCertificateText bytes lines
    → IsWrongCertificate (program_of source.program) (rel_of source.sets) lines fault → IfOk line (λ l. (fault ≢ wrong.NoMemory) × (fault ≢ wrong.Work) × (string_bytes l ≡ wrong_certificate_line fault))
    → MatchResult line (λ l. Tells ending.BlameRefused (string_bytes l) r) (λ e. r ≡ NoMemory) → IsRight (VerifyBlameAnswer file bytes) r
wrong_right file bytes source lines fault (Err e) r is text fails told same = subst (IsRight (VerifyBlameAnswer file bytes)) (sym same) tt
wrong_right file bytes source lines fault (Ok l) r is text fails told tells =
    let P = program_of source.program in
    right_refusal (VerifyBlameAnswer file bytes) ending.BlameRefused (string_bytes l) r
    (no_certificate is.0 P (well_formed_source file is.0 source is.1) (no_certificate_text P source.sets bytes lines fault is.1.relevant text fails told.0 told.1)
    (subst (NoCertificate P bytes) (sym told.2) (wrong_first source.sets lines fault is.1.relevant text fails told.0 told.1)))
    tells

-- the refusal of a text that no lines have
pub form_right : {E : Type 0} (file bytes : List ℕ) (source : Source) (fault : BlameFault) (line : Result (String Global) E) (r : Refusal) → IsSourceOf file source → ((place : ℕ) → fault ≡ faults.Form place → first_certificate_fault bytes ≡ Some place)
    → IfOk line (λ l. IsFaultLine fault (string_bytes l)) → MatchResult line (λ l. Tells ending.BlameRefused (string_bytes l) r) (λ e. r ≡ NoMemory) → IsRight (VerifyBlameAnswer file bytes) r
form_right file bytes source fault (Err e) r is at told same = subst (IsRight (VerifyBlameAnswer file bytes)) (sym same) tt
form_right file bytes source (faults.Form place) (Ok l) r is at told tells =
    let P = program_of source.program in
    let first = at place refl in
    right_refusal (VerifyBlameAnswer file bytes) ending.BlameRefused (string_bytes l) r
    (no_certificate is.0 P (well_formed_source file is.0 source is.1) (λ has. no_fault bytes has.lines place has.text first) (subst (NoCertificate P bytes) (sym told) (form place first)))
    tells
form_right file bytes source faults.NoMemory (Ok l) r is at told tells = absurd told
