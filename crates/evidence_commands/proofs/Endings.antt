-- Which ending comes for the answers to `blame` and `verify-blame`.
use Rattle.std.proofs.Common.{◌≡◌, ℕ, List, refl, sym, subst}
use Rattle.core_program.specs.Core.{Program}
use Rattle.sources.specs.declared.refusal.Ending.{Ending}
use Rattle.sources.specs.declared.refusal.Ending.TheVariants as ending
use Rattle.sources.specs.Checking.{IsWellFormedSource}
use Rattle.sources.proofs.Apart.{same_core, no_source_is_none, no_source_ends, accepted_or_none}
use Rattle.syntax.specs.Trees.{ProgramTree}
use Rattle.evidence_commands.specs.Blames.{BlameAnswer, BlameFact, no_source as no_source_blamed, accepted, blamed}
use Rattle.evidence_commands.specs.Verifying.{VerifyBlameAnswer, VerifyBlameFact, HasCertificate, no_source, no_certificate, verified}

-- `blame`: each ending has its fact, and one alone
pub blame_caused : (file : List ℕ) (ended : Ending) (out : List ℕ) → BlameAnswer file ended out → BlameFact file ended
blame_caused file _ _ (no_source_blamed {ending = ended} {line = line} is) = subst (BlameFact file) (sym (no_source_ends file ended line is)) (no_source_is_none file ended line is)
blame_caused file _ _ (accepted tree P source is) = (tree, P, source, is)
blame_caused file _ _ (blamed tree P source none is) = (tree, P, source, none)

pub blame_apart : (file : List ℕ) (one other : Ending) → BlameFact file one → BlameFact file other → one ≡ other
blame_apart file ending.Done ending.Done f g = refl
blame_apart file ending.Done ending.Refused f g = absurd (g f.0 f.1 f.2)
blame_apart file ending.Done ending.NothingToBlame f g = absurd (accepted_or_none file g f)
blame_apart file ending.Refused ending.Done f g = absurd (f g.0 g.1 g.2)
blame_apart file ending.Refused ending.Refused f g = refl
blame_apart file ending.Refused ending.NothingToBlame f g = absurd (f g.0 g.1 g.2)
blame_apart file ending.NothingToBlame ending.Done f g = absurd (accepted_or_none file f g)
blame_apart file ending.NothingToBlame ending.Refused f g = absurd (g f.0 f.1 f.2)
blame_apart file ending.NothingToBlame ending.NothingToBlame f g = refl
blame_apart file ending.Inadmissible other f g = absurd f
blame_apart file ending.NoSchedule other f g = absurd f
blame_apart file ending.Stopped other f g = absurd f
blame_apart file ending.Open other f g = absurd f
blame_apart file ending.BookRefused other f g = absurd f
blame_apart file ending.BlameRefused other f g = absurd f
blame_apart file ending.LevelsRefused other f g = absurd f
blame_apart file ending.CallTooDeep other f g = absurd f
blame_apart file ending.Done ending.Inadmissible f g = absurd g
blame_apart file ending.Done ending.NoSchedule f g = absurd g
blame_apart file ending.Done ending.Stopped f g = absurd g
blame_apart file ending.Done ending.Open f g = absurd g
blame_apart file ending.Done ending.BookRefused f g = absurd g
blame_apart file ending.Done ending.BlameRefused f g = absurd g
blame_apart file ending.Done ending.LevelsRefused f g = absurd g
blame_apart file ending.Done ending.CallTooDeep f g = absurd g
blame_apart file ending.Refused ending.Inadmissible f g = absurd g
blame_apart file ending.Refused ending.NoSchedule f g = absurd g
blame_apart file ending.Refused ending.Stopped f g = absurd g
blame_apart file ending.Refused ending.Open f g = absurd g
blame_apart file ending.Refused ending.BookRefused f g = absurd g
blame_apart file ending.Refused ending.BlameRefused f g = absurd g
blame_apart file ending.Refused ending.LevelsRefused f g = absurd g
blame_apart file ending.Refused ending.CallTooDeep f g = absurd g
blame_apart file ending.NothingToBlame ending.Inadmissible f g = absurd g
blame_apart file ending.NothingToBlame ending.NoSchedule f g = absurd g
blame_apart file ending.NothingToBlame ending.Stopped f g = absurd g
blame_apart file ending.NothingToBlame ending.Open f g = absurd g
blame_apart file ending.NothingToBlame ending.BookRefused f g = absurd g
blame_apart file ending.NothingToBlame ending.BlameRefused f g = absurd g
blame_apart file ending.NothingToBlame ending.LevelsRefused f g = absurd g
blame_apart file ending.NothingToBlame ending.CallTooDeep f g = absurd g

-- `verify-blame`: the same
pub verify_blame_caused : (file bytes : List ℕ) (ended : Ending) (out : List ℕ) → VerifyBlameAnswer file bytes ended out → VerifyBlameFact file bytes ended
verify_blame_caused file bytes _ _ (no_source {ending = ended} {line = line} is) =
    subst (VerifyBlameFact file bytes) (sym (no_source_ends file ended line is)) (no_source_is_none file ended line is)
verify_blame_caused file bytes _ _ (no_certificate tree P source none is) = (tree, P, source, none)
verify_blame_caused file bytes _ _ (verified tree P source none has) = (tree, P, source, none, has)

-- a text is a certificate's for the program of a source, or for none
refused_or_none : (file bytes : List ℕ) (t u : ProgramTree) (P Q : Program) → IsWellFormedSource file t P → IsWellFormedSource file u Q → HasCertificate P bytes → (HasCertificate Q bytes → ⊥) → ⊥
refused_or_none file bytes t u P Q one other has none = none (subst (λ R. HasCertificate R bytes) (same_core file t u P Q one.has_core other.has_core) has)

pub verify_blame_apart : (file bytes : List ℕ) (one other : Ending) → VerifyBlameFact file bytes one → VerifyBlameFact file bytes other → one ≡ other
verify_blame_apart file bytes ending.Done ending.Done f g = refl
verify_blame_apart file bytes ending.Done ending.Refused f g = absurd (g f.0 f.1 f.2)
verify_blame_apart file bytes ending.Done ending.BlameRefused f g = absurd (refused_or_none file bytes f.0 g.0 f.1 g.1 f.2 g.2 f.4 g.3)
verify_blame_apart file bytes ending.Refused ending.Done f g = absurd (f g.0 g.1 g.2)
verify_blame_apart file bytes ending.Refused ending.Refused f g = refl
verify_blame_apart file bytes ending.Refused ending.BlameRefused f g = absurd (f g.0 g.1 g.2)
verify_blame_apart file bytes ending.BlameRefused ending.Done f g = absurd (refused_or_none file bytes g.0 f.0 g.1 f.1 g.2 f.2 g.4 f.3)
verify_blame_apart file bytes ending.BlameRefused ending.Refused f g = absurd (g f.0 f.1 f.2)
verify_blame_apart file bytes ending.BlameRefused ending.BlameRefused f g = refl
verify_blame_apart file bytes ending.Inadmissible other f g = absurd f
verify_blame_apart file bytes ending.NoSchedule other f g = absurd f
verify_blame_apart file bytes ending.Stopped other f g = absurd f
verify_blame_apart file bytes ending.Open other f g = absurd f
verify_blame_apart file bytes ending.BookRefused other f g = absurd f
verify_blame_apart file bytes ending.NothingToBlame other f g = absurd f
verify_blame_apart file bytes ending.LevelsRefused other f g = absurd f
verify_blame_apart file bytes ending.CallTooDeep other f g = absurd f
verify_blame_apart file bytes ending.Done ending.Inadmissible f g = absurd g
verify_blame_apart file bytes ending.Done ending.NoSchedule f g = absurd g
verify_blame_apart file bytes ending.Done ending.Stopped f g = absurd g
verify_blame_apart file bytes ending.Done ending.Open f g = absurd g
verify_blame_apart file bytes ending.Done ending.BookRefused f g = absurd g
verify_blame_apart file bytes ending.Done ending.NothingToBlame f g = absurd g
verify_blame_apart file bytes ending.Done ending.LevelsRefused f g = absurd g
verify_blame_apart file bytes ending.Done ending.CallTooDeep f g = absurd g
verify_blame_apart file bytes ending.Refused ending.Inadmissible f g = absurd g
verify_blame_apart file bytes ending.Refused ending.NoSchedule f g = absurd g
verify_blame_apart file bytes ending.Refused ending.Stopped f g = absurd g
verify_blame_apart file bytes ending.Refused ending.Open f g = absurd g
verify_blame_apart file bytes ending.Refused ending.BookRefused f g = absurd g
verify_blame_apart file bytes ending.Refused ending.NothingToBlame f g = absurd g
verify_blame_apart file bytes ending.Refused ending.LevelsRefused f g = absurd g
verify_blame_apart file bytes ending.Refused ending.CallTooDeep f g = absurd g
verify_blame_apart file bytes ending.BlameRefused ending.Inadmissible f g = absurd g
verify_blame_apart file bytes ending.BlameRefused ending.NoSchedule f g = absurd g
verify_blame_apart file bytes ending.BlameRefused ending.Stopped f g = absurd g
verify_blame_apart file bytes ending.BlameRefused ending.Open f g = absurd g
verify_blame_apart file bytes ending.BlameRefused ending.BookRefused f g = absurd g
verify_blame_apart file bytes ending.BlameRefused ending.NothingToBlame f g = absurd g
verify_blame_apart file bytes ending.BlameRefused ending.LevelsRefused f g = absurd g
verify_blame_apart file bytes ending.BlameRefused ending.CallTooDeep f g = absurd g
