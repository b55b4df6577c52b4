-- Which ending comes for the answer to `verify`.
use Rattle.std.proofs.Common.{◌≡◌, ℕ, List, refl, sym, subst}
use Rattle.core_program.specs.Core.{Program}
use Rattle.sources.specs.declared.refusal.Ending.{Ending}
use Rattle.sources.specs.declared.refusal.Ending.TheVariants as ending
use Rattle.sources.specs.Checking.{IsWellFormedSource}
use Rattle.sources.proofs.Apart.{same_core, no_source_is_none, no_source_ends}
use Rattle.syntax.specs.Trees.{ProgramTree}
use Rattle.evidence_commands.specs.Verify.{VerifyAnswer, VerifyFact, HasGoodBook, NoBook, no_source, no_book, verified, form, too_deep, wrong_first}

-- a text with a line that refuses it ends so
refused_book : (P : Program) (bytes : List ℕ) (ended : Ending) (line : List ℕ) → NoBook P bytes ended line → ended ≡ ending.BookRefused
refused_book P bytes _ _ (form place is) = refl
refused_book P bytes _ _ (too_deep place is) = refl
refused_book P bytes _ _ (wrong_first sets book fault relevant text is told) = refl

-- each ending has its fact, and one alone
pub verify_caused : (file bytes : List ℕ) (ended : Ending) (out : List ℕ) → VerifyAnswer file bytes ended out → VerifyFact file bytes ended
verify_caused file bytes _ _ (no_source {ending = ended} {line = line} is) = subst (VerifyFact file bytes) (sym (no_source_ends file ended line is)) (no_source_is_none file ended line is)
verify_caused file bytes _ _ (no_book {ending = ended} {line = line} tree P source none is) =
    subst (VerifyFact file bytes) (sym (refused_book P bytes ended line is)) (tree, P, source, none)
verify_caused file bytes _ _ (verified tree P source accepted good) = (tree, P, source, accepted, good)

-- a text is a good book's for the program of a source, or for none
good_or_none : (file bytes : List ℕ) (t u : ProgramTree) (P Q : Program) → IsWellFormedSource file t P → IsWellFormedSource file u Q → HasGoodBook P bytes → (HasGoodBook Q bytes → ⊥) → ⊥
good_or_none file bytes t u P Q one other good none = none (subst (λ R. HasGoodBook R bytes) (same_core file t u P Q one.has_core other.has_core) good)

pub verify_apart : (file bytes : List ℕ) (one other : Ending) → VerifyFact file bytes one → VerifyFact file bytes other → one ≡ other
verify_apart file bytes ending.Done ending.Done f g = refl
verify_apart file bytes ending.Done ending.Refused f g = absurd (g f.0 f.1 f.2)
verify_apart file bytes ending.Done ending.BookRefused f g = absurd (good_or_none file bytes f.0 g.0 f.1 g.1 f.2 g.2 f.4 g.3)
verify_apart file bytes ending.Refused ending.Done f g = absurd (f g.0 g.1 g.2)
verify_apart file bytes ending.Refused ending.Refused f g = refl
verify_apart file bytes ending.Refused ending.BookRefused f g = absurd (f g.0 g.1 g.2)
verify_apart file bytes ending.BookRefused ending.Done f g = absurd (good_or_none file bytes g.0 f.0 g.1 f.1 g.2 f.2 g.4 f.3)
verify_apart file bytes ending.BookRefused ending.Refused f g = absurd (g f.0 f.1 f.2)
verify_apart file bytes ending.BookRefused ending.BookRefused f g = refl
verify_apart file bytes ending.Inadmissible other f g = absurd f
verify_apart file bytes ending.NoSchedule other f g = absurd f
verify_apart file bytes ending.Stopped other f g = absurd f
verify_apart file bytes ending.Open other f g = absurd f
verify_apart file bytes ending.NothingToBlame other f g = absurd f
verify_apart file bytes ending.BlameRefused other f g = absurd f
verify_apart file bytes ending.LevelsRefused other f g = absurd f
verify_apart file bytes ending.CallTooDeep other f g = absurd f
verify_apart file bytes ending.Done ending.Inadmissible f g = absurd g
verify_apart file bytes ending.Done ending.NoSchedule f g = absurd g
verify_apart file bytes ending.Done ending.Stopped f g = absurd g
verify_apart file bytes ending.Done ending.Open f g = absurd g
verify_apart file bytes ending.Done ending.NothingToBlame f g = absurd g
verify_apart file bytes ending.Done ending.BlameRefused f g = absurd g
verify_apart file bytes ending.Done ending.LevelsRefused f g = absurd g
verify_apart file bytes ending.Done ending.CallTooDeep f g = absurd g
verify_apart file bytes ending.Refused ending.Inadmissible f g = absurd g
verify_apart file bytes ending.Refused ending.NoSchedule f g = absurd g
verify_apart file bytes ending.Refused ending.Stopped f g = absurd g
verify_apart file bytes ending.Refused ending.Open f g = absurd g
verify_apart file bytes ending.Refused ending.NothingToBlame f g = absurd g
verify_apart file bytes ending.Refused ending.BlameRefused f g = absurd g
verify_apart file bytes ending.Refused ending.LevelsRefused f g = absurd g
verify_apart file bytes ending.Refused ending.CallTooDeep f g = absurd g
verify_apart file bytes ending.BookRefused ending.Inadmissible f g = absurd g
verify_apart file bytes ending.BookRefused ending.NoSchedule f g = absurd g
verify_apart file bytes ending.BookRefused ending.Stopped f g = absurd g
verify_apart file bytes ending.BookRefused ending.Open f g = absurd g
verify_apart file bytes ending.BookRefused ending.NothingToBlame f g = absurd g
verify_apart file bytes ending.BookRefused ending.BlameRefused f g = absurd g
verify_apart file bytes ending.BookRefused ending.LevelsRefused f g = absurd g
verify_apart file bytes ending.BookRefused ending.CallTooDeep f g = absurd g
