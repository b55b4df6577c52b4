-- What certificates of refusal are for: whoever wrote the certificate, `verify-blame` says yes of well-formed sources alone for which no
-- assignment is admissible; and to the certificate that `blame` writes for such a source it says yes.
use Rattle.std.specs.Prelude.{◌≡◌, ℕ, ◌≤◌, List, [], ◌∷◌, Some, codes, length, ◌⊎◌}
use Rattle.lexer.specs.Limits.{longest_source}
use Rattle.sources.specs.Limits.{longest_second_file}
use Rattle.sources.specs.declared.refusal.Ending.TheVariants.{Done}
use Rattle.sources.specs.Facts.{HasNoAssignment}
use Rattle.evidence_commands.specs.Blames.{BlameAnswer}
use Rattle.edge.specs.Calls.{Call, HasNoFault}

-- the words are `verify-blame` and the names of two files, which are told and within their limits
pub record IsVerifyBlameOf (call : Call) (source_name certificate_name file bytes : List ℕ) : Type 0 where
  pub words : call.words ≡ codes "verify-blame" ∷ source_name ∷ certificate_name ∷ []
  pub source : call.told source_name ≡ Some file
  pub certificate : call.told certificate_name ≡ Some bytes
  pub small : length file ≤ longest_source
  pub short : length bytes ≤ longest_second_file

-- what `verify-blame` says over any certificate, and over the certificate that `blame` wrote
pub record Refutations (call : Call) : Type 0 where
  -- status 0 only where the source is well-formed and no assignment is admissible
  pub sound : (source_name certificate_name file bytes : List ℕ) → IsVerifyBlameOf call source_name certificate_name file bytes → call.status ≡ 0 → HasNoAssignment file
  -- where nothing failed, status 0 to what `blame` writes for the source, unless memory is refused
  pub blamed : (source_name certificate_name file bytes : List ℕ) → IsVerifyBlameOf call source_name certificate_name file bytes → HasNoFault call (source_name ∷ certificate_name ∷ [])
      → BlameAnswer file Done bytes → (call.status ≡ 8) ⊎ (call.status ≡ 0)
