-- What books are for: whoever wrote the book, `verify` says yes of accepted sources only; and of an accepted source it says yes to
-- the book that `derive` writes.
use Rattle.std.specs.Prelude.{◌≡◌, ℕ, ◌≤◌, List, [], ◌∷◌, Some, codes, length, ◌⊎◌}
use Rattle.lexer.specs.Limits.{longest_source}
use Rattle.sources.specs.Limits.{longest_second_file}
use Rattle.sources.specs.declared.refusal.Ending.TheVariants.{Done}
use Rattle.sources.specs.Facts.{IsAcceptedSource}
use Rattle.evidence_commands.specs.Derive.{DeriveAnswer}
use Rattle.edge.specs.Calls.{Call, HasNoFault}

-- the words are `verify` and the names of two files, which are told and within their limits
pub record IsVerifyOf (call : Call) (source_name book_name file bytes : List ℕ) : Type 0 where
  pub words : call.words ≡ codes "verify" ∷ source_name ∷ book_name ∷ []
  pub source : call.told source_name ≡ Some file
  pub book : call.told book_name ≡ Some bytes
  pub small : length file ≤ longest_source
  pub short : length bytes ≤ longest_second_file

-- what `verify` says over any book, and over the book that `derive` wrote
pub record Books (call : Call) : Type 0 where
  -- status 0 only where the source is accepted
  pub sound : (source_name book_name file bytes : List ℕ) → IsVerifyOf call source_name book_name file bytes → call.status ≡ 0 → IsAcceptedSource file
  -- where nothing failed, status 0 to what `derive` writes for the source, unless memory is refused
  pub derived : (source_name book_name file bytes : List ℕ) → IsVerifyOf call source_name book_name file bytes → HasNoFault call (source_name ∷ book_name ∷ [])
      → DeriveAnswer file Done bytes → (call.status ≡ 8) ⊎ (call.status ≡ 0)
