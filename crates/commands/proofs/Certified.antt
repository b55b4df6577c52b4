-- What books are for, from what the call answers.
use Rattle.std.proofs.Common.{◌≡◌, ℕ, List, [], ◌∷◌, refl, subst, ap, inl, inr, ◌⊎◌}
use Rattle.lexer.specs.Limits.{longest_source}
use Rattle.sources.specs.Limits.{longest_second_file}
use Rattle.sources.specs.declared.refusal.Ending.{Ending}
use Rattle.sources.specs.declared.refusal.Ending.TheVariants as ending
use Rattle.sources.specs.Facts.{RefusedAs}
use Rattle.sources.specs.Refusals.{code_of}
use Rattle.sources.proofs.Apart.{no_accepted_is}
use Rattle.sources.specs.Files.{WritesText}
use Rattle.commands.specs.declared.command.Command.TheVariants.{Verify}
use Rattle.commands.specs.Rows.{Row}
use Rattle.commands.specs.Files.{IsAskedRow}
use Rattle.commands.specs.Answers.{Belongs, too_large, ended, IsExactStatus}
use Rattle.evidence_commands.specs.Derive.{DeriveAnswer, not_accepted, derived}
use Rattle.evidence_commands.specs.Verify.{VerifyFact}
use Rattle.edge.specs.Calls.{Call, HasNoFault}
use Rattle.commands.specs.Books.{IsVerifyOf, Books}
use Rattle.evidence_commands.proofs.BookEndings.{verify_caused, verify_apart}
use Rattle.commands.proofs.Headlines.{within_both, none_some}

-- what is derived is verified
derived_is_good : (file bytes : List ℕ) (done : Ending) → DeriveAnswer file done bytes → done ≡ ending.Done → VerifyFact file bytes ending.Done
derived_is_good file _ _ (not_accepted {ending = its} {line = line} is) e = absurd (subst (RefusedAs file) e (no_accepted_is file its line is))
derived_is_good file _ _ (derived tree P source does) e =
    (tree, P, source, does.least.accepted, record { sets = does.least.sets; relevant = does.least.least.relevant; book = does.book; text = does.text; good = does.good })

module _ (call : Call) where
  asked : (source_name book_name file bytes : List ℕ) → IsVerifyOf call source_name book_name file bytes
      → IsAskedRow call.words call.told (record { command = Verify; names = source_name ∷ book_name ∷ [] }) (file ∷ bytes ∷ [])
  asked source_name book_name file bytes is = record { is_row = record { said = is.words; within = tt; files = refl }; are_told = (is.source, (is.book, tt)) }

  verified_by : (source_name book_name file bytes : List ℕ) → IsVerifyOf call source_name book_name file bytes → VerifyFact file bytes ending.Done
      → (status : ℕ) (out : List ℕ) → Belongs (record { command = Verify; names = source_name ∷ book_name ∷ [] }) (file ∷ bytes ∷ []) status out → status ≡ 0
  verified_by source_name book_name file bytes is fact _ _ (too_large name over) =
      absurd (none_some _ name (within_both longest_source longest_second_file source_name book_name file bytes is.small is.short) over)
  verified_by source_name book_name file bytes is fact _ _ (ended done out within answer) =
      ap code_of (verify_apart file bytes done ending.Done (verify_caused file bytes done out answer) fact)

  -- the sentence, from when statuses come and from what comes where nothing failed
  pub books_of : ((row : Row) (files : List (List ℕ)) → IsAskedRow call.words call.told row files → IsExactStatus row files call.status)
      → ((row : Row) (files : List (List ℕ)) → IsAskedRow call.words call.told row files → HasNoFault call row.names → (call.status ≡ 8) ⊎ WritesText (Belongs row files call.status) call.written_before call.written_after)
      → Books call
  books_of exact complete = record {
    sound = λ source_name book_name file bytes is done.
        let fact = ((exact (record { command = Verify; names = source_name ∷ book_name ∷ [] }) (file ∷ bytes ∷ []) (asked source_name book_name file bytes is)).ended ending.Done).only done in
        (fact.1.0, fact.1.1, fact.1.2, fact.1.3);
    derived = λ source_name book_name file bytes is calm answer.
        by source_name book_name file bytes is (derived_is_good file bytes ending.Done answer refl)
        (complete (record { command = Verify; names = source_name ∷ book_name ∷ [] }) (file ∷ bytes ∷ []) (asked source_name book_name file bytes is) calm);
  }
    where
      by : (source_name book_name file bytes : List ℕ) → IsVerifyOf call source_name book_name file bytes → VerifyFact file bytes ending.Done
          → (call.status ≡ 8) ⊎ WritesText (Belongs (record { command = Verify; names = source_name ∷ book_name ∷ [] }) (file ∷ bytes ∷ []) call.status) call.written_before call.written_after
          → (call.status ≡ 8) ⊎ (call.status ≡ 0)
      by source_name book_name file bytes is fact (inl eight) = inl eight
      by source_name book_name file bytes is fact (inr w) = inr (verified_by source_name book_name file bytes is fact call.status w.text w.belongs)
