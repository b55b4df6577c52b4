-- What certificates of refusal are for, from what the call answers.
use Rattle.std.proofs.Common.{◌≡◌, ℕ, List, [], ◌∷◌, refl, sym, ap, ◌∙◌, inl, inr, ◌⊎◌}
use Rattle.lexer.specs.Limits.{longest_source}
use Rattle.sources.specs.Limits.{longest_second_file}
use Rattle.sources.specs.declared.refusal.Ending.{Ending}
use Rattle.sources.specs.declared.refusal.Ending.TheVariants as ending
use Rattle.sources.specs.Refusals.{code_of}
use Rattle.sources.proofs.Apart.{no_source_ends}
use Rattle.sources.specs.Files.{WritesText}
use Rattle.commands.specs.declared.command.Command.TheVariants.{VerifyBlame}
use Rattle.commands.specs.Rows.{Row}
use Rattle.commands.specs.Files.{IsAskedRow}
use Rattle.commands.specs.Answers.{Belongs, too_large, ended, IsExactStatus}
use Rattle.evidence_commands.specs.Blames.{BlameAnswer, no_source, accepted, blamed}
use Rattle.evidence_commands.specs.Verifying.{VerifyBlameFact}
use Rattle.edge.specs.Calls.{Call, HasNoFault}
use Rattle.commands.specs.Refutations.{IsVerifyBlameOf, Refutations}
use Rattle.evidence_commands.proofs.Endings.{verify_blame_caused, verify_blame_apart}
use Rattle.commands.proofs.Headlines.{within_both, none_some}

-- what is written refuses
blamed_refuses : (file bytes : List ℕ) (done : Ending) → BlameAnswer file done bytes → done ≡ ending.Done → VerifyBlameFact file bytes ending.Done
blamed_refuses file _ _ (no_source {ending = its} {line = line} is) e = absurd (let f : ending.Refused ≡ ending.Done = sym (no_source_ends file its line is) ∙ e in cc)
blamed_refuses file _ _ (accepted tree P source is) e = absurd (cc)
blamed_refuses file _ _ (blamed tree P source none is) e =
    (tree, P, source, none, record { sets = is.sets; relevant = is.relevant; lines = is.lines; text = is.text; certificate = is.certificate })

module _ (call : Call) where
  asked : (source_name certificate_name file bytes : List ℕ) → IsVerifyBlameOf call source_name certificate_name file bytes
      → IsAskedRow call.words call.told (record { command = VerifyBlame; names = source_name ∷ certificate_name ∷ [] }) (file ∷ bytes ∷ [])
  asked source_name certificate_name file bytes is = record { is_row = record { said = is.words; within = tt; files = refl }; are_told = (is.source, (is.certificate, tt)) }

  verified_by : (source_name certificate_name file bytes : List ℕ) → IsVerifyBlameOf call source_name certificate_name file bytes → VerifyBlameFact file bytes ending.Done
      → (status : ℕ) (out : List ℕ) → Belongs (record { command = VerifyBlame; names = source_name ∷ certificate_name ∷ [] }) (file ∷ bytes ∷ []) status out → status ≡ 0
  verified_by source_name certificate_name file bytes is fact _ _ (too_large name over) =
      absurd (none_some _ name (within_both longest_source longest_second_file source_name certificate_name file bytes is.small is.short) over)
  verified_by source_name certificate_name file bytes is fact _ _ (ended done out within answer) =
      ap code_of (verify_blame_apart file bytes done ending.Done (verify_blame_caused file bytes done out answer) fact)

  -- the sentence, from when statuses come and from what comes where nothing failed
  pub refutations_of : ((row : Row) (files : List (List ℕ)) → IsAskedRow call.words call.told row files → IsExactStatus row files call.status)
      → ((row : Row) (files : List (List ℕ)) → IsAskedRow call.words call.told row files → HasNoFault call row.names → (call.status ≡ 8) ⊎ WritesText (Belongs row files call.status) call.written_before call.written_after)
      → Refutations call
  refutations_of exact complete = record {
    sound = λ source_name certificate_name file bytes is done.
        let fact = ((exact (record { command = VerifyBlame; names = source_name ∷ certificate_name ∷ [] }) (file ∷ bytes ∷ []) (asked source_name certificate_name file bytes is)).ended ending.Done).only done in
        (fact.1.0, fact.1.1, fact.1.2, fact.1.3);
    blamed = λ source_name certificate_name file bytes is calm answer.
        by source_name certificate_name file bytes is (blamed_refuses file bytes ending.Done answer refl)
        (complete (record { command = VerifyBlame; names = source_name ∷ certificate_name ∷ [] }) (file ∷ bytes ∷ []) (asked source_name certificate_name file bytes is) calm);
  }
    where
      by : (source_name certificate_name file bytes : List ℕ) → IsVerifyBlameOf call source_name certificate_name file bytes → VerifyBlameFact file bytes ending.Done
          → (call.status ≡ 8) ⊎ WritesText (Belongs (record { command = VerifyBlame; names = source_name ∷ certificate_name ∷ [] }) (file ∷ bytes ∷ []) call.status) call.written_before call.written_after
          → (call.status ≡ 8) ⊎ (call.status ≡ 0)
      by source_name certificate_name file bytes is fact (inl eight) = inl eight
      by source_name certificate_name file bytes is fact (inr w) = inr (verified_by source_name certificate_name file bytes is fact call.status w.text w.belongs)
