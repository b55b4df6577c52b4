-- What `levels` is for, from what the call answers.
use Rattle.std.proofs.Common.{◌≡◌, ℕ, List, [], ◌∷◌, refl, ap, inl, inr, ◌⊎◌}
use Rattle.lexer.specs.Limits.{longest_source}
use Rattle.sources.specs.Limits.{longest_second_file}
use Rattle.sources.specs.declared.refusal.Ending.TheVariants as ending
use Rattle.sources.specs.Refusals.{code_of}
use Rattle.sources.specs.Files.{WritesText}
use Rattle.evidence_commands.specs.Levels.{LevelsFact}
use Rattle.evidence_commands.proofs.LevelEndings.{levels_caused, levels_apart, reaches_no_circle}
use Rattle.commands.specs.declared.command.Command.TheVariants.{Levels}
use Rattle.commands.specs.Rows.{Row}
use Rattle.commands.specs.Files.{IsAskedRow}
use Rattle.commands.specs.Answers.{Belongs, too_large, ended, IsExactStatus}
use Rattle.edge.specs.Calls.{Call, HasNoFault}
use Rattle.commands.specs.NoCircles.{IsLevelsOf, NoCircles}
use Rattle.commands.proofs.Headlines.{within_both, none_some}

module _ (call : Call) where
  asked : (source_name levels_name file bytes : List ℕ) → IsLevelsOf call source_name levels_name file bytes
      → IsAskedRow call.words call.told (record { command = Levels; names = source_name ∷ levels_name ∷ [] }) (file ∷ bytes ∷ [])
  asked source_name levels_name file bytes is = record { is_row = record { said = is.words; within = tt; files = refl }; are_told = (is.source, (is.levels, tt)) }

  ordered_by : (source_name levels_name file bytes : List ℕ) → IsLevelsOf call source_name levels_name file bytes → LevelsFact file bytes ending.Done
      → (status : ℕ) (out : List ℕ) → Belongs (record { command = Levels; names = source_name ∷ levels_name ∷ [] }) (file ∷ bytes ∷ []) status out → status ≡ 0
  ordered_by source_name levels_name file bytes is fact _ _ (too_large name over) =
      absurd (none_some _ name (within_both longest_source longest_second_file source_name levels_name file bytes is.small is.short) over)
  ordered_by source_name levels_name file bytes is fact _ _ (ended done out within answer) =
      ap code_of (levels_apart file bytes done ending.Done (levels_caused file bytes done out answer) fact)

  -- the sentence, from when statuses come and from what comes where nothing failed
  pub no_circles_of : ((row : Row) (files : List (List ℕ)) → IsAskedRow call.words call.told row files → IsExactStatus row files call.status)
      → ((row : Row) (files : List (List ℕ)) → IsAskedRow call.words call.told row files → HasNoFault call row.names → (call.status ≡ 8) ⊎ WritesText (Belongs row files call.status) call.written_before call.written_after)
      → NoCircles call
  no_circles_of exact complete = record {
    sound = λ source_name levels_name file bytes is done.
        let fact = ((exact (record { command = Levels; names = source_name ∷ levels_name ∷ [] }) (file ∷ bytes ∷ []) (asked source_name levels_name file bytes is)).ended ending.Done).only done in
        record {
          tree = fact.1.0;
          program = fact.1.1;
          source = fact.1.2;
          none = reaches_no_circle file bytes fact.1.0 fact.1.1 is.small fact.1.2 fact.1.3;
        };
    ordered = λ source_name levels_name file bytes is calm tree P source orders.
        by source_name levels_name file bytes is (tree, P, source, orders)
        (complete (record { command = Levels; names = source_name ∷ levels_name ∷ [] }) (file ∷ bytes ∷ []) (asked source_name levels_name file bytes is) calm);
  }
    where
      by : (source_name levels_name file bytes : List ℕ) → IsLevelsOf call source_name levels_name file bytes → LevelsFact file bytes ending.Done
          → (call.status ≡ 8) ⊎ WritesText (Belongs (record { command = Levels; names = source_name ∷ levels_name ∷ [] }) (file ∷ bytes ∷ []) call.status) call.written_before call.written_after
          → (call.status ≡ 8) ⊎ (call.status ≡ 0)
      by source_name levels_name file bytes is fact (inl eight) = inl eight
      by source_name levels_name file bytes is fact (inr w) = inr (ordered_by source_name levels_name file bytes is fact call.status w.text w.belongs)
