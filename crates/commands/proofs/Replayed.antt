-- What `replay` is for, from what the call answers.
use Rattle.std.proofs.Common.{◌≡◌, ℕ, ◌≤◌, List, [], ◌∷◌, Some, None, length, refl, sym, subst, ap, ◌∙◌, inl, inr, ◌⊎◌}
use Rattle.std.proofs.lemmas.Option.{same_Some}
use Rattle.std.specs.Io.KnownBytes.{Appends}
use Rattle.lexer.specs.Limits.{longest_source}
use Rattle.sources.specs.Limits.{longest_second_file}
use Rattle.classes.specs.Table.{table_of}
use Rattle.core_program.specs.Core.{Program}
use Rattle.replay.specs.Records.{IsFirstTooDeep}
use Rattle.reduction.specs.SerialSchedules.{IsSerial}
use Rattle.rules.specs.Rules.{IsAccepted}
use Rattle.schedule.proofs.UniqueLemmas.{one_schedule}
use Rattle.schedule.specs.Text.{IsSchedule}
use Rattle.sources.specs.declared.refusal.Ending.{Ending}
use Rattle.sources.specs.declared.refusal.Ending.TheVariants as ending
use Rattle.sources.specs.Refusals.{code_of}
use Rattle.sources.specs.Checking.{IsWellFormedSource}
use Rattle.sources.proofs.Apart.{same_core, same_tree}
use Rattle.sources.specs.Files.{WritesText}
use Rattle.state.specs.States.{State}
use Rattle.semantics.specs.Run.{run, open_thread, IsRearrangement, IsUninterrupted}
use Rattle.semantics.specs.Units.{written_order}
use Rattle.syntax.specs.Trees.{ProgramTree}
use Rattle.schedule_commands.specs.Schedules.{IsInput}
use Rattle.schedule_commands.specs.Serialise.{SerialiseFact}
use Rattle.schedule_commands.proofs.ScheduleEndings.{serialise_caused, serialise_apart}
use Rattle.schedule_commands.specs.Evaluated.{AreEvaluated}
use Rattle.schedule_commands.specs.Lines.{calls_text}
use Rattle.schedule_commands.specs.Replay.{ReplayAnswer, too_deep, not_serialised, no_replay, replayed}
use Rattle.commands.specs.declared.command.Command.TheVariants.{Replay}
use Rattle.commands.specs.Rows.{Row}
use Rattle.commands.specs.Files.{IsAskedRow}
use Rattle.commands.specs.Answers.{Belongs, too_large, ended}
use Rattle.edge.specs.Calls.{Call, HasNoFault}
use Rattle.commands.specs.ReplayedCalls.{IsOrderOf, WritesCalls, NamesDeep, ReplayedCalls}
use Rattle.commands.proofs.Headlines.{within_both, none_some}

-- the order of one input is that of the other, where the files are the same
order_is : (file text : List ℕ) (t u : ProgramTree) (Q P : Program) (r s : List ℕ) (p q : State) → IsInput file text t Q r → IsWellFormedSource file u P → IsSchedule text s
    → run Q r ≡ Some p → run P s ≡ Some q → IsSerial Q r (written_order Q r) p → IsOrderOf P s q (written_order Q r)
order_is file text t u Q P r s p q input source schedule went runs is =
    let program : Q ≡ P = same_core file t u Q P input.source.has_core source.has_core in
    let steps : r ≡ s = one_schedule text r s input.schedule schedule in
    let there : run P s ≡ Some p = ap (λ R. run R s) (sym program) ∙ ap (run Q) (sym steps) ∙ went in
    let state : p ≡ q = same_Some p q (sym there ∙ runs) in
    record {
      written = λ i. written_order (program i) (steps i);
      rearranges = subst (λ z. IsRearrangement z (written_order Q r)) steps is.rearranges;
      same_state = ap (λ R. run R (written_order Q r)) (sym program) ∙ is.runs ∙ ap Some state;
      uninterrupted = subst (λ R. IsUninterrupted R (written_order Q r)) program is.uninterrupted;
    }

module _ (call : Call) where
  -- what was written for an answer on an accepted source and a schedule that ends with nobody inside
  written_calls : (file text out : List ℕ) (done : Ending) → ReplayAnswer file text done out → call.status ≡ code_of done → Appends call.written_before call.written_after out
      → (tree : ProgramTree) (P : Program) (s : List ℕ) (q : State) → IsWellFormedSource file tree P → IsAccepted P → IsSchedule text s → run P s ≡ Some q → open_thread P q ≡ None
      → WritesCalls call P (table_of tree) s q ⊎ NamesDeep call P s q
  written_calls file text _ _ (not_serialised {ended = its} {line = line} other is) status wrote tree P s q source accepted schedule runs closed =
      let fact : SerialiseFact file text ending.Done = (tree, P, s, record { source = source; schedule = schedule }, (accepted, (q, runs, closed))) in
      absurd (other (serialise_apart file text its ending.Done (serialise_caused file text its line is) fact))
  written_calls file text _ _ (no_replay t Q r p input accepted went outside serial (too_deep entry is)) status wrote tree P s q source fits schedule runs closed =
      let program : Q ≡ P = same_core file t tree Q P input.source.has_core source.has_core in
      inr (record {
        status = status;
        order = written_order Q r;
        is_order = order_is file text t tree Q P r s p q input source schedule went runs serial;
        entry = entry;
        deep = subst (λ R. IsFirstTooDeep R (written_order Q r) entry) program is;
        written = wrote;
      })
  written_calls file text _ _ (replayed t Q r p input accepted went outside is) status wrote tree P s q source fits schedule runs closed =
      let program : Q ≡ P = same_core file t tree Q P input.source.has_core source.has_core in
      let table = ap table_of (same_tree file t tree input.source.has_core.program source.has_core.program) in
      inl (record {
        status = status;
        order = written_order Q r;
        is_order = order_is file text t tree Q P r s p q input source schedule went runs is.serial;
        calls = is.calls;
        evaluated = subst (λ R. AreEvaluated R (written_order Q r) is.calls) program is.evaluated;
        written = subst (Appends call.written_before call.written_after) (is.says ∙ ap (λ names. calls_text names is.calls) table) wrote;
      })

  -- the sentence, from what comes where nothing failed
  pub replayed_calls_of : ((row : Row) (files : List (List ℕ)) → IsAskedRow call.words call.told row files → HasNoFault call row.names → (call.status ≡ 8) ⊎ WritesText (Belongs row files call.status) call.written_before call.written_after)
      → ReplayedCalls call
  replayed_calls_of complete = record {
    replays = λ source_name schedule_name file text said told_file told_text small short calm tree P source accepted s q schedule runs closed.
        let row : Row = record { command = Replay; names = source_name ∷ schedule_name ∷ [] } in
        let asked : IsAskedRow call.words call.told row (file ∷ text ∷ []) = record { is_row = record { said = said; within = tt; files = refl }; are_told = (told_file, (told_text, tt)) } in
        replays_by source_name schedule_name file text small short tree P source accepted s q schedule runs closed (complete row (file ∷ text ∷ []) asked calm);
  }
    where
      replay_answer : (source_name schedule_name file text : List ℕ) → length file ≤ longest_source → length text ≤ longest_second_file → (tree : ProgramTree) (P : Program) → IsWellFormedSource file tree P → IsAccepted P → (s : List ℕ) (q : State) → IsSchedule text s → run P s ≡ Some q → open_thread P q ≡ None
          → (status : ℕ) (out : List ℕ) → call.status ≡ status → Appends call.written_before call.written_after out → Belongs (record { command = Replay; names = source_name ∷ schedule_name ∷ [] }) (file ∷ text ∷ []) status out → WritesCalls call P (table_of tree) s q ⊎ NamesDeep call P s q
      replay_answer source_name schedule_name file text small short tree P source accepted s q schedule runs closed _ _ e wrote (too_large name is) =
          absurd (none_some _ name (within_both longest_source longest_second_file source_name schedule_name file text small short) is)
      replay_answer source_name schedule_name file text small short tree P source accepted s q schedule runs closed _ _ e wrote (ended done out within answer) =
          written_calls file text out done answer e wrote tree P s q source accepted schedule runs closed

      replays_by : (source_name schedule_name file text : List ℕ) → length file ≤ longest_source → length text ≤ longest_second_file → (tree : ProgramTree) (P : Program) → IsWellFormedSource file tree P → IsAccepted P → (s : List ℕ) (q : State) → IsSchedule text s → run P s ≡ Some q → open_thread P q ≡ None
          → (call.status ≡ 8) ⊎ WritesText (Belongs (record { command = Replay; names = source_name ∷ schedule_name ∷ [] }) (file ∷ text ∷ []) call.status) call.written_before call.written_after → (call.status ≡ 8) ⊎ (WritesCalls call P (table_of tree) s q ⊎ NamesDeep call P s q)
      replays_by source_name schedule_name file text small short tree P source accepted s q schedule runs closed (inl eight) = inl eight
      replays_by source_name schedule_name file text small short tree P source accepted s q schedule runs closed (inr w) =
          inr (replay_answer source_name schedule_name file text small short tree P source accepted s q schedule runs closed call.status w.text refl w.written w.belongs)
