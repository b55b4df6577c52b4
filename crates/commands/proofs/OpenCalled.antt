-- What `serialise-open` is for, from what the call answers.
use Rattle.std.proofs.Common.{◌≡◌, ℕ, ◌≤◌, List, [], ◌∷◌, Some, length, is_some, refl, sym, subst, ap, ◌∙◌, inl, inr, ◌⊎◌}
use Rattle.std.specs.Io.KnownBytes.{Appends}
use Rattle.lexer.specs.Limits.{longest_source}
use Rattle.sources.specs.Limits.{longest_second_file}
use Rattle.core_program.specs.Core.{Program}
use Rattle.serialise.specs.OpenOrder.{open_order}
use Rattle.serialise.specs.Whole.{IsWhole}
use Rattle.rules.specs.Rules.{IsAccepted}
use Rattle.schedule.proofs.UniqueLemmas.{one_schedule}
use Rattle.schedule.specs.Text.{IsSchedule}
use Rattle.sources.specs.declared.refusal.Ending.{Ending}
use Rattle.sources.specs.declared.refusal.Ending.TheVariants as ending
use Rattle.sources.specs.Refusals.{code_of}
use Rattle.sources.specs.Checking.{IsWellFormedSource}
use Rattle.sources.specs.Facts.{RefusedAs}
use Rattle.sources.proofs.Apart.{same_core, no_accepted_is}
use Rattle.sources.specs.Files.{WritesText}
use Rattle.state.specs.States.{State}
use Rattle.semantics.specs.Run.{run, open_thread, IsRearrangement}
use Rattle.semantics.specs.Units.{written_order}
use Rattle.syntax.specs.Trees.{ProgramTree}
use Rattle.commands.specs.declared.command.Command.TheVariants.{SerialiseOpen}
use Rattle.commands.specs.Rows.{Row}
use Rattle.commands.specs.Files.{IsAskedRow}
use Rattle.schedule_commands.specs.SerialiseOpen.{SerialiseOpenAnswer, SerialiseOpenFact, not_accepted, no_schedule, no_run, in_order}
use Rattle.commands.specs.Answers.{Belongs, too_large, ended}
use Rattle.edge.specs.Calls.{Call, HasNoFault}
use Rattle.commands.specs.OpenCalls.{WritesGathered, OpenCalls}
use Rattle.schedule_commands.proofs.ScheduleEndings.{refused_text, refused_run}
use Rattle.schedule_commands.proofs.OpenEndings.{open_caused, open_apart}
use Rattle.commands.proofs.Headlines.{within_both, none_some}

module _ (call : Call) where
  -- what was written for an answer that ends well
  written_open : (file text out : List ℕ) (done : Ending) → done ≡ ending.Done → SerialiseOpenAnswer file text done out → call.status ≡ code_of done → Appends call.written_before call.written_after out
      → (tree : ProgramTree) (P : Program) (s : List ℕ) (q : State) → IsWellFormedSource file tree P → IsSchedule text s → run P s ≡ Some q → WritesGathered call P s q
  written_open file text _ _ e (not_accepted {ending = its} {line = line} is) status wrote tree P s q source schedule runs = absurd (subst (RefusedAs file) e (no_accepted_is file its line is))
  written_open file text _ _ e (no_schedule {ending = its} {line = line} t Q i accepted is) status wrote tree P s q source schedule runs =
      absurd (let f : ending.NoSchedule ≡ ending.Done = sym (refused_text text its line is).0 ∙ e in cc)
  written_open file text _ _ e (no_run {ending = its} {line = line} t Q r i accepted is) status wrote tree P s q source schedule runs =
      absurd (let f : ending.Stopped ≡ ending.Done = sym (refused_run Q r its line is).0 ∙ e in cc)
  written_open file text _ _ e (in_order {out = out} t Q r p input accepted went is) status wrote tree P s q source schedule runs =
      let program : Q ≡ P = same_core file t tree Q P input.source.has_core source.has_core in
      let steps : r ≡ s = one_schedule text r s input.schedule schedule in
      let there : run P s ≡ Some p = ap (λ R. run R s) (sym program) ∙ ap (run Q) (sym steps) ∙ went in
      let some : Some p ≡ Some q = sym there ∙ runs in
      let state : p ≡ q = cc in
      record {
        status = status ∙ ap code_of e;
        out = out;
        written = wrote;
        order = open_order Q r;
        spells = is.spells;
        rearranges = subst (λ z. IsRearrangement z (open_order Q r)) steps is.gathered.rearranges;
        same_state = ap (λ R. run R (open_order Q r)) (sym program) ∙ is.gathered.runs ∙ ap Some state;
        whole = subst (λ R. IsWhole R (open_order Q r)) program is.gathered.whole;
        closed = λ nobody. is.closed (ap (λ R. open_thread R p) program ∙ ap (open_thread P) state ∙ nobody) ∙ (λ i. written_order (program i) (steps i));
      }

  -- the sentence, from what comes where nothing failed
  pub open_calls_of : ((row : Row) (files : List (List ℕ)) → IsAskedRow call.words call.told row files → HasNoFault call row.names → (call.status ≡ 8) ⊎ WritesText (Belongs row files call.status) call.written_before call.written_after)
      → OpenCalls call
  open_calls_of complete = record {
    opens = λ source_name schedule_name file text said told_file told_text small short calm tree P source accepted s q schedule runs.
        let row : Row = record { command = SerialiseOpen; names = source_name ∷ schedule_name ∷ [] } in
        let asked : IsAskedRow call.words call.told row (file ∷ text ∷ []) = record { is_row = record { said = said; within = tt; files = refl }; are_told = (told_file, (told_text, tt)) } in
        opens_by source_name schedule_name file text small short tree P source accepted s q schedule runs (complete row (file ∷ text ∷ []) asked calm);
  }
    where
      open_answer : (source_name schedule_name file text : List ℕ) → length file ≤ longest_source → length text ≤ longest_second_file → (tree : ProgramTree) (P : Program) → IsWellFormedSource file tree P → IsAccepted P → (s : List ℕ) (q : State) → IsSchedule text s → run P s ≡ Some q
          → (status : ℕ) (out : List ℕ) → call.status ≡ status → Appends call.written_before call.written_after out → Belongs (record { command = SerialiseOpen; names = source_name ∷ schedule_name ∷ [] }) (file ∷ text ∷ []) status out → WritesGathered call P s q
      open_answer source_name schedule_name file text small short tree P source accepted s q schedule runs _ _ e wrote (too_large name is) =
          absurd (none_some _ name (within_both longest_source longest_second_file source_name schedule_name file text small short) is)
      open_answer source_name schedule_name file text small short tree P source accepted s q schedule runs _ _ e wrote (ended done out within answer) =
          let fact : SerialiseOpenFact file text ending.Done = (tree, P, s, record { source = source; schedule = schedule }, (accepted, ap is_some runs)) in
          written_open file text out done (open_apart file text done ending.Done (open_caused file text done out answer) fact) answer e wrote tree P s q source schedule runs

      opens_by : (source_name schedule_name file text : List ℕ) → length file ≤ longest_source → length text ≤ longest_second_file → (tree : ProgramTree) (P : Program) → IsWellFormedSource file tree P → IsAccepted P → (s : List ℕ) (q : State) → IsSchedule text s → run P s ≡ Some q
          → (call.status ≡ 8) ⊎ WritesText (Belongs (record { command = SerialiseOpen; names = source_name ∷ schedule_name ∷ [] }) (file ∷ text ∷ []) call.status) call.written_before call.written_after → (call.status ≡ 8) ⊎ WritesGathered call P s q
      opens_by source_name schedule_name file text small short tree P source accepted s q schedule runs (inl eight) = inl eight
      opens_by source_name schedule_name file text small short tree P source accepted s q schedule runs (inr w) =
          inr (open_answer source_name schedule_name file text small short tree P source accepted s q schedule runs call.status w.text refl w.written w.belongs)
