-- The headline, from what the call answers.
use Rattle.std.proofs.Common.{◌≡◌, ℕ, ◌≤◌, List, [], ◌∷◌, Option, Some, None, false, nat_lt, length, refl, sym, subst, ap, ◌∙◌, arith, inl, inr, ◌⊎◌}
use Rattle.std.proofs.lemmas.Bool.Decides.{nat_tests}
use Rattle.std.specs.Io.KnownBytes.{Appends}
use Rattle.lexer.specs.Limits.{longest_source}
use Rattle.sources.specs.Limits.{longest_second_file}
use Rattle.algebra.specs.declared.basic.Basic.{Basic}
use Rattle.algebra.specs.HeldPaths.{has_path}
use Rattle.classes.specs.Table.{TableData, table_of}
use Rattle.core_program.specs.Core.{Program}
use Rattle.rules.specs.Rules.{IsAccepted, declared_bound}
use Rattle.schedule.proofs.UniqueLemmas.{one_schedule}
use Rattle.schedule.specs.Text.{IsSchedule}
use Rattle.sources.specs.declared.refusal.Ending.{Ending}
use Rattle.sources.specs.declared.refusal.Ending.TheVariants as ending
use Rattle.sources.specs.Refusals.{code_of}
use Rattle.sources.specs.Checking.{IsWellFormedSource}
use Rattle.report.specs.Verdicts.{broken_line}
use Rattle.sources.specs.Facts.{RefusedAs}
use Rattle.sources.specs.Verdicts.{IsRefuted, no_source, refuted}
use Rattle.sources.proofs.Apart.{same_core, same_tree, no_accepted_is, no_source_is_none}
use Rattle.state.specs.States.{State}
use Rattle.semantics.specs.Run.{run, open_thread, IsRearrangement, IsUninterrupted}
use Rattle.semantics.specs.Units.{written_order}
use Rattle.syntax.specs.Trees.{ProgramTree}
use Rattle.commands.specs.declared.command.Command.TheVariants.{Check, Serialise}
use Rattle.commands.specs.Rows.{Row}
use Rattle.commands.specs.Files.{IsAskedRow, first_over}
use Rattle.sources.specs.Check.{CheckAnswer, not_accepted as not_checked, judged}
use Rattle.sources.specs.Files.{WritesText}
use Rattle.schedule_commands.specs.Serialise.{SerialiseAnswer, SerialiseFact, not_accepted, no_schedule, no_order, serialised}
use Rattle.commands.specs.Answers.{Belongs, too_large, ended}
use Rattle.edge.specs.Calls.{Call, HasNoFault}
use Rattle.commands.specs.Headline.{WritesRearrangement, NamesBroken, RefusesExactly, Headline}
use Rattle.schedule_commands.proofs.ScheduleEndings.{serialise_caused, serialise_apart, refused_text, order_ends}

-- a file within its limit isn't the first over it
within_one : (limit : ℕ) (name file : List ℕ) → length file ≤ limit → first_over (limit ∷ []) (name ∷ []) (file ∷ []) ≡ None
within_one limit name file le = let e : nat_lt limit (length file) ≡ false = grind (arith, nat_tests) in rw (e) refl

pub within_both : (limit more : ℕ) (name other file text : List ℕ) → length file ≤ limit → length text ≤ more → first_over (limit ∷ more ∷ []) (name ∷ other ∷ []) (file ∷ text ∷ []) ≡ None
within_both limit more name other file text le lt =
    let e : nat_lt limit (length file) ≡ false = grind (arith, nat_tests) in
    let f : nat_lt more (length text) ≡ false = grind (arith, nat_tests) in rw (e, f) refl

pub none_some : {A : Type 0} (o : Option A) (x : A) → o ≡ None → o ≡ Some x → ⊥
none_some o x none some = let e : None ≡ Some x = sym none ∙ some in cc

module _ (call : Call) where
  -- what was written for an answer of `serialise` that ends well
  written_done : (file text out : List ℕ) (done : Ending) → done ≡ ending.Done → SerialiseAnswer file text done out → call.status ≡ code_of done → Appends call.written_before call.written_after out
      → (tree : ProgramTree) (P : Program) (s : List ℕ) (q : State) → IsWellFormedSource file tree P → IsSchedule text s → run P s ≡ Some q → WritesRearrangement call P s q
  written_done file text _ _ e (not_accepted {ending = its} {line = line} is) status wrote tree P s q source schedule runs = absurd (subst (RefusedAs file) e (no_accepted_is file its line is))
  written_done file text _ _ e (no_schedule {ending = its} {line = line} t Q i accepted is) status wrote tree P s q source schedule runs =
      absurd (let f : ending.NoSchedule ≡ ending.Done = sym (refused_text text its line is).0 ∙ e in cc)
  written_done file text _ _ e (no_order {ending = its} {line = line} t Q r i accepted is) status wrote tree P s q source schedule runs = absurd (order_ends Q r its line is e)
  written_done file text _ _ e (serialised {out = out} t Q r p input accepted went outside is) status wrote tree P s q source schedule runs =
      let program : Q ≡ P = same_core file t tree Q P input.source.has_core source.has_core in
      let steps : r ≡ s = one_schedule text r s input.schedule schedule in
      let there : run P s ≡ Some p = ap (λ R. run R s) (sym program) ∙ ap (run Q) (sym steps) ∙ went in
      let some : Some p ≡ Some q = sym there ∙ runs in
      let state : p ≡ q = cc in
      record {
        status = status ∙ ap code_of e;
        out = out;
        written = wrote;
        order = written_order Q r;
        spells = is.spells;
        rearranges = subst (λ z. IsRearrangement z (written_order Q r)) steps is.serial.rearranges;
        same_state = ap (λ R. run R (written_order Q r)) (sym program) ∙ is.serial.runs ∙ ap Some state;
        uninterrupted = subst (λ R. IsUninterrupted R (written_order Q r)) program is.serial.uninterrupted;
      }

  -- the line of a program that is refuted names the method that refutes it
  named_broken : (P : Program) (table : TableData) (m : ℕ) (declared found : Basic) → IsRefuted P m declared found → Appends call.written_before call.written_after (broken_line table m declared found) → NamesBroken call P table
  named_broken P table m declared found refutes wrote =
      let same : refutes.first.method ≡ refutes.broken.method = (let e = sym refutes.first.is ∙ refutes.broken.is in cc) in
      record {
        method = m;
        declared = declared;
        found = found;
        written = wrote;
        sets = refutes.sets;
        relevant = refutes.least.relevant;
        broken = refutes.broken;
        declared_is = refutes.first.declared_is ∙ ap (λ x. declared_bound x.annotated) same;
        least = refutes.assignment;
        is_least = refutes.least.least;
        found_is = refutes.first.found_is ∙ ap (λ x. refutes.assignment m (has_path x.requires_)) same;
        earlier = refutes.first.first;
      }

  -- what was written for an answer of `check`
  judged_exactly : (file out : List ℕ) (its : Ending) → CheckAnswer file its out → call.status ≡ code_of its → Appends call.written_before call.written_after out
      → (tree : ProgramTree) (P : Program) → IsWellFormedSource file tree P → RefusesExactly call P (table_of tree)
  judged_exactly file _ _ (judged t Q trees source least) status wrote tree P well =
      let accepted : IsAccepted P = subst IsAccepted (same_core file t tree Q P source.has_core well.has_core) least.accepted in
      record {
        accepts = λ _. status;
        only = λ two. absurd (omega (arith, two, status));
        all = λ none. absurd (none accepted);
        names = λ two. absurd (omega (arith, two, status));
      }
  judged_exactly file _ _ (not_checked (no_source {ending = its} {line = line} is)) status wrote tree P well = absurd (no_source_is_none file its line is tree P well)
  judged_exactly file _ _ (not_checked (refuted t Q m declared found source broken)) status wrote tree P well =
      let program : Q ≡ P = same_core file t tree Q P source.has_core well.has_core in
      let table : table_of t ≡ table_of tree = ap table_of (same_tree file t tree source.has_core.program well.has_core.program) in
      let none : IsAccepted P → ⊥ = λ accepted. broken.none (subst IsAccepted (sym program) accepted) in
      record {
        accepts = λ accepted. absurd (none accepted);
        only = λ two. none;
        all = λ n. status;
        names = λ two. named_broken P (table_of tree) m declared found (subst (λ R. IsRefuted R m declared found) program broken)
            (subst (λ t. Appends call.written_before call.written_after (broken_line t m declared found)) table wrote);
      }

  -- the sentence, from what comes where nothing failed
  pub headline_of : ((row : Row) (files : List (List ℕ)) → IsAskedRow call.words call.told row files → HasNoFault call row.names → (call.status ≡ 8) ⊎ WritesText (Belongs row files call.status) call.written_before call.written_after)
      → Headline call
  headline_of complete = record {
    serialise = λ source_name schedule_name file text said told_file told_text small short calm tree P source accepted s q schedule runs outside.
        let row : Row = record { command = Serialise; names = source_name ∷ schedule_name ∷ [] } in
        let asked : IsAskedRow call.words call.told row (file ∷ text ∷ []) = record { is_row = record { said = said; within = tt; files = refl }; are_told = (told_file, (told_text, tt)) } in
        serialise_by source_name schedule_name file text small short tree P source accepted s q schedule runs outside (complete row (file ∷ text ∷ []) asked calm);
    check = λ name file said told_file small calm tree P source.
        let row : Row = record { command = Check; names = name ∷ [] } in
        let asked : IsAskedRow call.words call.told row (file ∷ []) = record { is_row = record { said = said; within = tt; files = refl }; are_told = (told_file, tt) } in
        check_by name file small tree P source (complete row (file ∷ []) asked calm);
  }
    where
      serialise_answer : (source_name schedule_name file text : List ℕ) → length file ≤ longest_source → length text ≤ longest_second_file → (tree : ProgramTree) (P : Program) → IsWellFormedSource file tree P → IsAccepted P → (s : List ℕ) (q : State) → IsSchedule text s → run P s ≡ Some q → open_thread P q ≡ None
          → (status : ℕ) (out : List ℕ) → call.status ≡ status → Appends call.written_before call.written_after out → Belongs (record { command = Serialise; names = source_name ∷ schedule_name ∷ [] }) (file ∷ text ∷ []) status out → WritesRearrangement call P s q
      serialise_answer source_name schedule_name file text small short tree P source accepted s q schedule runs outside _ _ e wrote (too_large name is) =
          absurd (none_some _ name (within_both longest_source longest_second_file source_name schedule_name file text small short) is)
      serialise_answer source_name schedule_name file text small short tree P source accepted s q schedule runs outside _ _ e wrote (ended done out within answer) =
          let fact : SerialiseFact file text ending.Done = (tree, P, s, record { source = source; schedule = schedule }, (accepted, (q, runs, outside))) in
          written_done file text out done (serialise_apart file text done ending.Done (serialise_caused file text done out answer) fact) answer e wrote tree P s q source schedule runs

      serialise_by : (source_name schedule_name file text : List ℕ) → length file ≤ longest_source → length text ≤ longest_second_file → (tree : ProgramTree) (P : Program) → IsWellFormedSource file tree P → IsAccepted P → (s : List ℕ) (q : State) → IsSchedule text s → run P s ≡ Some q → open_thread P q ≡ None
          → (call.status ≡ 8) ⊎ WritesText (Belongs (record { command = Serialise; names = source_name ∷ schedule_name ∷ [] }) (file ∷ text ∷ []) call.status) call.written_before call.written_after → (call.status ≡ 8) ⊎ WritesRearrangement call P s q
      serialise_by source_name schedule_name file text small short tree P source accepted s q schedule runs outside (inl eight) = inl eight
      serialise_by source_name schedule_name file text small short tree P source accepted s q schedule runs outside (inr w) =
          inr (serialise_answer source_name schedule_name file text small short tree P source accepted s q schedule runs outside call.status w.text refl w.written w.belongs)

      check_answer : (name file : List ℕ) → length file ≤ longest_source → (tree : ProgramTree) (P : Program) → IsWellFormedSource file tree P
          → (status : ℕ) (out : List ℕ) → call.status ≡ status → Appends call.written_before call.written_after out → Belongs (record { command = Check; names = name ∷ [] }) (file ∷ []) status out → RefusesExactly call P (table_of tree)
      check_answer name file small tree P source _ _ e wrote (too_large n is) = absurd (none_some _ n (within_one longest_source name file small) is)
      check_answer name file small tree P source _ _ e wrote (ended done out within answer) = judged_exactly file out done answer e wrote tree P source

      check_by : (name file : List ℕ) → length file ≤ longest_source → (tree : ProgramTree) (P : Program) → IsWellFormedSource file tree P
          → (call.status ≡ 8) ⊎ WritesText (Belongs (record { command = Check; names = name ∷ [] }) (file ∷ []) call.status) call.written_before call.written_after → (call.status ≡ 8) ⊎ RefusesExactly call P (table_of tree)
      check_by name file small tree P source (inl eight) = inl eight
      check_by name file small tree P source (inr w) = inr (check_answer name file small tree P source call.status w.text refl w.written w.belongs)
