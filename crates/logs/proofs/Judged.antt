-- A log that is judged to its end runs, and its entries fit their phases.
use Rattle.std.proofs.Common.{◌≡◌, ℕ, ◌+◌, ◌==◌, Bool, true, false, not, ◌&&◌, ◌||◌, List, [], ◌∷◌, refl, sym, ap, subst, ◌∙◌, Some, None}
use Rattle.std.specs.Prelude.{Option, unwrap_or, if◌then◌else◌}
use Rattle.std.proofs.lemmas.Bool.{eqb-true, eq-eqb}
use Rattle.state.specs.declared.value.StepKind.{StepKind}
use Rattle.semantics.specs.Units.{Entry, is_commit}
use Rattle.semantics.specs.Words.{fits_phase, FitPhases}
use Rattle.reduction.specs.Gathering.{open_from, IsGatheredOrder, AreUnitsTogether}
use Rattle.reduction.proofs.Gathered.{gathered, units_gathered}
use Rattle.reduction.specs.Serial.{IsSerialOrder}
use Rattle.reduction.specs.Systems.{Steps, run_then, system_run_from, system_entry_then, system_entries_from, written_from}
use Rattle.reduction.proofs.Phases.{phases_words}
use Rattle.reduction.proofs.Whole.{written}
use Rattle.logs.specs.Events.{Event, Take, Give, Access, Start, Join, Stop, Begin, End, LogLine, order_of}
use Rattle.logs.specs.Judging.{Known, nothing_known, assumed, cell_content, known_locks, known_after, Note, Goes, Stops, note_kind, note_turn, event_turn, note_there, line_noted, note_then, judged, events_of, first_content, memory_before}
use Rattle.logs.specs.Logs.{Guard, ByLock, ByThread, Unguarded, guarded_access_kind, kind_at, turned, first_step, step_at, is_within, logs}
use Rattle.logs.specs.Memory.{Absent, Present, Ended, SharedCell, AtLock, AtThread, Content, Lock, Value, Thread, eq_cell, content_put, Own, put_own, LogMemory}
use Rattle.logs.specs.Turns.{cell_of, Turn, turn_by_content, blocks_after}
use Rattle.logs.proofs.Cells.{same_cell, itself}
use Rattle.logs.proofs.Moves.{logs_move}

-- a lock of which nothing is known is free
lock_told : (t l : ℕ) (e : Event) → cell_of t e ≡ AtLock l → assumed e ≡ Lock None
lock_told t l (Take m) at = refl
lock_told t l (Give m) at = refl
lock_told t l (Access p seen left) at = absurd cc
lock_told t l (Start u) at = absurd cc
lock_told t l (Join u) at = absurd cc
lock_told t l Stop at = absurd cc
lock_told t l (Begin name) at = absurd cc
lock_told t l End at = absurd cc

lock_first : (l : ℕ) (lines : List LogLine) → first_content (AtLock l) lines ≡ Lock None
lock_first l [] = refl
lock_first l (line ∷ lines) = by (eq_cell (cell_of line.thread line.event) (AtLock l)) refl (lock_first l lines)
  where
    by : (b : Bool) → eq_cell (cell_of line.thread line.event) (AtLock l) ≡ b → first_content (AtLock l) lines ≡ Lock None → (if b then assumed line.event else first_content (AtLock l) lines) ≡ Lock None
    by true e later = lock_told line.thread l line.event (same_cell (cell_of line.thread line.event) (AtLock l) e)
    by false e later = later

-- One line.

module _ (guard : ℕ → Guard) where
  pub record Stepped (k : Known) (line : LogLine) (rest : List LogLine) (next : Known) : Type 0 where
    pub kind : StepKind
    pub steps : Steps (logs guard) (memory_before k (line ∷ rest)) line.thread kind (memory_before next rest)
    pub fits : fits_phase (k.committed line.thread) kind ≡ true
    pub phases : (v : ℕ) → next.committed v ≡ (if v == line.thread then is_within ((memory_before next rest).own line.thread) && (k.committed line.thread || is_commit kind) else k.committed v)

  module _ (k : Known) (line : LogLine) (rest : List LogLine) where
    abbrev before : LogMemory
    before = memory_before k (line ∷ rest)

    abbrev cell : SharedCell
    cell = cell_of line.thread line.event

    abbrev own : SharedCell
    own = AtThread line.thread

    own_first : first_content own (line ∷ rest) ≡ Thread Present
    own_first = ap (λ (b : Bool). if b then Thread Present else (if eq_cell cell own then assumed line.event else first_content own rest)) (itself own)

    present : unwrap_or (k.cells own) (Thread Present) ≡ Thread Present → before.cells own ≡ Thread Present
    present there = ap (unwrap_or (k.cells own)) own_first ∙ there

    -- the cell of the event holds what is found there
    finds : unwrap_or (k.cells own) (Thread Present) ≡ Thread Present → before.cells cell ≡ cell_content k line.thread line.event
    finds there = by (eq_cell own cell) refl
      where
        by : (b : Bool) → eq_cell own cell ≡ b → unwrap_or (k.cells cell) (if b then Thread Present else (if eq_cell cell cell then assumed line.event else first_content cell rest))
            ≡ unwrap_or (if b then Some (Thread Present) else k.cells cell) (assumed line.event)
        by true e = ap (λ c. unwrap_or (k.cells c) (Thread Present)) (sym (same_cell own cell e)) ∙ there
        by false e = ap (λ (x : Bool). unwrap_or (k.cells cell) (if x then assumed line.event else first_content cell rest)) (itself cell)

    -- accesses are of the kind that they have by what is known
    access_same : (g : Guard) → guarded_access_kind g before.cells line.thread ≡ guarded_access_kind g (known_locks k) line.thread
    access_same (ByLock l) = ap (λ c. guarded_access_kind (ByLock l) (λ x. unwrap_or (k.cells x) c) line.thread) (lock_first l (line ∷ rest))
    access_same (ByThread u) = refl
    access_same Unguarded = refl

    kind_same : (e : Event) → kind_at guard before.cells line.thread e ≡ kind_at guard (known_locks k) line.thread e
    kind_same (Take l) = refl
    kind_same (Give l) = refl
    kind_same (Access p seen left) = access_same (guard p)
    kind_same (Start u) = refl
    kind_same (Join u) = refl
    kind_same Stop = refl
    kind_same (Begin name) = refl
    kind_same End = refl

    module _ (d : ℕ) (x : Turn) (there : unwrap_or (k.cells own) (Thread Present) ≡ Thread Present) where
      cells_same : (c : SharedCell) → content_put cell x.content before.cells c ≡ (memory_before (known_after k line d x) rest).cells c
      cells_same c = by (eq_cell cell c) refl (eq_cell own c) refl
        where
          by : (a : Bool) → eq_cell cell c ≡ a → (b : Bool) → eq_cell own c ≡ b
              → (if a then x.content else unwrap_or (k.cells c) (if b then Thread Present else (if a then assumed line.event else first_content c rest)))
              ≡ unwrap_or (if a then Some x.content else (if b then Some (Thread Present) else k.cells c)) (first_content c rest)
          by true ea b eb = refl
          by false ea true eb = ap (λ z. unwrap_or (k.cells z) (Thread Present)) (sym (same_cell own c eb)) ∙ there
          by false ea false eb = refl

      own_same : (u : ℕ) → put_own line.thread (record { depth = d; rest = events_of line.thread rest }) before.own u ≡ (memory_before (known_after k line d x) rest).own u
      own_same u = by (line.thread == u) refl
        where
          by : (b : Bool) → (line.thread == u) ≡ b
              → ◌≡◌ {A = Own} (if b then record { depth = d; rest = events_of line.thread rest } else record { depth = k.depth u; rest = if b then line.event ∷ events_of u rest else events_of u rest })
              (record { depth = if b then d else k.depth u; rest = events_of u rest })
          by true e = λ i. record { depth = d; rest = events_of (eqb-true line.thread u e i) rest }
          by false e = refl

      stepped_after : blocks_after line.event (k.depth line.thread) ≡ Some d → event_turn guard k line ≡ Some x → fits_phase (k.committed line.thread) x.kind ≡ true → Stepped k line rest (known_after k line d x)
      stepped_after deep is fits = record {
        kind = x.kind;
        steps =
            ap (λ c. step_at guard before line.thread c (before.own line.thread).rest) (present there)
            ∙ ap (λ (b : Bool). first_step guard before line.thread (if b then line.event ∷ events_of line.thread rest else events_of line.thread rest)) (eq-eqb line.thread line.thread refl)
            ∙ (λ i. turned before line.thread line.event (events_of line.thread rest) (deep i) (((λ j. turn_by_content (kind_same line.event j) line.event line.thread (finds there j)) ∙ is) i))
            ∙ (λ i. Some (record { kind = x.kind; to = record { cells = λ c. cells_same c i; own = λ u. own_same u i } }));
        fits = fits;
        phases = λ v. ap (λ (b : Bool). if v == line.thread then not ((if b then d else k.depth line.thread) == 0) && (k.committed line.thread || is_commit x.kind) else k.committed v) (sym (eq-eqb line.thread line.thread refl));
      }

    pub stepped : (next : Known) → line_noted guard k line ≡ Goes next → Stepped k line rest next
    stepped next is = by_there (unwrap_or (k.cells own) (Thread Present)) refl is
      where
        by_kind : (d : ℕ) (x : Turn) → unwrap_or (k.cells own) (Thread Present) ≡ Thread Present → blocks_after line.event (k.depth line.thread) ≡ Some d → event_turn guard k line ≡ Some x
            → (fits : Bool) → fits_phase (k.committed line.thread) x.kind ≡ fits → note_kind fits (known_after k line d x) ≡ Goes next → Stepped k line rest next
        by_kind d x there deep turns true fits h = let same : known_after k line d x ≡ next = cc in subst (Stepped k line rest) same (stepped_after d x there deep turns fits)
        by_kind d x there deep turns false fits h = absurd cc

        by_turn : unwrap_or (k.cells own) (Thread Present) ≡ Thread Present → (d : Option ℕ) → blocks_after line.event (k.depth line.thread) ≡ d → (x : Option Turn) → event_turn guard k line ≡ x → note_turn k line d x ≡ Goes next → Stepped k line rest next
        by_turn there None deep x turns h = absurd cc
        by_turn there (Some d) deep None turns h = absurd cc
        by_turn there (Some d) deep (Some x) turns h = by_kind d x there deep turns (fits_phase (k.committed line.thread) x.kind) refl h

        by_there : (c : Content) → unwrap_or (k.cells own) (Thread Present) ≡ c → note_there guard k line c ≡ Goes next → Stepped k line rest next
        by_there (Lock o) there h = absurd cc
        by_there (Value v) there h = absurd cc
        by_there (Thread Absent) there h = absurd cc
        by_there (Thread Present) there h = by_turn there (blocks_after line.event (k.depth line.thread)) refl (event_turn guard k line) refl h
        by_there (Thread Ended) there h = absurd cc

  -- All lines.

  pub judged_run : (lines : List LogLine) (k end : Known) → judged guard k lines ≡ Goes end → system_run_from (logs guard) (memory_before k lines) (order_of lines) ≡ Some (memory_before end [])
  judged_run [] k end is = let same : k ≡ end = cc in ap (λ z. Some (memory_before z [])) same
  judged_run (line ∷ lines) k end is = by (line_noted guard k line) refl is (λ next h. judged_run lines next end h)
    where
      by : (n : Note) → line_noted guard k line ≡ n → note_then n (λ next. judged guard next lines) ≡ Goes end → ((next : Known) → judged guard next lines ≡ Goes end → system_run_from (logs guard) (memory_before next lines) (order_of lines) ≡ Some (memory_before end []))
          → system_run_from (logs guard) (memory_before k (line ∷ lines)) (order_of (line ∷ lines)) ≡ Some (memory_before end [])
      by (Goes next) e h later = ap (λ o. run_then o (λ q. system_run_from (logs guard) q (order_of lines))) (stepped k line lines next e).steps ∙ later next h
      by (Stops why) e h later = absurd cc

  judged_fits : (lines : List LogLine) (k end : Known) (place : ℕ) → judged guard k lines ≡ Goes end → FitPhases k.committed (system_entries_from (logs guard) (memory_before k lines) place (order_of lines))
  judged_fits [] k end place is = tt
  judged_fits (line ∷ lines) k end place is = by (line_noted guard k line) refl is (λ next h. judged_fits lines next end (place + 1) h)
    where
      by : (n : Note) → line_noted guard k line ≡ n → note_then n (λ next. judged guard next lines) ≡ Goes end
          → ((next : Known) → judged guard next lines ≡ Goes end → FitPhases next.committed (system_entries_from (logs guard) (memory_before next lines) (place + 1) (order_of lines))) → FitPhases k.committed (system_entries_from (logs guard) (memory_before k (line ∷ lines)) place (order_of (line ∷ lines)))
      by (Goes next) e h later =
          let s = stepped k line lines next e in
          let es = system_entries_from (logs guard) (memory_before next lines) (place + 1) (order_of lines) in
          let entry : Entry = record { place = place; thread = line.thread; kind = s.kind; inside = is_within ((memory_before next lines).own line.thread) } in
          subst (FitPhases k.committed) (ap (λ o. system_entry_then (logs guard) place line.thread o (λ q. system_entries_from (logs guard) q (place + 1) (order_of lines))) (sym s.steps))
          (s.fits, subst (λ c. FitPhases c es) (λ i v. s.phases v i) (later next h))
      by (Stops why) e h later = absurd cc

  pub judged_serial : (lines : List LogLine) (end : Known) → judged guard nothing_known lines ≡ Goes end → ((t : ℕ) → end.depth t ≡ 0)
      → IsSerialOrder (logs guard) (memory_before nothing_known lines) (order_of lines) (written_from (logs guard) (memory_before nothing_known lines) (order_of lines)) (memory_before end [])
  judged_serial lines end is closed =
      written (logs_move guard) (order_of lines) (memory_before nothing_known lines) (memory_before end []) tt (judged_run lines nothing_known end is) (λ t there. ap (λ n. not (n == 0)) (closed t))
      (phases_words (system_entries_from (logs guard) (memory_before nothing_known lines) 0 (order_of lines)) (λ t. false) (judged_fits lines nothing_known end 0 is))

  -- a log that is judged to its end, also where it is cut off inside blocks
  pub judged_gathers : (lines : List LogLine) (end : Known) → judged guard nothing_known lines ≡ Goes end
      → IsGatheredOrder (logs guard) (memory_before nothing_known lines) (order_of lines) (open_from (logs guard) (memory_before nothing_known lines) (order_of lines)) (memory_before end [])
  judged_gathers lines end is =
      gathered (logs_move guard) (order_of lines) (memory_before nothing_known lines) (memory_before end []) tt (judged_run lines nothing_known end is)
      (phases_words (system_entries_from (logs guard) (memory_before nothing_known lines) 0 (order_of lines)) (λ t. false) (judged_fits lines nothing_known end 0 is))

  pub judged_units : (lines : List LogLine) (end : Known) → judged guard nothing_known lines ≡ Goes end
      → AreUnitsTogether (logs guard) (memory_before nothing_known lines) (open_from (logs guard) (memory_before nothing_known lines) (order_of lines))
  judged_units lines end is =
      units_gathered (logs_move guard) (order_of lines) (memory_before nothing_known lines) (memory_before end []) tt (judged_run lines nothing_known end is)
      (phases_words (system_entries_from (logs guard) (memory_before nothing_known lines) 0 (order_of lines)) (λ t. false) (judged_fits lines nothing_known end 0 is))
