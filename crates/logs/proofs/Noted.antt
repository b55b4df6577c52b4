-- How a line is judged, in two steps.
use Rattle.std.proofs.Common.{◌≡◌, ℕ, true, false, Option, Some, None, unwrap_or, ap, sym, ◌∙◌, refl}
use Rattle.logs.specs.Events.{Event, Take, Give, Access, Start, Join, Stop, Begin, End, LogLine}
use Rattle.logs.specs.Judging as logs
use Rattle.logs.specs.Judging.{Known, Stops, line_noted, note_there, note_turn, event_turn, known_locks, with_stepper}
use Rattle.logs.specs.Logs.{Guard, ByLock, ByThread, Unguarded, kind_at, guarded_access_kind}
use Rattle.logs.specs.Memory.{Content, Lock, Value, Thread, Absent, Present, Ended, AtThread}
use Rattle.logs.specs.Turns.{Turn, turn_by_content, blocks_after}
use Rattle.logs.specs.Noting.{is_present, known_with_thread, locks_in, found_in, turn_in, note_turn_in, note_in}

module _ (k : Known) (t u : ℕ) where
  access_same : (g : Guard) → guarded_access_kind g (locks_in (with_stepper t k)) u ≡ guarded_access_kind g (known_locks k) u
  access_same (ByLock l) = refl
  access_same (ByThread w) = refl
  access_same Unguarded = refl

  kind_same : (guard : ℕ → Guard) (e : Event) → kind_at guard (locks_in (with_stepper t k)) u e ≡ kind_at guard (known_locks k) u e
  kind_same guard (Take l) = refl
  kind_same guard (Give l) = refl
  kind_same guard (Access p seen left) = access_same (guard p)
  kind_same guard (Start w) = refl
  kind_same guard (Join w) = refl
  kind_same guard Stop = refl
  kind_same guard (Begin name) = refl
  kind_same guard End = refl

module _ (guard : ℕ → Guard) (k : Known) (line : LogLine) where
  turn_same : turn_in guard (with_stepper line.thread k) line ≡ event_turn guard k line
  turn_same = ap (λ kind. turn_by_content kind line.event line.thread (found_in (with_stepper line.thread k) line.thread line.event)) (kind_same k line.thread line.thread guard line.event)

  in_turn : (d : ℕ) (x : Option Turn) → note_turn k line (Some d) x ≡ note_turn_in (known_with_thread line.thread k) line d x
  in_turn d None = refl
  in_turn d (Some x) = refl

  by_content : (d : ℕ) (c : Content) → is_present c ≡ true → blocks_after line.event (k.depth line.thread) ≡ Some d
      → note_there guard k line c ≡ note_in guard (known_with_thread line.thread k) line d
  by_content d (Lock o) there deep = absurd (let e : false ≡ true = there in cc)
  by_content d (Value v) there deep = absurd (let e : false ≡ true = there in cc)
  by_content d (Thread Absent) there deep = absurd (let e : false ≡ true = there in cc)
  by_content d (Thread Present) there deep = ap (λ o. note_turn k line o (event_turn guard k line)) deep ∙ in_turn d (event_turn guard k line)
      ∙ ap (note_turn_in (known_with_thread line.thread k) line d) (sym turn_same)
  by_content d (Thread Ended) there deep = absurd (let e : false ≡ true = there in cc)

  no_block_by : (c : Content) → is_present c ≡ true → blocks_after line.event (k.depth line.thread) ≡ None → note_there guard k line c ≡ Stops logs.NoBlock
  no_block_by (Lock o) there deep = absurd (let e : false ≡ true = there in cc)
  no_block_by (Value v) there deep = absurd (let e : false ≡ true = there in cc)
  no_block_by (Thread Absent) there deep = absurd (let e : false ≡ true = there in cc)
  no_block_by (Thread Present) there deep = ap (λ o. note_turn k line o (event_turn guard k line)) deep
  no_block_by (Thread Ended) there deep = absurd (let e : false ≡ true = there in cc)

  ended_by : (c : Content) → is_present c ≡ false → note_there guard k line c ≡ Stops logs.HasEnded
  ended_by (Lock o) gone = refl
  ended_by (Value v) gone = refl
  ended_by (Thread Absent) gone = refl
  ended_by (Thread Present) gone = absurd (let e : true ≡ false = gone in cc)
  ended_by (Thread Ended) gone = refl

  -- its thread is there: it goes on by its turn
  pub noted_in : (d : ℕ) → is_present (unwrap_or (k.cells (AtThread line.thread)) (Thread Present)) ≡ true → blocks_after line.event (k.depth line.thread) ≡ Some d
      → line_noted guard k line ≡ note_in guard (known_with_thread line.thread k) line d
  noted_in d = by_content d (unwrap_or (k.cells (AtThread line.thread)) (Thread Present))

  -- no block is open that could end
  pub noted_no_block : is_present (unwrap_or (k.cells (AtThread line.thread)) (Thread Present)) ≡ true → blocks_after line.event (k.depth line.thread) ≡ None
      → line_noted guard k line ≡ Stops logs.NoBlock
  noted_no_block = no_block_by (unwrap_or (k.cells (AtThread line.thread)) (Thread Present))

  -- its thread has ended
  pub noted_ended : is_present (unwrap_or (k.cells (AtThread line.thread)) (Thread Present)) ≡ false → line_noted guard k line ≡ Stops logs.HasEnded
  noted_ended = ended_by (unwrap_or (k.cells (AtThread line.thread)) (Thread Present))
