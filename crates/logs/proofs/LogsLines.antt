-- The lines of a schedule, and what they make of cells and blocks.
use Rattle.std.proofs.Common.{◌≡◌, ◌≢◌, ℕ, zero, suc, ◌+◌, ◌==◌, Bool, true, false, not, List, [], ◌∷◌, ◌++◌, refl, sym, ap, ◌∙◌, Some, None}
use Rattle.std.specs.Prelude.{Option, take, slice_get, if◌then◌else◌}
use Rattle.std.proofs.lemmas.Bool.{eqb-true, eq-eqb}
use Rattle.std.proofs.lemmas.Option.{same_Some}
use Rattle.state.specs.declared.value.StepKind.{StepKind}
use Rattle.state.specs.declared.value.StepKind.TheVariants.{Both}
use Rattle.reduction.specs.Serial.{IsSerialOrder}
use Rattle.reduction.specs.Systems.{StepTo, run_then, system_run_from, written_from}
use Rattle.logs.specs.Events.{Word, Event, Take, Give, Access, Start, Join, Stop, Begin, End, LogLine, order_of}
use Rattle.logs.specs.Judging.{Known, nothing_known, Note, Goes, Stops, line_noted, note_then, judged, events_of, memory_before}
use Rattle.logs.specs.Logs.{Guard, kind_at, is_within, logs}
use Rattle.logs.specs.Memory.{AtThread, Content, Lock, Value, Thread, content_put, Own, put_own, LogMemory}
use Rattle.logs.specs.Serial.{Scene, scene_after, scene_at, scene_then, happen, IsSerialLog}
use Rattle.logs.specs.Turns.{cell_of, Turn, only_if, saw_content, left_in, access_turn, turn_by_content}
use Rattle.logs.proofs.Cells.{not_true, own_here, own_other}
use Rattle.logs.proofs.Judged.{stepped, judged_run, judged_serial}
use Rattle.logs.proofs.Moves.{Did, did}

-- what a turn leaves is the same whatever the kind of an access is
access_any : (kind : StepKind) (seen left : Option Word) (c : Content) (x : Turn) → access_turn kind seen left c ≡ Some x → (y : Turn) × (access_turn Both seen left c ≡ Some y) × (y.content ≡ x.content)
access_any kind seen left (Lock o) x e = absurd cc
access_any kind seen left (Value v) x e = by (saw_content seen v) e
  where
    by : (b : Bool) → only_if b (record { kind = kind; content = Value (left_in left v) }) ≡ Some x
        → (y : Turn) × (only_if b (record { kind = Both; content = Value (left_in left v) }) ≡ Some y) × (y.content ≡ x.content)
    by true h = (record { kind = Both; content = Value (left_in left v) }, refl, ap (λ (z : Turn). z.content) (same_Some _ x h))
    by false h = absurd cc
access_any kind seen left (Thread p) x e = absurd cc

turn_any : (kind : StepKind) (e : Event) (t : ℕ) (c : Content) (x : Turn) → turn_by_content kind e t c ≡ Some x → (y : Turn) × (turn_by_content Both e t c ≡ Some y) × (y.content ≡ x.content)
turn_any kind (Take l) t c x e = (x, e, refl)
turn_any kind (Give l) t c x e = (x, e, refl)
turn_any kind (Access p seen left) t c x e = access_any kind seen left c x e
turn_any kind (Start u) t c x e = (x, e, refl)
turn_any kind (Join u) t c x e = (x, e, refl)
turn_any kind Stop t c x e = (x, e, refl)
turn_any kind (Begin name) t c x e = (x, e, refl)
turn_any kind End t c x e = (x, e, refl)

abbrev pub scene_of : LogMemory → Scene
scene_of q = record { cells = q.cells; depth = λ u. (q.own u).depth }

-- the line of a step, before those after it
abbrev pub line_then : ℕ → List Event → Option (StepTo LogMemory) → (LogMemory → List LogLine) → List LogLine
line_then t [] o later = []
line_then t (e ∷ es) None later = []
line_then t (e ∷ es) (Some x) later = record { thread = t; event = e } ∷ later x.to

module _ (guard : ℕ → Guard) where
  -- the lines of a schedule from a memory
  abbrev pub lines_of : LogMemory → List ℕ → List LogLine
  lines_of q [] = []
  lines_of q (t ∷ s) = line_then t (q.own t).rest ((logs guard).step q t) (λ next. lines_of next s)

  -- a schedule that runs makes a step
  abbrev Next : LogMemory → ℕ → List ℕ → LogMemory → Type 0
  Next q t s end = (x : StepTo LogMemory) × ((logs guard).step q t ≡ Some x) × (system_run_from (logs guard) x.to s ≡ Some end)

  next : (q : LogMemory) (t : ℕ) (s : List ℕ) (end : LogMemory) → system_run_from (logs guard) q (t ∷ s) ≡ Some end → Next q t s end
  next q t s end ran = by ((logs guard).step q t) refl ran
    where
      by : (o : Option (StepTo LogMemory)) → (logs guard).step q t ≡ o → run_then o (λ r. system_run_from (logs guard) r s) ≡ Some end → Next q t s end
      by None e h = absurd cc
      by (Some x) e h = (x, e, h)

  -- its first line
  first_line : (q : LogMemory) (t : ℕ) (s : List ℕ) (x : StepTo LogMemory) → (logs guard).step q t ≡ Some x → (m : Did guard q t x.kind x.to)
      → lines_of q (t ∷ s) ≡ record { thread = t; event = m.event } ∷ lines_of x.to s
  first_line q t s x e m = λ i. line_then t (m.log i) (e i) (λ r. lines_of r s)

  -- a step makes the scene after its line
  scene_next : (q : LogMemory) (t : ℕ) (kind : StepKind) (r : LogMemory) → (m : Did guard q t kind r) → scene_at (scene_of q) (record { thread = t; event = m.event }) (q.cells (AtThread t)) ≡ Some (scene_of r)
  scene_next q t kind r m =
      let line : LogLine = record { thread = t; event = m.event } in
      let any = turn_any (kind_at guard q.cells t m.event) m.event t (q.cells (cell_of t m.event)) m.turn_is m.turns in
      ap (scene_at (scene_of q) line) m.present
      ∙ (λ i. scene_after (scene_of q) line (m.deep i) (any.1 i))
      ∙ (λ i. Some (record { cells = content_put (cell_of t m.event) (any.2 i) q.cells; depth = λ u. depth_same u (t == u) i }))
      ∙ ap (λ z. Some (scene_of z)) m.to
    where
      depth_same : (u : ℕ) (b : Bool) → (if b then m.depth else (q.own u).depth) ≡ (if◌then◌else◌ {A = Own} b (record { depth = m.depth; rest = m.rest }) (q.own u)).depth
      depth_same u true = refl
      depth_same u false = refl

  pub lines_happen : (s : List ℕ) (q end : LogMemory) → system_run_from (logs guard) q s ≡ Some end → happen (scene_of q) (lines_of q s) ≡ Some (scene_of end)
  lines_happen [] q end ran = ap (λ z. Some (scene_of z)) (same_Some q end ran)
  lines_happen (t ∷ s) q end ran =
      let n = next q t s end ran in
      let m = did guard q t n.0.kind n.0.to n.1 in
      ap (happen (scene_of q)) (first_line q t s n.0 n.1 m)
      ∙ ap (λ o. scene_then o (λ z. happen z (lines_of n.0.to s))) (scene_next q t n.0.kind n.0.to m)
      ∙ lines_happen s n.0.to end n.2

  pub lines_order : (s : List ℕ) (q end : LogMemory) → system_run_from (logs guard) q s ≡ Some end → order_of (lines_of q s) ≡ s
  lines_order [] q end ran = refl
  lines_order (t ∷ s) q end ran =
      let n = next q t s end ran in
      let m = did guard q t n.0.kind n.0.to n.1 in
      ap order_of (first_line q t s n.0 n.1 m) ∙ ap (λ r. t ∷ r) (lines_order s n.0.to end n.2)

  -- each thread's lines are what the log says of it, but for what is left
  pub lines_own : (s : List ℕ) (q end : LogMemory) → system_run_from (logs guard) q s ≡ Some end → (u : ℕ) → (q.own u).rest ≡ events_of u (lines_of q s) ++ (end.own u).rest
  lines_own [] q end ran u = ap (λ (z : LogMemory). (z.own u).rest) (same_Some q end ran)
  lines_own (t ∷ s) q end ran u =
      let n = next q t s end ran in
      let m = did guard q t n.0.kind n.0.to n.1 in
      let later = lines_own s n.0.to end n.2 u in
      by m (record { depth = m.depth; rest = m.rest }) refl n.0.to (ap (λ (z : LogMemory). z.own u) m.to) (t == u) refl (lines_of n.0.to s) later ∙ ap (λ ls. events_of u ls ++ (end.own u).rest) (sym (first_line q t s n.0 n.1 m))
    where
      by : {kind : StepKind} {r : LogMemory} (m : Did guard q t kind r) (mine : Own) → mine.rest ≡ m.rest → (z : LogMemory) → put_own t mine q.own u ≡ z.own u
          → (b : Bool) → (t == u) ≡ b → (ls : List LogLine) → (z.own u).rest ≡ events_of u ls ++ (end.own u).rest
          → (q.own u).rest ≡ (if b then m.event ∷ events_of u ls else events_of u ls) ++ (end.own u).rest
      by m mine is z to true e ls later =
          ap (λ v. (q.own v).rest) (sym (eqb-true t u e)) ∙ m.log
          ∙ ap (λ es. m.event ∷ es) (sym is ∙ ap (λ (o : Own). o.rest) (sym (own_here t mine q.own)) ∙ ap (λ v. (put_own t mine q.own v).rest) (eqb-true t u e) ∙ ap (λ (o : Own). o.rest) to ∙ later)
      by m mine is z to false e ls later =
          ap (λ (o : Own). o.rest) (sym (own_other t u mine q.own (λ same. absurd (let h : true ≡ false = sym (eq-eqb t u same) ∙ e in cc))) ∙ to) ∙ later

  -- a front of a schedule that runs
  pub front_runs : (n : ℕ) (s : List ℕ) (q end : LogMemory) → system_run_from (logs guard) q s ≡ Some end → (r : LogMemory) × (system_run_from (logs guard) q (take n s) ≡ Some r) × (take n (lines_of q s) ≡ lines_of q (take n s))
  front_runs zero s q end ran = (q, refl, refl)
  front_runs (suc n) [] q end ran = (q, refl, refl)
  front_runs (suc n) (t ∷ s) q end ran =
      let x = next q t s end ran in
      let m = did guard q t x.0.kind x.0.to x.1 in
      let later = front_runs n s x.0.to end x.2 in (
        later.0,
        ap (λ o. run_then o (λ r. system_run_from (logs guard) r (take n s))) x.1 ∙ later.1,
        ap (take (suc n)) (first_line q t s x.0 x.1 m) ∙ ap (λ ls. record { thread = t; event = m.event } ∷ ls) later.2 ∙ sym (first_line q t (take n s) x.0 x.1 m),
      )

  -- the lines of a log that is judged are the log
  pub lines_given : (lines : List LogLine) (k end : Known) → judged guard k lines ≡ Goes end → lines_of (memory_before k lines) (order_of lines) ≡ lines
  lines_given [] k end is = refl
  lines_given (line ∷ lines) k end is = by (line_noted guard k line) refl is (λ after h. lines_given lines after end h)
    where
      by : (n : Note) → line_noted guard k line ≡ n → note_then n (λ next. judged guard next lines) ≡ Goes end → ((after : Known) → judged guard after lines ≡ Goes end → lines_of (memory_before after lines) (order_of lines) ≡ lines) → lines_of (memory_before k (line ∷ lines)) (order_of (line ∷ lines)) ≡ line ∷ lines
      by (Goes after) e h later =
          (λ i. line_then line.thread (if eq-eqb line.thread line.thread refl i then line.event ∷ events_of line.thread lines else events_of line.thread lines) ((stepped guard k line lines after e).steps i) (λ r. lines_of r (order_of lines)))
          ∙ ap (λ ls. line ∷ ls) (later after h)
      by (Stops why) e h later = absurd cc

thread_at : (lines : List LogLine) (place : ℕ) (a : LogLine) → slice_get lines place ≡ Some a → slice_get (order_of lines) place ≡ Some a.thread
thread_at [] place a at = absurd cc
thread_at (l ∷ lines) zero a at = ap (λ (z : LogLine). Some z.thread) (same_Some l a at)
thread_at (l ∷ lines) (suc place) a at = thread_at lines place a at

within : (o : Own) → o.depth ≢ 0 → is_within o ≡ true
within o nonzero = ap not (not_true (o.depth == 0) (λ e. absurd (nonzero (eqb-true o.depth 0 e))))

append_nil : {A : Type 0} (xs : List A) → xs ++ [] ≡ xs
append_nil [] = refl
append_nil (x ∷ xs) = ap (λ ys. x ∷ ys) (append_nil xs)

-- a log that is judged to its end is serial
pub serial_log : (guard : ℕ → Guard) (lines : List LogLine) (k : Known) → judged guard nothing_known lines ≡ Goes k → ((t : ℕ) → k.depth t ≡ 0) → IsSerialLog lines
serial_log guard lines k is closed =
    let M = logs guard in
    let start = memory_before nothing_known lines in
    let end = memory_before k [] in
    let serial : IsSerialOrder M start (order_of lines) (written_from M start (order_of lines)) end = judged_serial guard lines k is closed in
    let s = written_from M start (order_of lines) in
    let order = lines_of guard start s in
    let same = lines_order guard s start end serial.runs in
    record {
      cells = start.cells;
      end = scene_of end;
      order = order;
      own = λ t. sym (append_nil (events_of t order)) ∙ sym (lines_own guard s start end serial.runs t);
      given = ap (happen (scene_of start)) (sym (lines_given guard lines nothing_known k is)) ∙ lines_happen guard (order_of lines) start end (judged_run guard lines nothing_known k is);
      happens = lines_happen guard s start end serial.runs;
      uninterrupted = λ place a b z here following ran nonzero.
          let front = front_runs guard (place + 1) s start end serial.runs in
          let there : scene_of front.0 ≡ z = same_Some (scene_of front.0) z (sym (lines_happen guard (take (place + 1) s) start front.0 front.1) ∙ ap (happen (scene_of start)) (sym front.2) ∙ ran) in
          serial.uninterrupted.kept place a.thread b.thread front.0
          (ap (λ r. slice_get r place) (sym same) ∙ thread_at order place a here) (ap (λ r. slice_get r (place + 1)) (sym same) ∙ thread_at order (place + 1) b following) front.1
          (within (front.0.own a.thread) (λ e. absurd (nonzero (sym (ap (λ (x : Scene). x.depth a.thread) there) ∙ e))));
    }
