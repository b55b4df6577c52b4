-- What is answered on each way.
use Rattle.std.proofs.Common.{◌≡◌, ◌≢◌, ℕ, Bool, true, false, ◌==◌, ◌<◌, ◌≤◌, List, [], ◌++◌, inl, inr, Option, Some, length, Result, Ok, Err, IfOk, IfSome, MatchResult, IsErr, sym, ap, ◌∙◌, subst}
use Rattle.std.proofs.lemmas.Bool.{eqb-true, eqb-false}
use Rattle.std.proofs.lemmas.List.{nil_from_length}
use Rattle.edge.specs.Faults.{Rose}
use Rattle.edge.specs.Lines.{cannot_read_line, too_large_line}
use Rattle.logs.specs.Logs.{Guard}
use Rattle.logs.specs.Noting.{refusal_data}
use Rattle.logs.specs.Numbers.{number_of_word}
use Rattle.logs.specs.Said.{SaidData, said_of}
use Rattle.logs.specs.declared.judge.Refusal.{Refusal as RefusalCode}
use Rattle.logs.specs.declared.walk.WalkEnd.{WalkEnd}
use Rattle.logs.specs.declared.walk.WalkEnd.TheVariants as walk
use Rattle.logs.specs.Stops.{IsEnd}
use Rattle.logs.specs.Walks.{Stand, WalkedTo, Stands, front, walked}
use Rattle.log_reading.specs.Reading.{HasReadWhole, IsReadEnd}
use Rattle.log_reading.specs.declared.reading.ReadEnd.{ReadEnd}
use Rattle.log_reading.specs.declared.reading.ReadEnd.TheVariants as reading
use Rattle.trace_commands.specs.declared.answering.Outcome.{Outcome}
use Rattle.trace_commands.specs.declared.guarding.Guarding.{Guarding}
use Rattle.trace_commands.specs.declared.guarding.Guarding.TheVariants as guarding
use Rattle.trace_commands.specs.Lines.{fault_line, no_line_kind, refused_kind, refused_status, open_kind}
use Rattle.trace_commands.specs.NoteLines.{AreNotes}
use Rattle.trace_commands.specs.Outcomes.{Answers, IsCountedLog, IsGivenBy, IsGuarding, IsGuardsText, IsGuessed, IsNamed, IsTraceOutcome, judged, longest_file}
use Rattle.trace_commands.proofs.Found.{found_changed, found_unread, found_over}
use Rattle.trace_commands.proofs.Judging.{flipped, moved, not_told, stopped as has_stopped}
use Rattle.trace_commands.proofs.TraceCommandsAnswering.{cut_off_answers, no_line_answers, open_answers, refused_answers}

-- a row, by whether it is empty
pub row_some : (b : Bool) (now row : List ℕ) → b ≡ (length now == 0) → b ≡ false → now ≡ row → row ≢ []
row_some b now row is off same none = eqb-false (length now) 0 (sym is ∙ off) (ap length (same ∙ none))

pub row_none : (b : Bool) (now row : List ℕ) → b ≡ (length now == 0) → b ≡ true → now ≡ row → row ≡ []
row_none b now row is off same = sym same ∙ nil_from_length now (eqb-true (length now) 0 (sym is ∙ off))

refused_ok : (guard : ℕ → Guard) (log bytes : List ℕ) (s : Stand) (o : Outcome) (why : RefusalCode) (w : WalkedTo)
    → ((said : SaidData) → said_of s.row ≡ Some said → (o.status ≡ refused_status (refusal_data why)) × (notes : List ℕ) × AreNotes log notes × (o.text.items ≡ fault_line log s.line (refused_kind said (refusal_data why)) ++ notes))
    → walked guard front bytes ≡ w → IsEnd s w (walk.Refused why) → Answers guard log bytes o.status o.text.items
refused_ok guard log bytes s o why w is leads ends = let found = is ends.0 ends.1 in
    refused_answers guard log bytes o.status o.text.items s.line ends.0 (refusal_data why) found.1 found.2 (leads ∙ ends.2) found.0 found.3

module _ {E : Type 0} (guard : ℕ → Guard) (log bytes : List ℕ) (s : Stand) where
  pub cut_off_all : (result : Result Outcome E) (line : ℕ) → walked guard front bytes ≡ Stands s → s.row ≢ [] → line ≡ s.line
      → IfOk result (λ o. (o.status ≡ 1) × (o.text.items ≡ fault_line log line no_line_kind)) → IfOk result (λ o. Answers guard log bytes o.status o.text.items)
  cut_off_all (Ok o) line leads broken at is = cut_off_answers guard log bytes o.status o.text.items s leads broken is.0 (is.1 ∙ ap (λ n. fault_line log n no_line_kind) at)
  cut_off_all (Err e) line leads broken at is = tt

  pub open_all : (result : Result Outcome E) (thread : List ℕ) → walked guard front bytes ≡ Stands s → s.row ≡ [] → s.known.depth (number_of_word thread) ≢ 0
      → IfOk result (λ o. (o.status ≡ 4) × ((notes : List ℕ) × AreNotes log notes × (o.text.items ≡ fault_line log s.line (open_kind thread) ++ notes))) → IfOk result (λ o. Answers guard log bytes o.status o.text.items)
  open_all (Ok o) thread leads done within is = open_answers guard log bytes o.status o.text.items s thread is.1.0 is.1.1 leads done within is.0 is.1.2
  open_all (Err e) thread leads done within is = tt

  pub no_line_all : (result : Result Outcome E) (line : ℕ) (end : WalkEnd) (w : WalkedTo) → end ≡ walk.NoLine → line ≡ s.line
      → IfOk result (λ o. (o.status ≡ 1) × (o.text.items ≡ fault_line log line no_line_kind)) → walked guard front bytes ≡ w → IsEnd s w end → IfOk result (λ o. Answers guard log bytes o.status o.text.items)
  no_line_all (Ok o) line end w what at is leads ends =
      no_line_answers guard log bytes o.status o.text.items s.line (leads ∙ subst (λ e. IsEnd s w e) what ends) is.0 (is.1 ∙ ap (λ n. fault_line log n no_line_kind) at)
  no_line_all (Err e) line end w what at is leads ends = tt

  pub refused_all : (result : Result Outcome E) (why : RefusalCode) (end : WalkEnd) (w : WalkedTo) → end ≡ walk.Refused why
      → ((said : SaidData) → said_of s.row ≡ Some said → IfOk result (λ o. (o.status ≡ refused_status (refusal_data why)) × (notes : List ℕ) × AreNotes log notes × (o.text.items ≡ fault_line log s.line (refused_kind said (refusal_data why)) ++ notes)))
      → walked guard front bytes ≡ w → IsEnd s w end → IfOk result (λ o. Answers guard log bytes o.status o.text.items)
  refused_all (Ok o) why end w what is leads ends = refused_ok guard log bytes s o why w is leads (subst (λ e. IsEnd s w e) what ends)
  refused_all (Err e) why end w what is leads ends = tt

counted_ok : (log : List ℕ) (guards : Option (List ℕ)) (told : List ℕ → Option (List ℕ)) (before now : List ℕ → ℕ) (o : Outcome) (guard : ℕ → Guard) (limit many : ℕ) (s : Stand) (many_before : Option ℕ)
    → IsGivenBy guards told guard → (read : HasReadWhole guard (told log) limit many s) → IsGuessed (told log) many_before → IsCountedLog guard log read.bytes many_before many o.status o.text.items → IsTraceOutcome log guards told before now o.status o.text.items
counted_ok log guards told before now o guard limit many s many_before given read guessed (inl is) = found_changed log guards told before now o.status o.text.items (not_told guard (told log) limit many s many_before read guessed is.0) is.1 is.2
counted_ok log guards told before now o guard limit many s many_before given read guessed (inr answers) = judged o.status o.text.items guard given (record { bytes = read.bytes; its = flipped (told log) read.bytes read.its; answers = answers })

module _ {E : Type 0} (log : List ℕ) (guards : Option (List ℕ)) (told : List ℕ → Option (List ℕ)) (before now : List ℕ → ℕ) where
  pub unread_all : (result : Result Outcome E) (name : List ℕ) → IsNamed log guards name → Rose (before name) (now name)
      → IfOk result (λ o. (o.status ≡ 6) × (o.text.items ≡ cannot_read_line name)) → IfOk result (λ o. IsTraceOutcome log guards told before now o.status o.text.items)
  unread_all (Ok o) name named rose is = found_unread log guards told before now o.status o.text.items name named rose is.0 is.1
  unread_all (Err e) name named rose is = tt

  pub over_all : (result : Result Outcome E) (name : List ℕ) → IsNamed log guards name → IfSome (told name) (λ file. longest_file < length file)
      → IfOk result (λ o. (o.status ≡ 10) × (o.text.items ≡ too_large_line name)) → IfOk result (λ o. IsTraceOutcome log guards told before now o.status o.text.items)
  over_all (Ok o) name named large is = found_over log guards told before now o.status o.text.items name named large is.0 is.1
  over_all (Err e) name named large is = tt

  pub ended_all : (outcome : Result Outcome E) (result : Result Guarding E)
      → MatchResult result (λ g. MatchResult outcome (λ o. g ≡ guarding.Ended o) (λ e. ⊥)) (λ e. IsErr outcome)
      → IfOk outcome (λ o. IsTraceOutcome log guards told before now o.status o.text.items) → IfOk result (IsGuarding log guards told before now)
  ended_all (Ok o) (Ok g) is found = subst (IsGuarding log guards told before now) (sym is) found
  ended_all (Err e) (Ok g) is found = absurd is
  ended_all (Ok o) (Err e) is found = tt
  ended_all (Err d) (Err e) is found = tt

  pub counted_all : (result : Result Outcome E) (guard : ℕ → Guard) (limit many : ℕ) (s : Stand) (many_before : Option ℕ) → IsGivenBy guards told guard → HasReadWhole guard (told log) limit many s → IsGuessed (told log) many_before
      → ((bytes : List ℕ) → walked guard front bytes ≡ Stands s → IfOk result (λ o. IsCountedLog guard log bytes many_before many o.status o.text.items))
      → IfOk result (λ o. IsTraceOutcome log guards told before now o.status o.text.items)
  counted_all (Ok o) guard limit many s many_before given read guessed counts = counted_ok log guards told before now o guard limit many s many_before given read guessed (counts read.bytes read.leads)
  counted_all (Err e) guard limit many s many_before given read guessed counts = tt

  pub stopped_all : (result : Result Outcome E) (guard : ℕ → Guard) (limit : ℕ) (s : Stand) (read : ReadEnd) (end : WalkEnd) → IsGivenBy guards told guard → read ≡ reading.Walk end
      → IsReadEnd guard (told log) limit (before log) (now log) s read
      → ((bytes : List ℕ) (w : WalkedTo) → walked guard front bytes ≡ w → IsEnd s w end → IfOk result (λ o. Answers guard log bytes o.status o.text.items))
      → IfOk result (λ o. IsTraceOutcome log guards told before now o.status o.text.items)
  stopped_all (Ok o) guard limit s read end given what ends answers = let is = subst (IsReadEnd guard (told log) limit (before log) (now log) s) what ends in
      judged o.status o.text.items guard given (has_stopped guard s log (told log) end is.0 o.status o.text.items is.1 is.2 answers)
  stopped_all (Err e) guard limit s read end given what ends answers = tt

  pub moved_all : (result : Result Outcome E) (told_then : List ℕ → Option (List ℕ)) (before_then : List ℕ → ℕ) → ((name : List ℕ) → told_then name ≡ told name) → ((name : List ℕ) → before_then name ≡ before name)
      → IfOk result (λ o. IsTraceOutcome log guards told_then before_then now o.status o.text.items) → IfOk result (λ o. IsTraceOutcome log guards told before now o.status o.text.items)
  moved_all (Ok o) told_then before_then same calm is = moved log guards told told_then before before_then now o.status o.text.items same calm is
  moved_all (Err e) told_then before_then same calm is = tt

pub read_rose : (guard : ℕ → Guard) (told : Option (List ℕ)) (limit before now : ℕ) (s : Stand) (read : ReadEnd) → read ≡ reading.Fault → IsReadEnd guard told limit before now s read → Rose before now
read_rose guard told limit before now s read what ends = subst (IsReadEnd guard told limit before now s) what ends

pub read_over : (guard : ℕ → Guard) (told : Option (List ℕ)) (limit before now : ℕ) (s : Stand) (read : ReadEnd) → read ≡ reading.TooLarge → IsReadEnd guard told limit before now s read
    → IfSome told (λ file. limit < length file)
read_over guard told limit before now s read what ends = subst (IsReadEnd guard told limit before now s) what ends

-- the text of a file of guards that was read whole
pub given_text : (told : Option (List ℕ)) (read text : List ℕ) → text ≡ read → IfSome told (λ file. read ≡ file) → length read ≤ longest_file → IsGuardsText told text
given_text told read text same its within = subst (IsGuardsText told) (sym same) (record { its = its; within = within })
