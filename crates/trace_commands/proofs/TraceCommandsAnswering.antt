-- Which answer belongs to how a judge ended.
use Rattle.std.proofs.Common.{◌≡◌, ◌≢◌, ℕ, List, [], ◌++◌, sym, ◌∙◌, subst, append-nil}
use Rattle.logs.specs.Judging.{Refusal}
use Rattle.logs.specs.Logs.{Guard}
use Rattle.logs.specs.Said.{SaidData}
use Rattle.logs.specs.Numbers.{number_of_word}
use Rattle.logs.specs.Walks.{Stand, Stands, NoLine, Refused, front, walked}
use Rattle.trace_commands.specs.Answers.{IsAnswer, serial, no_line, cut_off, refused, open_block}
use Rattle.trace_commands.specs.Lines.{serial_line, fault_line, no_line_kind, refused_kind, refused_status, open_kind}
use Rattle.trace_commands.specs.NoteLines.{AreNotes, none}
use Rattle.trace_commands.specs.Outcomes.{Answers}

module _ (guard : ℕ → Guard) (log bytes : List ℕ) (status : ℕ) (text : List ℕ) where
  answers_of : (n : ℕ) (line notes : List ℕ) → AreNotes log notes → status ≡ n → IsAnswer guard log bytes n line → text ≡ line ++ notes → Answers guard log bytes status text
  answers_of n line notes are e answer is =
      record { line = line; answer = subst (λ k. IsAnswer guard log bytes k line) (sym e) answer; notes = notes; are_notes = are; text_is = is }

  line_alone : (n : ℕ) (line : List ℕ) → status ≡ n → IsAnswer guard log bytes n line → text ≡ line → Answers guard log bytes status text
  line_alone n line e answer is = answers_of n line [] none e answer (is ∙ sym (append-nil line))

  pub serial_answers : (s : Stand) → walked guard front bytes ≡ Stands s → s.row ≡ [] → ((t : ℕ) → s.known.depth t ≡ 0) → status ≡ 0 → text ≡ serial_line → Answers guard log bytes status text
  serial_answers s leads done closed e is = line_alone 0 serial_line e (serial s leads done closed) is

  pub cut_off_answers : (s : Stand) → walked guard front bytes ≡ Stands s → s.row ≢ [] → status ≡ 1 → text ≡ fault_line log s.line no_line_kind → Answers guard log bytes status text
  cut_off_answers s leads broken e is = line_alone 1 (fault_line log s.line no_line_kind) e (cut_off s leads broken) is

  pub open_answers : (s : Stand) (thread notes : List ℕ) → AreNotes log notes → walked guard front bytes ≡ Stands s → s.row ≡ [] → s.known.depth (number_of_word thread) ≢ 0 → status ≡ 4
      → text ≡ fault_line log s.line (open_kind thread) ++ notes → Answers guard log bytes status text
  open_answers s thread notes are leads done within e is = answers_of 4 (fault_line log s.line (open_kind thread)) notes are e (open_block s thread leads done within) is

  pub no_line_answers : (n : ℕ) → walked guard front bytes ≡ NoLine n → status ≡ 1 → text ≡ fault_line log n no_line_kind → Answers guard log bytes status text
  no_line_answers n leads e is = line_alone 1 (fault_line log n no_line_kind) e (no_line n leads) is

  pub refused_answers : (n : ℕ) (said : SaidData) (why : Refusal) (notes : List ℕ) → AreNotes log notes → walked guard front bytes ≡ Refused n said why → status ≡ refused_status why
      → text ≡ fault_line log n (refused_kind said why) ++ notes → Answers guard log bytes status text
  refused_answers n said why notes are leads e is = answers_of (refused_status why) (fault_line log n (refused_kind said why)) notes are e (refused n said why leads) is
