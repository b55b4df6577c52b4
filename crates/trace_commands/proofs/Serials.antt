-- The sentence, from what was said.
use Rattle.std.proofs.Common.{◌≡◌, inl, inr, ℕ, List, [], ◌∷◌, Option, Some, None, IfSome, refl, sym, ◌∙◌, subst, arith}
use Rattle.logs.specs.Judging.{Refusal, HasEnded, NoBlock, Impossible, Cut}
use Rattle.logs.specs.Logs.{Guard}
use Rattle.logs.specs.Said.{SaidData}
use Rattle.logs.specs.Serial.{IsSerialLog}
use Rattle.logs.specs.Spelling.{IsLog, log_lines_of}
use Rattle.logs.specs.Walks.{Stand, Stands, front, walked}
use Rattle.edge.specs.Said.{SaysText}
use Rattle.trace_commands.specs.Answers.{IsAnswer, serial, no_line, cut_off, refused, open_block}
use Rattle.trace_commands.specs.Lines.{refused_status}
use Rattle.trace_commands.specs.Outcomes.{IsTraceOutcome, unread, changed, over, no_guards, judged}
use Rattle.trace_commands.specs.Sentence.{IsSerialFile}
use Rattle.trace_commands.specs.Words.{NamesLog, guards_word}

-- words ask for one log, and for one file of guards or none
pub same_log : (words : List (List ℕ)) (log named : List ℕ) (guards given : Option (List ℕ)) → NamesLog words log guards → NamesLog words named given → log ≡ named
same_log words log named None None row other = let both : log ∷ [] ≡ named ∷ [] = sym row ∙ other in cc
same_log words log named None (Some g) row other = let both : log ∷ [] ≡ named ∷ guards_word ∷ g ∷ [] = sym row ∙ other in cc
same_log words log named (Some f) None row other = let both : log ∷ guards_word ∷ f ∷ [] ≡ named ∷ [] = sym row ∙ other in cc
same_log words log named (Some f) (Some g) row other = let both : log ∷ guards_word ∷ f ∷ [] ≡ named ∷ guards_word ∷ g ∷ [] = sym row ∙ other in cc

pub same_guards : (words : List (List ℕ)) (log named : List ℕ) (guards given : Option (List ℕ)) → NamesLog words log guards → NamesLog words named given → guards ≡ given
same_guards words log named None None row other = refl
same_guards words log named None (Some g) row other = let both : log ∷ [] ≡ named ∷ guards_word ∷ g ∷ [] = sym row ∙ other in absurd cc
same_guards words log named (Some f) None row other = let both : log ∷ guards_word ∷ f ∷ [] ≡ named ∷ [] = sym row ∙ other in absurd cc
same_guards words log named (Some f) (Some g) row other = let both : log ∷ guards_word ∷ f ∷ [] ≡ named ∷ guards_word ∷ g ∷ [] = sym row ∙ other in cc

no_zero : (why : Refusal) → refused_status why ≡ 0 → ⊥
no_zero HasEnded e = omega (arith, e)
no_zero NoBlock e = omega (arith, e)
no_zero Impossible e = omega (arith, e)
no_zero Cut e = omega (arith, e)

module _ (law : (guard : ℕ → Guard) (text : List ℕ) (s : Stand) → walked guard front text ≡ Stands s → s.row ≡ [] → ((t : ℕ) → s.known.depth t ≡ 0)
    → (said : List SaidData) × IsLog text said × IsSerialLog (log_lines_of said)) where
  at_zero : (guard : ℕ → Guard) (log : List ℕ) (told : Option (List ℕ)) (bytes : List ℕ) (status : ℕ) (line : List ℕ) → IfSome told (λ file. bytes ≡ file) → IsAnswer guard log bytes status line → status ≡ 0
      → IsSerialFile told
  at_zero guard log told bytes _ _ its (serial s leads done closed) e = let found = law guard bytes s leads done closed in
      record { bytes = bytes; its = its; said = found.0; log = found.1; serial = found.2 }
  at_zero guard log told bytes _ _ its (no_line n leads) e = absurd (omega (arith, e))
  at_zero guard log told bytes _ _ its (cut_off s leads broken) e = absurd (omega (arith, e))
  at_zero guard log told bytes _ _ its (refused n said why leads) e = absurd (no_zero why e)
  at_zero guard log told bytes _ _ its (open_block s thread leads done within) e = absurd (omega (arith, e))

  found_zero : (log : List ℕ) (guards : Option (List ℕ)) (told : List ℕ → Option (List ℕ)) (before now : List ℕ → ℕ) (status : ℕ) (text : List ℕ) → IsTraceOutcome log guards told before now status text → status ≡ 0
      → IsSerialFile (told log)
  found_zero log guards told before now _ _ (unread name named rose) e = absurd (omega (arith, e))
  found_zero log guards told before now _ _ (changed none) e = absurd (omega (arith, e))
  found_zero log guards told before now _ _ (over name named large) e = absurd (omega (arith, e))
  found_zero log guards told before now _ _ (no_guards name line is none) e = absurd (omega (arith, e))
  found_zero log guards told before now _ _ (judged status text guard given j) e = at_zero guard log (told log) j.bytes status j.answers.line j.its j.answers.answer e

  status_zero : (status : ℕ) (text : List ℕ) (old new : Option (List ℕ)) (before now result : ℕ) → SaysText result status text old new before now → result ≡ 0 → status ≡ 0
  status_zero status text old new before now result (inl s) zero = sym s.0 ∙ zero
  status_zero status text old new before now result (inr s) zero = absurd (omega (arith, s.0, zero))

  pub serial_run : (words : List (List ℕ)) (log named : List ℕ) (guards given : Option (List ℕ)) (told : List ℕ → Option (List ℕ)) (before now : List ℕ → ℕ) (status : ℕ) (text said : List ℕ) (old new : Option (List ℕ)) (sink_before sink_now result : ℕ)
      → NamesLog words log guards → NamesLog words named given → IsTraceOutcome named given told before now status text → SaysText result status said old new sink_before sink_now → result ≡ 0 → IsSerialFile (told log)
  serial_run words log named guards given told before now status text said old new sink_before sink_now result row other outcome says zero =
      subst (λ l. IsSerialFile (told l)) (sym (same_log words log named guards given row other))
      (found_zero named given told before now status text outcome (status_zero status said old new sink_before sink_now result says zero))
