-- What is walked through is a log that is judged.
use Rattle.std.proofs.Common.{◌≡◌, ℕ, ◌+◌, true, false, ◌==◌, List, [], ◌∷◌, ◌++◌, Option, Some, None, if◌then◌else◌, ap, sym, ◌∙◌, refl, subst, append-nil, append_assoc}
use Rattle.std.proofs.lemmas.Bool.{eqb-true}
use Rattle.logs.specs.Events.{LogLine}
use Rattle.logs.specs.Judging.{Known, Note, Goes, Stops, nothing_known, line_noted, note_then, judged}
use Rattle.logs.specs.Logs.{Guard}
use Rattle.logs.specs.Serial.{IsSerialLog}
use Rattle.logs.specs.Said.{SaidData, said_of, spell, Spells}
use Rattle.logs.specs.LogJudgeEvents.{log_line_of}
use Rattle.logs.specs.Spelling.{spelled_lines, AreLines, log_lines_of, IsLog}
use Rattle.logs.specs.Walks.{Stand, front, Stands, NoLine, Refused, after_note, after_row, with_byte, walk_then, walked}

module _ (row_spelled : (row : List ℕ) (said : SaidData) → said_of row ≡ Some said → Spells said row) (guard : ℕ → Guard) where
  -- what was said on a way
  pub record Way (s e : Stand) (bytes : List ℕ) : Type 0 where
    pub said : List SaidData
    pub words : AreLines said
    pub bytes_are : s.row ++ bytes ≡ spelled_lines said ++ e.row
    pub judges : judged guard s.known (log_lines_of said) ≡ Goes e.known

  no_way : (n : ℕ) (e : Stand) → NoLine n ≡ Stands e → ⊥
  no_way n e is = cc

  refused_way : (n : ℕ) (said : SaidData) (why : _) (e : Stand) → Refused n said why ≡ Stands e → ⊥
  refused_way n said why e is = cc

  same_stand : (s e : Stand) → Stands s ≡ Stands e → s ≡ e
  same_stand s e is = cc

  -- one line, and the way behind it
  line_then : (s e : Stand) (bs : List ℕ) (said : SaidData) (k : Known) → Spells said s.row → line_noted guard s.known (log_line_of said) ≡ Goes k
      → Way (record { known = k; row = []; line = s.line + 1 }) e bs → Way s e (10 ∷ bs)
  line_then s e bs said k row goes way = record {
    said = said ∷ way.said;
    words = (row.words, way.words);
    bytes_are = ap (λ r. r ++ 10 ∷ bs) row.bytes ∙ ap (λ r. spell said ++ 10 ∷ r) way.bytes_are ∙ sym (append_assoc (spell said) (10 ∷ spelled_lines way.said) e.row);
    judges = ap (λ n. note_then n (λ next. judged guard next (log_lines_of way.said))) goes ∙ way.judges;
  }

  -- one byte, and the way behind it
  byte_then : (s e : Stand) (b : ℕ) (bs : List ℕ) → Way (with_byte s b) e bs → Way s e (b ∷ bs)
  byte_then s e b bs way = record {
    said = way.said;
    words = way.words;
    bytes_are = sym (append_assoc s.row (b ∷ []) bs) ∙ way.bytes_are;
    judges = way.judges;
  }

  by_note : (s e : Stand) (bs : List ℕ) (said : SaidData) (n : Note) → Spells said s.row → line_noted guard s.known (log_line_of said) ≡ n
      → ((m : Stand) → walked guard m bs ≡ Stands e → Way m e bs) → walk_then (after_note s said n) (λ next. walked guard next bs) ≡ Stands e → Way s e (10 ∷ bs)
  by_note s e bs said (Goes k) row is rest leads = line_then s e bs said k row is (rest (record { known = k; row = []; line = s.line + 1 }) leads)
  by_note s e bs said (Stops why) row is rest leads = absurd (refused_way s.line said why e leads)

  by_row : (s e : Stand) (bs : List ℕ) (o : Option SaidData) → said_of s.row ≡ o → ((m : Stand) → walked guard m bs ≡ Stands e → Way m e bs)
      → walk_then (after_row guard s o) (λ next. walked guard next bs) ≡ Stands e → Way s e (10 ∷ bs)
  by_row s e bs None is rest leads = absurd (no_way s.line e leads)
  by_row s e bs (Some said) is rest leads = by_note s e bs said (line_noted guard s.known (log_line_of said)) (row_spelled s.row said is) refl rest leads

  pub way_of : (s e : Stand) (bs : List ℕ) → walked guard s bs ≡ Stands e → Way s e bs
  way_of s e [] leads = subst (λ m. Way s m []) (same_stand s e leads) (record { said = []; words = tt; bytes_are = append-nil s.row; judges = refl })
  way_of s e (b ∷ bs) leads = elim (b == 10) as (λ t. (b == 10) ≡ t → walk_then (if t then after_row guard s (said_of s.row) else Stands (with_byte s b)) (λ next. walked guard next bs) ≡ Stands e → Way s e (b ∷ bs)) [
    | true ↦ λ is far. subst (λ c. Way s e (c ∷ bs)) (sym (eqb-true b 10 is)) (by_row s e bs (said_of s.row) refl (λ m. way_of m e bs) far)
    | false ↦ λ is far. byte_then s e b bs (way_of (with_byte s b) e bs far)
  ] refl leads

  pub serial_text : ((lines : List LogLine) (k : Known) → judged guard nothing_known lines ≡ Goes k → ((t : ℕ) → k.depth t ≡ 0) → IsSerialLog lines) → (text : List ℕ) (s : Stand) → walked guard front text ≡ Stands s → s.row ≡ [] → ((t : ℕ) → s.known.depth t ≡ 0)
      → (said : List SaidData) × IsLog text said × IsSerialLog (log_lines_of said)
  serial_text serial text s leads done closed =
      let way = way_of front s text leads in
      (way.said, record { words = way.words; bytes = way.bytes_are ∙ ap (λ r. spelled_lines way.said ++ r) done ∙ append-nil (spelled_lines way.said) }, serial (log_lines_of way.said) s.known way.judges closed)
