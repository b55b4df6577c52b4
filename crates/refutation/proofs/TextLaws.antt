-- Whole texts: each has one list of lines, or one first fault.
use Rattle.std.proofs.Common.{◌≡◌, ℕ, ◌-◌, ◌<◌, ◌^◌, List, [], ◌∷◌, ◌++◌, length, codes, decimal, Some, None, Ok, Err, refl, sym, ◌∙◌, ap, subst, arith, append_assoc, append-nil}
use Rattle.std.specs.List.{AllByRecursion}
use Rattle.books.specs.declared.stop.Kind.{Kind}
use Rattle.books.specs.Texts.{newline}
use Rattle.books.specs.Combine.{Res, ◌>>=◌, unread, expect, exactly}
use Rattle.books.specs.Reading.{number_at, nothing_behind}
use Rattle.books.proofs.BookLaws.{sound_ok, ok_value}
use Rattle.books.proofs.Complete.{complete_number}
use Rattle.books.proofs.PassLemmas.{pass_seq, pass_same}
use Rattle.books.proofs.Several.{unseen_fault}
use Rattle.books.proofs.Sound.{SoundAt, Bytes, IsNumber, RowOf, sound_seq, sound_weaker, sound_expect, sound_number, sound_exactly}
use Rattle.books.proofs.CursorLaws.{nothing_left}
use Rattle.refutation.specs.Lines.{LineData, AreAscending}
use Rattle.refutation.specs.Reading.{line_at, count_at, end_at, blame_at, stop_of, first_certificate_fault}
use Rattle.refutation.specs.Passing.{pass_lines, pass_blame}
use Rattle.refutation.specs.Texts.{certificate_text, blame_text, IsWritableLine, IsCertificateText}
use Rattle.refutation.proofs.Lines.{ReadsLine, sound_line, pass_lines-is, complete_lines, row_lines}

sound_count : (ts : List ℕ) → SoundAt (λ front n. (front ≡ codes "blame " ++ (decimal n ++ (newline ∷ []))) × (n < 2 ^ 32)) ts (count_at ts)
unfolding count_at
sound_count ts =
    sound_seq (Bytes (codes "blame ")) _ ts (expect (codes "blame ") ts) _ (sound_expect (codes "blame ") ts) λ u r.
    sound_seq (IsNumber (2 ^ 32)) _ r (number_at (2 ^ 32) r) _ (sound_number (2 ^ 32) (omega arith) r) λ n r.
    sound_seq (Bytes (newline ∷ [])) _ r (expect (newline ∷ []) r) _ (sound_expect (newline ∷ []) r) λ u r.
    ([], refl, λ x3 e3 x2 e2 x1 e1. ((λ i. e1 i ++ (e2.0 i ++ (append-nil x3 ∙ e3) i)), e2.1))

sound_nothing : (ts : List ℕ) → SoundAt (Bytes []) ts (nothing_behind ts)
sound_nothing [] = ([], refl, refl)
sound_nothing (x ∷ ts) = ([], refl)

sound_end : (ts : List ℕ) → SoundAt (Bytes (codes "end" ++ (newline ∷ []))) ts (end_at ts)
unfolding end_at
sound_end ts =
    sound_seq (Bytes (codes "end" ++ (newline ∷ []))) (Bytes (codes "end" ++ (newline ∷ []))) ts (expect (codes "end" ++ (newline ∷ [])) ts) (λ u ts. nothing_behind ts) (sound_expect (codes "end" ++ (newline ∷ [])) ts)
    (λ u r. sound_weaker (Bytes []) (λ ys b. (xs : List ℕ) → Bytes (codes "end" ++ (newline ∷ [])) xs u → Bytes (codes "end" ++ (newline ∷ [])) (xs ++ ys) b) r
    (λ front v none xs e. (λ i. e i ++ none i) ∙ append-nil (codes "end" ++ (newline ∷ []))) (nothing_behind r) (sound_nothing r))

end_left : (ts r : List ℕ) (u : Unit {0}) → end_at ts ≡ Ok (u, r) → r ≡ []
unfolding end_at
end_left ts r u e = by (expect (codes "end" ++ (newline ∷ [])) ts) e
  where
    by : (p : Res (Unit {0})) → (p >>= λ u ts. nothing_behind ts) ≡ Ok (u, r) → r ≡ []
    by (Ok y) e = nothing_left y.1 r u e
    by (Err d) e = absurd (cc)

-- the parts of a text that are read are a list of lines and its text
pub lines_text_is : (bytes : List ℕ) (n : ℕ) (first behind : List ℕ) (ls : List LineData) (u : Unit {0}) (r : List ℕ) → count_at bytes ≡ Ok (n, first) → exactly n line_at first ≡ Ok (ls, behind) → end_at behind ≡ Ok (u, r) → IsCertificateText bytes ls
lines_text_is bytes n first behind ls u r counted read ended =
    let c = sound_ok (λ front n. (front ≡ codes "blame " ++ (decimal n ++ (newline ∷ []))) × (n < 2 ^ 32)) bytes n first (count_at bytes) (sound_count bytes) counted in
    let l = sound_ok (RowOf ReadsLine n) first ls behind (exactly n line_at first) (sound_exactly ReadsLine line_at sound_line n first) read in
    let lines = row_lines l.0 ls l.2.0 in
    let e = sound_ok (Bytes (codes "end" ++ (newline ∷ []))) behind u r (end_at behind) (sound_end behind) ended in
    let size : n ≡ length ls = sym l.2.1 in
    let none : r ≡ [] = end_left behind r u ended in
    record {
      few = subst (λ k. k < 2 ^ 32) size c.2.1;
      lines = lines.1;
      text_is = c.1 ∙ (λ i. (c.2.0 ∙ ap (λ z. codes "blame " ++ (decimal z ++ (newline ∷ []))) size) i
          ++ (l.1 ∙ (λ j. lines.0 j ++ (e.1 ∙ (λ k. e.2 k ++ none k) ∙ append-nil (codes "end" ++ (newline ∷ []))) j)) i);
    }

-- the paths of the lines of a text ascend
pub text_ascends : (bytes : List ℕ) (ls : List LineData) → IsCertificateText bytes ls → AreAscending ls
text_ascends bytes ls is = ascends ls is.lines
  where
    ascends : (ls : List LineData) → AllByRecursion IsWritableLine ls → AreAscending ls
    ascends [] are = tt
    ascends (l ∷ ls) are = (are.0.ascend, ascends ls are.1)

-- a text is read
pub complete_blame : (bytes : List ℕ) (ls : List LineData) → IsCertificateText bytes ls → blame_at bytes ≡ Ok (ls, [])
unfolding count_at end_at blame_at
complete_blame bytes ls is = ap blame_at is.text_is ∙ reads
  where
    counted : count_at (blame_text ls) ≡ Ok (length ls, certificate_text ls ++ (codes "end" ++ (newline ∷ [])))
    counted =
        let N = decimal (length ls) in let R = certificate_text ls ++ (codes "end" ++ (newline ∷ [])) in
        let group : (N ++ (10 ∷ [])) ++ R ≡ N ++ (10 ∷ R) = append_assoc N (10 ∷ []) R in
        let number : number_at (2 ^ 32) ((N ++ (10 ∷ [])) ++ R) ≡ Ok (length ls, 10 ∷ R) = ap (number_at (2 ^ 32)) group ∙ complete_number (2 ^ 32) (length ls) (10 ∷ R) is.few (omega arith) refl in
        rw number refl

    reads : blame_at (blame_text ls) ≡ Ok (ls, [])
    reads = rw (counted, complete_lines ls (codes "end" ++ (newline ∷ [])) is.lines) refl

pub one_blame : (bytes : List ℕ) (a b : List LineData) → IsCertificateText bytes a → IsCertificateText bytes b → a ≡ b
one_blame bytes a b first second = ok_value a b [] [] (sym (complete_blame bytes a first) ∙ complete_blame bytes b second)

pub no_fault : (bytes : List ℕ) (ls : List LineData) (place : ℕ) → IsCertificateText bytes ls → first_certificate_fault bytes ≡ Some place → ⊥
no_fault bytes ls place is e = absurd (let none : None ≡ Some place = sym (ap (stop_of (length bytes)) (complete_blame bytes ls is)) ∙ e in cc)

-- passing over a whole text

pub pass_blame-is : (ts : List ℕ) → pass_blame ts ≡ unread (blame_at ts)
unfolding pass_blame blame_at
pass_blame-is ts =
    pass_same (λ d. tt {0}) (count_at ts) _ _ λ n r e.
    pass_seq (λ d. tt {0}) (λ d. tt {0}) (exactly n line_at r) (pass_lines n r) _ _ (pass_lines-is n r) λ ls r e.
    ended (end_at r) ls
  where
    ended : (p : Res (Unit {0})) (ls : List LineData) → p ≡ unread (p >>= λ u ts. Ok (ls, ts))
    ended (Ok y) ls = refl
    ended (Err e) ls = refl

pub has_fault : (bytes : List ℕ) (kind : Kind) (rest : List ℕ) → pass_blame bytes ≡ Err (kind, rest) → first_certificate_fault bytes ≡ Some (length bytes - length rest)
has_fault bytes kind rest e = ap (stop_of (length bytes)) (unseen_fault (λ d. tt {0}) (blame_at bytes) (kind, rest) (sym (pass_blame-is bytes) ∙ e))

pub passed_no_fault : (bytes : List ℕ) (u : Unit {0}) (rest : List ℕ) (place : ℕ) → pass_blame bytes ≡ Ok (u, rest) → first_certificate_fault bytes ≡ Some place → ⊥
passed_no_fault bytes u rest place e fault = by (blame_at bytes) (sym (pass_blame-is bytes) ∙ e) fault
  where
    by : (p : Res (List LineData)) → unread p ≡ Ok (u, rest) → stop_of (length bytes) p ≡ Some place → ⊥
    by (Ok y) e f = absurd (let none : None ≡ Some place = f in cc)
    by (Err d) e f = absurd (cc)

-- where passing over it stops, the bytes are no text
pub stopped_no_text : (bytes : List ℕ) (kind : Kind) (rest : List ℕ) (ls : List LineData) → pass_blame bytes ≡ Err (kind, rest) → IsCertificateText bytes ls → ⊥
stopped_no_text bytes kind rest ls e is = no_fault bytes ls (length bytes - length rest) is (has_fault bytes kind rest e)

pub same_place : (bytes : List ℕ) (a b : ℕ) → first_certificate_fault bytes ≡ Some a → first_certificate_fault bytes ≡ Some b → a ≡ b
same_place bytes a b e d = let same : Some a ≡ Some b = sym e ∙ d in cc
