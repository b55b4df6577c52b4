-- Lines of a text: what is read of them, passing over them, and one more of them.
use Rattle.std.proofs.Common.{◌≡◌, ℕ, zero, suc, ◌-◌, ◌<◌, ◌^◌, List, [], ◌∷◌, ◌++◌, length, codes, decimal, None, Ok, Err, refl, sym, ◌∙◌, ap, arith, append_assoc, append-nil}
use Rattle.std.specs.List.{AllByRecursion}
use Rattle.algebra.specs.Basics.{name_of}
use Rattle.books.specs.Texts.{newline}
use Rattle.books.specs.Combine.{Res, ◌>>=◌, unread, expect, exactly}
use Rattle.books.specs.Reading.{number_at, leaf_at}
use Rattle.books.specs.Views.{after_those}
use Rattle.books.proofs.Complete.{complete_number, complete_leaf}
use Rattle.books.proofs.PassLemmas.{pass_seq, pass_same}
use Rattle.books.proofs.Sound.{SoundAt, Bytes, Spells, IsNumber, Row, row_end, row_more, sound_seq, sound_expect, sound_number}
use Rattle.books.proofs.SoundTrees.{sound_leaf}
use Rattle.books.proofs.TableLaws.{moved}
use Rattle.refutation.specs.Lines.{LineData}
use Rattle.refutation.specs.Reading.{held_at, line_at}
use Rattle.refutation.specs.Passing.{pass_line, pass_lines}
use Rattle.refutation.specs.Texts.{held_text, certificate_line_text, certificate_text, IsWritableLine}
use Rattle.refutation.proofs.Held.{ReadsHeld, sound_held, ascends_sorted, sorted_after_none, complete_held}

-- a line that was read
abbrev pub ReadsLine : List ℕ → LineData → Type 0
ReadsLine front l = (front ≡ certificate_line_text l) × IsWritableLine l

pub sound_line : (ts : List ℕ) → SoundAt ReadsLine ts (line_at ts)
unfolding line_at
sound_line ts =
    sound_seq (IsNumber (2 ^ 32)) _ ts (number_at (2 ^ 32) ts) _ (sound_number (2 ^ 32) (omega arith) ts) λ m r.
    sound_seq (Bytes (codes " ")) _ r (expect (codes " ") r) _ (sound_expect (codes " ") r) λ u r.
    sound_seq (Spells name_of) _ r (leaf_at r) _ (sound_leaf r) λ x r.
    sound_seq (ReadsHeld None) _ r (held_at None r) _ (sound_held None r) λ ps r.
    sound_seq (Bytes (newline ∷ [])) _ r (expect (newline ∷ []) r) _ (sound_expect (newline ∷ []) r) λ u r. (
      [],
      refl,
      λ x5 e5 x4 e4 x3 e3 x2 e2 x1 e1. (
        (λ i. e1.0 i ++ (e2 i ++ (e3 i ++ (e4.text i ++ (append-nil x5 ∙ e5) i)))),
        record { method = e1.1; paths = e4.paths; ascend = ascends_sorted None ps e4.ascend },
      ),
    )

-- passing over a line, and over so many
pub pass_line-is : (ts : List ℕ) → pass_line ts ≡ unread (line_at ts)
unfolding pass_line line_at
pass_line-is ts =
    pass_same (λ d. tt {0}) (number_at (2 ^ 32) ts) _ _ λ m r e.
    pass_same (λ d. tt {0}) (expect (codes " ") r) _ _ λ u r e.
    pass_same (λ d. tt {0}) (leaf_at r) _ _ λ x r e.
    pass_seq (λ d. tt {0}) (λ d. tt {0}) (held_at None r) (unread (held_at None r)) _ _ refl λ ps r e.
    ended (expect (newline ∷ []) r) (record { method = m; found = x; held = ps })
  where
    ended : (p : Res (Unit {0})) (l : LineData) → p ≡ unread (p >>= λ u ts. Ok (l, ts))
    ended (Ok y) l = refl
    ended (Err e) l = refl

pub pass_lines-is : (n : ℕ) (ts : List ℕ) → pass_lines n ts ≡ unread (exactly n line_at ts)
pass_lines-is zero ts = refl
pass_lines-is (suc n) ts =
    pass_seq (λ d. tt {0}) (λ d. tt {0}) (line_at ts) (pass_line ts) _ _ (pass_line-is ts) λ l r e.
    pass_lines-is n r ∙ kept l (exactly n line_at r)
  where
    kept : (x : LineData) (p : Res (List LineData)) → unread p ≡ unread (p >>= λ xs ts. Ok (x ∷ xs, ts))
    kept x (Ok y) = refl
    kept x (Err e) = refl

pub lines_more : (n : ℕ) (ts : List ℕ) → 0 < n → pass_lines n ts ≡ (pass_line ts >>= λ u ts. pass_lines (n - 1) ts)
lines_more zero ts some = absurd (omega (arith, some))
lines_more (suc n) ts some = let same : suc n - 1 ≡ n = omega arith in ap (λ k. pass_line ts >>= λ u ts. pass_lines k ts) (sym same)

pub lines_done : (n : ℕ) (ts : List ℕ) → (0 < n → ⊥) → pass_lines n ts ≡ Ok (tt, ts)
lines_done zero ts none = refl
lines_done (suc n) ts none = absurd (none (omega arith))

-- building them

line_next : (so_far : List LineData) (left : ℕ) (rest : List ℕ) (l : LineData) (behind : List ℕ) → 0 < left → line_at rest ≡ Ok (l, behind) →
    after_those so_far (exactly left line_at rest) ≡ after_those (so_far ++ (l ∷ [])) (exactly (left - 1) line_at behind)
line_next so_far zero rest l behind some e = absurd (omega (arith, some))
line_next so_far (suc left) rest l behind some e =
    let same : suc left - 1 ≡ left = omega arith in
    rw e (moved so_far l (exactly left line_at behind)) ∙ ap (λ k. after_those (so_far ++ (l ∷ [])) (exactly k line_at behind)) (sym same)

pub line_pushed : (all : Res (List LineData)) (old new : List LineData) (left : ℕ) (rest : List ℕ) (l : LineData) (behind : List ℕ) → all ≡ after_those old (exactly left line_at rest) → 0 < left → line_at rest ≡ Ok (l, behind) → new ≡ old ++ (l ∷ [])
    → all ≡ after_those new (exactly (left - 1) line_at behind)
line_pushed all old new left rest l behind is some e pushed =
    is ∙ line_next old left rest l behind some e ∙ ap (λ z. after_those z (exactly (left - 1) line_at behind)) (sym pushed)

pub lines_built : (all : Res (List LineData)) (so_far : List LineData) (left : ℕ) (rest : List ℕ) → all ≡ after_those so_far (exactly left line_at rest) → (0 < left → ⊥) → all ≡ Ok (so_far, rest)
lines_built all so_far zero rest is none = is ∙ ap (λ z. Ok (z, rest)) (append-nil so_far)
lines_built all so_far (suc left) rest is none = absurd (none (omega arith))

pub lines_started : (all : Res (List LineData)) → all ≡ after_those [] all
lines_started (Ok y) = refl
lines_started (Err e) = refl

-- their text is read

pub complete_line : (l : LineData) (more : List ℕ) → IsWritableLine l → line_at (certificate_line_text l ++ more) ≡ Ok (l, more)
unfolding line_at
complete_line l more is =
    let N = decimal l.method in let B = name_of l.found in let H = held_text l.held in
    let group : certificate_line_text l ++ more ≡ N ++ (32 ∷ (B ++ (H ++ (10 ∷ more)))) =
    append_assoc N (32 ∷ (B ++ (H ++ (10 ∷ [])))) more
    ∙ ap (λ z. N ++ (32 ∷ z)) (append_assoc B (H ++ (10 ∷ [])) more)
    ∙ ap (λ z. N ++ (32 ∷ (B ++ z))) (append_assoc H (10 ∷ []) more) in
    let number : number_at (2 ^ 32) (certificate_line_text l ++ more) ≡ Ok (l.method, 32 ∷ (B ++ (H ++ (10 ∷ more)))) =
    ap (number_at (2 ^ 32)) group ∙ complete_number (2 ^ 32) l.method (32 ∷ (B ++ (H ++ (10 ∷ more)))) is.method (omega arith) refl in
    let leaf = complete_leaf l.found (H ++ (10 ∷ more)) in
    let held = complete_held l.held None (10 ∷ more) is.paths (sorted_after_none l.held is.ascend) refl refl refl in
    rw (number, leaf, held) refl

pub complete_lines : (ls : List LineData) (more : List ℕ) → AllByRecursion IsWritableLine ls → exactly (length ls) line_at (certificate_text ls ++ more) ≡ Ok (ls, more)
complete_lines [] more are = refl
complete_lines (l ∷ ls) more are =
    let group : certificate_text (l ∷ ls) ++ more ≡ certificate_line_text l ++ (certificate_text ls ++ more) = append_assoc (certificate_line_text l) (certificate_text ls) more in
    let first : line_at (certificate_text (l ∷ ls) ++ more) ≡ Ok (l, certificate_text ls ++ more) = ap line_at group ∙ complete_line l (certificate_text ls ++ more) are.0 in
    rw (first, complete_lines ls more are.1) refl

pub row_lines : (front : List ℕ) (ls : List LineData) → Row ReadsLine front ls → (front ≡ certificate_text ls) × AllByRecursion IsWritableLine ls
row_lines _ _ row_end = (refl, tt)
row_lines _ _ (row_more front fronts l ls is rest) =
    let more = row_lines fronts ls rest in
    ((λ i. is.0 i ++ more.0 i), (is.1, more.1))
