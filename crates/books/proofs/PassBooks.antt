-- Passing over tables, lines and books gives what reading them gives, seen by less.
use Rattle.std.proofs.Common.{◌≡◌, ℕ, zero, suc, ◌-◌, ◌<◌, ◌≤◌, ◌^◌, true, false, List, [], ◌∷◌, length, length-append, codes, Ok, Err, refl, sym, ◌∙◌, ap, subst, arith}
use Rattle.books.specs.Books.{Line, most_nesting}
use Rattle.books.specs.Texts.{newline}
use Rattle.books.specs.Combine.{Res, ◌>>=◌, unread, begins, expect}
use Rattle.books.specs.Reading.{number_at, node_at, line_at}
use Rattle.books.specs.Passing.{pass_several, pass_node, pass_table_line, pass_table, pass_line}
use Rattle.books.proofs.Sound.{SoundAt}
use Rattle.books.proofs.SoundTrees.{ReadsLine, sound_line}
use Rattle.books.proofs.Several.{unseen}
use Rattle.books.proofs.PassLemmas.{pass_seq, pass_same, pass_node-is, several_pass_more, several_pass_done}

pub table_more : (n : ℕ) (ts : List ℕ) → 0 < n → pass_table n ts ≡ (pass_table_line ts >>= λ u ts. pass_table (n - 1) ts)
table_more zero ts some = absurd (omega (arith, some))
table_more (suc n) ts some = let same : suc n - 1 ≡ n = omega arith in ap (λ k. pass_table_line ts >>= λ u ts. pass_table k ts) (sym same)

pub table_done : (n : ℕ) (ts : List ℕ) → (0 < n → ⊥) → pass_table n ts ≡ Ok (tt, ts)
table_done zero ts none = refl
table_done (suc n) ts none = absurd (none (omega arith))

pub pass_line-is : (count : ℕ) (ts : List ℕ) → pass_line count ts ≡ unread (line_at count ts)
unfolding pass_line line_at
pass_line-is count ts =
    pass_same (λ d. tt {0}) (expect (codes "method ") ts) _ _ λ u r e.
    pass_same (λ d. tt {0}) (number_at (2 ^ 32) r) _ _ λ id r e.
    pass_same (λ d. tt {0}) (expect (codes " ") r) _ _ λ u r e.
    pass_same (λ d. tt {0}) (number_at count r) _ _ λ n r e.
    pass_same (λ d. tt {0}) (expect (newline ∷ []) r) _ _ λ u r e.
    pass_seq (λ d. tt {0}) (λ d. tt {0}) (node_at count most_nesting r) (pass_node count most_nesting r) _ _ (pass_node-is count most_nesting r) λ d r e.
    ended (expect (newline ∷ []) r) (record { id = id; number = n; body = d })
  where
    ended : (p : Res (Unit {0})) (line : Line) → p ≡ unread (p >>= λ u ts. Ok (line, ts))
    ended (Ok y) line = refl
    ended (Err e) line = refl

-- a line takes a byte
line_takes : (s : Res Line) (count : ℕ) (ts : List ℕ) (line : Line) (r : List ℕ) → SoundAt (ReadsLine count) ts s → s ≡ Ok (line, r) → length r < length ts
line_takes (Ok y) count ts line r s e =
    let same : y.1 ≡ r = rest y e in
    let some : 0 < length s.0 = subst (λ z. 0 < length z) (sym s.2.0) (omega arith) in
    omega (arith, ap length s.1, length-append s.0 y.1, ap length same, some)
  where
    ok_same : (y z : Line × List ℕ) → (let r : Res Line = Ok y in r ≡ Ok z) → y ≡ z
    ok_same y z h = cc

    rest : (y : Line × List ℕ) → (let s : Res Line = Ok y in s ≡ Ok (line, r)) → y.1 ≡ r
    rest y e = ap (λ z. z.1) (ok_same y (line, r) e)
line_takes (Err e) count ts line r s h = absurd (cc)

-- a method line takes a byte
pub line_shorter : (count : ℕ) → count ≤ 2 ^ 64 → (ts : List ℕ) (line : Line) (r : List ℕ) → line_at count ts ≡ Ok (line, r) → length r < length ts
line_shorter count small ts line r e = line_takes (line_at count ts) count ts line r (sound_line count small ts) e

line_passes : (count : ℕ) → count ≤ 2 ^ 32 → (ts : List ℕ) (u : Unit {0}) (r : List ℕ) → pass_line count ts ≡ Ok (u, r) → length r < length ts
line_passes count small ts u r e =
    let read = unseen (λ d. tt {0}) (line_at count ts) u r (sym (pass_line-is count ts) ∙ e) in
    line_shorter count (omega (arith, small)) ts read.0 r read.1

pub lines_more : (count : ℕ) (ts : List ℕ) → count ≤ 2 ^ 32 → begins 109 ts ≡ true →
    pass_several 109 (pass_line count) ts ≡ (pass_line count ts >>= λ u ts. pass_several 109 (pass_line count) ts)
lines_more count ts small e = several_pass_more 109 (pass_line count) (λ ts u r is. line_passes count small ts u r is) ts e

pub lines_done : (count : ℕ) (ts : List ℕ) → begins 109 ts ≡ false → pass_several 109 (pass_line count) ts ≡ Ok (tt, ts)
lines_done count ts e = several_pass_done 109 (pass_line count) ts e

pub lines_shorter : (count : ℕ) (ts : List ℕ) (u : Unit {0}) (r : List ℕ) → count ≤ 2 ^ 32 → pass_line count ts ≡ Ok (u, r) → length r < length ts
lines_shorter count ts u r small e = line_passes count small ts u r e
