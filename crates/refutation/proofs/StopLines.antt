-- Held paths, lines, and whole texts, judged: the other reader takes paths in any order.
use Rattle.std.proofs.Common.{◌≡◌, inl, inr, ℕ, zero, suc, ◌-◌, ◌<◌, ◌≤◌, ◌^◌, Bool, true, false, List, [], ◌∷◌, ◌++◌, length, codes, decimal, if◌then◌else◌, Ok, Err, None, Some, refl, sym, ◌∙◌, ap, subst, arith, append_assoc, append-nil}
use Rattle.std.specs.Prelude.{Option}
use Rattle.std.specs.List.{AllByRecursion}
use Rattle.paths.specs.Paths.{PathData}
use Rattle.algebra.specs.Basics.{name_of}
use Rattle.conditions.specs.Texts.{path_text}
use Rattle.books.specs.declared.stop.Kind.TheVariants.{Form}
use Rattle.books.specs.Books.{IsPath, comes_after}
use Rattle.books.specs.Broken.{IsPast}
use Rattle.books.specs.BrokenPaths.{BreaksPath, late}
use Rattle.books.specs.Combine.{Res, ◌>>=◌, begins, expect, several, exactly}
use Rattle.books.specs.Reading.{number_at, path_at, leaf_at, nothing_behind}
use Rattle.books.specs.Texts.{newline}
use Rattle.books.proofs.Several.{several_done, several_fault, several_more}
use Rattle.books.proofs.Sound.{Bytes, Spells, IsNumber}
use Rattle.books.proofs.SoundTrees.{ReadsPath}
use Rattle.books.proofs.Locals.{AfterOk, both_ok}
use Rattle.refutation.specs.Lines.{LineData}
use Rattle.refutation.specs.Reading.{later_path, held_item, held_most, held_at, line_at, count_at, end_at, blame_at}
use Rattle.refutation.specs.Texts.{held_text, certificate_line_text, certificate_text, blame_text, IsWritableLine}
use Rattle.refutation.specs.FirstFaults.{IsFittingLine, heading, open_line, last_of, BreaksRule, count, method, path}
use Rattle.refutation.proofs.Held.{Ascends, ascends_sorted, ReadsLater, ReadsItem, ReadsHeld, item_shorter}
use Rattle.refutation.proofs.Lines.{ReadsLine}
use Rattle.books.proofs.Stops.{ReadOf, IsJudged, Judged, Never, why_first, judged_loose, judged_weaker, judged_seq, judged_done, judged_same, judged_if, judged_expect}
use Rattle.books.proofs.StopParts.{PastAt, judged_number, judged_path, judged_leaf}

-- ---- a held path

ends_on : (p : PathData) (rest : List ℕ) → AfterOk (λ z. Ok (p, z)) [] p rest
ends_on p [] = tt
ends_on p (b ∷ r) = λ more. refl

later_if : (before : Option PathData) (ts : List ℕ) (p : PathData) (rest : List ℕ) (test : Bool) → comes_after before p ≡ test → path_at ts ≡ Ok (p, rest) → ReadOf ReadsPath ReadsPath path_at ts p rest →
    IsJudged (ReadsLater before) ReadsPath (BreaksPath before) (λ z. path_at z >>= λ p rest. Ok (p, rest)) ts (if test then Ok (p, rest) else Err (Form, ts))
later_if before ts p rest true e is s = record {
  front = s.front ++ [];
  whole = s.whole ∙ ap (λ z. z ++ rest) (sym (append-nil s.front));
  is = record { text = append-nil s.front ∙ s.is.0; path = s.is.1; later = e };
  fits = (append-nil s.front ∙ s.is.0, s.is.1);
  on = both_ok path_at (λ p rest. Ok (p, rest)) s.front p rest [] p rest refl s.on (ends_on p rest);
}
later_if before ts p rest false e is s = record { front = []; whole = refl; begun = record { more = s.front; value = p; is = s.is }; why = inr (late p rest refl is e) }

later_by : (before : Option PathData) (ts : List ℕ) (x : Res PathData) → path_at ts ≡ x → IsJudged ReadsPath ReadsPath (BreaksPath before) path_at ts x →
    IsJudged (ReadsLater before) ReadsPath (BreaksPath before) (λ z. path_at z >>= λ p rest. Ok (p, rest)) ts (x >>= λ p rest. if comes_after before p then Ok (p, rest) else Err (Form, ts))
later_by before ts (Ok y) e s = later_if before ts y.0 y.1 (comes_after before y.0) refl e s
later_by before ts (Err d) e s = record {
  front = s.front;
  whole = s.whole;
  begun = s.begun;
  why = why_first (BreaksPath before) (BreaksPath before) path_at (λ p rest. Ok (p, rest)) s.front d.1 (λ front rest h. h) s.why;
}

judged_later : (before : Option PathData) (ts : List ℕ) → Judged (ReadsLater before) ReadsPath (BreaksPath before) (later_path None) ts (later_path before ts)
unfolding later_path
judged_later before ts = record { at = later_by before ts (path_at ts) refl (judged_path before ts).at }

-- a path after a blank, whether it comes after another or not
abbrev pub ItemFits : List ℕ → PathData → Type 0
ItemFits front p = (front ≡ codes " " ++ path_text p) × IsPath p

-- behind a blank a rule on paths is broken
pub record ItemBreaks (before : Option PathData) (front rest : List ℕ) : Type 0 where
  pub ahead : List ℕ
  pub text : front ≡ codes " " ++ ahead
  pub breaks : BreaksPath before ahead rest

judged_item : (before : Option PathData) (ts : List ℕ) → Judged (ReadsItem before) ItemFits (ItemBreaks before) (held_item None) ts (held_item before ts)
judged_item before ts =
    judged_seq (Bytes (codes " ")) Never (ReadsItem before) ItemFits (ItemBreaks before) (expect (codes " ")) (λ u r. later_path None r) ts (expect (codes " ") ts) (λ u r. later_path before r)
    (λ front rest no. absurd no) (judged_expect (codes " ") ts)
    (λ u known e r short. judged_weaker (ReadsLater before) ReadsPath (λ ys p. ReadsItem before (known ++ ys) p) (λ ys p. ItemFits (known ++ ys) p) (BreaksPath before) (λ ys zs. ItemBreaks before (known ++ ys) zs) (later_path None) r (later_path before r)
    (λ ys p l. record { text = λ i. e i ++ l.text i; path = l.path; later = l.later }) (λ ys p l. ((λ i. e i ++ l.0 i), l.1)) (λ ys zs b. record { ahead = ys; text = λ i. e i ++ ys; breaks = b }) (judged_later before r))

-- ---- held paths

-- several items are one and then several, or none
one_more : List ℕ → Res (List PathData)
one_more ts = if begins 32 ts then (held_item None ts >>= λ p r. several 32 (held_item None) r >>= λ ps r. Ok (p ∷ ps, r)) else Ok ([], ts)

more_by : (ts : List ℕ) (x : Res PathData) → held_item None ts ≡ x → begins 32 ts ≡ true → several 32 (held_item None) ts ≡ (x >>= λ p r. several 32 (held_item None) r >>= λ ps r. Ok (p ∷ ps, r))
more_by ts (Ok y) e go = several_more 32 (held_item None) (λ ts p r e. item_shorter None ts r p e) ts y.0 y.1 go e
more_by ts (Err d) e go = several_fault 32 (held_item None) ts d go e

several_by : (ts : List ℕ) (test : Bool) → begins 32 ts ≡ test →
    several 32 (held_item None) ts ≡ (if test then (held_item None ts >>= λ p r. several 32 (held_item None) r >>= λ ps r. Ok (p ∷ ps, r)) else Ok ([], ts))
several_by ts true e = more_by ts (held_item None ts) refl e
several_by ts false e = several_done 32 (held_item None) ts e

several_is : (ts : List ℕ) → several 32 (held_item None) ts ≡ one_more ts
unfolding one_more
several_is ts = several_by ts (begins 32 ts) refl

-- held paths, in any order
abbrev pub HeldFits : List ℕ → List PathData → Type 0
HeldFits front ps = (front ≡ held_text ps) × AllByRecursion IsPath ps

-- behind held paths a rule on one more is broken
pub record HeldBreaks (before : Option PathData) (front rest : List ℕ) : Type 0 where
  pub held : List PathData
  pub paths : AllByRecursion IsPath held
  pub ascend : Ascends before held
  pub ahead : List ℕ
  pub text : front ≡ held_text held ++ (codes " " ++ ahead)
  pub breaks : BreaksPath (last_of before held) ahead rest

first_breaks : (before : Option PathData) (front rest : List ℕ) → ItemBreaks before front rest → HeldBreaks before front rest
first_breaks before front rest b = record { held = []; paths = tt; ascend = tt; ahead = b.ahead; text = b.text; breaks = b.breaks }

later_breaks : (before : Option PathData) (xs : List ℕ) (p : PathData) (front rest : List ℕ) → HeldBreaks (Some p) front rest → ReadsItem before xs p → HeldBreaks before (xs ++ front) rest
later_breaks before xs p front rest b l = record {
  held = p ∷ b.held;
  paths = (l.path, b.paths);
  ascend = (l.later, b.ascend);
  ahead = b.ahead;
  text = (λ i. l.text i ++ b.text i) ∙ sym (append_assoc (codes " " ++ path_text p) (held_text b.held) (codes " " ++ b.ahead));
  breaks = b.breaks;
}

more_held : (before : Option PathData) (xs ys : List ℕ) (p : PathData) (ps : List PathData) → ReadsItem before xs p → ReadsHeld (Some p) ys ps → ReadsHeld before (xs ++ (ys ++ [])) (p ∷ ps)
more_held before xs ys p ps l m = record { text = λ i. l.text i ++ (append-nil ys ∙ m.text) i; paths = (l.path, m.paths); ascend = (l.later, m.ascend) }

more_fits : (xs ys : List ℕ) (p : PathData) (ps : List PathData) → ItemFits xs p → HeldFits ys ps → HeldFits (xs ++ (ys ++ [])) (p ∷ ps)
more_fits xs ys p ps l m = ((λ i. l.0 i ++ (append-nil ys ∙ m.0) i), (l.1, m.1))

less_left : (n : ℕ) (ts known r : List ℕ) (p : PathData) → length ts ≤ suc n → ItemFits known p → length r ≤ length ts - length known → length r ≤ n
less_left n ts known r p short fits e =
    let some : 0 < length known = subst (λ z. 0 < length z) (sym fits.0) (omega arith) in
    omega (arith, short, some, e)

nothing_on : (ts : List ℕ) → length ts ≤ 0 → AfterOk (several 32 (held_item None)) [] [] ts
nothing_on [] short = tt
nothing_on (b ∷ ts) short = absurd (omega (arith, short))

judged_most : (n : ℕ) (before : Option PathData) (ts : List ℕ) → length ts ≤ n → Judged (ReadsHeld before) HeldFits (HeldBreaks before) (several 32 (held_item None)) ts (held_most n before ts)
unfolding one_more
judged_most zero before ts short =
    record { at = record { front = []; whole = refl; is = record { text = refl; paths = tt; ascend = tt }; fits = (refl, tt); on = nothing_on ts short } }
judged_most (suc n) before ts short =
    let g : PathData → List ℕ → Res (List PathData) = λ p r. several 32 (held_item None) r >>= λ ps r. Ok (p ∷ ps, r) in
    let f : PathData → List ℕ → Res (List PathData) = λ p r. held_most n (Some p) r >>= λ ps r. Ok (p ∷ ps, r) in
    judged_same (ReadsHeld before) HeldFits (HeldBreaks before) one_more (several 32 (held_item None)) ts (held_most (suc n) before ts) several_is
    (judged_if (ReadsHeld before) HeldFits (HeldBreaks before) 32 (λ z. held_item None z >>= g) (λ z. Ok ([], z)) ts (held_item before ts >>= f) (Ok ([], ts))
    (λ go. judged_loose (ReadsItem before) ItemFits (ItemBreaks before) (ReadsHeld before) HeldFits (HeldBreaks before) (held_item None) g ts (held_item before ts) f (λ front rest b. first_breaks before front rest b) (judged_item before ts)
    (λ p xs l r less. judged_loose (ReadsHeld (Some p)) HeldFits (HeldBreaks (Some p)) (λ ys ps. ReadsItem before xs p → ReadsHeld before (xs ++ ys) ps) (λ ys ps. HeldFits (xs ++ ys) ps) (λ ys zs. ReadsItem before xs p → HeldBreaks before (xs ++ ys) zs)
    (several 32 (held_item None)) (λ ps r. Ok (p ∷ ps, r)) r (held_most n (Some p) r) (λ ps r. Ok (p ∷ ps, r)) (λ front rest b item. later_breaks before xs p front rest b item) (judged_most n (Some p) r (less_left n ts xs r p short l less))
    (λ ps ys m r less. judged_done (λ zs all. ReadsHeld (Some p) ys ps → ReadsItem before xs p → ReadsHeld before (xs ++ (ys ++ zs)) all) (λ zs all. HeldFits (xs ++ (ys ++ zs)) all)
    (λ us zs. ReadsHeld (Some p) ys ps → ReadsItem before xs p → HeldBreaks before (xs ++ (ys ++ us)) zs) (p ∷ ps) r (λ held item. more_held before xs ys p ps item held) (more_fits xs ys p ps l m))))
    (λ no_blank. judged_done (ReadsHeld before) HeldFits (HeldBreaks before) [] ts (record { text = refl; paths = tt; ascend = tt }) (refl, tt)))

judged_held : (before : Option PathData) (ts : List ℕ) → Judged (ReadsHeld before) HeldFits (HeldBreaks before) (several 32 (held_item None)) ts (held_at before ts)
unfolding held_at
judged_held before ts = judged_most (length ts) before ts (omega arith)

-- ---- a line

-- a line whose paths stand in any order
abbrev pub loose_line : List ℕ → Res LineData
loose_line ts =
    number_at (2 ^ 32) ts >>= λ m ts. expect (codes " ") ts >>= λ u ts. leaf_at ts >>= λ b ts. several 32 (held_item None) ts >>= λ ps ts.
    expect (newline ∷ []) ts >>= λ u ts. Ok (record { method = m; found = b; held = ps }, ts)

abbrev pub LineFits : List ℕ → LineData → Type 0
LineFits front l = (front ≡ certificate_line_text l) × IsFittingLine l

-- in a line a rule is broken
pub data LineBreaks (front rest : List ℕ) : Type 0 where
  first : front ≡ [] → IsPast (2 ^ 32) rest → LineBreaks front rest
  behind_held : (l : LineData) (ahead : List ℕ) → IsWritableLine l → front ≡ open_line l ++ (codes " " ++ ahead) → BreaksPath (last_of None l.held) ahead rest → LineBreaks front rest

line_whole : (x1 x2 x3 x4 x5 : List ℕ) (l : LineData) → IsNumber (2 ^ 32) x1 l.method → Bytes (codes " ") x2 tt → Spells name_of x3 l.found → x4 ≡ held_text l.held → Bytes (newline ∷ []) x5 tt →
    x1 ++ (x2 ++ (x3 ++ (x4 ++ (x5 ++ [])))) ≡ certificate_line_text l
line_whole x1 x2 x3 x4 x5 l e1 e2 e3 e4 e5 = λ i. e1.0 i ++ (e2 i ++ (e3 i ++ (e4 i ++ (append-nil x5 ∙ e5) i)))

open_text : (m : ℕ) (x : _) (held : List PathData) (ahead : List ℕ) →
    decimal m ++ (codes " " ++ (name_of x ++ (held_text held ++ (codes " " ++ ahead)))) ≡ open_line (record { method = m; found = x; held = held }) ++ (codes " " ++ ahead)
open_text m x held ahead =
    let rest = codes " " ++ ahead in
    sym (append_assoc (decimal m) (codes " " ++ (name_of x ++ held_text held)) rest
    ∙ ap (λ z. decimal m ++ (codes " " ++ z)) (append_assoc (name_of x) (held_text held) rest))

line_breaks : (x1 x2 x3 : List ℕ) (m : ℕ) (x : _) (front rest : List ℕ) → IsNumber (2 ^ 32) x1 m → Bytes (codes " ") x2 tt → Spells name_of x3 x → HeldBreaks None front rest → LineBreaks (x1 ++ (x2 ++ (x3 ++ front))) rest
line_breaks x1 x2 x3 m x front rest e1 e2 e3 b =
    behind_held (record { method = m; found = x; held = b.held }) b.ahead (record { method = e1.1; paths = b.paths; ascend = ascends_sorted None b.held b.ascend })
    ((λ i. e1.0 i ++ (e2 i ++ (e3 i ++ b.text i))) ∙ open_text m x b.held b.ahead) b.breaks

pub judged_line : (ts : List ℕ) → Judged ReadsLine LineFits LineBreaks loose_line ts (line_at ts)
unfolding line_at
judged_line ts =
    judged_seq (IsNumber (2 ^ 32)) (PastAt (2 ^ 32)) ReadsLine LineFits LineBreaks (number_at (2 ^ 32)) _ ts (number_at (2 ^ 32) ts) _ (λ front rest d. first d.0 d.1) (judged_number (2 ^ 32) (omega arith) (omega arith) ts) λ m x1 e1 r s.
    judged_seq (Bytes (codes " ")) Never _ _ _ (expect (codes " ")) _ r (expect (codes " ") r) _ (λ front rest no. absurd no) (judged_expect (codes " ") r) λ u x2 e2 r s.
    judged_seq (Spells name_of) Never _ _ _ leaf_at _ r (leaf_at r) _ (λ front rest no. absurd no) (judged_leaf r) λ x x3 e3 r s.
    judged_loose (ReadsHeld None) HeldFits (HeldBreaks None) _ _ _ (several 32 (held_item None)) _ r (held_at None r) _ (λ front rest b. line_breaks x1 x2 x3 m x front rest e1 e2 e3 b) (judged_held None r) λ ps x4 e4 r s.
    judged_seq (Bytes (newline ∷ [])) Never _ _ _ (expect (newline ∷ [])) _ r (expect (newline ∷ []) r) _ (λ front rest no. absurd no) (judged_expect (newline ∷ []) r) λ u x5 e5 r s.
    judged_done _ _ _ (record { method = m; found = x; held = ps }) r
    (λ h. (line_whole x1 x2 x3 x4 x5 (record { method = m; found = x; held = ps }) e1 e2 e3 h.text e5, record { method = e1.1; paths = h.paths; ascend = ascends_sorted None ps h.ascend }))
    (line_whole x1 x2 x3 x4 x5 (record { method = m; found = x; held = ps }) e1 e2 e3 e4.0 e5, record { method = e1.1; paths = e4.1 })

-- ---- lines

-- so many lines and their text
pub record LinesText (P : LineData → Type 0) (n : ℕ) (front : List ℕ) (ls : List LineData) : Type 0 where
  pub text : front ≡ certificate_text ls
  pub each : AllByRecursion P ls
  pub size : length ls ≡ n

-- behind less than so many lines a rule is broken in the next
pub record LinesBreak (n : ℕ) (front rest : List ℕ) : Type 0 where
  pub before : List LineData
  pub each : AllByRecursion IsWritableLine before
  pub fewer : length before < n
  pub ahead : List ℕ
  pub text : front ≡ certificate_text before ++ ahead
  pub breaks : LineBreaks ahead rest

more_lines : (P : LineData → Type 0) (n : ℕ) (xs ys : List ℕ) (l : LineData) (ls : List LineData) → xs ≡ certificate_line_text l → P l → LinesText P n ys ls → LinesText P (suc n) (xs ++ (ys ++ [])) (l ∷ ls)
more_lines P n xs ys l ls e p m = record { text = λ i. e i ++ (append-nil ys ∙ m.text) i; each = (p, m.each); size = omega (arith, m.size) }

first_line_breaks : (n : ℕ) (front rest : List ℕ) → LineBreaks front rest → LinesBreak (suc n) front rest
first_line_breaks n front rest b = record { before = []; each = tt; fewer = omega arith; ahead = front; text = refl; breaks = b }

later_line_breaks : (n : ℕ) (xs : List ℕ) (l : LineData) (front rest : List ℕ) → LinesBreak n front rest → ReadsLine xs l → LinesBreak (suc n) (xs ++ front) rest
later_line_breaks n xs l front rest b is = record {
  before = l ∷ b.before;
  each = (is.1, b.each);
  fewer = omega (arith, b.fewer);
  ahead = b.ahead;
  text = (λ i. is.0 i ++ b.text i) ∙ sym (append_assoc (certificate_line_text l) (certificate_text b.before) b.ahead);
  breaks = b.breaks;
}

judged_lines : (n : ℕ) (ts : List ℕ) → Judged (LinesText IsWritableLine n) (LinesText IsFittingLine n) (LinesBreak n) (exactly n loose_line) ts (exactly n line_at ts)
judged_lines zero ts = judged_done (LinesText IsWritableLine 0) (LinesText IsFittingLine 0) (LinesBreak 0) [] ts (record { text = refl; each = tt; size = refl }) (record { text = refl; each = tt; size = refl })
judged_lines (suc n) ts =
    judged_loose ReadsLine LineFits LineBreaks (LinesText IsWritableLine (suc n)) (LinesText IsFittingLine (suc n)) (LinesBreak (suc n)) loose_line (λ l r. exactly n loose_line r >>= λ ls r. Ok (l ∷ ls, r)) ts (line_at ts)
    (λ l r. exactly n line_at r >>= λ ls r. Ok (l ∷ ls, r)) (λ front rest b. first_line_breaks n front rest b) (judged_line ts)
    (λ l xs fits r s. judged_loose (LinesText IsWritableLine n) (LinesText IsFittingLine n) (LinesBreak n) (λ ys ls. ReadsLine xs l → LinesText IsWritableLine (suc n) (xs ++ ys) ls) (λ ys ls. LinesText IsFittingLine (suc n) (xs ++ ys) ls)
    (λ ys zs. ReadsLine xs l → LinesBreak (suc n) (xs ++ ys) zs) (exactly n loose_line) (λ ls r. Ok (l ∷ ls, r)) r (exactly n line_at r) (λ ls r. Ok (l ∷ ls, r)) (λ front rest b is. later_line_breaks n xs l front rest b is) (judged_lines n r)
    (λ ls ys m r s. judged_done (λ zs all. LinesText IsWritableLine n ys ls → ReadsLine xs l → LinesText IsWritableLine (suc n) (xs ++ (ys ++ zs)) all) (λ zs all. LinesText IsFittingLine (suc n) (xs ++ (ys ++ zs)) all)
    (λ us zs. LinesText IsWritableLine n ys ls → ReadsLine xs l → LinesBreak (suc n) (xs ++ (ys ++ us)) zs) (l ∷ ls) r
    (λ lines is. more_lines IsWritableLine n xs ys l ls is.0 is.1 lines) (more_lines IsFittingLine n xs ys l ls fits.0 fits.1 m)))

-- ---- whole texts

abbrev pub CountText : List ℕ → ℕ → Type 0
CountText front n = (front ≡ heading n) × (n < 2 ^ 32)

abbrev pub CountBreaks : List ℕ → List ℕ → Type 0
CountBreaks front rest = (front ≡ codes "blame ") × IsPast (2 ^ 32) rest

judged_count : (ts : List ℕ) → Judged CountText CountText CountBreaks count_at ts (count_at ts)
unfolding count_at
judged_count ts =
    judged_seq (Bytes (codes "blame ")) Never CountText CountText CountBreaks (expect (codes "blame ")) _ ts (expect (codes "blame ") ts) _ (λ front rest no. absurd no) (judged_expect (codes "blame ") ts) λ u x1 e1 r s.
    judged_seq (IsNumber (2 ^ 32)) (PastAt (2 ^ 32)) _ _ _ (number_at (2 ^ 32)) _ r (number_at (2 ^ 32) r) _ (λ front rest d. ((λ i. e1 i ++ d.0 i) ∙ append-nil (codes "blame "), d.1)) (judged_number (2 ^ 32) (omega arith) (omega arith) r) λ n x2 e2 r s.
    judged_seq (Bytes (newline ∷ [])) Never _ _ _ (expect (newline ∷ [])) _ r (expect (newline ∷ []) r) _ (λ front rest no. absurd no) (judged_expect (newline ∷ []) r) λ u x3 e3 r s.
    judged_done _ _ _ n r ((λ i. e1 i ++ (e2.0 i ++ (append-nil x3 ∙ e3) i)), e2.1) ((λ i. e1 i ++ (e2.0 i ++ (append-nil x3 ∙ e3) i)), e2.1)

judged_nothing : (ts : List ℕ) → Judged (Bytes []) (Bytes []) Never nothing_behind ts (nothing_behind ts)
judged_nothing [] = record { at = record { front = []; whole = refl; is = refl; fits = refl; on = tt } }
judged_nothing (b ∷ ts) = record { at = record { front = []; whole = refl; begun = record { more = []; value = tt; is = refl }; why = inl (λ more. tt) } }

abbrev EndText : List ℕ → Unit {0} → Type 0
EndText = Bytes (codes "end" ++ (newline ∷ []))

judged_end : (ts : List ℕ) → Judged EndText EndText Never end_at ts (end_at ts)
unfolding end_at
judged_end ts =
    judged_seq EndText Never EndText EndText Never (expect (codes "end" ++ (newline ∷ []))) (λ u r. nothing_behind r) ts (expect (codes "end" ++ (newline ∷ [])) ts) (λ u r. nothing_behind r) (λ front rest no. no) (judged_expect (codes "end" ++ (newline ∷ [])) ts)
    (λ u xs e r s. judged_weaker (Bytes []) (Bytes []) (λ ys v. EndText (xs ++ ys) v) (λ ys v. EndText (xs ++ ys) v) Never (λ ys zs. Never (xs ++ ys) zs) nothing_behind r (nothing_behind r)
    (λ ys v none. (λ i. e i ++ none i) ∙ append-nil (codes "end" ++ (newline ∷ []))) (λ ys v none. (λ i. e i ++ none i) ∙ append-nil (codes "end" ++ (newline ∷ []))) (λ ys zs no. no) (judged_nothing r))

-- a whole text whose paths stand in any order
abbrev pub loose_blame : List ℕ → Res (List LineData)
loose_blame ts = count_at ts >>= λ n ts. exactly n loose_line ts >>= λ ls ts. end_at ts >>= λ u ts. Ok (ls, ts)

-- the text of lines whose numbers fit
pub record BlameFits (front : List ℕ) (ls : List LineData) : Type 0 where
  pub text : front ≡ blame_text ls
  pub few : length ls < 2 ^ 32
  pub fit : AllByRecursion IsFittingLine ls

abbrev pub Anything : List ℕ → List LineData → Type 0
Anything front ls = Unit {0}

rule_of : (n : ℕ) (x1 front rest : List ℕ) → CountText x1 n → (before : List LineData) → AllByRecursion IsWritableLine before → length before < n → (ahead : List ℕ) → front ≡ certificate_text before ++ ahead → LineBreaks ahead rest → BreaksRule (x1 ++ front) rest
rule_of n x1 front rest c before each fewer ahead text (first none past) =
    method n before (record { count_fits = c.1; fewer = fewer; lines = each }) ((λ i. c.0 i ++ (text ∙ ap (λ z. certificate_text before ++ z) none ∙ append-nil (certificate_text before)) i)) past
rule_of n x1 front rest c before each fewer ahead text (behind_held l more writable opens breaks) =
    path n before l more (record { count_fits = c.1; fewer = fewer; lines = each }) writable ((λ i. c.0 i ++ (text ∙ ap (λ z. certificate_text before ++ z) opens) i)) breaks

blame_fits : (n : ℕ) (x1 x2 x3 : List ℕ) (ls : List LineData) → CountText x1 n → LinesText IsFittingLine n x2 ls → EndText x3 tt → BlameFits (x1 ++ (x2 ++ (x3 ++ []))) ls
blame_fits n x1 x2 x3 ls c m e = record {
  text = λ i. (c.0 ∙ ap heading (sym m.size)) i ++ (m.text i ++ (append-nil x3 ∙ e) i);
  few = subst (λ k. k < 2 ^ 32) (sym m.size) c.1;
  fit = m.each;
}

pub judged_blame : (ts : List ℕ) → Judged Anything BlameFits BreaksRule loose_blame ts (blame_at ts)
unfolding blame_at
judged_blame ts =
    judged_seq CountText CountBreaks Anything BlameFits BreaksRule count_at _ ts (count_at ts) _ (λ front rest d. count d.0 d.1) (judged_count ts) λ n x1 c r s.
    judged_loose (LinesText IsWritableLine n) (LinesText IsFittingLine n) (LinesBreak n) _ _ _ (exactly n loose_line) _ r (exactly n line_at r) _
    (λ front rest b. rule_of n x1 front rest c b.before b.each b.fewer b.ahead b.text b.breaks) (judged_lines n r) λ ls x2 m r s.
    judged_seq EndText Never _ _ _ end_at _ r (end_at r) _ (λ front rest no. absurd no) (judged_end r) λ u x3 e r s.
    judged_done _ _ _ ls r (λ h. tt) (blame_fits n x1 x2 x3 ls c m e)
