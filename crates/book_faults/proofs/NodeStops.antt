-- Nodes and method lines, judged: the other reader takes numbers that the table lacks, and one node more within each other.
use Rattle.std.proofs.Common.{◌≡◌, inl, inr, ℕ, zero, suc, ◌<◌, ◌≤◌, ◌^◌, Bool, true, false, List, [], ◌∷◌, ◌++◌, length, decimal, codes, if◌then◌else◌, Ok, Err, refl, sym, ◌∙◌, ap, subst, arith, append_assoc, append-nil}
use Rattle.books.specs.declared.stop.Kind.{Kind}
use Rattle.books.specs.declared.stop.Kind.TheVariants.{Form, TooDeep}
use Rattle.books.specs.declared.word.Word.{Word}
use Rattle.books.specs.declared.word.Word.TheVariants.{Lit}
use Rattle.books.specs.Derivations.{Node, node, no_nodes, nodes_from}
use Rattle.books.specs.Books.{Line, AreNumbered, nodes_high, most_nesting}
use Rattle.books.specs.Combine.{Res, ◌>>=◌, begins, expect, several}
use Rattle.books.specs.Reading.{number_at, word_at_front, premise_with, node_at, line_at}
use Rattle.books.specs.Texts.{newline, node_text, nodes_text, method_line_text}
use Rattle.books.proofs.PassLemmas.{premise_takes}
use Rattle.books.proofs.Several.{Takes}
use Rattle.books.proofs.Sound.{SoundAt, Bytes, Spells, IsNumber, sound_seq, sound_expect, sound_number}
use Rattle.books.proofs.SoundTrees.{ReadsNode, ReadsPremise, ReadsLine, sound_node}
use Rattle.books.proofs.Stops.{Fails, StopsOn, IsJudged, Judged, Never, judged_loose, judged_weaker, judged_seq, judged_done, judged_expect}
use Rattle.books.proofs.StopParts.{PastAt, judged_number}
use Rattle.book_faults.specs.Loose.{IsLooseLine}
use Rattle.book_faults.specs.Breaks.{at_number, in_premise, BreaksNode, BreaksLine, at_method, at_tree, in_body}
use Rattle.book_faults.proofs.RowStops.{AreRows, judged_several, takes_by, word_front, judged_word, judged_tree_number}
use Rattle.book_faults.proofs.TreeStops.{Breaks}

-- ---- premises

-- behind a blank a rule is broken in a node
pub record PremiseBreaks (count room : ℕ) (front rest : List ℕ) : Type 0 where
  pub kind : Kind
  pub ahead : List ℕ
  pub text : front ≡ codes " " ++ ahead
  pub breaks : BreaksNode kind count room ahead rest

judged_premise : (count room : ℕ) (p q : List ℕ → Res Node) → ((ts : List ℕ) → Judged (ReadsNode count room) (ReadsNode (2 ^ 32) (suc room)) (Breaks (λ kind. BreaksNode kind count room)) q ts (p ts)) →
    (ts : List ℕ) → Judged (ReadsPremise count room) (ReadsPremise (2 ^ 32) (suc room)) (PremiseBreaks count room) (premise_with q) ts (premise_with p ts)
judged_premise count room p q law ts =
    judged_seq (Bytes (codes " ")) Never (ReadsPremise count room) (ReadsPremise (2 ^ 32) (suc room)) (PremiseBreaks count room) (expect (codes " ")) (λ u r. q r) ts (expect (codes " ") ts) (λ u r. p r)
    (λ front rest no. absurd no) (judged_expect (codes " ") ts)
    (λ u known e r short. judged_weaker (ReadsNode count room) (ReadsNode (2 ^ 32) (suc room)) (λ ys d. ReadsPremise count room (known ++ ys) d) (λ ys d. ReadsPremise (2 ^ 32) (suc room) (known ++ ys) d)
    (Breaks (λ kind. BreaksNode kind count room)) (λ ys zs. PremiseBreaks count room (known ++ ys) zs) q r (p r)
    (λ ys d l. ((λ i. e i ++ l.0 i), l.1, l.2)) (λ ys d l. ((λ i. e i ++ l.0 i), l.1, l.2)) (λ ys zs b. record { kind = b.0; ahead = ys; text = λ i. e i ++ ys; breaks = b.1 }) (law r))

-- nodes side by side, each after a blank
pub record PremisesText (count room : ℕ) (front : List ℕ) (ds : List Node) : Type 0 where
  pub text : front ≡ nodes_text (nodes_from ds)
  pub numbered : AreNumbered count (nodes_from ds)
  pub high : nodes_high (nodes_from ds) ≤ room

-- behind such nodes a rule is broken in the next
pub record PremisesBreak (count room : ℕ) (front rest : List ℕ) : Type 0 where
  pub kind : Kind
  pub before : List Node
  pub numbered : AreNumbered count (nodes_from before)
  pub high : nodes_high (nodes_from before) ≤ room
  pub ahead : List ℕ
  pub text : front ≡ nodes_text (nodes_from before) ++ (codes " " ++ ahead)
  pub breaks : BreaksNode kind count room ahead rest

some_premise : (count room : ℕ) (front : List ℕ) (d : Node) → ReadsPremise count room front d → 0 < length front
some_premise count room front d l = subst (λ z. 0 < length z) (sym l.0) (omega arith)

pub more_premises : (count room : ℕ) (xs ys : List ℕ) (d : Node) (ds : List Node) → ReadsPremise count room xs d → PremisesText count room ys ds → PremisesText count room (xs ++ (ys ++ [])) (d ∷ ds)
more_premises count room xs ys d ds l m = record { text = λ i. l.0 i ++ (append-nil ys ∙ m.text) i; numbered = (l.1, m.numbered); high = omega (arith, l.2, m.high) }

abbrev pub later_premise : (count room : ℕ) (xs front rest : List ℕ) (d : Node) → ReadsPremise count room xs d → PremisesBreak count room front rest → PremisesBreak count room (xs ++ front) rest
later_premise count room xs front rest d l b = record {
  kind = b.kind;
  before = d ∷ b.before;
  numbered = (l.1, b.numbered);
  high = omega (arith, l.2, b.high);
  ahead = b.ahead;
  text = (λ i. l.0 i ++ b.text i) ∙ sym (append_assoc (codes " " ++ node_text d) (nodes_text (nodes_from b.before)) (codes " " ++ b.ahead));
  breaks = b.breaks;
}

premise_rows : (count room : ℕ) → AreRows (ReadsPremise count room) (ReadsPremise (2 ^ 32) (suc room)) (PremiseBreaks count room) (PremisesText count room) (PremisesText (2 ^ 32) (suc room)) (PremisesBreak count room)
premise_rows count room = record {
  some = λ front d l. some_premise (2 ^ 32) (suc room) front d l;
  none = record { text = refl; numbered = tt; high = omega arith };
  none_fits = record { text = refl; numbered = tt; high = omega arith };
  more = λ xs ys d ds l m. more_premises count room xs ys d ds l m;
  more_fits = λ xs ys d ds l m. more_premises (2 ^ 32) (suc room) xs ys d ds l m;
  first = λ front rest b. record { kind = b.kind; before = []; numbered = tt; high = omega arith; ahead = b.ahead; text = b.text; breaks = b.breaks };
  later = λ xs front rest d l b. later_premise count room xs front rest d l b;
}

judged_premises : (count room : ℕ) → ((ts : List ℕ) → Judged (ReadsNode count room) (ReadsNode (2 ^ 32) (suc room)) (Breaks (λ kind. BreaksNode kind count room)) (node_at (2 ^ 32) (suc room)) ts (node_at count room ts)) → (ts : List ℕ) →
    Judged (PremisesText count room) (PremisesText (2 ^ 32) (suc room)) (PremisesBreak count room) (several 32 (premise_with (node_at (2 ^ 32) (suc room)))) ts (several 32 (premise_with (node_at count room)) ts)
judged_premises count room law ts =
    judged_several (ReadsPremise count room) (ReadsPremise (2 ^ 32) (suc room)) (PremiseBreaks count room) (PremisesText count room) (PremisesText (2 ^ 32) (suc room)) (PremisesBreak count room)
    32 (premise_with (node_at count room)) (premise_with (node_at (2 ^ 32) (suc room))) (premise_rows count room)
    (λ ts d r e. premise_takes (2 ^ 32) (omega arith) (suc room) ts d r e) (λ z. judged_premise count room (node_at count room) (node_at (2 ^ 32) (suc room)) law z) ts

-- ---- nodes

pub node_whole : (count room : ℕ) (x1 x2 x3 x4 x5 : List ℕ) (w : Word) (n : ℕ) (ds : List Node) → Bytes (codes "(") x1 tt → Spells word_front x2 w → IsNumber count x3 n → PremisesText count room x4 ds → Bytes (codes ")") x5 tt →
    ReadsNode count (suc room) (x1 ++ (x2 ++ (x3 ++ (x4 ++ (x5 ++ []))))) (node w n (nodes_from ds))
node_whole count room x1 x2 x3 x4 x5 w n ds e1 e2 e3 e4 e5 =
    ((λ i. e1 i ++ (e2 i ++ (e3.0 i ++ (e4.text i ++ (append-nil x5 ∙ e5) i)))), (e3.1, e4.numbered), omega (arith, e4.high))

abbrev pub premises_break : (count room : ℕ) (x1 x2 x3 front rest : List ℕ) (w : Word) (n : ℕ) → Bytes (codes "(") x1 tt → Spells word_front x2 w → PremisesBreak count room front rest → IsNumber count x3 n →
    Breaks (λ kind. BreaksNode kind count (suc room)) (x1 ++ (x2 ++ (x3 ++ front))) rest
premises_break count room x1 x2 x3 front rest w n e1 e2 b e3 =
    (b.kind, in_premise w n (nodes_from b.before) b.ahead e3.1 b.numbered b.high (λ i. e1 i ++ (e2 i ++ (e3.0 i ++ b.text i))) b.breaks)

node_none : (ts : List ℕ) → begins 40 ts ≡ false → StopsOn (node_at (2 ^ 32) 1) [] ts
unfolding node_at
node_none [] h = tt
node_none (b ∷ ts) h = λ more. subst Fails (sym (stuck more)) tt
  where
    stuck : (more : List ℕ) → node_at (2 ^ 32) 1 (b ∷ more) ≡ Err (Form, b ∷ more)
    stuck more = rw h refl

node_end : (count : ℕ) (ts : List ℕ) (test : Bool) → begins 40 ts ≡ test →
    IsJudged (ReadsNode count 0) (ReadsNode (2 ^ 32) 1) (Breaks (λ kind. BreaksNode kind count 0)) (node_at (2 ^ 32) 1) ts (if test then Err (TooDeep, ts) else Err (Form, ts))
node_end count ts true h =
    record { front = []; whole = refl; begun = record { more = node_text (node Lit 0 no_nodes); value = node Lit 0 no_nodes; is = (refl, (omega arith, tt), omega arith) }; why = inr (TooDeep, (refl, refl, h)) }
node_end count ts false h =
    record { front = []; whole = refl; begun = record { more = node_text (node Lit 0 no_nodes); value = node Lit 0 no_nodes; is = (refl, (omega arith, tt), omega arith) }; why = inl (node_none ts h) }

pub judged_node : (count : ℕ) → count ≤ 2 ^ 32 → (room : ℕ) (ts : List ℕ) →
    Judged (ReadsNode count room) (ReadsNode (2 ^ 32) (suc room)) (Breaks (λ kind. BreaksNode kind count room)) (node_at (2 ^ 32) (suc room)) ts (node_at count room ts)
unfolding node_at
judged_node count few zero ts = record { at = node_end count ts (begins 40 ts) refl }
judged_node count few (suc room) ts =
    judged_seq (Bytes (codes "(")) Never (ReadsNode count (suc room)) (ReadsNode (2 ^ 32) (suc (suc room))) (Breaks (λ kind. BreaksNode kind count (suc room))) (expect (codes "(")) _ ts (expect (codes "(") ts) _ (λ front rest no. absurd no) (judged_expect (codes "(") ts) λ u x1 e1 r s.
    judged_seq (Spells word_front) Never _ _ _ word_at_front _ r (word_at_front r) _ (λ front rest no. absurd no) (judged_word r) λ w x2 e2 r s.
    judged_loose (IsNumber count) (IsNumber (2 ^ 32)) (PastAt count) _ _ _ (number_at (2 ^ 32)) _ r (number_at count r) _
    (λ front rest d. (Form, at_number w refl ((λ i. e1 i ++ (e2 i ++ d.0 i)) ∙ ap (λ z. codes "(" ++ z) (append-nil (word_front w))) d.1)) (judged_tree_number count few r) λ n x3 e3 r s.
    judged_loose (PremisesText count room) (PremisesText (2 ^ 32) (suc room)) (PremisesBreak count room) _ _ _ (several 32 (premise_with (node_at (2 ^ 32) (suc room)))) _ r (several 32 (premise_with (node_at count room)) r) _
    (λ front rest b k. premises_break count room x1 x2 x3 front rest w n e1 e2 b k) (judged_premises count room (λ z. judged_node count few room z) r) λ ds x4 e4 r s.
    judged_seq (Bytes (codes ")")) Never _ _ _ (expect (codes ")")) _ r (expect (codes ")") r) _ (λ front rest no. absurd no) (judged_expect (codes ")") r) λ u x5 e5 r s.
    judged_done _ _ _ (node w n (nodes_from ds)) r (λ h k. node_whole count room x1 x2 x3 x4 x5 w n ds e1 e2 k h e5) (node_whole (2 ^ 32) (suc room) x1 x2 x3 x4 x5 w n ds e1 e2 e3 e4 e5)

-- ---- method lines

-- a line with a number that the table may lack
abbrev pub loose_line : List ℕ → Res Line
loose_line ts =
    expect (codes "method ") ts >>= λ u ts. number_at (2 ^ 32) ts >>= λ id ts. expect (codes " ") ts >>= λ u ts.
    number_at (2 ^ 32) ts >>= λ n ts. expect (newline ∷ []) ts >>= λ u ts. node_at (2 ^ 32) (suc most_nesting) ts >>= λ d ts.
    expect (newline ∷ []) ts >>= λ u ts. Ok (record { id = id; number = n; body = d }, ts)

abbrev pub LooseLine : List ℕ → Line → Type 0
LooseLine front line = (front ≡ method_line_text line) × IsLooseLine line

pub line_text : (x1 x2 x3 x4 x5 x6 x7 : List ℕ) (line : Line) → Bytes (codes "method ") x1 tt → x2 ≡ decimal line.id → Bytes (codes " ") x3 tt → x4 ≡ decimal line.number → Bytes (newline ∷ []) x5 tt → x6 ≡ node_text line.body → Bytes (newline ∷ []) x7 tt →
    x1 ++ (x2 ++ (x3 ++ (x4 ++ (x5 ++ (x6 ++ (x7 ++ [])))))) ≡ method_line_text line
line_text x1 x2 x3 x4 x5 x6 x7 line e1 e2 e3 e4 e5 e6 e7 = λ i. e1 i ++ (e2 i ++ (e3 i ++ (e4 i ++ (e5 i ++ (e6 i ++ (append-nil x7 ∙ e7) i)))))

sound_loose_line : (ts : List ℕ) → SoundAt LooseLine ts (loose_line ts)
sound_loose_line ts =
    sound_seq (Bytes (codes "method ")) _ ts (expect (codes "method ") ts) _ (sound_expect (codes "method ") ts) λ u r.
    sound_seq (IsNumber (2 ^ 32)) _ r (number_at (2 ^ 32) r) _ (sound_number (2 ^ 32) (omega arith) r) λ id r.
    sound_seq (Bytes (codes " ")) _ r (expect (codes " ") r) _ (sound_expect (codes " ") r) λ u r.
    sound_seq (IsNumber (2 ^ 32)) _ r (number_at (2 ^ 32) r) _ (sound_number (2 ^ 32) (omega arith) r) λ n r.
    sound_seq (Bytes (newline ∷ [])) _ r (expect (newline ∷ []) r) _ (sound_expect (newline ∷ []) r) λ u r.
    sound_seq (ReadsNode (2 ^ 32) (suc most_nesting)) _ r (node_at (2 ^ 32) (suc most_nesting) r) _ (sound_node (2 ^ 32) (omega arith) (suc most_nesting) r) λ d r.
    sound_seq (Bytes (newline ∷ [])) _ r (expect (newline ∷ []) r) _ (sound_expect (newline ∷ []) r) λ u r. (
      [],
      refl,
      λ x7 e7 x6 e6 x5 e5 x4 e4 x3 e3 x2 e2 x1 e1. (
        line_text x1 x2 x3 x4 x5 x6 x7 (record { id = id; number = n; body = d }) e1 e2.0 e3 e4.0 e5 e6.0 e7,
        record { id = e2.1; number = e4.1; numbered = e6.1; high = e6.2 },
      ),
    )

pub some_line : (front : List ℕ) (line : Line) → LooseLine front line → 0 < length front
some_line front line l = subst (λ z. 0 < length z) (sym l.0) (omega arith)

pub line_takes : Takes loose_line
line_takes = takes_by LooseLine loose_line some_line sound_loose_line

node_in_line : (count : ℕ) (x1 x2 x3 x4 x5 front rest : List ℕ) (m n : ℕ) → Bytes (codes "method ") x1 tt → IsNumber (2 ^ 32) x2 m → Bytes (codes " ") x3 tt → IsNumber count x4 n → Bytes (newline ∷ []) x5 tt →
    Breaks (λ kind. BreaksNode kind count most_nesting) front rest → Breaks (λ kind. BreaksLine kind count) (x1 ++ (x2 ++ (x3 ++ (x4 ++ (x5 ++ front))))) rest
node_in_line count x1 x2 x3 x4 x5 front rest m n e1 e2 e3 e4 e5 b =
    (b.0, in_body m n front e2.1 e4.1 (λ i. e1 i ++ (e2.0 i ++ (e3 i ++ (e4.0 i ++ (e5 i ++ front))))) b.1)

pub judged_line : (count : ℕ) → count ≤ 2 ^ 32 → (ts : List ℕ) → Judged (ReadsLine count) LooseLine (Breaks (λ kind. BreaksLine kind count)) loose_line ts (line_at count ts)
unfolding line_at
judged_line count few ts =
    judged_seq (Bytes (codes "method ")) Never (ReadsLine count) LooseLine (Breaks (λ kind. BreaksLine kind count)) (expect (codes "method ")) _ ts (expect (codes "method ") ts) _ (λ front rest no. absurd no) (judged_expect (codes "method ") ts) λ u x1 e1 r s.
    judged_seq (IsNumber (2 ^ 32)) (PastAt (2 ^ 32)) _ _ _ (number_at (2 ^ 32)) _ r (number_at (2 ^ 32) r) _
    (λ front rest d. (Form, at_method refl ((λ i. e1 i ++ d.0 i) ∙ append-nil (codes "method ")) d.1)) (judged_number (2 ^ 32) (omega arith) (omega arith) r) λ m x2 e2 r s.
    judged_seq (Bytes (codes " ")) Never _ _ _ (expect (codes " ")) _ r (expect (codes " ") r) _ (λ front rest no. absurd no) (judged_expect (codes " ") r) λ u x3 e3 r s.
    judged_loose (IsNumber count) (IsNumber (2 ^ 32)) (PastAt count) _ _ _ (number_at (2 ^ 32)) _ r (number_at count r) _
    (λ front rest d. (Form, at_tree m e2.1 refl (λ i. e1 i ++ (e2.0 i ++ (e3 i ++ d.0 i))) d.1)) (judged_tree_number count few r) λ n x4 e4 r s.
    judged_seq (Bytes (newline ∷ [])) Never _ _ _ (expect (newline ∷ [])) _ r (expect (newline ∷ []) r) _ (λ front rest no. absurd no) (judged_expect (newline ∷ []) r) λ u x5 e5 r s.
    judged_loose (ReadsNode count most_nesting) (ReadsNode (2 ^ 32) (suc most_nesting)) (Breaks (λ kind. BreaksNode kind count most_nesting)) _ _ _ (node_at (2 ^ 32) (suc most_nesting)) _ r (node_at count most_nesting r) _
    (λ front rest b k. node_in_line count x1 x2 x3 x4 x5 front rest m n e1 e2 e3 k e5 b) (judged_node count few most_nesting r) λ d x6 e6 r s.
    judged_seq (Bytes (newline ∷ [])) Never _ _ _ (expect (newline ∷ [])) _ r (expect (newline ∷ []) r) _ (λ front rest no. absurd no) (judged_expect (newline ∷ []) r) λ u x7 e7 r s.
    judged_done _ _ _ (record { id = m; number = n; body = d }) r
    (λ h k. (line_text x1 x2 x3 x4 x5 x6 x7 (record { id = m; number = n; body = d }) e1 e2.0 e3 k.0 e5 h.0 e7, record { id = e2.1; number = k.1; numbered = h.1; high = h.2 }))
    (line_text x1 x2 x3 x4 x5 x6 x7 (record { id = m; number = n; body = d }) e1 e2.0 e3 e4.0 e5 e6.0 e7, record { id = e2.1; number = e4.1; numbered = e6.1; high = e6.2 })
