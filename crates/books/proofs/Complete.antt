-- What is written is read again.
use Rattle.std.proofs.Common.{◌≡◌, ℕ, zero, suc, ◌+◌, ◌==◌, ◌<◌, ◌≤◌, ◌^◌, Bool, true, false, not, List, [], ◌∷◌, ◌++◌, length, length-append, drop, nat_lt, decimal, codes, cond, get_or, if◌then◌else◌, Ok, refl, sym, ◌∙◌, ap, arith, append_assoc}
use Rattle.std.proofs.lemmas.Bool.{and_parts, lt-ltb, ltb-true}
use Rattle.std.proofs.lemmas.Fmt.{digits_decimal, digits_value-decimal, decimal_nonempty, first_decimal, decimal_digit}
use Rattle.std.proofs.lemmas.List.Sums.{take_while-cons}
use Rattle.std.proofs.lemmas.Bool.Decides.{nat_tests}
use Rattle.std.specs.Char.{is_ascii_digit}
use Rattle.std.specs.List.{take_while, list_all}
use Rattle.std.specs.Str.Parse.{digits_value}
use Rattle.std.proofs.Math.Seq.{drop-append_seam}
use Rattle.paths.specs.Paths.{PathData}
use Rattle.algebra.specs.declared.basic.Basic.{Basic}
use Rattle.algebra.specs.declared.basic.Basic.TheVariants as b
use Rattle.algebra.specs.Basics.{name_of}
use Rattle.conditions.specs.Conditions.{Cond, LeafC, TestC}
use Rattle.conditions.specs.Texts.{dotted, path_text, text_of}
use Rattle.books.specs.declared.word.Word.{Word}
use Rattle.books.specs.declared.word.Word.TheVariants as w
use Rattle.books.specs.Derivations.{Node, node, Nodes, no_nodes, and_node, nodes_from, word_text}
use Rattle.books.specs.Books.{Line, IsMethodLine, IsPath, HasPaths, tests_high, IsTree, node_high, nodes_high, IsNumbered, AreNumbered, most_nesting}
use Rattle.books.specs.Texts.{newline, node_text, nodes_text, method_line_text}
use Rattle.books.specs.Combine.{Res, begins, at_most, several}
use Rattle.books.specs.Reading.{number_at, number_digits, is_at_end, fields_at, path_at, leaf_at, tree_at, canonical_at, word_at_front, premise_with, node_at, line_at}
use Rattle.base.proofs.Digits.{numerals}
use Rattle.books.proofs.Digits.{number_with, number_with-is}
use Rattle.books.proofs.SoundTrees.{test_text}

-- no digit stands first
abbrev pub stops : List ℕ → Bool
stops [] = true
stops (byte ∷ rest) = not (is_ascii_digit byte)

run_cons : (p : ℕ → Bool) (b : Bool) (byte : ℕ) (ds more : List ℕ) → p byte ≡ b → b ≡ true → take_while p (ds ++ more) ≡ ds → cond b (byte ∷ take_while p (ds ++ more)) [] ≡ byte ∷ ds
run_cons p true byte ds more e t rest = ap (λ z. byte ∷ z) rest
run_cons p false byte ds more e t rest = absurd (let no : false ≡ true = t in cc)

run_stops : (more : List ℕ) → stops more ≡ true → take_while is_ascii_digit more ≡ []
run_stops [] e = refl
run_stops (byte ∷ more) e = take_while-cons is_ascii_digit byte more ∙ no_run (is_ascii_digit byte) byte (take_while is_ascii_digit more) e
  where
    no_run : (b : Bool) (byte : ℕ) (ds : List ℕ) → not b ≡ true → cond b (byte ∷ ds) [] ≡ []
    no_run true byte ds e = absurd (let no : false ≡ true = e in cc)
    no_run false byte ds e = refl

run_all : (ds more : List ℕ) → list_all is_ascii_digit ds ≡ true → stops more ≡ true → take_while is_ascii_digit (ds ++ more) ≡ ds
run_all [] more all stop = run_stops more stop
run_all (byte ∷ ds) more all stop =
    let parts = and_parts (is_ascii_digit byte) (list_all is_ascii_digit ds) all in
    take_while-cons is_ascii_digit byte (ds ++ more) ∙ run_cons is_ascii_digit (is_ascii_digit byte) byte ds more refl parts.0 (run_all ds more parts.1 stop)

digits_if : (b : Bool) (byte : ℕ) (ds run : List ℕ) → (byte == 48) ≡ b → (byte ≡ 48 → ds ≡ []) → run ≡ byte ∷ ds → (if b then byte ∷ [] else run) ≡ byte ∷ ds
digits_if true byte ds run e one r = ap (λ z. byte ∷ z) (sym (one (grind (arith, nat_tests))))
digits_if false byte ds run e one r = r

digits_front : (ds more : List ℕ) → 0 < length ds → (get_or ds 0 0 ≡ 48 → length ds ≡ 1) → list_all is_ascii_digit ds ≡ true → stops more ≡ true → number_digits (ds ++ more) ≡ ds
digits_front [] more some one all stop = absurd (omega (arith, some))
digits_front (byte ∷ ds) more some one all stop =
    digits_if (byte == 48) byte ds (take_while is_ascii_digit (byte ∷ (ds ++ more))) refl (λ naught. empty ds (one naught)) (run_all (byte ∷ ds) more all stop)
  where
    empty : (ds : List ℕ) → suc (length ds) ≡ 1 → ds ≡ []
    empty [] e = refl
    empty (d ∷ ds) e = absurd (omega (arith, e))

lead : (n : ℕ) → n < 2 ^ 64 → get_or (decimal n) 0 0 ≡ 48 → length (decimal n) ≡ 1
lead zero small e = ap length (decimal_digit 0 (omega arith))
lead (suc n) small e = absurd (omega (arith, first_decimal (suc n) (omega arith) small, e))

number_if : (end n : ℕ) (ds ts : List ℕ) → is_at_end ds ≡ false → nat_lt n end ≡ true → digits_value 10 ds ≡ n → number_with end ds ts ≡ Ok (n, drop (length ds) ts)
unfolding number_with
number_if end n ds ts some small value =
    let test : nat_lt (digits_value 10 ds) end ≡ true = ap (λ m. nat_lt m end) value ∙ small in
    rw (some, test) (ap (λ m. Ok (m, drop (length ds) ts)) value)

pub complete_number : (end n : ℕ) (more : List ℕ) → n < end → end ≤ 2 ^ 64 → stops more ≡ true → number_at end (decimal n ++ more) ≡ Ok (n, more)
complete_number end n more below small stop =
    let fits : n < 2 ^ 64 = omega (arith, below, small) in
    let first : number_digits (decimal n ++ more) ≡ decimal n = digits_front (decimal n) more (decimal_nonempty n fits) (lead n fits) (digits_decimal numerals n fits) stop in
    number_with-is end (decimal n ++ more) ∙ ap (λ ds. number_with end ds (decimal n ++ more)) first
    ∙ number_if end n (decimal n) (decimal n ++ more) (some (decimal n) (decimal_nonempty n fits)) (lt-ltb n end below) (digits_value-decimal numerals n fits)
    ∙ ap (λ z. Ok (n, z)) (drop-append_seam (decimal n) more)
  where
    some : (ds : List ℕ) → 0 < length ds → is_at_end ds ≡ false
    some [] e = absurd (omega (arith, e))
    some (d ∷ ds) e = refl

-- no digit stands first in fields with their points
pub stopping : (fs : List ℕ) (more : List ℕ) → stops more ≡ true → stops (dotted fs ++ more) ≡ true
stopping [] more e = e
stopping (f ∷ fs) more e = refl

-- fields with their points, before a byte that is neither a digit nor a point
pub complete_fields : (fields : List ℕ) (more : List ℕ) → list_all (λ f. nat_lt f (2 ^ 32)) fields ≡ true → stops more ≡ true → begins 46 more ≡ false →
    (most : ℕ) → length fields ≤ most → fields_at most (dotted fields ++ more) ≡ Ok (fields, more)
complete_fields [] more fit stop next zero few = refl
complete_fields [] more fit stop next (suc most) few = rw next refl
complete_fields (f ∷ fs) more fit stop next zero few = absurd (omega (arith, few))
complete_fields (f ∷ fs) more fit stop next (suc most) few =
    let parts = and_parts (nat_lt f (2 ^ 32)) (list_all (λ f. nat_lt f (2 ^ 32)) fs) fit in
    let group : (decimal f ++ dotted fs) ++ more ≡ decimal f ++ (dotted fs ++ more) = append_assoc (decimal f) (dotted fs) more in
    let number : number_at (2 ^ 32) ((decimal f ++ dotted fs) ++ more) ≡ Ok (f, dotted fs ++ more) =
    ap (number_at (2 ^ 32)) group ∙ complete_number (2 ^ 32) f (dotted fs ++ more) (ltb-true f (2 ^ 32) parts.0) (omega arith) (stopping fs more stop) in
    rw (number, complete_fields fs more parts.1 stop next most (omega (arith, few))) refl

pub complete_path : (p : PathData) (more : List ℕ) → IsPath p → path_at (path_text p ++ (32 ∷ more)) ≡ Ok (p, 32 ∷ more)
unfolding path_at
complete_path p more is =
    let group : path_text p ++ (32 ∷ more) ≡ decimal p.root ++ (dotted p.fields ++ (32 ∷ more)) = append_assoc (decimal p.root) (dotted p.fields) (32 ∷ more) in
    let number : number_at (2 ^ 16) (path_text p ++ (32 ∷ more)) ≡ Ok (p.root, dotted p.fields ++ (32 ∷ more)) =
    ap (number_at (2 ^ 16)) group ∙ complete_number (2 ^ 16) p.root (dotted p.fields ++ (32 ∷ more)) is.root (omega arith) (stopping p.fields (32 ∷ more) refl) in
    rw (number, complete_fields p.fields (32 ∷ more) is.fields refl refl 2 is.few) refl

pub complete_leaf : (x : Basic) (more : List ℕ) → leaf_at (name_of x ++ more) ≡ Ok (x, more)
unfolding leaf_at
complete_leaf b.Const more = refl
complete_leaf b.Mover more = refl
complete_leaf b.Atomic more = refl
complete_leaf b.Cmpd more = refl
complete_leaf b.Error more = refl

leaf_begins : (x : Basic) (more : List ℕ) → begins 40 (name_of x ++ more) ≡ false
leaf_begins b.Const more = refl
leaf_begins b.Mover more = refl
leaf_begins b.Atomic more = refl
leaf_begins b.Cmpd more = refl
leaf_begins b.Error more = refl

-- the text of a test and what is behind it, grouped as it is read
test_before : (p : PathData) (x y : Cond) (more : List ℕ) →
    text_of (TestC p x y) ++ more ≡ 40 ∷ (path_text p ++ (32 ∷ (text_of x ++ (32 ∷ (text_of y ++ (41 ∷ more))))))
test_before p x y more =
    let P = path_text p in let X = text_of x in let Y = text_of y in
    ap (λ z. z ++ more) (test_text p x y)
    ∙ ap (λ z. 40 ∷ z) (append_assoc P (32 ∷ (X ++ (32 ∷ (Y ++ (41 ∷ []))))) more)
    ∙ ap (λ z. 40 ∷ (P ++ (32 ∷ z))) (append_assoc X (32 ∷ (Y ++ (41 ∷ []))) more)
    ∙ ap (λ z. 40 ∷ (P ++ (32 ∷ (X ++ (32 ∷ z))))) (append_assoc Y (41 ∷ []) more)

pub complete_tree : (t : Cond) (more : List ℕ) → HasPaths t → (room : ℕ) → tests_high t ≤ room → tree_at room (text_of t ++ more) ≡ Ok (t, more)
unfolding tree_at
complete_tree (LeafC x) more paths zero high = rw (leaf_begins x more, complete_leaf x more) refl
complete_tree (LeafC x) more paths (suc room) high = rw (leaf_begins x more, complete_leaf x more) refl
complete_tree (TestC p x y) more paths zero high = absurd (omega (arith, high))
complete_tree (TestC p x y) more paths (suc room) high =
    let rest_y = 41 ∷ more in
    let rest_x = 32 ∷ (text_of y ++ rest_y) in
    ap (tree_at (suc room)) (test_before p x y more)
    ∙ rw (complete_path p (text_of x ++ rest_x) paths.0, complete_tree x rest_x paths.1 room (omega (arith, high)), complete_tree y rest_y paths.2 room (omega (arith, high))) refl

pub complete_canonical : (t : Cond) (more : List ℕ) → IsTree t → canonical_at (text_of t ++ more) ≡ Ok (t, more)
unfolding canonical_at
complete_canonical t more is = rw (complete_tree t more is.paths most_nesting is.high, is.canonical) refl

pub complete_word : (x : Word) (more : List ℕ) → word_at_front ((word_text x ++ codes " ") ++ more) ≡ Ok (x, more)
unfolding word_at_front
complete_word w.Lit more = refl
complete_word w.This more = refl
complete_word w.Var more = refl
complete_word w.Un more = refl
complete_word w.Bin more = refl
complete_word w.And more = refl
complete_word w.Or more = refl
complete_word w.Get more = refl
complete_word w.New more = refl
complete_word w.Call more = refl
complete_word w.Local more = refl
complete_word w.Set more = refl
complete_word w.Put more = refl
complete_word w.Block more = refl
complete_word w.If more = refl
complete_word w.While more = refl
complete_word w.Sync more = refl
complete_word w.Return more = refl
complete_word w.Print more = refl
complete_word w.Start more = refl
complete_word w.Do more = refl
complete_word w.Skip more = refl

-- nodes side by side as a list
abbrev pub list_of : Nodes → List Node
list_of no_nodes = []
list_of (and_node d ds) = d ∷ list_of ds

pub from_list : (ds : Nodes) → nodes_from (list_of ds) ≡ ds
from_list no_nodes = refl
from_list (and_node d ds) = ap (λ z. and_node d z) (from_list ds)

complete_premises : (count room : ℕ) (inner : List ℕ → Res Node) →
    ((d : Node) (more : List ℕ) → IsNumbered count d → node_high d ≤ room → inner (node_text d ++ more) ≡ Ok (d, more)) →
    (ds : Nodes) (more : List ℕ) → AreNumbered count ds → nodes_high ds ≤ room → begins 32 more ≡ false → (n : ℕ) → length (nodes_text ds ++ more) ≤ n →
    at_most n 32 (premise_with inner) (nodes_text ds ++ more) ≡ Ok (list_of ds, more)
complete_premises count room inner law no_nodes more nums high next zero few = refl
complete_premises count room inner law no_nodes more nums high next (suc n) few = rw next refl
complete_premises count room inner law (and_node d ds) more nums high next zero few = absurd (omega (arith, few))
complete_premises count room inner law (and_node d ds) more nums high next (suc n) few =
    let group : (node_text d ++ nodes_text ds) ++ more ≡ node_text d ++ (nodes_text ds ++ more) = append_assoc (node_text d) (nodes_text ds) more in
    let first : inner ((node_text d ++ nodes_text ds) ++ more) ≡ Ok (d, nodes_text ds ++ more) = ap inner group ∙ law d (nodes_text ds ++ more) nums.0 (omega (arith, high)) in
    let size : length ((node_text d ++ nodes_text ds) ++ more) ≡ length (node_text d) + length (nodes_text ds ++ more) = ap length group ∙ length-append (node_text d) (nodes_text ds ++ more) in
    rw (first, complete_premises count room inner law ds more nums.1 (omega (arith, high)) next n (omega (arith, few, size))) refl

pub complete_several : (count room : ℕ) (inner : List ℕ → Res Node) →
    ((d : Node) (more : List ℕ) → IsNumbered count d → node_high d ≤ room → inner (node_text d ++ more) ≡ Ok (d, more)) →
    (ds : Nodes) (more : List ℕ) → AreNumbered count ds → nodes_high ds ≤ room → begins 32 more ≡ false →
    several 32 (premise_with inner) (nodes_text ds ++ more) ≡ Ok (list_of ds, more)
unfolding several
complete_several count room inner law ds more nums high next = complete_premises count room inner law ds more nums high next (length (nodes_text ds ++ more)) (omega arith)

pub node_before : (x : Word) (n : ℕ) (ds : Nodes) (more : List ℕ) →
    node_text (node x n ds) ++ more ≡ 40 ∷ ((word_text x ++ codes " ") ++ (decimal n ++ (nodes_text ds ++ (41 ∷ more))))
node_before x n ds more =
    let W = word_text x ++ codes " " in let N = decimal n in let D = nodes_text ds in
    ap (λ z. 40 ∷ z) (append_assoc W (N ++ (D ++ (41 ∷ []))) more)
    ∙ ap (λ z. 40 ∷ (W ++ z)) (append_assoc N (D ++ (41 ∷ [])) more)
    ∙ ap (λ z. 40 ∷ (W ++ (N ++ z))) (append_assoc D (41 ∷ []) more)

pub complete_node : (count : ℕ) → count ≤ 2 ^ 64 → (room : ℕ) (d : Node) (more : List ℕ) → IsNumbered count d → node_high d ≤ room → node_at count room (node_text d ++ more) ≡ Ok (d, more)
unfolding node_at
complete_node count small zero (node x n ds) more nums high = absurd (omega (arith, high))
complete_node count small (suc room) (node x n ds) more nums high =
    let rest = nodes_text ds ++ (41 ∷ more) in
    ap (node_at count (suc room)) (node_before x n ds more)
    ∙ rw (
      complete_word x (decimal n ++ rest),
      complete_number count n rest nums.0 small (stopping ds),
      complete_several count room (node_at count room) (λ d more nums high. complete_node count small room d more nums high) ds (41 ∷ more) nums.1 (omega (arith, high)) refl,
    )
    (ap (λ z. Ok (node x n z, more)) (from_list ds))
  where
    stopping : (ds : Nodes) → stops (nodes_text ds ++ (41 ∷ more)) ≡ true
    stopping no_nodes = refl
    stopping (and_node d ds) = refl

pub line_before : (line : Line) (more : List ℕ) →
    method_line_text line ++ more ≡ codes "method " ++ (decimal line.id ++ (codes " " ++ (decimal line.number ++ (newline ∷ (node_text line.body ++ (newline ∷ more))))))
line_before line more =
    let I = decimal line.id in let N = decimal line.number in let D = node_text line.body in
    ap (λ z. codes "method " ++ z) (append_assoc I (32 ∷ (N ++ (10 ∷ (D ++ (10 ∷ []))))) more)
    ∙ ap (λ z. codes "method " ++ (I ++ (32 ∷ z))) (append_assoc N (10 ∷ (D ++ (10 ∷ []))) more)
    ∙ ap (λ z. codes "method " ++ (I ++ (32 ∷ (N ++ (10 ∷ z))))) (append_assoc D (10 ∷ []) more)

pub complete_line : (count : ℕ) → count ≤ 2 ^ 64 → (line : Line) (more : List ℕ) → IsMethodLine count line → line_at count (method_line_text line ++ more) ≡ Ok (line, more)
unfolding line_at
complete_line count small line more is =
    let rest_d = newline ∷ more in
    let rest_n = newline ∷ (node_text line.body ++ rest_d) in
    let rest_i = codes " " ++ (decimal line.number ++ rest_n) in
    ap (line_at count) (line_before line more)
    ∙ rw (
      complete_number (2 ^ 32) line.id rest_i is.id (omega arith) refl,
      complete_number count line.number rest_n is.number small refl,
      complete_node count small most_nesting line.body rest_d is.numbered is.high,
    ) refl
