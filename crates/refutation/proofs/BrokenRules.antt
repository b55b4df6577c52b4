-- Where a rule is broken, reading stops; and texts whose paths stand in any order are read by the reader that doesn't ask for an order.
use Rattle.std.proofs.Common.{◌≡◌, ℕ, zero, suc, ◌<◌, ◌^◌, true, false, List, [], ◌∷◌, ◌++◌, length, codes, decimal, Ok, Err, None, Some, refl, ◌∙◌, ap, arith, append_assoc}
use Rattle.std.specs.Prelude.{Option}
use Rattle.std.specs.List.{AllByRecursion}
use Rattle.paths.specs.Paths.{PathData}
use Rattle.algebra.specs.Basics.{name_of}
use Rattle.conditions.specs.Texts.{path_text}
use Rattle.books.specs.declared.stop.Kind.TheVariants.{Form}
use Rattle.books.specs.Books.{IsPath, comes_after}
use Rattle.books.specs.BrokenPaths.{BreaksPath, root, field, late}
use Rattle.books.specs.Combine.{◌>>=◌, begins, several, exactly}
use Rattle.books.specs.Reading.{number_at, path_at}
use Rattle.books.specs.Texts.{newline}
use Rattle.books.proofs.Complete.{stops, complete_number, complete_leaf}
use Rattle.books.proofs.PathFaults.{past_number, some_digit, path_stops, no_root}
use Rattle.books.proofs.Several.{several_done, several_more}
use Rattle.refutation.specs.Lines.{LineData}
use Rattle.refutation.specs.Reading.{later_path, held_item, held_at, line_at, count_at, end_at, blame_at}
use Rattle.refutation.specs.Texts.{held_text, certificate_line_text, certificate_text, blame_text, IsWritableLine}
use Rattle.refutation.specs.FirstFaults.{IsFittingLine, heading, open_line, last_of, AreBegun, BreaksRule, count, method, path}
use Rattle.refutation.proofs.Held.{Ascends, sorted_after_none, complete_later, held_stops, held_ends, held_fault, held_more, item_shorter}
use Rattle.refutation.proofs.Lines.{complete_line}
use Rattle.refutation.proofs.StopLines.{loose_line, loose_blame}

-- ---- where a rule is broken

no_later : (before : Option PathData) (ts rest : List ℕ) → path_at ts ≡ Err (Form, rest) → later_path before ts ≡ Err (Form, rest)
unfolding later_path
no_later before ts rest e = rw e refl

too_late : (before : Option PathData) (rest : List ℕ) (p : PathData) (behind : List ℕ) → path_at rest ≡ Ok (p, behind) → comes_after before p ≡ false → later_path before rest ≡ Err (Form, rest)
unfolding later_path
too_late before rest p behind e f = rw (e, f) refl

later_stops : (before : Option PathData) (ahead rest : List ℕ) → BreaksPath before ahead rest → later_path before (ahead ++ rest) ≡ Err (Form, rest)
later_stops before ahead rest (root none past) = ap (λ z. later_path before (z ++ rest)) none ∙ no_later before rest rest (no_root rest (past_number (2 ^ 16) rest past))
later_stops before ahead rest (field p is few text past) =
    ap (λ z. later_path before (z ++ rest)) text ∙ ap (later_path before) (append_assoc (path_text p) (codes ".") rest)
    ∙ no_later before (path_text p ++ (46 ∷ rest)) rest (path_stops p rest is few (past_number (2 ^ 32) rest past))
later_stops before ahead rest (late p behind none e f) = ap (λ z. later_path before (z ++ rest)) none ∙ too_late before rest p behind e f

nothing_there : (p : PathData) (behind : List ℕ) → path_at [] ≡ Ok (p, behind) → ⊥
unfolding path_at number_at
nothing_there p behind e = cc

path_there : (p : PathData) (behind rest : List ℕ) → path_at rest ≡ Ok (p, behind) → 0 < length rest
path_there p behind [] e = absurd (nothing_there p behind e)
path_there p behind (b ∷ rest) e = omega arith

some_path : (before : Option PathData) (ahead rest : List ℕ) → BreaksPath before ahead rest → 0 < length rest
some_path before ahead rest (root none past) = some_digit (2 ^ 16) rest past
some_path before ahead rest (field p is few text past) = some_digit (2 ^ 32) rest past
some_path before ahead rest (late p behind none e f) = path_there p behind rest e

held_stop : (ps : List PathData) (before : Option PathData) (ahead rest : List ℕ) → AllByRecursion IsPath ps → Ascends before ps → BreaksPath (last_of before ps) ahead rest →
    held_at before (held_text ps ++ (32 ∷ (ahead ++ rest))) ≡ Err (Form, rest)
held_stop [] before ahead rest paths ascend breaks = held_fault before (32 ∷ (ahead ++ rest)) (Form, rest) refl (later_stops before ahead rest breaks)
held_stop (p ∷ ps) before ahead rest paths ascend breaks =
    let more = 32 ∷ (ahead ++ rest) in
    let R = held_text ps ++ more in
    let group : held_text (p ∷ ps) ++ more ≡ 32 ∷ (path_text p ++ R) = ap (λ z. 32 ∷ z) (append_assoc (path_text p) (held_text ps) more) in
    let item : held_item before (32 ∷ (path_text p ++ R)) ≡ Ok (p, R) = complete_later before p R paths.0 ascend.0 (held_stops ps more refl) (held_ends ps more refl) in
    ap (held_at before) group ∙ held_more before (32 ∷ (path_text p ++ R)) p R refl item
    ∙ ap (λ q. q >>= λ xs ts. Ok (p ∷ xs, ts)) (held_stop ps (Some p) ahead rest paths.1 ascend.1 breaks)

line_stops : (l : LineData) (ahead rest : List ℕ) → IsWritableLine l → BreaksPath (last_of None l.held) ahead rest → line_at ((open_line l ++ (codes " " ++ ahead)) ++ rest) ≡ Err (Form, rest)
unfolding line_at
line_stops l ahead rest is breaks =
    let N = decimal l.method in let B = name_of l.found in let H = held_text l.held in
    let more = 32 ∷ (ahead ++ rest) in
    let group : (open_line l ++ (32 ∷ ahead)) ++ rest ≡ N ++ (32 ∷ (B ++ (H ++ more))) =
    append_assoc (N ++ (32 ∷ (B ++ H))) (32 ∷ ahead) rest ∙ append_assoc N (32 ∷ (B ++ H)) more ∙ ap (λ z. N ++ (32 ∷ z)) (append_assoc B H more) in
    let number : number_at (2 ^ 32) ((open_line l ++ (32 ∷ ahead)) ++ rest) ≡ Ok (l.method, 32 ∷ (B ++ (H ++ more))) =
    ap (number_at (2 ^ 32)) group ∙ complete_number (2 ^ 32) l.method (32 ∷ (B ++ (H ++ more))) is.method (omega arith) refl in
    rw (number, complete_leaf l.found (H ++ more), held_stop l.held None ahead rest is.paths (sorted_after_none l.held is.ascend) breaks) refl

no_method : (rest : List ℕ) → number_at (2 ^ 32) rest ≡ Err (Form, rest) → line_at rest ≡ Err (Form, rest)
unfolding line_at
no_method rest e = rw e refl

lines_stop : (n : ℕ) (ls : List LineData) (ts rest : List ℕ) → length ls < n → AllByRecursion IsWritableLine ls → line_at ts ≡ Err (Form, rest) → exactly n line_at (certificate_text ls ++ ts) ≡ Err (Form, rest)
lines_stop zero ls ts rest fewer are e = absurd (omega (arith, fewer))
lines_stop (suc n) [] ts rest fewer are e = rw e refl
lines_stop (suc n) (l ∷ ls) ts rest fewer are e =
    let first : line_at (certificate_text (l ∷ ls) ++ ts) ≡ Ok (l, certificate_text ls ++ ts) =
    ap line_at (append_assoc (certificate_line_text l) (certificate_text ls) ts) ∙ complete_line l (certificate_text ls ++ ts) are.0 in
    rw (first, lines_stop n ls ts rest (omega (arith, fewer)) are.1 e) refl

complete_count : (n : ℕ) (more : List ℕ) → n < 2 ^ 32 → count_at (heading n ++ more) ≡ Ok (n, more)
unfolding count_at
complete_count n more fits =
    let N = decimal n in
    let group : (N ++ (10 ∷ [])) ++ more ≡ N ++ (10 ∷ more) = append_assoc N (10 ∷ []) more in
    let number : number_at (2 ^ 32) ((N ++ (10 ∷ [])) ++ more) ≡ Ok (n, 10 ∷ more) = ap (number_at (2 ^ 32)) group ∙ complete_number (2 ^ 32) n (10 ∷ more) fits (omega arith) refl in
    rw number refl

no_count : (rest : List ℕ) → number_at (2 ^ 32) rest ≡ Err (Form, rest) → blame_at (codes "blame " ++ rest) ≡ Err (Form, rest)
unfolding blame_at count_at
no_count rest e = rw e refl

blame_stops : (n : ℕ) (ls : List LineData) (ts rest : List ℕ) → AreBegun n ls → line_at ts ≡ Err (Form, rest) → blame_at (heading n ++ (certificate_text ls ++ ts)) ≡ Err (Form, rest)
unfolding blame_at
blame_stops n ls ts rest begun e = rw (complete_count n (certificate_text ls ++ ts) begun.count_fits, lines_stop n ls ts rest begun.fewer begun.lines e) refl

pub rule_stops : (front rest : List ℕ) → BreaksRule front rest → blame_at (front ++ rest) ≡ Err (Form, rest)
rule_stops front rest (count text past) = ap (λ z. blame_at (z ++ rest)) text ∙ no_count rest (past_number (2 ^ 32) rest past)
rule_stops front rest (method n ls begun text past) =
    ap (λ z. blame_at (z ++ rest)) text ∙ ap blame_at (append_assoc (heading n) (certificate_text ls) rest) ∙ blame_stops n ls rest rest begun (no_method rest (past_number (2 ^ 32) rest past))
rule_stops front rest (path n ls l ahead begun writable text breaks) =
    let behind = open_line l ++ (codes " " ++ ahead) in
    ap (λ z. blame_at (z ++ rest)) text ∙ ap blame_at (append_assoc (heading n) (certificate_text ls ++ behind) rest ∙ ap (λ z. heading n ++ z) (append_assoc (certificate_text ls) behind rest))
    ∙ blame_stops n ls (behind ++ rest) rest begun (line_stops l ahead rest writable breaks)

pub rule_there : (front rest : List ℕ) → BreaksRule front rest → 0 < length rest
rule_there front rest (count text past) = some_digit (2 ^ 32) rest past
rule_there front rest (method n ls begun text past) = some_digit (2 ^ 32) rest past
rule_there front rest (path n ls l ahead begun writable text breaks) = some_path (last_of None l.held) ahead rest breaks

-- ---- texts whose paths stand in any order

complete_paths : (ps : List PathData) (more : List ℕ) → AllByRecursion IsPath ps → stops more ≡ true → begins 46 more ≡ false → begins 32 more ≡ false → several 32 (held_item None) (held_text ps ++ more) ≡ Ok (ps, more)
complete_paths [] more paths stop next done = several_done 32 (held_item None) more done
complete_paths (p ∷ ps) more paths stop next done =
    let R = held_text ps ++ more in
    let group : held_text (p ∷ ps) ++ more ≡ 32 ∷ (path_text p ++ R) = ap (λ z. 32 ∷ z) (append_assoc (path_text p) (held_text ps) more) in
    let item : held_item None (32 ∷ (path_text p ++ R)) ≡ Ok (p, R) = complete_later None p R paths.0 refl (held_stops ps more stop) (held_ends ps more next) in
    ap (several 32 (held_item None)) group ∙ several_more 32 (held_item None) (λ ts x r e. item_shorter None ts r x e) (32 ∷ (path_text p ++ R)) p R refl item
    ∙ ap (λ q. q >>= λ xs ts. Ok (p ∷ xs, ts)) (complete_paths ps more paths.1 stop next done)

complete_loose : (l : LineData) (more : List ℕ) → IsFittingLine l → loose_line (certificate_line_text l ++ more) ≡ Ok (l, more)
complete_loose l more is =
    let N = decimal l.method in let B = name_of l.found in let H = held_text l.held in
    let group : certificate_line_text l ++ more ≡ N ++ (32 ∷ (B ++ (H ++ (10 ∷ more)))) =
    append_assoc N (32 ∷ (B ++ (H ++ (10 ∷ [])))) more
    ∙ ap (λ z. N ++ (32 ∷ z)) (append_assoc B (H ++ (10 ∷ [])) more)
    ∙ ap (λ z. N ++ (32 ∷ (B ++ z))) (append_assoc H (10 ∷ []) more) in
    let number : number_at (2 ^ 32) (certificate_line_text l ++ more) ≡ Ok (l.method, 32 ∷ (B ++ (H ++ (10 ∷ more)))) =
    ap (number_at (2 ^ 32)) group ∙ complete_number (2 ^ 32) l.method (32 ∷ (B ++ (H ++ (10 ∷ more)))) is.method (omega arith) refl in
    rw (number, complete_leaf l.found (H ++ (10 ∷ more)), complete_paths l.held (10 ∷ more) is.paths refl refl refl) refl

complete_loose_lines : (ls : List LineData) (more : List ℕ) → AllByRecursion IsFittingLine ls → exactly (length ls) loose_line (certificate_text ls ++ more) ≡ Ok (ls, more)
complete_loose_lines [] more are = refl
complete_loose_lines (l ∷ ls) more are =
    let first : loose_line (certificate_text (l ∷ ls) ++ more) ≡ Ok (l, certificate_text ls ++ more) =
    ap loose_line (append_assoc (certificate_line_text l) (certificate_text ls) more) ∙ complete_loose l (certificate_text ls ++ more) are.0 in
    let rest = complete_loose_lines ls more are.1 in
    let step : exactly (length (l ∷ ls)) loose_line (certificate_text (l ∷ ls) ++ more) ≡ (exactly (length ls) loose_line (certificate_text ls ++ more) >>= λ xs ts. Ok (l ∷ xs, ts)) =
    ap (λ q. q >>= λ x ts. exactly (length ls) loose_line ts >>= λ xs ts. Ok (x ∷ xs, ts)) first in
    step ∙ ap (λ q. q >>= λ xs ts. Ok (l ∷ xs, ts)) rest

pub complete_any : (ls : List LineData) → length ls < 2 ^ 32 → AllByRecursion IsFittingLine ls → loose_blame (blame_text ls) ≡ Ok (ls, [])
unfolding end_at
complete_any ls few are =
    let last = codes "end" ++ (newline ∷ []) in
    let counted = complete_count (length ls) (certificate_text ls ++ last) few in
    let lines = complete_loose_lines ls last are in
    ap (λ q. q >>= λ n ts. exactly n loose_line ts >>= λ ls ts. end_at ts >>= λ u ts. Ok (ls, ts)) counted ∙ ap (λ q. q >>= λ ls ts. end_at ts >>= λ u ts. Ok (ls, ts)) lines
