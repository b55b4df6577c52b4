-- Pieces read one after another.
use Rattle.std.proofs.Common.{◌≡◌, ℕ, ◌+◌, ◌<◌, ◌≤◌, List, [], ◌∷◌, ◌++◌, length, drop, Option, Some, None, unwrap_or, replicate, refl, sym, ◌∙◌, ap, subst, arith, append_assoc}
use Rattle.std.proofs.lemmas.List.{take-append-drop, append-nil}
use Rattle.std.proofs.lemmas.Grind.{common_steps}
use Rattle.schedule.specs.Text.{Piece, spelled, IsPiece, BeginsWithPiece, piece_count, piece_thread, piece_of, joined, ArePieces, total, piece_steps, BeginsWithPieces}
use Rattle.schedule.specs.Faults.{HasLengthFault}
use Rattle.schedule.proofs.FrontLemmas.{drop-drop}

-- what was read before a place
pub record SoFar (text : List ℕ) (at : ℕ) (schedule : List ℕ) : Type 0 where
  pub pieces : List Piece
  pub begins : BeginsWithPieces text pieces (drop at text)
  pub at_is : at ≡ length (joined pieces [])
  pub steps_are : schedule ≡ piece_steps pieces
  pub within : at ≤ length text

joined-push : (pieces : List Piece) (piece : Piece) (rest : List ℕ) → joined (pieces ++ piece ∷ []) rest ≡ joined pieces (spelled piece ++ rest)
joined-push [] piece rest = refl
joined-push (p ∷ pieces) piece rest = ap (λ t. spelled p ++ t) (joined-push pieces piece rest)

ArePieces-push : (pieces : List Piece) (piece : Piece) (rest : List ℕ) → ArePieces pieces (spelled piece ++ rest) → IsPiece piece rest → ArePieces (pieces ++ piece ∷ []) rest
ArePieces-push [] piece rest before here = (here, tt)
ArePieces-push (p ∷ pieces) piece rest before here =
    (subst (IsPiece p) (sym (joined-push pieces piece rest)) before.0, ArePieces-push pieces piece rest before.1 here)

total-push : (pieces : List Piece) (piece : Piece) → total (pieces ++ piece ∷ []) ≡ total pieces + piece_count piece
total-push [] piece = omega arith
total-push (p ∷ pieces) piece = omega (arith, total-push pieces piece)

steps-push : (pieces : List Piece) (piece : Piece) → piece_steps (pieces ++ piece ∷ []) ≡ piece_steps pieces ++ replicate (piece_count piece) (piece_thread piece)
steps-push [] piece = append-nil (replicate (piece_count piece) (piece_thread piece))
steps-push (p ∷ pieces) piece =
    ap (λ t. replicate (piece_count p) (piece_thread p) ++ t) (steps-push pieces piece) ∙ sym (append_assoc (replicate (piece_count p) (piece_thread p)) (piece_steps pieces) (replicate (piece_count piece) (piece_thread piece)))

length-joined : (pieces : List Piece) (rest : List ℕ) → length (joined pieces rest) ≡ length (joined pieces []) + length rest
length-joined [] rest = omega arith
length-joined (p ∷ pieces) rest = grind (arith, common_steps, length-joined pieces rest)

pub length-steps : (pieces : List Piece) → length (piece_steps pieces) ≡ total pieces
length-steps [] = refl
length-steps (p ∷ pieces) = grind (arith, common_steps, length-steps pieces)

-- the piece and the rest behind it
front_split : (text : List ℕ) (piece : Piece) (size : ℕ) → BeginsWithPiece text piece size → text ≡ spelled piece ++ drop size text
front_split text piece size front = sym (take-append-drop size text) ∙ ap (λ t. t ++ drop size text) front.bytes

length-spelled : (text : List ℕ) (piece : Piece) (size : ℕ) → BeginsWithPiece text piece size → length (spelled piece) ≡ size
length-spelled text piece size front = ap length (sym front.bytes) ∙ grind (arith, common_steps, front.within)

-- one piece more
pub so_far_more : (text schedule next : List ℕ) (at size : ℕ) (piece : Piece) → SoFar text at schedule → BeginsWithPiece (drop at text) piece size →
    length schedule + piece_count piece ≤ 200000 → next ≡ schedule ++ replicate (piece_count piece) (piece_thread piece) → SoFar text (at + size) next
so_far_more text schedule next at size piece before front fits is =
    let rest : drop size (drop at text) ≡ drop (at + size) text = drop-drop size at text in
    let split : drop at text ≡ spelled piece ++ drop (at + size) text = front_split (drop at text) piece size front ∙ ap (λ t. spelled piece ++ t) rest in
    let pieces = before.pieces ++ piece ∷ [] in
    let count : length schedule ≡ total before.pieces = ap length before.steps_are ∙ length-steps before.pieces in
    let ends : length (joined pieces []) ≡ at + size =
    ap length (joined-push before.pieces piece []) ∙ ap (λ t. length (joined before.pieces t)) (append-nil (spelled piece)) ∙ length-joined before.pieces (spelled piece)
    ∙ omega (arith, before.at_is, length-spelled (drop at text) piece size front) in
    record {
      pieces = pieces;
      begins = record {
        whole = before.begins.whole ∙ ap (joined before.pieces) split ∙ sym (joined-push before.pieces piece (drop (at + size) text));
        pieces_are = ArePieces-push before.pieces piece (drop (at + size) text) (subst (ArePieces before.pieces) split before.begins.pieces_are) (subst (IsPiece piece) rest front.piece_is);
        within = omega (arith, total-push before.pieces piece, count, fits);
      };
      at_is = sym ends;
      steps_are = is ∙ ap (λ t. t ++ replicate (piece_count piece) (piece_thread piece)) before.steps_are ∙ sym (steps-push before.pieces piece);
      within = grind (arith, common_steps, front.within, before.within);
    }

-- a piece that gives no step
pub so_far_gap : (text schedule : List ℕ) (at size : ℕ) (piece : Piece) → SoFar text at schedule → BeginsWithPiece (drop at text) piece size → piece_count piece ≡ 0 → SoFar text (at + size) schedule
so_far_gap text schedule at size piece before front none =
    let count : length schedule ≡ total before.pieces = ap length before.steps_are ∙ length-steps before.pieces in
    so_far_more text schedule schedule at size piece before front (omega (arith, none, count, before.begins.within)) (sym (append-nil schedule) ∙ ap (λ n. schedule ++ replicate n (piece_thread piece)) (sym none))

count_of-entry : (thread : ℕ) (count : Option ℕ) → piece_count (piece_of thread count) ≡ unwrap_or count 1
count_of-entry thread None = refl
count_of-entry thread (Some n) = refl

thread_of-entry : (thread : ℕ) (count : Option ℕ) → piece_thread (piece_of thread count) ≡ thread
thread_of-entry thread None = refl
thread_of-entry thread (Some n) = refl

-- an entry
pub so_far_entry : (text schedule next : List ℕ) (at size thread : ℕ) (count : Option ℕ) → SoFar text at schedule → BeginsWithPiece (drop at text) (piece_of thread count) size →
    length schedule + unwrap_or count 1 ≤ 200000 → next ≡ schedule ++ replicate (unwrap_or count 1) thread → SoFar text (at + size) next
so_far_entry text schedule next at size thread count before front fits is =
    so_far_more text schedule next at size (piece_of thread count) before front (omega (arith, count_of-entry thread count, fits))
    (is ∙ ap (λ n. schedule ++ replicate n thread) (sym (count_of-entry thread count)) ∙ ap (λ t. schedule ++ replicate (piece_count (piece_of thread count)) t) (sym (thread_of-entry thread count)))

-- how many steps there are so far
pub so_far_within : (text schedule : List ℕ) (at : ℕ) → SoFar text at schedule → length schedule ≤ 200000
so_far_within text schedule at before = omega (arith, ap length before.steps_are, length-steps before.pieces, before.begins.within)

pub so_far_long : (text schedule : List ℕ) (at size thread : ℕ) (count : Option ℕ) → SoFar text at schedule → BeginsWithPiece (drop at text) (piece_of thread count) size →
    200000 < length schedule + unwrap_or count 1 → HasLengthFault text at
so_far_long text schedule at size thread count before front past = record {
  pieces = before.pieces;
  entry = piece_of thread count;
  rest = drop size (drop at text);
  begins = subst (BeginsWithPieces text before.pieces) (front_split (drop at text) (piece_of thread count) size front) before.begins;
  entry_is = front.piece_is;
  past = omega (arith, past, count_of-entry thread count, ap length before.steps_are, length-steps before.pieces);
  place_is = before.at_is;
}
