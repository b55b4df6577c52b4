-- Comments behind a schedule.
use Rattle.std.proofs.Common.{◌≡◌, ℕ, ◌+◌, ◌==◌, ◌&&◌, Bool, true, false, not, List, [], ◌∷◌, ◌++◌, map, replicate, refl, sym, ◌∙◌, ap, subst, arith, append_assoc}
use Rattle.std.proofs.lemmas.List.{append-nil}
use Rattle.std.proofs.lemmas.Bool.Decides.{nat_tests}
use Rattle.std.specs.List.{list_all, join_with_byte}
use Rattle.schedule.specs.Comments.{commented, commented_from, ends_line}
use Rattle.schedule.specs.Text.{Piece, blank, comment, single, group, spelled, ends_comment, IsPiece, joined, ArePieces, piece_count, piece_thread, total, piece_steps, IsSchedule}
use Rattle.schedule.specs.Written.{written, groups_of, group_text}

-- pieces without entries, which are this text
record Silent (text : List ℕ) : Type 0 where
  pieces : List Piece
  whole : text ≡ joined pieces []
  are : ArePieces pieces []
  count : total pieces ≡ 0
  threads : piece_steps pieces ≡ []

-- the text of a line up to its LF or its end, and what stands from there on
record Inside (text : List ℕ) : Type 0 where
  line : List ℕ
  rest : List ℕ
  whole : text ≡ line ++ rest
  quiet : list_all (λ byte. not (byte == 10)) line ≡ true
  ends : ends_comment rest ≡ true
  silent : Silent rest

-- a comment before pieces without entries
with_comment : (text : List ℕ) → Inside text → Silent (35 ∷ (32 ∷ text))
with_comment text at = record {
  pieces = comment (32 ∷ at.line) ∷ at.silent.pieces;
  whole = ap (λ t. 35 ∷ (32 ∷ t)) (at.whole ∙ ap (λ t. at.line ++ t) at.silent.whole);
  are = ((at.quiet, subst (λ t. ends_comment t ≡ true) at.silent.whole at.ends), at.silent.are);
  count = omega (arith, at.silent.count);
  threads = at.silent.threads;
}

-- the lines of a comment, from what is inside one
lines_of : (text : List ℕ) → Inside (commented_from false text) → Silent (commented text)
lines_of [] at = record { pieces = []; whole = refl; are = tt; count = refl; threads = refl }
lines_of (byte ∷ rest) at = with_comment (byte ∷ commented_from (byte == 10) rest) at

inside_line : (byte : ℕ) (rest : List ℕ) (b : Bool) → (byte == 10) ≡ b → Inside (commented_from false rest) → Inside (byte ∷ commented_from b rest)
inside_line byte rest false e at = record {
  line = byte ∷ at.line;
  rest = at.rest;
  whole = ap (λ t. byte ∷ t) at.whole;
  quiet = rw (e) at.quiet;
  ends = at.ends;
  silent = at.silent;
}
inside_line byte rest true e at =
    let more = lines_of rest at in
    record {
      line = [];
      rest = byte ∷ commented rest;
      whole = refl;
      quiet = refl;
      ends = e;
      silent = record {
        pieces = blank byte ∷ more.pieces;
        whole = ap (λ t. byte ∷ t) more.whole;
        are = (grind (arith, nat_tests), more.are);
        count = omega (arith, more.count);
        threads = more.threads;
      };
    }

inside : (text : List ℕ) → Inside (commented_from false text)
inside [] = record { line = []; rest = []; whole = refl; quiet = refl; ends = refl; silent = record { pieces = []; whole = refl; are = tt; count = refl; threads = refl } }
inside (byte ∷ rest) = inside_line byte rest (byte == 10) refl (inside rest)

comments : (text : List ℕ) → Silent (commented text)
comments text = lines_of text (inside text)

-- a list of bytes whose first byte, if there is one, is `#`
begins_comment : List ℕ → Bool
begins_comment [] = true
begins_comment (byte ∷ rest) = byte == 35

begins : (text : List ℕ) → begins_comment (commented text) ≡ true
unfolding begins_comment
begins [] = refl
begins (byte ∷ rest) = refl

-- what ends with LF has one at the end of its last part
ends_behind : (xs ys : List ℕ) (y : ℕ) → ends_line (xs ++ (y ∷ ys)) ≡ true → ends_line (y ∷ ys) ≡ true
ends_behind [] ys y e = e
ends_behind (x ∷ []) ys y e = e
ends_behind (x ∷ z ∷ xs) ys y e = ends_behind (z ∷ xs) ys y e

-- a line without LF doesn't end with one
quiet_ends : (x : ℕ) (xs : List ℕ) → list_all (λ byte. not (byte == 10)) (x ∷ xs) ≡ true → ends_line (x ∷ xs) ≡ true → ⊥
quiet_ends x [] quiet e = absurd (let f : (not true && true) ≡ true = subst (λ b. (not b && true) ≡ true) e quiet in let g : false ≡ true = f in cc)
quiet_ends x (y ∷ ys) quiet e = quiet_ends y ys (both (not (x == 10)) _ quiet) e
  where
    both : (a b : Bool) → (a && b) ≡ true → b ≡ true
    both true b e = e
    both false b e = absurd (let f : false ≡ true = e in cc)

-- a piece may stand before more where it may stand at the end
stands_at_end : (piece : Piece) (more : List ℕ) → begins_comment more ≡ true → ends_line (spelled piece ++ []) ≡ true → IsPiece piece [] → IsPiece piece more
unfolding begins_comment
stands_at_end (blank byte) more b e is = is
stands_at_end (comment text) [] b e is = is
stands_at_end (comment []) (m ∷ more) b e is = absurd (let f : false ≡ true = e in cc)
stands_at_end (comment (x ∷ xs)) (m ∷ more) b e is = absurd (quiet_ends x xs is.0 (subst (λ t. ends_line t ≡ true) (append-nil (x ∷ xs)) e))
stands_at_end (single thread) [] b e is = is
stands_at_end (single thread) (m ∷ more) b e is = (is.0, grind (arith, nat_tests))
stands_at_end (group thread count) [] b e is = is
stands_at_end (group thread count) (m ∷ more) b e is = (is.0, is.1, is.2, grind (arith, nat_tests))

stands_before : (piece : Piece) (byte : ℕ) (rest more : List ℕ) → IsPiece piece (byte ∷ rest) → IsPiece piece ((byte ∷ rest) ++ more)
stands_before (blank b) byte rest more is = is
stands_before (comment text) byte rest more is = is
stands_before (single thread) byte rest more is = is
stands_before (group thread count) byte rest more is = is

joined_more : (pieces : List Piece) (more : List ℕ) → joined pieces more ≡ joined pieces [] ++ more
joined_more [] more = refl
joined_more (piece ∷ pieces) more = ap (λ t. spelled piece ++ t) (joined_more pieces more) ∙ sym (append_assoc (spelled piece) (joined pieces []) more)

-- one piece more, by whether anything stands behind it
piece_more : (piece : Piece) (behind more whole : List ℕ) → begins_comment more ≡ true → ends_line (spelled piece ++ behind) ≡ true → whole ≡ behind ++ more → IsPiece piece behind → IsPiece piece whole
piece_more piece [] more whole b e is stands = subst (IsPiece piece) (sym is) (stands_at_end piece more b e stands)
piece_more piece (byte ∷ rest) more whole b e is stands = subst (IsPiece piece) (sym is) (stands_before piece byte rest more stands)

ends_rest : (xs ys : List ℕ) → ends_line (xs ++ ys) ≡ true → ends_line ys ≡ true
ends_rest xs [] e = refl
ends_rest xs (y ∷ ys) e = ends_behind xs ys y e

pieces_more : (pieces : List Piece) (more : List ℕ) → begins_comment more ≡ true → ends_line (joined pieces []) ≡ true → ArePieces pieces [] → ArePieces pieces more
pieces_more [] more b e are = tt
pieces_more (piece ∷ pieces) more b e are = (
  piece_more piece (joined pieces []) more (joined pieces more) b e (joined_more pieces more) are.0,
  pieces_more pieces more b (ends_rest (spelled piece) (joined pieces []) e) are.1,
)

-- two lists of pieces
joined_both : (ps qs : List Piece) → joined (ps ++ qs) [] ≡ joined ps (joined qs [])
joined_both [] qs = refl
joined_both (p ∷ ps) qs = ap (λ t. spelled p ++ t) (joined_both ps qs)

are_both : (ps qs : List Piece) → ArePieces ps (joined qs []) → ArePieces qs [] → ArePieces (ps ++ qs) []
are_both [] qs are those = those
are_both (p ∷ ps) qs are those = (subst (IsPiece p) (sym (joined_both ps qs)) are.0, are_both ps qs are.1 those)

total_both : (ps qs : List Piece) → total (ps ++ qs) ≡ total ps + total qs
total_both [] qs = omega arith
total_both (p ∷ ps) qs = let rest = total_both ps qs in omega (arith, rest)

steps_both : (ps qs : List Piece) → piece_steps qs ≡ [] → piece_steps (ps ++ qs) ≡ piece_steps ps
steps_both [] qs e = e
steps_both (p ∷ ps) qs e = ap (λ t. replicate (piece_count p) (piece_thread p) ++ t) (steps_both ps qs e)

-- a schedule with comments behind it
pub same_schedule : (text said schedule : List ℕ) → IsSchedule text schedule → ends_line text ≡ true → IsSchedule (text ++ commented said) schedule
same_schedule text said schedule is e =
    let more = comments said in
    record {
      pieces = is.pieces ++ more.pieces;
      begins = record {
        whole = ap (λ t. t ++ commented said) is.begins.whole ∙ sym (joined_more is.pieces (commented said)) ∙ ap (λ t. joined is.pieces t) more.whole ∙ sym (joined_both is.pieces more.pieces);
        pieces_are = are_both is.pieces more.pieces
            (subst (λ t. ArePieces is.pieces t) more.whole (pieces_more is.pieces (commented said) (begins said) (subst (λ t. ends_line t ≡ true) is.begins.whole e) is.begins.pieces_are))
            more.are;
        within = let sum = total_both is.pieces more.pieces in omega (arith, sum, more.count, is.begins.within);
      };
      steps_are = is.steps_are ∙ sym (steps_both is.pieces more.pieces more.threads);
    }

-- what ends with LF
ends_last : (xs : List ℕ) → ends_line (xs ++ (10 ∷ [])) ≡ true
ends_last [] = refl
ends_last (x ∷ []) = refl
ends_last (x ∷ y ∷ xs) = ends_last (y ∷ xs)

pub written_ends : (schedule : List ℕ) → ends_line (written schedule) ≡ true
written_ends schedule = ends_last (join_with_byte 32 (map group_text (groups_of schedule)))
