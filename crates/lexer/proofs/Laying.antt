-- The tokens of a text are slices of it in order, with blanks and comments between them.
use Rattle.std.proofs.Common.{◌≡◌, ℕ, ◌+◌, ◌<◌, ◌≤◌, Bool, true, false, nat_lt, List, [], ◌∷◌, ◌++◌, length, take, drop, All, Some, None, Ok, Err, if◌then◌else◌, ap, ap₂, sym, ◌∙◌, subst, arith, append_assoc, length-append}
use Rattle.std.proofs.lemmas.List.Elements.{All-cons}
use Rattle.std.proofs.Math.Seq.{drop-append_seam, take-append_seam}
use Rattle.std.specs.Str.Parse.{digits_value}
use Rattle.lexer.specs.Limits.{greatest_literal, longest_word}
use Rattle.lexer.specs.declared.pieces.Piece.{Piece}
use Rattle.lexer.specs.declared.pieces.Piece.TheVariants.{Blanks, Comment, OpenComment, Word, Number, Sign}
use Rattle.lexer.specs.declared.tokens.Token.{Token}
use Rattle.lexer.specs.declared.tokens.TokenKind.{TokenKind}
use Rattle.lexer.specs.declared.tokens.TokenKind.TheVariants as token
use Rattle.lexer.specs.declared.faults.LexFault.{LexFault}
use Rattle.lexer.specs.declared.faults.LexFault.TheVariants as fault
use Rattle.lexer.specs.Pieces.{is_piece}
use Rattle.lexer.specs.Tokens.{meaning, word_kind, TokensFrom, at_end, a_gap, a_token, FaultFrom, no_piece, a_bad_piece, after_a_piece, Gap, no_gap, after_blanks, after_comment, LaidFrom, IsSlice, Ascend}

word_means : (long : Bool) (kind : TokenKind) (its : LexFault) → (if long then Err its else Ok (Some kind)) ≡ Ok None → ⊥
word_means true kind its h = cc
word_means false kind its h = cc

-- a piece without meaning is a gap
gap_more : (kind : Piece) (bytes rest : List ℕ) (at : ℕ) → is_piece kind bytes ≡ true → meaning kind bytes at ≡ Ok None → Gap rest → Gap (bytes ++ rest)
gap_more Blanks bytes rest at is m g = after_blanks bytes rest is g
gap_more Comment bytes rest at is m g = after_comment bytes rest is g
gap_more OpenComment bytes rest at is m g = absurd (cc)
gap_more Word bytes rest at is m g = absurd (word_means (nat_lt longest_word (length bytes)) (word_kind bytes) (fault.NameTooLong at) m)
gap_more Number bytes rest at is m g = absurd (word_means (nat_lt greatest_literal (digits_value 10 bytes)) (token.Number (digits_value 10 bytes)) (fault.LiteralTooLarge at) m)
gap_more Sign bytes rest at is m g = absurd (cc)

laid_more : (kind : Piece) (text bytes rest : List ℕ) (at : ℕ) (ts : List Token) → text ≡ bytes ++ rest → is_piece kind bytes ≡ true
    → meaning kind bytes at ≡ Ok None → LaidFrom rest (at + length bytes) ts → LaidFrom text at ts
laid_more kind text bytes rest at [] w is m h = subst Gap (sym w) (gap_more kind bytes rest at is m h)
laid_more kind text bytes rest at (t ∷ ts) w is m (gap, after, g, e, p, h) = (
  bytes ++ gap,
  after,
  gap_more kind bytes gap at is m g,
  w ∙ ap (λ r. bytes ++ r) e ∙ sym (append_assoc bytes gap (t.text ++ after)),
  omega (arith, p, length-append bytes gap),
  h,
)

pub laid_from : {text : List ℕ} {at : ℕ} {ts : List Token} → TokensFrom text at ts → LaidFrom text at ts
laid_from at_end = no_gap
laid_from (a_gap {text = text} {bytes = bytes} {rest = rest} {at = at} {ts = ts} kind x m r) =
    laid_more kind text bytes rest at ts x.whole x.is m (laid_from r)
laid_from (a_token {text = text} {bytes = bytes} {rest = rest} {at = at} {ts = ts} kind its x m r) =
    ([], rest, no_gap, x.whole, omega arith, laid_from r)

slice_here : (whole front bytes rest : List ℕ) (n : ℕ) → whole ≡ front ++ (bytes ++ rest) → n ≡ length front
    → (n + length bytes ≤ length whole) × (take (length bytes) (drop n whole) ≡ bytes)
slice_here whole front bytes rest n w e =
    let d : drop n whole ≡ bytes ++ rest = ap₂ drop e w ∙ drop-append_seam front (bytes ++ rest) in
    (omega (arith, e, ap length w, length-append front (bytes ++ rest), length-append bytes rest), ap (take (length bytes)) d ∙ take-append_seam bytes rest)

pub slices_from : (text whole before : List ℕ) (at : ℕ) (ts : List Token) → whole ≡ before ++ text → at ≡ length before → LaidFrom text at ts
    → All (IsSlice whole) ts
slices_from text whole before at [] w l h = λ k d below. absurd (omega arith)
slices_from text whole before at (t ∷ ts) w l (gap, rest, g, e, p, h) =
    let here : whole ≡ (before ++ gap) ++ (t.text ++ rest) = w ∙ ap (λ r. before ++ r) e ∙ sym (append_assoc before gap (t.text ++ rest)) in
    let place : t.at ≡ length (before ++ gap) = omega (arith, p, l, length-append before gap) in
    let after : whole ≡ ((before ++ gap) ++ t.text) ++ rest = here ∙ sym (append_assoc (before ++ gap) t.text rest) in
    let next : t.at + length t.text ≡ length ((before ++ gap) ++ t.text) = omega (arith, place, length-append (before ++ gap) t.text) in
    All-cons (IsSlice whole) t ts (slice_here whole (before ++ gap) t.text rest t.at here place)
    (slices_from rest whole ((before ++ gap) ++ t.text) (t.at + length t.text) ts after next h)

pub nonempty : (kind : Piece) (bytes : List ℕ) → is_piece kind bytes ≡ true → 0 < length bytes
nonempty Blanks [] h = absurd (cc)
nonempty Comment [] h = absurd (cc)
nonempty OpenComment [] h = absurd (cc)
nonempty Word [] h = absurd (cc)
nonempty Number [] h = absurd (cc)
nonempty Sign [] h = absurd (cc)
nonempty kind (c ∷ o) h = omega arith

ascend_less : (from at : ℕ) (ts : List Token) → from ≤ at → Ascend at ts → Ascend from ts
ascend_less from at [] l h = tt
ascend_less from at (t ∷ ts) l (a, b, h) = (omega arith, b, h)

pub ascend_from : {text : List ℕ} {at : ℕ} {ts : List Token} → TokensFrom text at ts → Ascend at ts
ascend_from at_end = tt
ascend_from (a_gap {bytes = bytes} {at = at} {ts = ts} kind x m r) = ascend_less at (at + length bytes) ts (omega arith) (ascend_from r)
ascend_from (a_token {bytes = bytes} {at = at} {ts = ts} kind its x m r) = (omega arith, nonempty kind bytes x.is, ascend_from r)

bad_means : (long : Bool) (kind : TokenKind) (its : LexFault) → (if long then Err its else Ok (Some kind)) ≡ Err fault.NoMemory → (its ≡ fault.NoMemory → ⊥) → ⊥
bad_means true kind its h other = other (cc)
bad_means false kind its h other = cc

no_bad_meaning : (kind : Piece) (bytes : List ℕ) (at : ℕ) → meaning kind bytes at ≡ Err fault.NoMemory → ⊥
no_bad_meaning Blanks bytes at m = cc
no_bad_meaning Comment bytes at m = cc
no_bad_meaning OpenComment bytes at m = cc
no_bad_meaning Word bytes at m = bad_means (nat_lt longest_word (length bytes)) (word_kind bytes) (fault.NameTooLong at) m (λ e. cc)
no_bad_meaning Number bytes at m = bad_means (nat_lt greatest_literal (digits_value 10 bytes)) (token.Number (digits_value 10 bytes)) (fault.LiteralTooLarge at) m (λ e. cc)
no_bad_meaning Sign bytes at m = cc

pub no_memory_fault : {text : List ℕ} {at : ℕ} {its : LexFault} → FaultFrom text at its → its ≡ fault.NoMemory → ⊥
no_memory_fault (no_piece some none) e = cc
no_memory_fault (a_bad_piece {bytes = bytes} {at = at} kind x m) e = no_bad_meaning kind bytes at (m ∙ ap Err e)
no_memory_fault (after_a_piece kind means x m r) e = no_memory_fault r e
