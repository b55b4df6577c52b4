-- A text has one list of tokens or one first fault, and not both.
use Rattle.std.proofs.Common.{◌≡◌, ℕ, ◌+◌, true, List, [], ◌∷◌, ◌++◌, length, take, drop, Option, Some, Result, Ok, Err, IfOk, IfErr, MatchResult, ◌⊎◌, inl, inr, refl, ap, ap₂, sym, ◌∙◌, subst, arith, le_antisymm}
use Rattle.std.proofs.Math.Seq.{drop-append_seam, take-append_seam}
use Rattle.lexer.specs.declared.pieces.Piece.{Piece}
use Rattle.lexer.specs.declared.tokens.Token.{Token}
use Rattle.lexer.specs.declared.tokens.TokenKind.{TokenKind}
use Rattle.lexer.specs.declared.faults.LexFault.{LexFault}
use Rattle.lexer.specs.declared.faults.LexFault.TheVariants as fault
use Rattle.lexer.specs.Pieces.{is_piece}
use Rattle.lexer.specs.Tokens.{Tokens, FirstFault, Longest, NoPiece, meaning, TokensFrom, at_end, a_gap, a_token, FaultFrom, no_piece, a_bad_piece, after_a_piece}
use Rattle.lexer.proofs.Sorts.{one_kind, empty}

split_same : (a b c d : List ℕ) → a ++ b ≡ c ++ d → length a ≡ length c → (a ≡ c) × (b ≡ d)
split_same a b c d e l =
    (sym (take-append_seam a b) ∙ ap₂ take l e ∙ take-append_seam c d, sym (drop-append_seam a b) ∙ ap₂ drop l e ∙ drop-append_seam c d)

-- the longest piece is the same one
one_piece : (text a b c d : List ℕ) (j k : Piece) → Longest text a b j → Longest text c d k → (a ≡ c) × (b ≡ d) × (j ≡ k)
one_piece text a b c d j k x y =
    let l : length a ≡ length c = le_antisymm (y.longest a b j x.whole x.is) (x.longest c d k y.whole y.is) in
    let s = split_same a b c d (sym x.whole ∙ y.whole) l in
    (s.0, s.1, one_kind j k a x.is (subst (λ p. is_piece k p ≡ true) (sym s.0) y.is))

-- so it means the same, and the same bytes follow it
one_meaning : (text a b c d : List ℕ) (j k : Piece) (at : ℕ) → Longest text a b j → Longest text c d k → meaning j a at ≡ meaning k c at
one_meaning text a b c d j k at x y = let s = one_piece text a b c d j k x y in ap₂ (λ i p. meaning i p at) s.2 s.0

no_empty : (b : List ℕ) (a : List ℕ) (j : Piece) → Longest [] a b j → ⊥
no_empty b [] j x = empty j x.is
no_empty b (c ∷ a) j x = let e = x.whole in cc

-- what follows the piece is cut in the same way
moved : (text a b c d : List ℕ) (j k : Piece) (at : ℕ) (us : List Token) → Longest text a b j → Longest text c d k → TokensFrom d (at + length c) us
    → TokensFrom b (at + length a) us
moved text a b c d j k at us x y h =
    let s = one_piece text a b c d j k x y in
    subst (λ r. TokensFrom r (at + length a) us) (sym s.1) (subst (λ p. TokensFrom d (at + length p) us) (sym s.0) h)

moved_fault : (text a b c d : List ℕ) (j k : Piece) (at : ℕ) (its : LexFault) → Longest text a b j → Longest text c d k → FaultFrom d (at + length c) its
    → FaultFrom b (at + length a) its
moved_fault text a b c d j k at its x y h =
    let s = one_piece text a b c d j k x y in
    subst (λ r. FaultFrom r (at + length a) its) (sym s.1) (subst (λ p. FaultFrom d (at + length p) its) (sym s.0) h)

same_token : (p : List ℕ) (at : ℕ) (i k : TokenKind) (ts us : List Token) (m : Result (Option TokenKind) LexFault) → m ≡ Ok (Some i) → m ≡ Ok (Some k) → ts ≡ us
    → record { kind = i; text = p; at = at } ∷ ts ≡ record { kind = k; text = p; at = at } ∷ us
same_token p at i k ts us m e f g = let h : i ≡ k = cc in ap₂ (λ z zs. record { kind = z; text = p; at = at } ∷ zs) h g

pub one_list : {text : List ℕ} {at : ℕ} {ts us : List Token} → TokensFrom text at ts → TokensFrom text at us → ts ≡ us
one_list at_end at_end = refl
one_list at_end (a_gap {bytes = c} {rest = d} k y n s) = absurd (no_empty d c k y)
one_list at_end (a_token {bytes = c} {rest = d} k its y n s) = absurd (no_empty d c k y)
one_list (a_gap {bytes = a} {rest = b} j x m r) at_end = absurd (no_empty b a j x)
one_list (a_gap {text = text} {bytes = a} {rest = b} {at = at} {ts = ts} j x m r) (a_gap {bytes = c} {rest = d} {ts = us} k y n s) =
    one_list r (moved text a b c d j k at us x y s)
one_list (a_gap {text = text} {bytes = a} {rest = b} {at = at} j x m r) (a_token {bytes = c} {rest = d} k its y n s) =
    absurd (let e = one_meaning text a b c d j k at x y in cc)
one_list (a_token {bytes = a} {rest = b} j its x m r) at_end = absurd (no_empty b a j x)
one_list (a_token {text = text} {bytes = a} {rest = b} {at = at} j its x m r) (a_gap {bytes = c} {rest = d} k y n s) =
    absurd (let e = one_meaning text a b c d j k at x y in cc)
one_list (a_token {text = text} {bytes = a} {rest = b} {at = at} {ts = ts} j i x m r) (a_token {bytes = c} {rest = d} {ts = us} k o y n s) =
    let e = one_meaning text a b c d j k at x y in
    let p = one_piece text a b c d j k x y in
    let g = one_list r (moved text a b c d j k at us x y s) in
    same_token a at i o ts us (meaning j a at) m (e ∙ n) g ∙ ap (λ q. record { kind = o; text = q; at = at } ∷ us) p.0

no_start : (text a b : List ℕ) (j : Piece) → NoPiece text → Longest text a b j → ⊥
no_start text a b j none x = none a b j x.whole x.is

pub never_both : {text : List ℕ} {at : ℕ} {ts : List Token} {its : LexFault} → TokensFrom text at ts → FaultFrom text at its → ⊥
never_both at_end (no_piece some none) = omega arith
never_both at_end (a_bad_piece {bytes = c} {rest = d} k y n) = no_empty d c k y
never_both at_end (after_a_piece {bytes = c} {rest = d} k its y n s) = no_empty d c k y
never_both (a_gap {text = text} {bytes = a} {rest = b} j x m r) (no_piece some none) = no_start text a b j none x
never_both (a_gap {text = text} {bytes = a} {rest = b} {at = at} j x m r) (a_bad_piece {bytes = c} {rest = d} k y n) =
    let e = one_meaning text a b c d j k at x y in cc
never_both (a_gap {text = text} {bytes = a} {rest = b} {at = at} j x m r) (after_a_piece {bytes = c} {rest = d} {its = its} k means y n s) =
    never_both r (moved_fault text a b c d j k at its x y s)
never_both (a_token {text = text} {bytes = a} {rest = b} j i x m r) (no_piece some none) = no_start text a b j none x
never_both (a_token {text = text} {bytes = a} {rest = b} {at = at} j i x m r) (a_bad_piece {bytes = c} {rest = d} k y n) =
    let e = one_meaning text a b c d j k at x y in cc
never_both (a_token {text = text} {bytes = a} {rest = b} {at = at} j i x m r) (after_a_piece {bytes = c} {rest = d} {its = its} k means y n s) =
    never_both r (moved_fault text a b c d j k at its x y s)

pub one_fault : {text : List ℕ} {at : ℕ} {f g : LexFault} → FaultFrom text at f → FaultFrom text at g → f ≡ g
one_fault (no_piece some none) (no_piece too also) = refl
one_fault (no_piece {text = text} some none) (a_bad_piece {bytes = c} {rest = d} k y n) = absurd (no_start text c d k none y)
one_fault (no_piece {text = text} some none) (after_a_piece {bytes = c} {rest = d} k means y n s) = absurd (no_start text c d k none y)
one_fault (a_bad_piece {text = text} {bytes = a} {rest = b} j x m) (no_piece some none) = absurd (no_start text a b j none x)
one_fault (a_bad_piece {text = text} {bytes = a} {rest = b} {at = at} j x m) (a_bad_piece {bytes = c} {rest = d} k y n) =
    let e = one_meaning text a b c d j k at x y in cc
one_fault (a_bad_piece {text = text} {bytes = a} {rest = b} {at = at} j x m) (after_a_piece {bytes = c} {rest = d} k means y n s) =
    absurd (let e = one_meaning text a b c d j k at x y in cc)
one_fault (after_a_piece {text = text} {bytes = a} {rest = b} j means x m r) (no_piece some none) = absurd (no_start text a b j none x)
one_fault (after_a_piece {text = text} {bytes = a} {rest = b} {at = at} j means x m r) (a_bad_piece {bytes = c} {rest = d} k y n) =
    absurd (let e = one_meaning text a b c d j k at x y in cc)
one_fault (after_a_piece {text = text} {bytes = a} {rest = b} {at = at} j means x m r) (after_a_piece {bytes = c} {rest = d} {its = its} k also y n s) =
    one_fault r (moved_fault text a b c d j k at its x y s)

-- what is right in both directions, from one
pub exact_tokens : {V : Type 0} (items : V → List Token) (text : List ℕ) (r : Result V LexFault) → IfOk r (λ v. Tokens text (items v))
    → IfErr r (λ e. (e ≡ fault.NoMemory) ⊎ FirstFault text e) → (ts : List Token) → Tokens text ts → MatchResult r (λ v. items v ≡ ts) (λ e. e ≡ fault.NoMemory)
exact_tokens items text (Ok v) h k ts t = one_list h t
exact_tokens items text (Err e) h (inl m) ts t = m
exact_tokens items text (Err e) h (inr f) ts t = absurd (never_both t f)

pub exact_fault : {V : Type 0} (items : V → List Token) (text : List ℕ) (r : Result V LexFault) → IfOk r (λ v. Tokens text (items v))
    → IfErr r (λ e. (e ≡ fault.NoMemory) ⊎ FirstFault text e) → (its : LexFault) → FirstFault text its
    → MatchResult r (λ _. ⊥) (λ e. (e ≡ fault.NoMemory) ⊎ (e ≡ its))
exact_fault items text (Ok v) h k its f = never_both h f
exact_fault items text (Err e) h (inl m) its f = inl m
exact_fault items text (Err e) h (inr g) its f = inr (one_fault g f)
