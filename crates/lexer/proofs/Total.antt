-- Each text has tokens or a first fault.
use Rattle.std.proofs.Common.{◌≡◌, ℕ, suc, zero, ◌+◌, ◌<◌, ◌≤◌, List, [], ◌∷◌, ◌++◌, ◌⊎◌, inl, inr, length, take, drop, Option, Some, None, Result, Ok, Err, refl, ap, arith, length-append}
use Rattle.lexer.specs.declared.tokens.Token.{Token}
use Rattle.lexer.specs.declared.tokens.TokenKind.{TokenKind}
use Rattle.lexer.specs.declared.faults.LexFault.{LexFault}
use Rattle.lexer.specs.declared.faults.LexFault.TheVariants as fault
use Rattle.lexer.specs.declared.pieces.Front.{Front}
use Rattle.lexer.specs.declared.pieces.Piece.{Piece}
use Rattle.lexer.specs.Reading.{longest_piece, tokens_of}
use Rattle.lexer.specs.Tokens.{Longest, meaning, TokensFrom, at_end, FaultFrom, no_piece, a_bad_piece, after_a_piece}
use Rattle.lexer.proofs.Fronts.{found_longest, found_none}
use Rattle.lexer.proofs.Laying.{nonempty}
use Rattle.lexer.proofs.Lexing.{one_more}

-- from an offset on, there are tokens or a first fault
abbrev Told : List ℕ → ℕ → Type 0
Told text at = ((ts : List Token) × TokensFrom text at ts) ⊎ ((its : LexFault) × FaultFrom text at its)

told_more : (text bytes rest : List ℕ) (at : ℕ) (kind : Piece) (means : Option TokenKind) → Longest text bytes rest kind → meaning kind bytes at ≡ Ok means
    → Told rest (at + length bytes) → Told text at
told_more text bytes rest at kind means x m (inl (ts, h)) =
    inl (tokens_of means bytes at ++ ts, one_more text bytes rest at means ts (record { kind = kind; longest = x; is_meant = m }) h)
told_more text bytes rest at kind means x m (inr (its, h)) = inr (its, after_a_piece kind means x m h)

told_by : (text bytes rest : List ℕ) (at : ℕ) (kind : Piece) (m : Result (Option TokenKind) LexFault) → Longest text bytes rest kind → meaning kind bytes at ≡ m
    → Told rest (at + length bytes) → Told text at
told_by text bytes rest at kind (Ok means) x m h = told_more text bytes rest at kind means x m h
told_by text bytes rest at kind (Err its) x m h = inr (its, a_bad_piece kind x m)

told_front : (text : List ℕ) (at fuel : ℕ) (o : Option Front) → longest_piece text ≡ o → 0 < length text → length text ≤ suc fuel
    → ((rest : List ℕ) (place : ℕ) → length rest ≤ fuel → Told rest place) → Told text at
told_front text at fuel None e some l later = inr (fault.BadCharacter at, no_piece some (found_none text some e))
told_front text at fuel (Some f) e some l later =
    let x = found_longest text f e in
    let n = nonempty f.kind (take f.len text) x.is in
    told_by text (take f.len text) (drop f.len text) at f.kind (meaning f.kind (take f.len text) at) x refl
    (later (drop f.len text) (at + length (take f.len text)) (omega (arith, n, l, ap length x.whole, length-append (take f.len text) (drop f.len text))))

told_within : (fuel : ℕ) (text : List ℕ) (at : ℕ) → length text ≤ fuel → Told text at
told_within fuel [] at l = inl ([], at_end)
told_within zero (c ∷ cs) at l = absurd (omega arith)
told_within (suc fuel) (c ∷ cs) at l = told_front (c ∷ cs) at fuel (longest_piece (c ∷ cs)) refl (omega arith) l (λ rest place h. told_within fuel rest place h)

pub told : (text : List ℕ) → Told text 0
told text = told_within (length text) text 0 (omega arith)
