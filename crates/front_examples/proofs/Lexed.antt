-- The tokens of a text by computation: pieces cut from the left, as many as there is fuel.
use Rattle.std.proofs.Common.{◌≡◌, ℕ, zero, suc, ◌+◌, List, [], ◌∷◌, length, take, drop, Some, None, refl, subst, arith}
use Rattle.std.specs.Prelude.{Option, option_map, Result, Ok, Err}
use Rattle.std.proofs.lemmas.Option.{none-some, same_Some}
use Rattle.lexer.specs.declared.pieces.Front.{Front}
use Rattle.lexer.specs.declared.tokens.Token.{Token}
use Rattle.lexer.specs.declared.tokens.TokenKind.{TokenKind}
use Rattle.lexer.specs.declared.faults.LexFault.{LexFault}
use Rattle.lexer.specs.declared.faults.LexFault.TheVariants as fault
use Rattle.lexer.specs.Tokens.{Longest, meaning, TokensFrom, at_end, a_gap, a_token, FaultFrom, no_piece, a_bad_piece, after_a_piece}
use Rattle.lexer.specs.Reading.{longest_piece}
use Rattle.lexer.proofs.Fronts.{found_longest, found_none}

abbrev after_meaning : Result (Option TokenKind) LexFault → List ℕ → ℕ → Option (List Token) → Option (List Token)
after_meaning (Err e) bytes at later = None
after_meaning (Ok None) bytes at later = later
after_meaning (Ok (Some kind)) bytes at later = option_map (λ (ts : List Token). record { kind = kind; text = bytes; at = at } ∷ ts) later

abbrev after_front : List ℕ → ℕ → (List ℕ → ℕ → Option (List Token)) → Option Front → Option (List Token)
after_front text at later None = None
after_front text at later (Some f) = after_meaning (meaning f.kind (take f.len text) at) (take f.len text) at (later (drop f.len text) (at + length (take f.len text)))

-- the tokens of the bytes from an offset on, where there are at most so many pieces
abbrev pub lexed : ℕ → List ℕ → ℕ → Option (List Token)
lexed zero text at = None
lexed (suc n) [] at = Some []
lexed (suc n) (c ∷ cs) at = after_front (c ∷ cs) at (lexed n) (longest_piece (c ∷ cs))

abbrev fault_after : Result (Option TokenKind) LexFault → Option LexFault → Option LexFault
fault_after (Err e) later = Some e
fault_after (Ok token) later = later

abbrev fault_front : List ℕ → ℕ → (List ℕ → ℕ → Option LexFault) → Option Front → Option LexFault
fault_front text at later None = Some (fault.BadCharacter at)
fault_front text at later (Some f) = fault_after (meaning f.kind (take f.len text) at) (later (drop f.len text) (at + length (take f.len text)))

-- their first fault
abbrev pub faulty : ℕ → List ℕ → ℕ → Option LexFault
faulty zero text at = None
faulty (suc n) [] at = None
faulty (suc n) (c ∷ cs) at = fault_front (c ∷ cs) at (faulty n) (longest_piece (c ∷ cs))

-- the first piece of a text has been cut, and its bytes mean this
lexed_by : (n : ℕ) (text : List ℕ) (at : ℕ) (ts : List Token) (f : Front) → ((rest : List ℕ) (from : ℕ) (us : List Token) → lexed n rest from ≡ Some us → TokensFrom rest from us)
    → Longest text (take f.len text) (drop f.len text) f.kind → (r : Result (Option TokenKind) LexFault) → meaning f.kind (take f.len text) at ≡ r
    → after_meaning r (take f.len text) at (lexed n (drop f.len text) (at + length (take f.len text))) ≡ Some ts → TokensFrom text at ts
lexed_by n text at ts f next longest (Err e) m h = absurd (none-some ts h)
lexed_by n text at ts f next longest (Ok None) m h = a_gap f.kind longest m (next _ _ ts h)
lexed_by n text at ts f next longest (Ok (Some kind)) m h = elim (lexed n (drop f.len text) (at + length (take f.len text))) as (λ (o : Option (List Token)). lexed n (drop f.len text) (at + length (take f.len text)) ≡ o
    → option_map (λ (us : List Token). record { kind = kind; text = take f.len text; at = at } ∷ us) o ≡ Some ts → TokensFrom text at ts) [
      | None ↦ λ e k. absurd (none-some ts k)
      | Some us ↦ λ e k. subst (TokensFrom text at) (same_Some _ ts k) (a_token f.kind kind longest m (next _ _ us e))
    ] refl h

pub lexed_is : (n : ℕ) (text : List ℕ) (at : ℕ) (ts : List Token) → lexed n text at ≡ Some ts → TokensFrom text at ts
lexed_is zero text at ts is = absurd (none-some ts is)
lexed_is (suc n) [] at ts is = subst (TokensFrom [] at) (same_Some [] ts is) at_end
lexed_is (suc n) (c ∷ cs) at ts is = elim (longest_piece (c ∷ cs)) as (λ o. longest_piece (c ∷ cs) ≡ o → after_front (c ∷ cs) at (lexed n) o ≡ Some ts → TokensFrom (c ∷ cs) at ts) [
  | None ↦ λ e h. absurd (none-some ts h)
  | Some f ↦ λ e h. lexed_by n (c ∷ cs) at ts f (lexed_is n) (found_longest (c ∷ cs) f e) (meaning f.kind (take f.len (c ∷ cs)) at) refl h
] refl is

-- the same of faults
faulty_by : (n : ℕ) (text : List ℕ) (at : ℕ) (its : LexFault) (f : Front) → ((rest : List ℕ) (from : ℕ) (it : LexFault) → faulty n rest from ≡ Some it → FaultFrom rest from it)
    → Longest text (take f.len text) (drop f.len text) f.kind → (r : Result (Option TokenKind) LexFault) → meaning f.kind (take f.len text) at ≡ r
    → fault_after r (faulty n (drop f.len text) (at + length (take f.len text))) ≡ Some its → FaultFrom text at its
faulty_by n text at its f next longest (Err e) m h = subst (FaultFrom text at) (same_Some e its h) (a_bad_piece f.kind longest m)
faulty_by n text at its f next longest (Ok token) m h = after_a_piece f.kind token longest m (next _ _ its h)

pub faulty_is : (n : ℕ) (text : List ℕ) (at : ℕ) (its : LexFault) → faulty n text at ≡ Some its → FaultFrom text at its
faulty_is zero text at its is = absurd (none-some its is)
faulty_is (suc n) [] at its is = absurd (none-some its is)
faulty_is (suc n) (c ∷ cs) at its is = elim (longest_piece (c ∷ cs)) as (λ o. longest_piece (c ∷ cs) ≡ o → fault_front (c ∷ cs) at (faulty n) o ≡ Some its → FaultFrom (c ∷ cs) at its) [
  | None ↦ λ e h. subst (FaultFrom (c ∷ cs) at) (same_Some _ its h) (no_piece (omega arith) (found_none (c ∷ cs) (omega arith) e))
  | Some f ↦ λ e h. faulty_by n (c ∷ cs) at its f (faulty_is n) (found_longest (c ∷ cs) f e) (meaning f.kind (take f.len (c ∷ cs)) at) refl h
] refl is
