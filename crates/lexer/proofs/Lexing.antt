-- One piece after another.
use Rattle.std.proofs.Common.{◌≡◌, ℕ, ◌+◌, ◌==◌, true, List, [], ◌∷◌, ◌++◌, length, Option, Some, None, refl, ap, sym, ◌∙◌, subst, arith, append_assoc, append-nil, IsUtf8, length-append, eqb-true}
use Rattle.lexer.specs.declared.tokens.Token.{Token}
use Rattle.lexer.specs.declared.tokens.TokenKind.{TokenKind}
use Rattle.lexer.specs.declared.faults.LexFault.{LexFault}
use Rattle.lexer.specs.Tokens.{TokensFrom, at_end, a_gap, a_token, FaultFrom, after_a_piece}
use Rattle.lexer.specs.Reading.{IsCut, tokens_of}

-- the tokens so far, with those of the rest, are those of the text, and a fault of the rest is that of the text
pub record LexedTo (text rest : List ℕ) (at : ℕ) (so_far : List Token) : Type 0 where
  pub place : at + length rest ≡ length text
  pub utf8 : IsUtf8 rest
  pub tokens : (ts : List Token) → TokensFrom rest at ts → TokensFrom text 0 (so_far ++ ts)
  pub fault : (its : LexFault) → FaultFrom rest at its → FaultFrom text 0 its

-- the tokens of a text are those of its first piece and those of the rest
pub one_more : (text bytes rest : List ℕ) (at : ℕ) (means : Option TokenKind) (ts : List Token) → IsCut text at means bytes rest
    → TokensFrom rest (at + length bytes) ts → TokensFrom text at (tokens_of means bytes at ++ ts)
one_more text bytes rest at None ts cut h = a_gap cut.kind cut.longest cut.is_meant h
one_more text bytes rest at (Some its) ts cut h = a_token cut.kind its cut.longest cut.is_meant h

pub lexed_more : (text rest left bytes : List ℕ) (at : ℕ) (means : Option TokenKind) (so_far now : List Token) → LexedTo text rest at so_far
    → IsCut rest at means bytes left → IsUtf8 left → now ≡ so_far ++ tokens_of means bytes at → LexedTo text left (at + length bytes) now
lexed_more text rest left bytes at means so_far now so cut u e = record {
  place = omega (arith, so.place, ap length cut.longest.whole, length-append bytes left);
  utf8 = u;
  tokens = λ ts h. subst (TokensFrom text 0) (sym (append_assoc so_far (tokens_of means bytes at) ts) ∙ ap (λ xs. xs ++ ts) (sym e))
      (so.tokens (tokens_of means bytes at ++ ts) (one_more rest bytes left at means ts cut h));
  fault = λ its h. so.fault its (after_a_piece cut.kind means cut.longest cut.is_meant h);
}

pub lexed_all : (text rest : List ℕ) (at : ℕ) (so_far : List Token) → LexedTo text rest at so_far → rest ≡ [] → TokensFrom text 0 so_far
lexed_all text rest at so_far so e = subst (TokensFrom text 0) (append-nil so_far) (so.tokens [] (subst (λ xs. TokensFrom xs at []) (sym e) at_end))

pub nothing_left : (rest : List ℕ) → (length rest == 0) ≡ true → rest ≡ []
nothing_left [] h = refl
nothing_left (c ∷ cs) h = absurd (let e : length (c ∷ cs) ≡ 0 = eqb-true (length (c ∷ cs)) 0 h in omega arith)
