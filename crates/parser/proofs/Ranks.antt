-- Each terminal has a number of its own, and a token has at most one terminal's.
use Rattle.std.proofs.Common.{◌≡◌, ℕ, zero, suc, ◌==◌, ◌&&◌, not, Bool, true, false, List, [], ◌∷◌, Option, Some, None, cond, codes, if◌then◌else◌, refl, sym, ◌∙◌, ap, subst}
use Rattle.std.specs.List.{slice_get, list_all, find}
use Rattle.std.proofs.lemmas.Bool.{and_parts}
use Rattle.std.proofs.lemmas.Option.{same_Some}
use Rattle.lexer.specs.declared.tokens.Token.{Token}
use Rattle.lexer.specs.declared.tokens.TokenKind.TheVariants as K
use Rattle.syntax.specs.declared.terminal.Terminal.{Terminal}
use Rattle.syntax.specs.declared.terminal.Terminal.TheVariants as T
use Rattle.syntax.specs.Tokens.{is, token, same_kind, terminal_kind, spelling}
use Rattle.std.specs.Str.{bytes_eq}
use Rattle.parser.proofs.Parts.{is_token}
use Rattle.parser.specs.declared.lexeme.TheConstants.{TERMINALS}
use Rattle.parser.specs.Lexemes.{IsRank, name_rank, terminal_number}

at_rank : (t : Terminal) → slice_get TERMINALS (terminal_number t) ≡ Some t
at_rank T.Public = refl
at_rank t = refl

passes : (p : Terminal → Bool) (all : List Terminal) (k : ℕ) (t : Terminal) → list_all p all ≡ true → slice_get all k ≡ Some t → p t ≡ true
passes p [] k t h g = absurd cc
passes p (x ∷ xs) zero t h g = subst (λ z. p z ≡ true) (same_Some x t g) (and_parts (p x) (list_all p xs) h).0
passes p (x ∷ xs) (suc k) t h g = passes p xs k t (and_parts (p x) (list_all p xs) h).1 g

each : (p : Terminal → Bool) → list_all p TERMINALS ≡ true → (t : Terminal) → p t ≡ true
each p h t = passes p TERMINALS (terminal_number t) t h (at_rank t)

abbrev agree : Bool → Bool → Bool
agree true b = b
agree false b = not b

agree_is : (a b : Bool) → agree a b ≡ true → a ≡ b
agree_is true true h = refl
agree_is true false h = sym h
agree_is false true h = h
agree_is false false h = refl

-- whether the token of u is told from that of t by the number
abbrev tells : Terminal → Terminal → Bool
tells u t = agree (is t (token u 0)) (terminal_number u == terminal_number t)

told : (u t : Terminal) → tells u t ≡ true
told u t = each (tells u) (each (λ z. list_all (tells z) TERMINALS) refl u) t

-- a token that is a terminal's has the number of that terminal
pub terminal_ranked : (u : Terminal) (x : Token) → is u x ≡ true → IsRank x (terminal_number u)
terminal_ranked u x h t = ap (is t) (is_token u x h) ∙ agree_is (is t (token u 0)) (terminal_number u == terminal_number t) (told u t)

pub spelled_ranked : (x : Token) (u : Terminal) → terminal_kind u ≡ x.kind → spelling u ≡ x.text → IsRank x (terminal_number u)
spelled_ranked x u k s = terminal_ranked u x (ap (λ z. same_kind z (terminal_kind u) && bytes_eq x.text (spelling u)) (sym k) ∙ ap (λ z. same_kind (terminal_kind u) (terminal_kind u) && bytes_eq z (spelling u)) (sym s) ∙ itself u)
  where
    itself : (t : Terminal) → (same_kind (terminal_kind t) (terminal_kind t) && bytes_eq (spelling t) (spelling t)) ≡ true
    itself T.Public = refl
    itself t = refl

-- a token that is no terminal's has no terminal's number
pub none_ranked : (x : Token) → ((t : Terminal) → is t x ≡ false) → IsRank x 50
none_ranked x none t = none t ∙ apart t
  where
    apart : (t : Terminal) → false ≡ (50 == terminal_number t)
    apart T.Public = refl
    apart t = refl

pub number_ranked : (x : Token) (n : ℕ) → x.kind ≡ K.Number n → IsRank x 50
number_ranked x n k = none_ranked x (λ t. ap (λ z. same_kind z (terminal_kind t) && bytes_eq x.text (spelling t)) k)

-- a name that is none of the three
name_apart : (x : Token) → x.kind ≡ K.Name → bytes_eq x.text (codes "out") ≡ false → bytes_eq x.text (codes "println") ≡ false → bytes_eq x.text (codes "start") ≡ false
    → (t : Terminal) → is t x ≡ false
name_apart x k o p s T.Out = ap (λ z. same_kind z K.Name && bytes_eq x.text (codes "out")) k ∙ o
name_apart x k o p s T.Println = ap (λ z. same_kind z K.Name && bytes_eq x.text (codes "println")) k ∙ p
name_apart x k o p s T.Start = ap (λ z. same_kind z K.Name && bytes_eq x.text (codes "start")) k ∙ s
name_apart x k o p s t = ap (λ z. same_kind z (terminal_kind t) && bytes_eq x.text (spelling t)) k

name_cases : (x : Token) → x.kind ≡ K.Name → (o p s : Bool) → bytes_eq x.text (codes "out") ≡ o → bytes_eq x.text (codes "println") ≡ p → bytes_eq x.text (codes "start") ≡ s
    → IsRank x (if o then terminal_number T.Out else if p then terminal_number T.Println else if s then terminal_number T.Start else 50)
name_cases x k true p s eo ep es = terminal_ranked T.Out x (ap (λ z. same_kind z K.Name && bytes_eq x.text (codes "out")) k ∙ eo)
name_cases x k false true s eo ep es = terminal_ranked T.Println x (ap (λ z. same_kind z K.Name && bytes_eq x.text (codes "println")) k ∙ ep)
name_cases x k false false true eo ep es = terminal_ranked T.Start x (ap (λ z. same_kind z K.Name && bytes_eq x.text (codes "start")) k ∙ es)
name_cases x k false false false eo ep es = none_ranked x (name_apart x k eo ep es)

pub name_ranked : (x : Token) → x.kind ≡ K.Name → IsRank x (name_rank x.text)
name_ranked x k = name_cases x k (bytes_eq x.text (codes "out")) (bytes_eq x.text (codes "println")) (bytes_eq x.text (codes "start")) refl refl refl

step : (x : Token) (t u : Terminal) (later : Option Terminal) → (later ≡ Some u → is u x ≡ true) → (b : Bool) → is t x ≡ b → cond b (Some t) later ≡ Some u → is u x ≡ true
step x t u later more true e h = subst (λ z. is z x ≡ true) (same_Some t u h) e
step x t u later more false e h = more h

found_passes : (x : Token) (all : List Terminal) (u : Terminal) → find (λ t. is t x) all ≡ Some u → is u x ≡ true
found_passes x [] u h = absurd cc
found_passes x (t ∷ ts) u h = step x t u (find (λ z. is z x) ts) (found_passes x ts u) (is t x) refl h

none_step : (b : Bool) (t : Terminal) (later : Option Terminal) → cond b (Some t) later ≡ None → (b ≡ false) × (later ≡ None)
none_step true t later h = absurd cc
none_step false t later h = (refl, h)

none_passes : (x : Token) (all : List Terminal) → find (λ t. is t x) all ≡ None → (k : ℕ) (t : Terminal) → slice_get all k ≡ Some t → is t x ≡ false
none_passes x [] h k t g = absurd cc
none_passes x (u ∷ us) h zero t g = subst (λ z. is z x ≡ false) (same_Some u t g) (none_step (is u x) u (find (λ z. is z x) us) h).0
none_passes x (u ∷ us) h (suc k) t g = none_passes x us (none_step (is u x) u (find (λ z. is z x) us) h).1 k t g

pub found_ranked : (x : Token) (u : Terminal) → find (λ t. is t x) TERMINALS ≡ Some u → IsRank x (terminal_number u)
found_ranked x u h = terminal_ranked u x (found_passes x TERMINALS u h)

pub none_found_ranked : (x : Token) → find (λ t. is t x) TERMINALS ≡ None → IsRank x 50
none_found_ranked x h = none_ranked x (λ t. none_passes x TERMINALS h (terminal_number t) t (at_rank t))
