-- Reading from the front of a list of tokens: a value and the rest, or a fault and the tokens from the faulty one on.
use Rattle.std.specs.Prelude.{ℕ, zero, suc, Bool, true, false, List, [], ◌∷◌, ◌++◌, length, Option, Some, None, Result, Ok, Err, if◌then◌else◌}
use Rattle.lexer.specs.declared.tokens.Token.{Token}
use Rattle.syntax.specs.declared.terminal.Terminal.{Terminal}
use Rattle.syntax.specs.declared.terminal.Terminal.TheVariants as T
use Rattle.syntax.specs.Tokens.{is}
use Rattle.parser.specs.declared.stop.SyntaxFault.{SyntaxFault}
use Rattle.parser.specs.declared.stop.SyntaxFault.TheVariants as F

-- what reading a part gives: its value and the tokens behind it, or a fault and the tokens from the faulty one on
abbrev pub Res : Type 0 → Type 0
Res A = Result (A × List Token) (SyntaxFault × List Token)

infixl 10 ◌>>=◌
-- reads one part, and then another
abbrev pub ◌>>=◌ : {A B : Type 0} → Res A → (A → List Token → Res B) → Res B
(Ok y) >>= f = f y.0 y.1
(Err e) >>= f = Err e

-- whether the first token passes a test
abbrev pub starts : (Token → Bool) → List Token → Bool
starts test [] = false
starts test (x ∷ xs) = test x

-- what a first token means, with the tokens behind it; unexpected where it means nothing here
abbrev pub got : {A : Type 0} → Option A → Token → List Token → Res A
got (Some a) x xs = Ok (a, xs)
got None x xs = Err (F.Unexpected, x ∷ xs)

-- one token, which has to mean something
abbrev pub first : {A : Type 0} → (Token → Option A) → List Token → Res A
first test [] = Err (F.Unexpected, [])
first test (x ∷ xs) = got (test x) x xs

-- a value where a condition holds, else none
abbrev pub when : {A : Type 0} → Bool → A → Option A
when true a = Some a
when false a = None

-- a terminal gives its offset
abbrev pub at_of : Terminal → Token → Option ℕ
at_of t x = when (is t x) x.at

-- one terminal, which has to stand first; its offset
abbrev pub take_one : Terminal → List Token → Res ℕ
take_one t ts = first (at_of t) ts

-- whether a terminal stands first, and what is behind it
abbrev pub flagged : Bool → List Token → Bool × List Token
flagged b [] = (false, [])
flagged true (x ∷ xs) = (true, xs)
flagged false (x ∷ xs) = (false, x ∷ xs)

-- whether a terminal stands first, which is then passed over
abbrev pub flag : Terminal → List Token → Bool × List Token
flag t ts = flagged (starts (is t) ts) ts

-- goes on only where the height allows it
abbrev pub allow : {A : Type 0} → Bool → List Token → Res A → Res A
allow true ts r = r
allow false ts r = Err (F.TooDeep, ts)

-- where no height is left: too deep at a token that may stand first
abbrev pub beyond : {A : Type 0} → (Token → Bool) → List Token → Res A
beyond test ts = if starts test ts then Err (F.TooDeep, ts) else Err (F.Unexpected, ts)

-- steps while the next token passes a test, at most n of them
abbrev pub iterate : {A : Type 0} → (Token → Bool) → (A → List Token → Res A) → ℕ → A → List Token → Res A
iterate go step zero a ts = Ok (a, ts)
iterate go step (suc n) a [] = Ok (a, [])
iterate go step (suc n) a (x ∷ xs) = if go x then (step a (x ∷ xs) >>= iterate go step n) else Ok (a, x ∷ xs)

-- steps while the next token passes a test
unfoldable pub loop : {A : Type 0} → (Token → Bool) → (A → List Token → Res A) → A → List Token → Res A
loop go step a ts = iterate go step (length ts) a ts

-- one item more
abbrev pub item_step : {A : Type 0} → (List Token → Res A) → List A → List Token → Res (List A)
item_step item so ts = item ts >>= λ x ts. Ok (so ++ x ∷ [], ts)

-- items while the next token passes a test
abbrev pub several : {A : Type 0} → (Token → Bool) → (List Token → Res A) → List Token → Res (List A)
several go item ts = loop go (item_step item) [] ts

-- a comma and one item more
abbrev pub comma_step : {A : Type 0} → (List Token → Res A) → List A → List Token → Res (List A)
comma_step item so ts = take_one T.Comma ts >>= λ c ts. item_step item so ts

-- items with commas between them
abbrev pub separated : {A : Type 0} → (List Token → Res A) → List Token → Res (List A)
separated item ts = item ts >>= λ x ts. loop (is T.Comma) (comma_step item) (x ∷ []) ts
