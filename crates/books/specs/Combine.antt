-- Reading from the front of a text: a value and the rest, or the kind of a fault and the rest from the faulty byte on.
use Rattle.std.specs.Prelude.{ℕ, zero, suc, ◌==◌, Bool, false, List, [], ◌∷◌, length, nat_le, Result, Ok, Err, if◌then◌else◌}
use Rattle.books.specs.declared.stop.Kind.{Kind}
use Rattle.books.specs.declared.stop.Kind.TheVariants.{Form}

-- what reading a part of a text gives: its value and the bytes behind it, or the kind of a fault and the bytes from the faulty one on
abbrev pub Res : Type 0 → Type 0
Res A = Result (A × List ℕ) (Kind × List ℕ)

infixl 10 ◌>>=◌
-- reads one part, and then another
abbrev pub ◌>>=◌ : {A B : Type 0} → Res A → (A → List ℕ → Res B) → Res B
(Ok y) >>= f = f y.0 y.1
(Err e) >>= f = Err e

-- what is read, seen by a function
abbrev pub seen : {A B : Type 0} → (A → B) → Res A → Res B
seen f (Ok y) = Ok (f y.0, y.1)
seen f (Err e) = Err e

-- where what is read ends
abbrev pub unread : {A : Type 0} → Res A → Res (Unit {0})
unread = seen (λ a. tt)

-- whether a byte stands first
abbrev pub begins : ℕ → List ℕ → Bool
begins byte [] = false
begins byte (b ∷ ts) = b == byte

-- these bytes, or Form at the first that differs
abbrev pub expect : List ℕ → List ℕ → Res (Unit {0})
expect [] ts = Ok (tt, ts)
expect (w ∷ ws) [] = Err (Form, [])
expect (w ∷ ws) (b ∷ ts) = if b == w then expect ws ts else Err (Form, b ∷ ts)

-- of two faults the one further on
abbrev pub further : {A : Type 0} → Res A → Res A → Res A
further (Ok x) other = Ok x
further (Err e) (Ok y) = Ok y
further (Err e) (Err d) = if nat_le (length e.1) (length d.1) then Err e else Err d

-- the first of these whose text stands here, or Form at the first byte at which none of them goes on
abbrev pub one_of : {A : Type 0} → (A → List ℕ) → List A → List ℕ → Res A
one_of spell [] ts = Err (Form, ts)
one_of spell (x ∷ xs) ts = further (expect (spell x) ts >>= λ u ts. Ok (x, ts)) (one_of spell xs ts)

-- items while a byte stands first, at most n of them
abbrev pub at_most : {A : Type 0} → ℕ → ℕ → (List ℕ → Res A) → List ℕ → Res (List A)
at_most zero byte item ts = Ok ([], ts)
at_most (suc n) byte item ts =
    if begins byte ts then (item ts >>= λ x ts. at_most n byte item ts >>= λ xs ts. Ok (x ∷ xs, ts)) else Ok ([], ts)

-- items while a byte stands first
unfoldable pub several : {A : Type 0} → ℕ → (List ℕ → Res A) → List ℕ → Res (List A)
several byte item ts = at_most (length ts) byte item ts

-- exactly n items
abbrev pub exactly : {A : Type 0} → ℕ → (List ℕ → Res A) → List ℕ → Res (List A)
exactly zero item ts = Ok ([], ts)
exactly (suc n) item ts = item ts >>= λ x ts. exactly n item ts >>= λ xs ts. Ok (x ∷ xs, ts)
