-- Tokens written one after another.
use Rattle.std.proofs.Common.{◌≡◌, ℕ, suc, ◌+◌, ◌-◌, ◌<◌, ◌≤◌, length, drop, get_or, List, [], ◌∷◌, ◌++◌, refl, ap, sym, arith, append_assoc, append-nil, subst, Result, OnOk, drop-cons, ◌∙◌, add-one}
use Rattle.std.proofs.lemmas.List.{drop_all}
use Rattle.printer.specs.Layout.{PlainToken, Page, put, writes, layout, gap, lead_of, place_after, braces_after, lexeme_text, line_end_after}
use Rattle.printer.specs.declared.page.NextPlace.TheVariants as P
use Rattle.printer.specs.Printing.{canonical, program_lexemes}
use Rattle.syntax.specs.Trees.{ProgramTree}

pub writes_none : (page : Page) → writes page [] ≡ page
unfolding writes
writes_none page = refl

pub writes_one : (page : Page) (x : PlainToken) (xs : List PlainToken) → writes page (x ∷ xs) ≡ writes (put page x) xs
unfolding writes
writes_one page x xs = refl

pub writes_both : (page : Page) (xs ys : List PlainToken) → writes page (xs ++ ys) ≡ writes (writes page xs) ys
unfolding writes
writes_both page [] ys = refl
writes_both page (x ∷ xs) ys = writes_both (put page x) xs ys

-- one item more is written
pub item_step : {A : Type 0} (f : List A → List PlainToken) (g : A → List PlainToken) → ((x : A) (xs : List A) → f (x ∷ xs) ≡ g x ++ f xs)
    → (xs : List A) (i : ℕ) (x : A) (page next whole : Page) → i < length xs → x ≡ get_or xs i x → writes page (f (drop i xs)) ≡ whole → next ≡ writes page (g x)
    → writes next (f (drop (i + 1) xs)) ≡ whole
item_step {A} f g step xs i x page next whole within at so_far is =
    let e : drop i xs ≡ x ∷ drop (i + 1) xs = rw add-one (drop-cons xs i x within ∙ ap (λ v. v ∷ drop (suc i) xs) (sym at)) in
    ap (λ p. writes p (f (drop (i + 1) xs))) is
    ∙ sym (writes_both page (g x) (f (drop (i + 1) xs)))
    ∙ ap (writes page) (sym (step x (drop (i + 1) xs)))
    ∙ ap (λ z. writes page (f z)) (sym e)
    ∙ so_far

-- all items are written
pub item_end : {A : Type 0} (f : List A → List PlainToken) → f [] ≡ [] → (xs : List A) (i : ℕ) (page whole : Page) → length xs ≤ i → writes page (f (drop i xs)) ≡ whole → page ≡ whole
item_end f none xs i page whole past so_far =
    sym (writes_none page) ∙ ap (writes page) (sym none) ∙ ap (λ z. writes page (f z)) (sym (drop_all i xs past)) ∙ so_far

-- where there is no item, nothing is written
pub item_none : {A : Type 0} (f : List A → List PlainToken) → f [] ≡ [] → (xs : List A) (page : Page) → length xs ≡ 0 → page ≡ writes page (f xs)
item_none f none [] page h = sym (writes_none page) ∙ ap (writes page) (sym none)
item_none f none (x ∷ xs) page h = absurd (omega arith)

-- where the answer is Ok, these tokens were added
pub record Adds {E : Type 0} (r : Result (Unit {0}) E) (p n : Page) (xs : List PlainToken) : Type 0 where
  pub told : OnOk r (n ≡ writes p xs)

-- a token, and then others
pub put_first : {E : Type 0} {r : Result (Unit {0}) E} {p q n : Page} {x : PlainToken} {xs : List PlainToken} → q ≡ put p x → Adds r q n xs → Adds r p n (x ∷ xs)
put_first {E} {r} {p} {q} {n} {x} {xs} e h = record { told = subst (λ z. OnOk r (n ≡ z)) (ap (λ z. writes z xs) e ∙ sym (writes_one p x xs)) h.told }

-- tokens, and then others
pub writes_first : {E : Type 0} {r : Result (Unit {0}) E} {p q n : Page} {ys : List PlainToken} (xs : List PlainToken) → q ≡ writes p xs → Adds r q n ys → Adds r p n (xs ++ ys)
writes_first {E} {r} {p} {q} {n} {ys} xs e h = record { told = subst (λ z. OnOk r (n ≡ z)) (ap (λ z. writes z ys) e ∙ sym (writes_both p xs ys)) h.told }

-- a last token
pub put_last : {E : Type 0} {r : Result (Unit {0}) E} {p n : Page} {x : PlainToken} → OnOk r (n ≡ put p x) → Adds r p n (x ∷ [])
put_last {E} {r} {p} {n} {x} h = record { told = subst (λ z. OnOk r (n ≡ z)) (sym (writes_one p x [] ∙ writes_none (put p x))) h }

pub added : {E : Type 0} (r : Result (Unit {0}) E) (p n : Page) (xs ys : List PlainToken) → ys ≡ xs → Adds r p n xs → OnOk r (n ≡ writes p ys)
added r p n xs ys e h = subst (λ z. OnOk r (n ≡ writes p z)) (sym e) h.told

-- the text of a page with more tokens
pub writes_text : (xs : List PlainToken) (page : Page) → (writes page xs).text ≡ page.text ++ layout page.place page.depth xs
unfolding writes put
writes_text [] page = sym (append-nil page.text)
writes_text (x ∷ xs) page =
    let g = gap page.place page.depth (lead_of x) in
    let rest = layout (place_after x) (braces_after page.depth x) xs in
    writes_text xs (put page x)
    ∙ append_assoc page.text (g ++ (lexeme_text x ++ line_end_after x)) rest
    ∙ ap (λ z. page.text ++ z) (append_assoc g (lexeme_text x ++ line_end_after x) rest ∙ ap (λ z. g ++ z) (append_assoc (lexeme_text x) (line_end_after x) rest))

pub canonical_text : (bytes : List ℕ) (blank page : Page) (t : ProgramTree) → blank ≡ record { text = []; depth = 0; place = P.LineStart }
    → page ≡ writes blank (program_lexemes t) → bytes ≡ page.text → bytes ≡ canonical t
canonical_text bytes blank page t start is told =
    told ∙ ap (λ p. p.text) is ∙ writes_text (program_lexemes t) blank ∙ ap (λ p. p.text ++ layout p.place p.depth (program_lexemes t)) start
