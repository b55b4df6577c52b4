-- Cells and what is put into them.
use Rattle.std.proofs.Common.{◌≡◌, ◌≢◌, ℕ, ◌==◌, Bool, true, false, refl, sym, ap, ◌∙◌}
use Rattle.std.specs.Prelude.{if◌then◌else◌}
use Rattle.std.proofs.lemmas.Bool.{eqb-true, eq-eqb}
use Rattle.logs.specs.Memory.{SharedCell, AtLock, AtPlace, AtThread, Content, eq_cell, Cells, content_put, Own, put_own}

pub same_cell : (a b : SharedCell) → eq_cell a b ≡ true → a ≡ b
same_cell (AtLock l) (AtLock m) e = ap AtLock (eqb-true l m e)
same_cell (AtPlace l) (AtPlace m) e = ap AtPlace (eqb-true l m e)
same_cell (AtThread l) (AtThread m) e = ap AtThread (eqb-true l m e)
same_cell (AtLock l) (AtPlace m) e = absurd cc
same_cell (AtLock l) (AtThread m) e = absurd cc
same_cell (AtPlace l) (AtLock m) e = absurd cc
same_cell (AtPlace l) (AtThread m) e = absurd cc
same_cell (AtThread l) (AtLock m) e = absurd cc
same_cell (AtThread l) (AtPlace m) e = absurd cc

pub itself : (a : SharedCell) → eq_cell a a ≡ true
itself (AtLock l) = eq-eqb l l refl
itself (AtPlace l) = eq-eqb l l refl
itself (AtThread l) = eq-eqb l l refl

pub not_true : (b : Bool) → (b ≡ true → ⊥) → b ≡ false
not_true true h = absurd (h refl)
not_true false h = refl

pub other_cell : (a b : SharedCell) → a ≢ b → eq_cell a b ≡ false
other_cell a b other = not_true (eq_cell a b) (λ e. absurd (other (same_cell a b e)))

-- what is in a cell after something was put into that one, and after something was put into another
pub put_here : (a : SharedCell) (c : Content) (cells : Cells) → content_put a c cells a ≡ c
put_here a c cells = ap (λ (b : Bool). if b then c else cells a) (itself a)

pub put_there : (a b : SharedCell) (c : Content) (cells : Cells) → a ≢ b → content_put a c cells b ≡ cells b
put_there a b c cells other = ap (λ (x : Bool). if x then c else cells b) (other_cell a b other)

-- into two cells in either order
pub put_put : (a b : SharedCell) (c d : Content) (cells : Cells) → a ≢ b → (cell : SharedCell) → content_put a c (content_put b d cells) cell ≡ content_put b d (content_put a c cells) cell
put_put a b c d cells other cell = by (eq_cell a cell) refl (eq_cell b cell) refl
  where
    by : (x : Bool) → eq_cell a cell ≡ x → (y : Bool) → eq_cell b cell ≡ y → (if x then c else (if y then d else cells cell)) ≡ (if y then d else (if x then c else cells cell))
    by true ex true ey = absurd (other (same_cell a cell ex ∙ sym (same_cell b cell ey)))
    by true ex false ey = refl
    by false ex true ey = refl
    by false ex false ey = refl

-- Own.

pub own_here : (t : ℕ) (o : Own) (owns : ℕ → Own) → put_own t o owns t ≡ o
own_here t o owns = ap (λ (x : Bool). if x then o else owns t) (eq-eqb t t refl)

pub own_other : (t u : ℕ) (o : Own) (owns : ℕ → Own) → t ≢ u → put_own t o owns u ≡ owns u
own_other t u o owns other = ap (λ (x : Bool). if x then o else owns u) (not_true (t == u) (λ e. absurd (other (eqb-true t u e))))

pub own_own : (t u : ℕ) (o p : Own) (owns : ℕ → Own) → t ≢ u → (k : ℕ) → put_own t o (put_own u p owns) k ≡ put_own u p (put_own t o owns) k
own_own t u o p owns other k = by (t == k) refl (u == k) refl
  where
    by : (x : Bool) → (t == k) ≡ x → (y : Bool) → (u == k) ≡ y → (if x then o else (if y then p else owns k)) ≡ (if y then p else (if x then o else owns k))
    by true ex true ey = absurd (other (eqb-true t k ex ∙ sym (eqb-true u k ey)))
    by true ex false ey = refl
    by false ex true ey = refl
    by false ex false ey = refl
