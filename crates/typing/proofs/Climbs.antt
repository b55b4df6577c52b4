-- What a place of an order tells, and how the marks of an order begin.
use Rattle.std.proofs.Common.{◌≡◌, ◌<◌, ◌+◌, ◌-◌, ℕ, Bool, false, List, [], ◌∷◌, ◌++◌, length, length-append, map, get_or, replicate, Option, sym, ap, ◌∙◌, arith}
use Rattle.std.proofs.lemmas.List.{length-map, length-replicate}
use Rattle.typing.specs.Order.{IsFromAbove, IsAncestorOrder}
use Rattle.typing.proofs.Ordering.{none_ordered, stands_at}

-- a list that was mapped is as long
pub as_long : {A B : Type 0} (f : A → B) (xs : List A) (ys : List B) → map f xs ≡ ys → length ys ≡ length xs
as_long f xs ys is = sym (ap length is) ∙ length-map xs f

-- nothing is placed where as many marks as there are classes are made
pub begins_ordered : {A B : Type 0} (f : A → B) (above : ℕ → Option ℕ) (xs : List A) (ys : List B) (size : ℕ) (marks : List Bool) → map f xs ≡ ys → size ≡ length xs → marks ≡ replicate size false → IsAncestorOrder above (length ys) marks []
begins_ordered f above xs ys size marks is counted made =
    let same : size ≡ length ys = counted ∙ sym (as_long f xs ys is) in
    none_ordered above (length ys) marks (made ∙ ap (λ n. replicate n false) same) (ap length made ∙ length-replicate size false ∙ same)

-- what stands at a place of an order is below the count
pub placed_within : (above : ℕ → Option ℕ) (count : ℕ) (order : List ℕ) (i c : ℕ) → IsFromAbove above count order → i < length order → c ≡ get_or order i c → c < count
placed_within above count order i c from within at = from.within c (stands_at order i c within at)

-- a list below a bound that grows by one comes nearer to it
pub shorter : (count : ℕ) (line more : List ℕ) (c : ℕ) → length line < count → more ≡ line ++ c ∷ [] → count - length more < count - length line
shorter count line more c short is =
    let long : length more ≡ length line + 1 = ap length is ∙ length-append line (c ∷ []) in
    omega (arith, short, long)
