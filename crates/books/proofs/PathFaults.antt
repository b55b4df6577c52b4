-- Where a number of a path is out of range, reading stops.
use Rattle.std.proofs.Common.{◌≡◌, ℕ, zero, suc, ◌<◌, ◌^◌, true, false, List, [], ◌∷◌, ◌++◌, length, nat_lt, decimal, Ok, Err, refl, ◌∙◌, ap, arith, append_assoc}
use Rattle.std.proofs.lemmas.Bool.{le-ltb, ltb-true, and_parts}
use Rattle.std.specs.List.{list_all}
use Rattle.std.specs.Str.Parse.{digits_value}
use Rattle.paths.specs.Paths.{PathData, most_fields}
use Rattle.conditions.specs.Texts.{dotted, path_text}
use Rattle.books.specs.declared.stop.Kind.TheVariants.{Form}
use Rattle.books.specs.Books.{IsPath}
use Rattle.books.specs.Broken.{IsPast}
use Rattle.books.specs.Reading.{number_digits, number_at, fields_at, path_at}
use Rattle.books.proofs.Complete.{stopping, complete_number}

pub past_number : (end : ℕ) (rest : List ℕ) → IsPast end rest → number_at end rest ≡ Err (Form, rest)
unfolding number_at
past_number end rest is =
    let large : nat_lt (digits_value 10 (number_digits rest)) end ≡ false = le-ltb (digits_value 10 (number_digits rest)) end is.past in
    rw (is.digits, large) refl

pub some_digit : (end : ℕ) (rest : List ℕ) → IsPast end rest → 0 < length rest
some_digit end [] is = absurd (let no : true ≡ false = is.digits in cc)
some_digit end (b ∷ rest) is = omega arith

fields_stop : (fs : List ℕ) (rest : List ℕ) → list_all (λ f. nat_lt f (2 ^ 32)) fs ≡ true → number_at (2 ^ 32) rest ≡ Err (Form, rest) → (most : ℕ) → length fs < most → fields_at most (dotted fs ++ (46 ∷ rest)) ≡ Err (Form, rest)
fields_stop fs rest fit e zero few = absurd (omega (arith, few))
fields_stop [] rest fit e (suc most) few = rw e refl
fields_stop (f ∷ fs) rest fit e (suc most) few =
    let parts = and_parts (nat_lt f (2 ^ 32)) (list_all (λ f. nat_lt f (2 ^ 32)) fs) fit in
    let group : (decimal f ++ dotted fs) ++ (46 ∷ rest) ≡ decimal f ++ (dotted fs ++ (46 ∷ rest)) = append_assoc (decimal f) (dotted fs) (46 ∷ rest) in
    let number : number_at (2 ^ 32) ((decimal f ++ dotted fs) ++ (46 ∷ rest)) ≡ Ok (f, dotted fs ++ (46 ∷ rest)) =
    ap (number_at (2 ^ 32)) group ∙ complete_number (2 ^ 32) f (dotted fs ++ (46 ∷ rest)) (ltb-true f (2 ^ 32) parts.0) (omega arith) (stopping fs (46 ∷ rest) refl) in
    rw (number, fields_stop fs rest parts.1 e most (omega (arith, few))) refl

pub path_stops : (p : PathData) (rest : List ℕ) → IsPath p → length p.fields < most_fields → number_at (2 ^ 32) rest ≡ Err (Form, rest) → path_at (path_text p ++ (46 ∷ rest)) ≡ Err (Form, rest)
unfolding path_at
path_stops p rest is few e =
    let group : path_text p ++ (46 ∷ rest) ≡ decimal p.root ++ (dotted p.fields ++ (46 ∷ rest)) = append_assoc (decimal p.root) (dotted p.fields) (46 ∷ rest) in
    let number : number_at (2 ^ 16) (path_text p ++ (46 ∷ rest)) ≡ Ok (p.root, dotted p.fields ++ (46 ∷ rest)) =
    ap (number_at (2 ^ 16)) group ∙ complete_number (2 ^ 16) p.root (dotted p.fields ++ (46 ∷ rest)) is.root (omega arith) (stopping p.fields (46 ∷ rest) refl) in
    rw (number, fields_stop p.fields rest is.fields e 2 few) refl

pub no_root : (rest : List ℕ) → number_at (2 ^ 16) rest ≡ Err (Form, rest) → path_at rest ≡ Err (Form, rest)
unfolding path_at
no_root rest e = rw e refl
