-- Halves of tables.
use Rattle.std.proofs.Common.{◌≡◌, ◌+◌, ◌-◌, ◌/◌, min, Bool, true, false, List, ◌∷◌, ◌++◌, length, take, drop, sym, ap, ◌∙◌, arith}
use Rattle.std.specs.Prelude.{if◌then◌else◌}
use Rattle.std.proofs.lemmas.List.{length-append, length-take, length-drop}
use Rattle.std.proofs.Math.Seq.{take-append_seam, drop-append_seam}
use Rattle.paths.specs.Paths.{PathData}
use Rattle.algebra.specs.declared.basic.Basic.{Basic}
use Rattle.algebra.specs.Tables.{half_table, count_of_parts}

half_length : (xs ys : List Basic) → length xs ≡ length ys → length (xs ++ ys) / 2 ≡ length xs
half_length xs ys e = let l = length-append xs ys in omega (arith, l, e)

pub half_is : (b : Bool) (xs ys : List Basic) → length xs ≡ length ys → half_table b (xs ++ ys) ≡ (if b then ys else xs)
half_is true xs ys e = ap (λ n. drop n (xs ++ ys)) (half_length xs ys e) ∙ drop-append_seam xs ys
half_is false xs ys e = ap (λ n. take n (xs ++ ys)) (half_length xs ys e) ∙ take-append_seam xs ys

pub half_sizes : (p : PathData) (ps : List PathData) (table : List Basic) (b : Bool) → length table ≡ count_of_parts (p ∷ ps) → length (half_table b table) ≡ count_of_parts ps
half_sizes p ps table true e = let l = length-drop (length table / 2) table in omega (arith, l, e)
half_sizes p ps table false e = let l = length-take (length table / 2) table in omega (arith, l, e)

-- halves of tables with as many entries
pub half_lengths : (b : Bool) (xs ys : List Basic) → length xs ≡ length ys → length (half_table b xs) ≡ length (half_table b ys)
half_lengths true xs ys e = length-drop (length xs / 2) xs ∙ ap (λ n. n - n / 2) e ∙ sym (length-drop (length ys / 2) ys)
half_lengths false xs ys e = length-take (length xs / 2) xs ∙ ap (λ n. min (n / 2) n) e ∙ sym (length-take (length ys / 2) ys)
