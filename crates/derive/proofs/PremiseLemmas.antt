-- What premises conclude, one after the other.
use Rattle.std.proofs.Common.{◌≡◌, ℕ, zero, suc, ◌+◌, ◌<◌, List, [], ◌∷◌, ◌++◌, map, drop, length, get_or, sym, ◌∙◌, ap, arith}
use Rattle.std.proofs.lemmas.List.{map-append}
use Rattle.algebra.specs.HeldPaths.{Held}
use Rattle.conditions.specs.declared.table.Node.{Node}
use Rattle.books.specs.declared.derivation.Derivation.{Derivation}
use Rattle.books.specs.Derivations.{conclusion_number}
use Rattle.books.specs.Memory.{node_of, nodes_at}
use Rattle.book_check.specs.Conclusions.{conclusions}
use Rattle.effects.specs.Rules.{Value}
use Rattle.derive.proofs.Rows.{pushed_more}

next_conclusion : (V : ℕ → Value) (ds : List Derivation) (i : ℕ) (d : Derivation) → i < length ds → d ≡ get_or ds i d →
    conclusions V (nodes_at (drop i ds)) ≡ V (conclusion_number (node_of d)) ∷ conclusions V (nodes_at (drop (suc i) ds))
next_conclusion V [] i d below is = absurd (omega (arith, below))
next_conclusion V (x ∷ ds) zero d below is = λ j. V (conclusion_number (node_of (sym is j))) ∷ conclusions V (nodes_at ds)
next_conclusion V (x ∷ ds) (suc i) d below is = next_conclusion V ds i d (omega (arith, below)) is

-- one premise more
pub values_more : (f : Node → Value) (V : ℕ → Value) (found new : List Node) (n : Node) (ds : List Derivation) (i : ℕ) (d : Derivation) (number : ℕ) (all : List Value) → i < length ds → d ≡ get_or ds i d →
    conclusion_number (node_of d) ≡ number → ((H : Held) → f n H ≡ V number H) → new ≡ found ++ (n ∷ []) → map f found ++ conclusions V (nodes_at (drop i ds)) ≡ all →
    map f new ++ conclusions V (nodes_at (drop (i + 1) ds)) ≡ all
values_more f V found new n ds i d number all below is counted value pushed so_far =
    let one : f n ≡ V (conclusion_number (node_of d)) = λ j H. (value H ∙ ap (λ k. V k H) (sym counted)) j in
    let next : i + 1 ≡ suc i = omega arith in
    pushed_more (map f found) (map f new) (f n) (conclusions V (nodes_at (drop (i + 1) ds))) (ap (map f) pushed ∙ map-append f found (n ∷ []))
    ∙ (λ j. map f found ++ (one j ∷ conclusions V (nodes_at (drop (next j) ds))))
    ∙ ap (λ vs. map f found ++ vs) (sym (next_conclusion V ds i d below is))
    ∙ so_far
