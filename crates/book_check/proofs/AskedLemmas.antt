-- The shape that is asked of each node.
use Rattle.std.proofs.Common.{◌≡◌, ℕ, ◌==◌, ◌&&◌, ◌↔◌, Bool, true, List, length, sym, ◌∙◌, ap}
use Rattle.std.proofs.lemmas.Bool.{and_from, and_parts, eq-eqb, eqb-true}
use Rattle.books.specs.declared.word.Word.{Word}
use Rattle.books.specs.Derivations.{node, Nodes, count_nodes}
use Rattle.effects.specs.Parts.{Part, parts_of}
use Rattle.book_check.specs.Parts.{FitsPart, node_word}

-- both tests together say that a node fits
pub fits_is : (x : Part) (w : Word) (n : ℕ) (ds : Nodes) (same_word same_size : Bool) (parts : List Part) → (same_word ≡ true) ↔ (w ≡ node_word x) → parts ≡ parts_of x →
    same_size ≡ (count_nodes ds == length parts) → ((same_word && same_size) ≡ true) ↔ FitsPart (record { part = x; at = node w n ds })
fits_is x w n ds same_word same_size parts words are sizes = (
  (λ e. record {
    word = words.0 (and_parts same_word same_size e).0;
    count = eqb-true (count_nodes ds) (length parts) (sym sizes ∙ (and_parts same_word same_size e).1) ∙ ap length are;
  }),
  (λ fits. and_from same_word same_size (words.1 fits.word) (sizes ∙ eq-eqb (count_nodes ds) (length parts) (fits.count ∙ ap length (sym are)))),
)
