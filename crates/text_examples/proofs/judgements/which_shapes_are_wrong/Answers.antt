use Rattle.std.proofs.Common.{◌≡◌, ℕ, zero, suc, ◌<◌, refl, arith, inl, inr, [], ◌∷◌}
use Rattle.std.specs.Prelude.{false, slice_get}
use Rattle.core_program.specs.Core.{EmptyS}
use Rattle.books.specs.declared.word.Word.TheVariants as w
use Rattle.books.specs.Derivations.{node, no_nodes, and_node}
use Rattle.effects.specs.Parts.{StmtP}
use Rattle.book_check.specs.Parts.{places, FitsPart}
use Rattle.book_check.specs.Faults.{IsShapedAt}
use Rattle.text_examples.specs.Small.{main_with, print_one, book, method_line, skip}
use Rattle.text_examples.proofs.Places.{each_of, before_of}
use Rattle.text_examples.proofs.judgements.which_shapes_are_wrong.Goals as goal

pub returns-clause-word : goal.returns-clause-word
returns-clause-word c = record {
  before = λ k less. absurd (omega arith);
  fault = inr (refl, record { place = _; is = refl; bad = λ f. let e : w.Lit ≡ w.Skip = f.word in absurd cc; first = λ j x less at. absurd (omega arith) });
}

pub returns-clause-premises : goal.returns-clause-premises
returns-clause-premises c = record {
  before = λ k less. absurd (omega arith);
  fault = inr (refl, record { place = _; is = refl; bad = λ f. let e : 1 ≡ 0 = f.count in absurd (omega arith); first = λ j x less at. absurd (omega arith) });
}

pub returns-clause-inner_word : goal.returns-clause-inner_word
returns-clause-inner_word c = record {
  before = λ k less. absurd (omega arith);
  fault = inr (refl, record { place = _; is = refl; bad = λ f. let e : w.This ≡ w.Lit = f.word in absurd cc; first = before_of FitsPart 1 (places (StmtP print_one) (node w.Print 1 (and_node (node w.This 0 no_nodes) no_nodes))) (record { word = refl; count = refl }, tt) });
}

pub returns-clause-id : goal.returns-clause-id
returns-clause-id c = record { before = λ k less. absurd (omega arith); fault = inl ((λ e. absurd (omega arith)), refl) }

pub returns-clause-missing : goal.returns-clause-missing
returns-clause-missing c = record { before = λ k less. absurd (omega arith); fault = refl }

first_shaped : (k : ℕ) → k < 1 → IsShapedAt k (slice_get (main_with false EmptyS).methods k) (slice_get (book (method_line 0 0 (skip 0) ∷ method_line 1 0 (skip 0) ∷ [])).lines k)
first_shaped zero less = record { id = refl; fits = each_of FitsPart (places (StmtP EmptyS) (skip 0)) (record { word = refl; count = refl }, tt) }
first_shaped (suc k) less = absurd (omega arith)

pub returns-clause-one_more : goal.returns-clause-one_more
returns-clause-one_more c = record { before = first_shaped; fault = refl }
