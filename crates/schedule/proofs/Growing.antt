-- Lists that a loop makes longer, piece by piece, and how long the source is.
use Rattle.std.proofs.Common.{◌≡◌, ℕ, zero, suc, ◌+◌, ◌-◌, ◌*◌, ◌<◌, List, ◌++◌, codes, length, ap, sym, ◌∙◌, arith, append_assoc}
use Rattle.std.proofs.lemmas.List.{length-append}
use Rattle.schedule.specs.Sources.{repeated, cell_line, worker_line, main_line, generated_source}

-- what stands, with what is still to come, is the whole
pub one_less : (rest : ℕ → List ℕ) (piece : List ℕ) → ((m : ℕ) → rest (suc m) ≡ piece ++ rest m) → (whole old now : List ℕ) (n k : ℕ) → k < n
    → old ++ rest (n - k) ≡ whole → now ≡ old ++ piece → now ++ rest (n - (k + 1)) ≡ whole
one_less rest piece step whole old now n k below so_far more =
    let e : n - k ≡ suc (n - (k + 1)) = omega arith in
    ap (λ l. l ++ rest (n - (k + 1))) more ∙ append_assoc old piece (rest (n - (k + 1))) ∙ ap (λ l. old ++ l) (sym (step (n - (k + 1))) ∙ ap rest (sym e)) ∙ so_far

-- the same where what is to come depends on the place that is reached
pub one_on : (rest : ℕ → ℕ → List ℕ) (piece : ℕ → List ℕ) → ((k m : ℕ) → rest k (suc m) ≡ piece k ++ rest (k + 1) m) → (whole old now : List ℕ) (n k : ℕ) → k < n
    → old ++ rest k (n - k) ≡ whole → now ≡ old ++ piece k → now ++ rest (k + 1) (n - (k + 1)) ≡ whole
one_on rest piece step whole old now n k below so_far more =
    let e : n - k ≡ suc (n - (k + 1)) = omega arith in
    ap (λ l. l ++ rest (k + 1) (n - (k + 1))) more ∙ append_assoc old (piece k) (rest (k + 1) (n - (k + 1))) ∙ ap (λ l. old ++ l) (sym (step k (n - (k + 1))) ∙ ap (rest k) (sym e)) ∙ so_far

repeated_length : (n : ℕ) (text : List ℕ) → length (repeated n text) ≡ n * length text
repeated_length zero text = omega arith
repeated_length (suc n) text = omega (arith, length-append text (repeated n text), repeated_length n text)

-- how many bytes the source has
pub source_size : (n : ℕ) → length (generated_source n) ≡ 369 + 30 * n
source_size n =
    omega (
      arith,
      length-append (cell_line ++ worker_line) (main_line n),
      length-append cell_line worker_line,
      length-append (codes "class Main { void main() { final Cell c = new Cell();" ++ repeated n (codes " new Thread(new W(c)).start();")) (codes " } }\n"),
      length-append (codes "class Main { void main() { final Cell c = new Cell();") (repeated n (codes " new Thread(new W(c)).start();")),
      repeated_length n (codes " new Thread(new W(c)).start();"),
    )
