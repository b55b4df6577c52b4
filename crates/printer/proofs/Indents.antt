-- Blanks at the start of a line.
use Rattle.std.proofs.Common.{◌≡◌, ℕ, suc, ◌+◌, ◌-◌, ◌<◌, List, ◌++◌, codes, ap, sym, arith, append_assoc}
use Rattle.printer.specs.Layout.{indent}

pub indent_more : (n k : ℕ) → k < n → indent (n - k) ≡ codes "    " ++ indent (n - (k + 1))
indent_more n k h = let e : n - k ≡ suc (n - (k + 1)) = omega arith in ap indent e

pub indent_step : (whole old now : List ℕ) (n k : ℕ) → k < n → old ++ indent (n - k) ≡ whole → now ≡ old ++ codes "    " → now ++ indent (n - (k + 1)) ≡ whole
indent_step whole old now n k h e f = rw (f, append_assoc old (codes "    ") (indent (n - (k + 1)))) (rw (sym (indent_more n k h)) e)
