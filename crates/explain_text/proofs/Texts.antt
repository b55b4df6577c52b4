-- Texts that are written one behind the other.
use Rattle.std.proofs.Common.{◌≡◌, ℕ, List, ◌++◌, ◌∙◌, ap, sym, append_assoc, Result, Ok, Err, OnOk}
use Rattle.std.specs.Bool.{if◌then◌else◌}
use Rattle.std.specs.Result.{is_ok}

-- these bytes were written behind a text
pub record Wrote (old new text : List ℕ) : Type 0 where
  pub told : new ≡ old ++ text

-- by a first call
pub wrote : (old : List ℕ) {new : List ℕ} (text : List ℕ) → new ≡ old ++ text → Wrote old new text
wrote old text is = record { told = is }

two : (old middle new text piece : List ℕ) → middle ≡ old ++ text → new ≡ middle ++ piece → new ≡ old ++ (text ++ piece)
two old middle new text piece first more = more ∙ ap (λ bytes. bytes ++ piece) first ∙ append_assoc old text piece

-- and by one more
pub next : {old middle new text : List ℕ} (piece : List ℕ) → Wrote old middle text → new ≡ middle ++ piece → Wrote old new (text ++ piece)
next {old} {middle} {new} {text} piece so_far is = record { told = two old middle new text piece so_far.told is }

-- by a last one, which may fail
pub ends : {T E : Type 0} (r : Result T E) {old middle text : List ℕ} (new piece : List ℕ) → Wrote old middle text → OnOk r (new ≡ middle ++ piece) → OnOk r (new ≡ old ++ (text ++ piece))
ends (Ok x) {old} {middle} {text} new piece so_far is = two old middle new text piece so_far.told is
ends (Err x) new piece so_far is = tt

-- by a last one that pushes
pub pushes : {T E : Type 0} (r : Result T E) {old middle text : List ℕ} (new piece : List ℕ) → Wrote old middle text → new ≡ (if is_ok r then middle ++ piece else middle) → OnOk r (new ≡ old ++ (text ++ piece))
pushes (Ok x) {old} {middle} {text} new piece so_far is = two old middle new text piece so_far.told is
pushes (Err x) new piece so_far is = tt

-- by one alone that pushes
pub pushed : {T E : Type 0} (r : Result T E) (done left : List ℕ) {new : List ℕ} → new ≡ (if is_ok r then done else left) → OnOk r (new ≡ done)
pushed (Ok x) done left is = is
pushed (Err x) done left is = tt

-- the end of a line that stands in the words is the one behind them
pub noted : (old front words text end : List ℕ) {new : List ℕ} → words ≡ text ++ end → new ≡ old ++ (front ++ words) → new ≡ old ++ (front ++ text ++ end)
noted old front words text end ends_so is = is ∙ ap (λ bytes. old ++ bytes) (ap (λ bytes. front ++ bytes) ends_so ∙ sym (append_assoc front text end))

-- pieces behind a start, one by one
pub begun : (start gap kind : List ℕ) → start ++ (gap ++ kind ++ gap) ≡ start ++ gap ++ kind ++ gap
begun start gap kind = sym (append_assoc start (gap ++ kind) gap) ∙ ap (λ bytes. bytes ++ gap) (sym (append_assoc start gap kind))
