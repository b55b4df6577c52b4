-- How a line ends whose thread is there, by its turn.
use Rattle.std.proofs.Common.{◌≡◌, ℕ, Bool, true, false, Some, None, ap, sym, ◌∙◌}
use Rattle.logs.specs.Events.{LogLine}
use Rattle.logs.specs.Judging as logs
use Rattle.logs.specs.Judging.{Known, Note, Goes, Stops, note_kind}
use Rattle.logs.specs.Logs.{Guard}
use Rattle.logs.specs.Turns.{Turn}
use Rattle.semantics.specs.Words.{fits_phase}
use Rattle.logs.specs.Noting.{turn_in, after_in, note_turn_in, note_in}

module _ (guard : ℕ → Guard) (k : Known) (line : LogLine) (d : ℕ) (n : Note) (is : n ≡ note_in guard k line d) where
  pub impossible_in : None ≡ turn_in guard k.cells line → n ≡ Stops logs.Impossible
  impossible_in none = is ∙ ap (note_turn_in k line d) (sym none)

  by_fit : (x : Turn) (c b : Bool) → Some x ≡ turn_in guard k.cells line → c ≡ k.committed line.thread → fits_phase c x.kind ≡ b → n ≡ note_kind b (after_in k line d x)
  by_fit x c b some committed fit = is ∙ ap (note_turn_in k line d) (sym some) ∙ ap (λ t. note_kind (fits_phase t x.kind) (after_in k line d x)) (sym committed) ∙ ap (λ t. note_kind t (after_in k line d x)) fit

  pub cut_in : (x : Turn) (c : Bool) → Some x ≡ turn_in guard k.cells line → c ≡ k.committed line.thread → fits_phase c x.kind ≡ false → n ≡ Stops logs.Cut
  cut_in x c some committed fit = by_fit x c false some committed fit

  pub goes_in : (x : Turn) (c : Bool) (m : Known) → Some x ≡ turn_in guard k.cells line → c ≡ k.committed line.thread → fits_phase c x.kind ≡ true → m ≡ after_in k line d x → n ≡ Goes m
  goes_in x c m some committed fit after = by_fit x c true some committed fit ∙ ap Goes (sym after)
