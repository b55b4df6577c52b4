-- Pages whose text goes on behind what was there.
use Rattle.std.proofs.Common.{◌≡◌, List, ℕ, ◌++◌, ap, ◌∙◌}
use Rattle.base.specs.Texts.{KeepsText}
use Rattle.printer.specs.declared.page.NextPlace.{NextPlace}
use Rattle.printer.specs.Layout.{Page, KeepsPage}

-- the page whose text alone goes on
pub kept_page : (old : Page) (before now : List ℕ) (depth : ℕ) (place : NextPlace) → record { text = before; depth = depth; place = place } ≡ old → KeepsText before now
    → KeepsPage old (record { text = now; depth = depth; place = place })
kept_page old before now depth place view kept = record {
  text = record { behind = kept.behind; whole = kept.whole ∙ ap (λ p. p.text ++ kept.behind) view };
  depth = ap (λ p. p.depth) view;
  place = ap (λ p. p.place) view;
}
