-- Turns by what is known of cells.
use Rattle.std.proofs.Common.{◌≡◌, ℕ, Option, Some, None, unwrap_or, ap, ◌∙◌}
use Rattle.state.specs.declared.value.StepKind.{StepKind}
use Rattle.logs.specs.Events.{LogLine}
use Rattle.logs.specs.Judging.{assumed}
use Rattle.logs.specs.Logs.{Guard, kind_at}
use Rattle.logs.specs.Memory.{SharedCell, Content}
use Rattle.logs.specs.Turns.{cell_of, turn_by_content}
use Rattle.logs.specs.Noting.{locks_in, found_in, turn_in}

module _ (guard : ℕ → Guard) (cells : SharedCell → Option Content) (line : LogLine) (kind : StepKind) (found : Content) (same : kind ≡ kind_at guard (locks_in cells) line.thread line.event) where
  by_found : found ≡ found_in cells line.thread line.event → turn_by_content kind line.event line.thread found ≡ turn_in guard cells line
  by_found is = ap (λ k. turn_by_content k line.event line.thread found) same ∙ ap (turn_by_content (kind_at guard (locks_in cells) line.thread line.event) line.event line.thread) is

  pub turn_known : Some found ≡ cells (cell_of line.thread line.event) → turn_by_content kind line.event line.thread found ≡ turn_in guard cells line
  turn_known there = by_found (ap (λ o. unwrap_or o (assumed line.event)) there)

  pub turn_assumed : None ≡ cells (cell_of line.thread line.event) → found ≡ assumed line.event → turn_by_content kind line.event line.thread found ≡ turn_in guard cells line
  turn_assumed none is = by_found (is ∙ ap (λ o. unwrap_or o (assumed line.event)) none)
