use Rattle.explain.proofs.HoldLemmas.{hold_moves, hold_told, second_held}
use Rattle.explain.proofs.laws_of_explanations.hold_laws.Goals as goal

pub returns : goal.returns
returns c = record { moves = hold_moves; told = hold_told; held = second_held }
