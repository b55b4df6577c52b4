-- The explanations, and behind them the warnings.
use Rattle.std.proofs.Common.{string_bytes}
use Rattle.explain_commands.proofs.explaining.explained_with_warnings.Goals as goal

pub returns : goal.returns
returns g c = record { lines = string_bytes c.in_ok-text.text; explains = c.in_ok-text.ensures; whole = c.in_ok-add_warnings.ensures }
