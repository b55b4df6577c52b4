-- Texts that go on behind what was there.
use Rattle.std.proofs.Common.{◌≡◌, List, ℕ, [], ◌++◌, ap, sym, ◌∙◌, append_assoc, append-nil}
use Rattle.base.specs.Texts.{KeepsText}

pub kept_itself : (old new : List ℕ) → new ≡ old → KeepsText old new
kept_itself old new e = record { behind = []; whole = e ∙ sym (append-nil old) }

pub kept_more : (old mid new more : List ℕ) → KeepsText old mid → new ≡ mid ++ more → KeepsText old new
kept_more old mid new more k e = record { behind = k.behind ++ more; whole = e ∙ ap (λ z. z ++ more) k.whole ∙ append_assoc old k.behind more }
