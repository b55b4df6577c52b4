-- The effects of the example bodies, by whether their one path is held.
use Rattle.std.proofs.Common.{◌≡◌, Bool, true, false, refl}
use Rattle.std.specs.Prelude.{if◌then◌else◌}
use Rattle.algebra.specs.declared.basic.Basic.TheVariants.{Mover, Atomic, Cmpd, Const, Error}
use Rattle.algebra.specs.Basics.{seq_of}
use Rattle.rules.specs.Effect.{sync_effect}

pub inc_at : (held : Bool) → seq_of (sync_effect held (seq_of (seq_of Const (seq_of (seq_of (seq_of Const (if held then Mover else Error)) Const) (if held then Mover else Error))) Const) Mover) Const ≡ (if held then Mover else Atomic)
inc_at true = refl
inc_at false = refl

pub run_at : (held : Bool) → seq_of (seq_of Const (seq_of Const (if held then Mover else Atomic))) Const ≡ (if held then Mover else Atomic)
run_at true = refl
run_at false = refl

pub twice_at : (held : Bool) → seq_of (seq_of Const (seq_of Const (if held then Mover else Atomic))) (seq_of (seq_of Const (seq_of Const (if held then Mover else Atomic))) Const) ≡ (if held then Mover else Cmpd)
twice_at true = refl
twice_at false = refl

pub synchronized_at : (held : Bool) → sync_effect held (seq_of (seq_of (seq_of Const (seq_of Const (if held then Mover else Atomic))) (seq_of (seq_of Const (seq_of Const (if held then Mover else Atomic))) Const)) Const) Mover ≡ (if held then Mover else Atomic)
synchronized_at true = refl
synchronized_at false = refl
