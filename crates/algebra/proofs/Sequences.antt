-- Basics in sequence.
use Rattle.std.proofs.Common.{◌≡◌, refl}
use Rattle.algebra.specs.declared.basic.Basic.{Basic}
use Rattle.algebra.specs.declared.basic.Basic.TheVariants.{Const, Mover, Atomic, Cmpd, Error}
use Rattle.algebra.specs.Basics.{seq_of}

-- of parts that are the same
pub seq_same : {a b c d : Basic} → a ≡ b → c ≡ d → seq_of a c ≡ seq_of b d
seq_same e f = λ i. seq_of (e i) (f i)

pub unit_after : (a : Basic) → seq_of a Const ≡ a
unit_after Const = refl
unit_after Mover = refl
unit_after Atomic = refl
unit_after Cmpd = refl
unit_after Error = refl

pub unit_before : (a : Basic) → seq_of Const a ≡ a
unit_before Const = refl
unit_before Mover = refl
unit_before Atomic = refl
unit_before Cmpd = refl
unit_before Error = refl

-- by the first part, of which only three change anything
after_const : (b c : Basic) → seq_of (seq_of Const b) c ≡ seq_of Const (seq_of b c)
after_const Const Const = refl
after_const Const Mover = refl
after_const Const Atomic = refl
after_const Const Cmpd = refl
after_const Const Error = refl
after_const Mover Const = refl
after_const Mover Mover = refl
after_const Mover Atomic = refl
after_const Mover Cmpd = refl
after_const Mover Error = refl
after_const Atomic Const = refl
after_const Atomic Mover = refl
after_const Atomic Atomic = refl
after_const Atomic Cmpd = refl
after_const Atomic Error = refl
after_const Cmpd Const = refl
after_const Cmpd Mover = refl
after_const Cmpd Atomic = refl
after_const Cmpd Cmpd = refl
after_const Cmpd Error = refl
after_const Error c = refl

after_mover : (b c : Basic) → seq_of (seq_of Mover b) c ≡ seq_of Mover (seq_of b c)
after_mover Const Const = refl
after_mover Const Mover = refl
after_mover Const Atomic = refl
after_mover Const Cmpd = refl
after_mover Const Error = refl
after_mover Mover Const = refl
after_mover Mover Mover = refl
after_mover Mover Atomic = refl
after_mover Mover Cmpd = refl
after_mover Mover Error = refl
after_mover Atomic Const = refl
after_mover Atomic Mover = refl
after_mover Atomic Atomic = refl
after_mover Atomic Cmpd = refl
after_mover Atomic Error = refl
after_mover Cmpd Const = refl
after_mover Cmpd Mover = refl
after_mover Cmpd Atomic = refl
after_mover Cmpd Cmpd = refl
after_mover Cmpd Error = refl
after_mover Error c = refl

after_atomic : (b c : Basic) → seq_of (seq_of Atomic b) c ≡ seq_of Atomic (seq_of b c)
after_atomic Const Const = refl
after_atomic Const Mover = refl
after_atomic Const Atomic = refl
after_atomic Const Cmpd = refl
after_atomic Const Error = refl
after_atomic Mover Const = refl
after_atomic Mover Mover = refl
after_atomic Mover Atomic = refl
after_atomic Mover Cmpd = refl
after_atomic Mover Error = refl
after_atomic Atomic Const = refl
after_atomic Atomic Mover = refl
after_atomic Atomic Atomic = refl
after_atomic Atomic Cmpd = refl
after_atomic Atomic Error = refl
after_atomic Cmpd Const = refl
after_atomic Cmpd Mover = refl
after_atomic Cmpd Atomic = refl
after_atomic Cmpd Cmpd = refl
after_atomic Cmpd Error = refl
after_atomic Error c = refl

after_cmpd : (b c : Basic) → seq_of (seq_of Cmpd b) c ≡ seq_of Cmpd (seq_of b c)
after_cmpd Const Const = refl
after_cmpd Const Mover = refl
after_cmpd Const Atomic = refl
after_cmpd Const Cmpd = refl
after_cmpd Const Error = refl
after_cmpd Mover Const = refl
after_cmpd Mover Mover = refl
after_cmpd Mover Atomic = refl
after_cmpd Mover Cmpd = refl
after_cmpd Mover Error = refl
after_cmpd Atomic Const = refl
after_cmpd Atomic Mover = refl
after_cmpd Atomic Atomic = refl
after_cmpd Atomic Cmpd = refl
after_cmpd Atomic Error = refl
after_cmpd Cmpd Const = refl
after_cmpd Cmpd Mover = refl
after_cmpd Cmpd Atomic = refl
after_cmpd Cmpd Cmpd = refl
after_cmpd Cmpd Error = refl
after_cmpd Error c = refl

pub associative : (a b c : Basic) → seq_of (seq_of a b) c ≡ seq_of a (seq_of b c)
associative Const b c = after_const b c
associative Mover b c = after_mover b c
associative Atomic b c = after_atomic b c
associative Cmpd b c = after_cmpd b c
associative Error b c = refl
