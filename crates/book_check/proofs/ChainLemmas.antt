-- Values where each path of a chain of tests is held.
use Rattle.std.proofs.Common.{◌≡◌, ◌||◌, ◌∷◌, ℕ, Bool, true, false, List, Option, IfSome, map, if◌then◌else◌, refl, sym, ap, subst, ◌∙◌}
use Rattle.std.proofs.lemmas.Bool.{or_left, or_right}
use Rattle.std.proofs.lemmas.Option.{IfSome_then}
use Rattle.paths.specs.Paths.{PathData, path_eq}
use Rattle.paths.proofs.PathOrder.{eq_is}
use Rattle.algebra.specs.declared.basic.Basic.{Basic}
use Rattle.algebra.specs.declared.basic.Basic.TheVariants.{Const, Mover, Atomic, Cmpd, Error}
use Rattle.algebra.specs.Basics.{below_of, lift_of, seq_of}
use Rattle.algebra.specs.HeldPaths.{Held, with_path}
use Rattle.algebra.specs.Values.{sync_of}
use Rattle.conditions.specs.Conditions.{Cond, LeafC, TestC, value_of}
use Rattle.rules.specs.Rules.{AtMost}
use Rattle.book_check.specs.Chains.{EndsAt, HoldsAll}
use Rattle.effects.specs.Rules.{Value, in_sequence}
use Rattle.algebra.proofs.Sequences.{associative}
use Rattle.book_check.proofs.NameLemmas.{value_same}

-- the path of a chain's first test
pub first_held : (t : Cond) (q p : PathData) (a c : Cond) (H : Held) → t ≡ TestC q a c → path_eq q p ≡ true → HoldsAll t H → H p ≡ true
first_held t q p a c H is same holds = ap H (sym (eq_is q p same)) ∙ (subst (λ z. HoldsAll z H) is holds).0

-- the paths of a chain's later tests
pub later_held : (t : Cond) (q : PathData) (a c : Cond) (H : Held) → t ≡ TestC q a c → HoldsAll t H → HoldsAll a H
later_held t q a c H is holds = (subst (λ z. HoldsAll z H) is holds).1

-- one value more of a sequence
pub more_at : (V : ℕ → Value) (rest others : List ℕ) (n : ℕ) (so_far next longer all : Basic) (H : Held) → rest ≡ n ∷ others → V n H ≡ next → longer ≡ seq_of so_far next →
    seq_of so_far (in_sequence (map V rest) H) ≡ all → seq_of longer (in_sequence (map V others) H) ≡ all
more_at V rest others n so_far next longer all H are value made before =
    ap (λ z. seq_of z (in_sequence (map V others) H)) made
    ∙ associative so_far next (in_sequence (map V others) H)
    ∙ ap (λ z. seq_of so_far (seq_of z (in_sequence (map V others) H))) (sym value)
    ∙ ap (λ ns. seq_of so_far (in_sequence (map V ns) H)) (sym are)
    ∙ before

-- a test of a path that is held
held_value : (t : Cond) (p : PathData) (a c : Cond) (S : Held) (b : Basic) → t ≡ TestC p a c → S p ≡ true → value_of a S ≡ b → value_of t S ≡ b
held_value t p a c S b is held e = ap (λ z. value_of z S) is ∙ (λ i. if held i then value_of a S else value_of c S) ∙ e

-- a test of a path that is held under a lock
pub lock_held : (o : Option Basic) (lock : PathData) (chain t a c : Cond) (p : PathData) → t ≡ TestC p a c → path_eq lock p ≡ true →
    IfSome o (λ b. (H : Held) → HoldsAll chain H → value_of a (with_path lock H) ≡ b) → IfSome o (λ b. (H : Held) → HoldsAll chain H → value_of t (with_path lock H) ≡ b)
lock_held o lock chain t a c p is same at =
    IfSome_then o at (λ b value H holds. held_value t p a c (with_path lock H) b is (or_left (path_eq lock p) (H p) same) (value H holds))

pub under_held : (o : Option Basic) (lock : PathData) (chain rest t a c : Cond) (p : PathData) → t ≡ TestC p a c →
    ((H : Held) → HoldsAll chain H → H p ≡ true) → ((H : Held) → HoldsAll chain H → HoldsAll rest H) →
    IfSome o (λ b. (H : Held) → HoldsAll rest H → value_of a (with_path lock H) ≡ b) → IfSome o (λ b. (H : Held) → HoldsAll chain H → value_of t (with_path lock H) ≡ b)
under_held o lock chain rest t a c p is held later at =
    IfSome_then o at (λ b value H holds. held_value t p a c (with_path lock H) b is (or_right (path_eq lock p) (H p) (held H holds)) (value H (later H holds)))

-- a set with a path that it has
path_there : (t : Bool) (lock q : PathData) (H : Held) → H lock ≡ true → path_eq lock q ≡ t → (t || H q) ≡ H q
path_there true lock q H held same = sym held ∙ ap H (eq_is lock q same)
path_there false lock q H held same = refl

-- a synchronized part whose value the lock doesn't change
pub sync_held : (lock : PathData) (v : Cond) (H : Held) (b : Basic) → value_of v (with_path lock H) ≡ b → lift_of b ≡ b → sync_of lock (value_of v) H ≡ b
sync_held lock v H b value lifted = by_test (H lock) refl
  where
    by_test : (t : Bool) → H lock ≡ t → (if t then value_of v H else lift_of (value_of v (with_path lock H))) ≡ b
    by_test true e = sym (value_same v (with_path lock H) H (λ q. path_there (path_eq lock q) lock q H e refl)) ∙ value
    by_test false e = ap lift_of value ∙ lifted

most : (b : Basic) → AtMost b Error
most Const = refl
most Mover = refl
most Atomic = refl
most Cmpd = refl
most Error = refl

-- a rule's value is at most a tree that is an error wherever one of the chain's paths isn't held
pub below_at : (d : Cond) (last value rule : Basic) (H : Held) → EndsAt last d → (HoldsAll d H → rule ≡ value) → below_of value last ≡ true → AtMost rule (value_of d H)
below_at (LeafC b) last value rule H ends at below = ap (below_of rule) ends ∙ ap (λ z. below_of z last) (at tt) ∙ below
below_at (TestC p a c) last value rule H ends at below = by_test (H p) refl (λ e. below_at a last value rule H ends.0 (λ holds. at (e, holds)) below)
  where
    by_test : (t : Bool) → H p ≡ t → (H p ≡ true → AtMost rule (value_of a H)) → AtMost rule (if t then value_of a H else value_of c H)
    by_test true e held = held e
    by_test false e held = subst (λ z. AtMost rule (value_of z H)) (sym ends.1) (most rule)
