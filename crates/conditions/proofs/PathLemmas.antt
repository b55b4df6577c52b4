-- Paths that come before others differ from them; sets of held paths that agree on later paths.
use Rattle.std.proofs.Common.{◌≡◌, Bool, true, false, sym, ◌∙◌, ap, ◌||◌, if◌then◌else◌}
use Rattle.std.specs.declared.cmp.Ordering.{Ordering}
use Rattle.std.specs.declared.cmp.Ordering.TheVariants.{Less, Equal, Greater}
use Rattle.std.proofs.lemmas.Bool.{false_from_ne_true}
use Rattle.paths.specs.Paths.{PathData, path_order, path_eq}
use Rattle.paths.proofs.PathOrder.{is_equal, eq_is, eq_itself, less_not_eq}
use Rattle.algebra.specs.HeldPaths.{Held, with_path}

is_less : Ordering → Bool
is_less Less = true
is_less Equal = false
is_less Greater = false

less_not_equal : (o : Ordering) → o ≡ Less → o ≡ Equal → ⊥
less_not_equal o less equal = let e : Less ≡ Equal = sym less ∙ equal in cc

pub less_differs : (p q : PathData) → path_order p q ≡ Less → p ≡ q → ⊥
less_differs p q less e = less_not_equal (path_order p q) less (is_equal p q e)

pub less_not_eq_turned : (p q : PathData) → path_order p q ≡ Less → path_eq q p ≡ false
less_not_eq_turned p q less = false_from_ne_true (path_eq q p) (λ e. less_differs p q less (sym (eq_is q p e)))

-- the set with one path put in or taken out
abbrev pub put : PathData → Bool → Held → Held
put p v H q = if path_eq p q then v else H q

pub put_same : (p : PathData) (v : Bool) (H : Held) → put p v H p ≡ v
put_same p v H = ap (λ b. if b then v else H p) (eq_itself p)

pub put_later : (p : PathData) (v : Bool) (H : Held) (q : PathData) → path_order p q ≡ Less → put p v H q ≡ H q
put_later p v H q less = ap (λ b. if b then v else H q) (less_not_eq p q less)

pub with_later : (p : PathData) (H : Held) (q : PathData) → path_order p q ≡ Less → with_path p H q ≡ H q
with_later p H q less = ap (λ b. b || H q) (less_not_eq p q less)

pub with_earlier : (p : PathData) (H : Held) (q : PathData) → path_order q p ≡ Less → with_path p H q ≡ H q
with_earlier p H q less = ap (λ b. b || H q) (less_not_eq_turned q p less)
