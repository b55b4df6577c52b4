-- Sets that cover others, and joins of basics.
use Rattle.std.proofs.Common.{◌≡◌, Bool, true, false, List, [], ◌∷◌, refl, sym, subst, inl, inr}
use Rattle.std.specs.Prelude.{if◌then◌else◌}
use Rattle.std.proofs.lemmas.Bool.{or_cases, or_right, and_from}
use Rattle.paths.specs.Paths.{PathData, path_eq}
use Rattle.paths.proofs.PathOrder.{eq_is}
use Rattle.algebra.specs.declared.basic.Basic.{Basic}
use Rattle.algebra.specs.declared.basic.Basic.TheVariants.{Const}
use Rattle.algebra.specs.Basics.{below_of, join_of}
use Rattle.algebra.specs.HeldPaths.{Held, has_path}
use Rattle.rules.specs.Rules.{AtMost}
use Rattle.rules.proofs.BasicLemmas.{every, implies, each, follows, below_chain, below_itself, both_below}
use Rattle.rules.proofs.SetLemmas.{first, second}
use Rattle.rules.proofs.UniqueSets.{first_has}
use Rattle.refutation.specs.Lines.{covers}

pub below_const : (a : Basic) → AtMost Const a
below_const = each (λ a. below_of Const a) refl

pub join_least : (a b c : Basic) → AtMost a c → AtMost b c → AtMost (join_of a b) c
join_least a b c h k =
    follows _ _ (follows _ _ (each (λ c. implies (below_of a c) (implies (below_of b c) (below_of (join_of a b) c)))
    (each (λ b. every (λ c. implies (below_of a c) (implies (below_of b c) (below_of (join_of a b) c))))
    (each (λ a. every (λ b. every (λ c. implies (below_of a c) (implies (below_of b c) (below_of (join_of a b) c))))) refl a) b) c) h) k

pub join_first : (a b : Basic) → AtMost a (join_of a b)
join_first a b = each (λ b. below_of a (join_of a b)) (each (λ a. every (λ b. below_of a (join_of a b))) refl a) b

pub join_second : (a b : Basic) → AtMost b (join_of a b)
join_second a b = each (λ b. below_of b (join_of a b)) (each (λ a. every (λ b. below_of b (join_of a b))) refl a) b

-- three basics, joined in either order
pub join_assoc : (a b c : Basic) → join_of (join_of a b) c ≡ join_of a (join_of b c)
join_assoc a b c = both_below _ _
    (join_least _ _ _ (join_least _ _ _ (join_first a (join_of b c)) (below_chain _ _ _ (join_first b c) (join_second a (join_of b c)))) (below_chain _ _ _ (join_second b c) (join_second a (join_of b c))))
    (join_least _ _ _ (below_chain _ _ _ (join_first a b) (join_first (join_of a b) c)) (join_least _ _ _ (below_chain _ _ _ (join_second a b) (join_first (join_of a b) c)) (join_second (join_of a b) c)))

-- nothing more is joined
pub join_const : (a : Basic) → join_of a Const ≡ a
join_const a = both_below _ _ (join_least a Const a (below_itself a) (below_const a)) (join_first a Const)

pub const_joined : (b : Basic) → join_of Const b ≡ b
const_joined b = both_below (join_of Const b) b (join_least Const b b (below_const b) (below_itself b)) (join_second Const b)

-- a choice between a basic and the least one
pub choice_low : (t : Bool) (a b : Basic) → (t ≡ true → AtMost a b) → AtMost (if t then a else Const) b
choice_low true a b h = h refl
choice_low false a b h = below_const b

taken : (b c : Bool) → b ≡ true → (if b then c else true) ≡ true → c ≡ true
taken true c e h = h
taken false c e h = absurd cc

given : (b c : Bool) → (b ≡ true → c ≡ true) → (if b then c else true) ≡ true
given true c h = h refl
given false c h = refl

-- a path of the set, which is relevant, is one of those that cover it
pub covers_part : (held rel : List PathData) (H : Held) → covers held rel H ≡ true → (q : PathData) → H q ≡ true → has_path rel q ≡ true → has_path held q ≡ true
covers_part held [] H c q h r = absurd (let e : false ≡ true = r in cc)
covers_part held (p ∷ ps) H c q h r = elim (or_cases (path_eq p q) (has_path ps q) r) as (λ _. has_path held q ≡ true) [
  | inl same ↦
      let is = eq_is p q same in
      subst (λ x. has_path held x ≡ true) is (taken (H p) (has_path held p) (subst (λ x. H x ≡ true) (sym is) h) (first (if H p then has_path held p else true) (covers held ps H) c))
  | inr later ↦ covers_part held ps H (second (if H p then has_path held p else true) (covers held ps H) c) q h later
]

-- paths cover a set where they have its relevant paths
pub part_covers : (held rel : List PathData) (H : Held) → ((q : PathData) → H q ≡ true → has_path rel q ≡ true → has_path held q ≡ true) → covers held rel H ≡ true
part_covers held [] H h = refl
part_covers held (p ∷ ps) H h = and_from (if H p then has_path held p else true) (covers held ps H)
    (given (H p) (has_path held p) (λ is. h p is (first_has p ps)))
    (part_covers held ps H (λ q is has. h q is (or_right (path_eq p q) (has_path ps q) has)))
