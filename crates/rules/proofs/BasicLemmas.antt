-- Basics in their order: each law by computation over all of them.
use Rattle.std.proofs.Common.{◌≡◌, Bool, true, false, refl, ◌&&◌, arith}
use Rattle.std.proofs.lemmas.Bool.{leb-true}
use Rattle.algebra.specs.declared.basic.Basic.{Basic}
use Rattle.algebra.specs.declared.basic.Basic.TheVariants.{Const, Mover, Atomic, Cmpd, Error}
use Rattle.algebra.specs.Basics.{rank_of, below_of, seq_of, join_of, star_of, lift_of}
use Rattle.algebra.proofs.Ranks.{same_rank}
use Rattle.rules.specs.Rules.{AtMost}

-- the test passes at each basic
abbrev pub every : (Basic → Bool) → Bool
every p = p Const && (p Mover && (p Atomic && (p Cmpd && p Error)))

-- the second fact follows from the first
abbrev pub implies : Bool → Bool → Bool
implies true b = b
implies false b = true

five : (a b c d e : Bool) → (a && (b && (c && (d && e)))) ≡ true → (a ≡ true) × (b ≡ true) × (c ≡ true) × (d ≡ true) × (e ≡ true)
five true true true true true h = (refl, refl, refl, refl, refl)
five true true true true false h = absurd cc
five true true true false e h = absurd cc
five true true false d e h = absurd cc
five true false c d e h = absurd cc
five false b c d e h = absurd cc

pub each : (p : Basic → Bool) → every p ≡ true → (b : Basic) → p b ≡ true
each p all Const = (five (p Const) (p Mover) (p Atomic) (p Cmpd) (p Error) all).0
each p all Mover = (five (p Const) (p Mover) (p Atomic) (p Cmpd) (p Error) all).1
each p all Atomic = (five (p Const) (p Mover) (p Atomic) (p Cmpd) (p Error) all).2
each p all Cmpd = (five (p Const) (p Mover) (p Atomic) (p Cmpd) (p Error) all).3
each p all Error = (five (p Const) (p Mover) (p Atomic) (p Cmpd) (p Error) all).4

pub follows : (a b : Bool) → implies a b ≡ true → a ≡ true → b ≡ true
follows true b h e = h
follows false b h e = absurd cc

pub below_itself : (a : Basic) → AtMost a a
below_itself = each (λ a. below_of a a) refl

pub below_error : (a : Basic) → AtMost a Error
below_error = each (λ a. below_of a Error) refl

pub below_lift : (a : Basic) → AtMost a (lift_of a)
below_lift = each (λ a. below_of a (lift_of a)) refl

pub below_chain : (a b c : Basic) → AtMost a b → AtMost b c → AtMost a c
below_chain a b c h k =
    follows _ _ (follows _ _ (each (λ c. implies (below_of a b) (implies (below_of b c) (below_of a c)))
    (each (λ b. every (λ c. implies (below_of a b) (implies (below_of b c) (below_of a c))))
    (each (λ a. every (λ b. every (λ c. implies (below_of a b) (implies (below_of b c) (below_of a c))))) refl a) b) c) h) k

-- of two basics that are each at most the other
pub both_below : (a b : Basic) → AtMost a b → AtMost b a → a ≡ b
both_below a b h k =
    let low = leb-true (rank_of a) (rank_of b) h in
    let high = leb-true (rank_of b) (rank_of a) k in
    same_rank a b (omega (arith, low, high))

seq_first : (a b c : Basic) → AtMost a b → AtMost (seq_of a c) (seq_of b c)
seq_first a b c h =
    follows _ _ (each (λ c. implies (below_of a b) (below_of (seq_of a c) (seq_of b c)))
    (each (λ b. every (λ c. implies (below_of a b) (below_of (seq_of a c) (seq_of b c))))
    (each (λ a. every (λ b. every (λ c. implies (below_of a b) (below_of (seq_of a c) (seq_of b c))))) refl a) b) c) h

seq_second : (a b c : Basic) → AtMost a b → AtMost (seq_of c a) (seq_of c b)
seq_second a b c h =
    follows _ _ (each (λ c. implies (below_of a b) (below_of (seq_of c a) (seq_of c b)))
    (each (λ b. every (λ c. implies (below_of a b) (below_of (seq_of c a) (seq_of c b))))
    (each (λ a. every (λ b. every (λ c. implies (below_of a b) (below_of (seq_of c a) (seq_of c b))))) refl a) b) c) h

pub seq_mono : (a b c d : Basic) → AtMost a b → AtMost c d → AtMost (seq_of a c) (seq_of b d)
seq_mono a b c d h k = below_chain _ _ _ (seq_first a b c h) (seq_second c d b k)

join_first : (a b c : Basic) → AtMost a b → AtMost (join_of a c) (join_of b c)
join_first a b c h =
    follows _ _ (each (λ c. implies (below_of a b) (below_of (join_of a c) (join_of b c)))
    (each (λ b. every (λ c. implies (below_of a b) (below_of (join_of a c) (join_of b c))))
    (each (λ a. every (λ b. every (λ c. implies (below_of a b) (below_of (join_of a c) (join_of b c))))) refl a) b) c) h

join_second : (a b c : Basic) → AtMost a b → AtMost (join_of c a) (join_of c b)
join_second a b c h =
    follows _ _ (each (λ c. implies (below_of a b) (below_of (join_of c a) (join_of c b)))
    (each (λ b. every (λ c. implies (below_of a b) (below_of (join_of c a) (join_of c b))))
    (each (λ a. every (λ b. every (λ c. implies (below_of a b) (below_of (join_of c a) (join_of c b))))) refl a) b) c) h

pub join_mono : (a b c d : Basic) → AtMost a b → AtMost c d → AtMost (join_of a c) (join_of b d)
join_mono a b c d h k = below_chain _ _ _ (join_first a b c h) (join_second c d b k)

pub star_mono : (a b : Basic) → AtMost a b → AtMost (star_of a) (star_of b)
star_mono a b h =
    follows _ _ (each (λ b. implies (below_of a b) (below_of (star_of a) (star_of b)))
    (each (λ a. every (λ b. implies (below_of a b) (below_of (star_of a) (star_of b)))) refl a) b) h

pub lift_mono : (a b : Basic) → AtMost a b → AtMost (lift_of a) (lift_of b)
lift_mono a b h =
    follows _ _ (each (λ b. implies (below_of a b) (below_of (lift_of a) (lift_of b)))
    (each (λ a. every (λ b. implies (below_of a b) (below_of (lift_of a) (lift_of b)))) refl a) b) h
