-- Basics in which const counts as mover: each equation by computation over all of them.
use Rattle.std.proofs.Common.{◌≡◌, ℕ, Bool, true, ◌&&◌, Option, Some, None, if◌then◌else◌, refl}
use Rattle.algebra.specs.declared.basic.Basic.{Basic}
use Rattle.algebra.specs.declared.basic.Basic.TheVariants.{Const, Mover, Atomic, Cmpd, Error}
use Rattle.algebra.specs.Basics.{below_of, seq_of, join_of, star_of, lift_of}
use Rattle.rules.proofs.BasicLemmas.{every, each}

-- the basic, and mover for const
abbrev pub weight : Basic → Basic
weight Const = Mover
weight Mover = Mover
weight Atomic = Atomic
weight Cmpd = Cmpd
weight Error = Error

-- what a loop makes of a basic, where there is one
abbrev pub repeated : Option ℕ → Basic → Basic
repeated (Some k) b = star_of b
repeated None b = b

-- whether two basics are the same
abbrev pub alike : Basic → Basic → Bool
alike a b = below_of a b && below_of b a

pub alike_is : (a b : Basic) → alike a b ≡ true → a ≡ b
alike_is Const Const e = refl
alike_is Const Mover e = absurd cc
alike_is Const Atomic e = absurd cc
alike_is Const Cmpd e = absurd cc
alike_is Const Error e = absurd cc
alike_is Mover Const e = absurd cc
alike_is Mover Mover e = refl
alike_is Mover Atomic e = absurd cc
alike_is Mover Cmpd e = absurd cc
alike_is Mover Error e = absurd cc
alike_is Atomic Const e = absurd cc
alike_is Atomic Mover e = absurd cc
alike_is Atomic Atomic e = refl
alike_is Atomic Cmpd e = absurd cc
alike_is Atomic Error e = absurd cc
alike_is Cmpd Const e = absurd cc
alike_is Cmpd Mover e = absurd cc
alike_is Cmpd Atomic e = absurd cc
alike_is Cmpd Cmpd e = refl
alike_is Cmpd Error e = absurd cc
alike_is Error Const e = absurd cc
alike_is Error Mover e = absurd cc
alike_is Error Atomic e = absurd cc
alike_is Error Cmpd e = absurd cc
alike_is Error Error e = refl

-- functions of one basic, and of two, that are alike at each
pub by_one : (f g : Basic → Basic) → every (λ a. alike (f a) (g a)) ≡ true → (a : Basic) → f a ≡ g a
by_one f g all a = alike_is (f a) (g a) (each (λ a. alike (f a) (g a)) all a)

pub by_two : (f g : Basic → Basic → Basic) → every (λ a. every (λ b. alike (f a b) (g a b))) ≡ true → (a b : Basic) → f a b ≡ g a b
by_two f g all a b = alike_is (f a b) (g a b) (each (λ b. alike (f a b) (g a b)) (each (λ a. every (λ b. alike (f a b) (g a b))) all a) b)

pub weight_seq : (a b : Basic) → weight (seq_of a b) ≡ seq_of (weight a) (weight b)
weight_seq = by_two (λ a b. weight (seq_of a b)) (λ a b. seq_of (weight a) (weight b)) refl

pub weight_repeated : (loop : Option ℕ) (a : Basic) → weight (repeated loop (weight a)) ≡ weight (repeated loop a)
weight_repeated (Some k) = by_one (λ a. weight (star_of (weight a))) (λ a. weight (star_of a)) refl
weight_repeated None = by_one (λ a. weight (weight a)) weight refl

-- parts in sequence, by what each weighs
pub repeated_seq : (loop : Option ℕ) (a b : Basic) → seq_of (weight (repeated loop a)) (weight (repeated loop b)) ≡ weight (repeated loop (seq_of a b))
repeated_seq (Some k) = by_two (λ a b. seq_of (weight (star_of a)) (weight (star_of b))) (λ a b. weight (star_of (seq_of a b))) refl
repeated_seq None = by_two (λ a b. seq_of (weight a) (weight b)) (λ a b. weight (seq_of a b)) refl

-- a part with a mover behind it
pub repeated_mover : (loop : Option ℕ) (a : Basic) → weight (repeated loop a) ≡ weight (repeated loop (seq_of a Mover))
repeated_mover (Some k) = by_one (λ a. weight (star_of a)) (λ a. weight (star_of (seq_of a Mover))) refl
repeated_mover None = by_one weight (λ a. weight (seq_of a Mover)) refl

-- a part by itself that can be moved weighs as nothing does
pub repeated_light : (loop : Option ℕ) (a : Basic) → weight Const ≡ weight (repeated loop (if below_of a Mover then a else Const))
repeated_light (Some k) = by_one (λ a. weight Const) (λ a. weight (star_of (if below_of a Mover then a else Const))) refl
repeated_light None = by_one (λ a. weight Const) (λ a. weight (if below_of a Mover then a else Const)) refl

-- the greater branch
pub repeated_join : (loop : Option ℕ) (a b : Basic) → weight (repeated loop (join_of a b)) ≡ (if below_of b a then weight (repeated loop a) else weight (repeated loop b))
repeated_join (Some k) = by_two (λ a b. weight (star_of (join_of a b))) (λ a b. if below_of b a then weight (star_of a) else weight (star_of b)) refl
repeated_join None = by_two (λ a b. weight (join_of a b)) (λ a b. if below_of b a then weight a else weight b) refl

-- a loop: the condition, and then the body and the condition any number of times
pub repeated_loop : (loop : Option ℕ) (c s : Basic) → seq_of (weight (star_of c)) (weight (star_of s)) ≡ weight (repeated loop (seq_of c (star_of (seq_of s c))))
repeated_loop (Some k) = by_two (λ c s. seq_of (weight (star_of c)) (weight (star_of s))) (λ c s. weight (star_of (seq_of c (star_of (seq_of s c))))) refl
repeated_loop None = by_two (λ c s. seq_of (weight (star_of c)) (weight (star_of s))) (λ c s. weight (seq_of c (star_of (seq_of s c)))) refl

-- a synchronized part that takes its lock
pub repeated_lift : (loop : Option ℕ) (s : Basic) → weight (repeated loop (lift_of s)) ≡ (if below_of s Mover then weight (repeated loop Atomic) else weight (repeated loop s))
repeated_lift (Some k) = by_one (λ s. weight (star_of (lift_of s))) (λ s. if below_of s Mover then weight (star_of Atomic) else weight (star_of s)) refl
repeated_lift None = by_one (λ s. weight (lift_of s)) (λ s. if below_of s Mover then weight Atomic else weight s) refl
