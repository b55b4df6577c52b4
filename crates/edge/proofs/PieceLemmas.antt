-- Pieces put one after another: what was written so far grows, and what was read so far is a front of the file.
use Rattle.std.proofs.Common.{◌≡◌, ℕ, zero, suc, ◌+◌, ◌-◌, ◌<◌, ◌≤◌, Bool, true, false, if◌then◌else◌, refl, List, ◌++◌, length, take, drop, Option, Some, None, IfSome, arith, subst, ◌∙◌, ap, append_assoc}
use Rattle.std.proofs.Math.Seq.{take-add}
use Rattle.std.proofs.lemmas.Grind.{common_steps}
use Rattle.std.specs.Io.KnownBytes.{Appends}
use Rattle.std.proofs.lemmas.List.{take_rest}
use Rattle.edge.specs.Pieces.{GivesFrom}

-- what was appended grows by a front of the rest
pub appends_more : (old mid new : Option (List ℕ)) (bytes : List ℕ) (w n : ℕ) →
    Appends old mid (take w bytes) → Appends mid new (take n (take (length bytes - w) (drop w bytes))) → Appends old new (take (w + n) bytes)
appends_more None mid new bytes w n e f = tt
appends_more (Some a) None new bytes w n e f = absurd e
appends_more (Some a) (Some b) None bytes w n e f = absurd f
appends_more (Some a) (Some b) (Some c) bytes w n e f =
    let g : c ≡ b ++ take n (drop w bytes) = rw (take_rest bytes w) at f in
    rw (take-add w n bytes) (cc (append_assoc a (take w bytes) (take n (drop w bytes))))

-- the length after one chunk more
pub length_more : (bytes more chunk : List ℕ) (n : ℕ) → more ≡ bytes ++ take n chunk → n ≤ length chunk → length more ≡ length bytes + n
length_more bytes more chunk n is within = ap length is ∙ grind (arith, common_steps)

-- a front of the file grows by the file's bytes that stand behind it
pub front_more_of : (file bytes more chunk : List ℕ) (place n : ℕ) →
    place ≡ length bytes → more ≡ bytes ++ take n chunk → bytes ≡ take (length bytes) file → GivesFrom place n chunk file → n ≤ length chunk →
    more ≡ take (length more) file
front_more_of file bytes more chunk place n at is front given within =
    let count : length more ≡ length bytes + n = length_more bytes more chunk n is within in
    let behind : take n chunk ≡ take n (drop (length bytes) file) = subst (λ p. take n chunk ≡ take n (drop p file)) at given.bytes in
    rw (count, take-add (length bytes) n file) (cc)

pub front_more : (old now : Option (List ℕ)) (bytes more chunk : List ℕ) (place n : ℕ) → now ≡ old →
    place ≡ length bytes → more ≡ bytes ++ take n chunk → IfSome old (λ file. bytes ≡ take (length bytes) file) → IfSome now (GivesFrom place n chunk) → n ≤ length chunk →
    IfSome old (λ file. more ≡ take (length more) file)
front_more None now bytes more chunk place n same at is front given within = tt
front_more (Some file) now bytes more chunk place n same at is front given within =
    front_more_of file bytes more chunk place n at is front (subst (λ o. IfSome o (GivesFrom place n chunk)) same given) within

-- a file is opened for the first piece alone
pub opened_once : (start mid new count at : ℕ) (is_open : ℕ → Bool) → at ≡ count → (count ≡ 0 → mid ≤ start) → mid ≤ start + 1 → (0 < count → is_open count ≡ true)
    → new ≤ mid + (if is_open at then 0 else 1) → new ≤ start + 1
opened_once start mid new zero at is_open here first most going opens = by (is_open at) opens
  where
    by : (b : Bool) → new ≤ mid + (if b then 0 else 1) → new ≤ start + 1
    by true few = omega (arith, first refl)
    by false few = omega (arith, first refl)
opened_once start mid new (suc n) at is_open here first most going opens =
    let still : is_open at ≡ true = ap is_open here ∙ going (omega arith) in
    let few : new ≤ mid + (if true then 0 else 1) = subst (λ b. new ≤ mid + (if b then 0 else 1)) still opens in
    omega (arith, few, most)
