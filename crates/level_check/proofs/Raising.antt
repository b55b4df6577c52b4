-- Levels raised to what links ask.
use Rattle.std.proofs.Common.{◌≡◌, ◌⊎◌, inl, inr, ◌≤◌, ℕ, zero, suc, true, false, ◌==◌, List, [], ◌∷◌, length, Some, None, Contains, slice_get, refl, sym, ap, subst, ◌∙◌, arith}
use Rattle.std.specs.Prelude.{Option, max, nat_le}
use Rattle.std.proofs.lemmas.Bool.{leb-true, leb-false, le-leb, and_parts, and_from, or_parts, eqb-false}
use Rattle.std.proofs.lemmas.Option.{none-some, same_Some}
use Rattle.base.proofs.Lists.{contains_cases, contains_later}
use Rattle.level_check.specs.declared.link.Link.{Link}
use Rattle.level_check.specs.Rises.{has_level, are_met, raised_level, all_raised, leads_to}

nothing_there : {A : Type 0} (v : A) → Contains [] v → ⊥
nothing_there v (k, below, is) = omega (arith, below)

-- One cell.

raised_length : (x : List ℕ) (c n : ℕ) → length (raised_level x c n) ≡ length x
raised_length [] c n = refl
raised_length (u ∷ us) zero n = refl
raised_length (u ∷ us) (suc c) n = ap suc (raised_length us c n)

-- a level is the old one, or the one that is asked
abbrev pub Rose : List ℕ → ℕ → ℕ → Type 0 → Type 0
Rose x d v asked = (u : ℕ) × (slice_get x d ≡ Some u) × (u ≤ v) × ((v ≡ u) ⊎ asked)

greater_of : (u n : ℕ) → (u ≤ max u n) × ((max u n ≡ u) ⊎ (max u n ≡ n))
greater_of u n = elim (nat_le n u) as (λ b. nat_le n u ≡ b → (u ≤ max u n) × ((max u n ≡ u) ⊎ (max u n ≡ n))) [
  | true ↦ λ e. let le = leb-true n u e in (omega arith, inl (omega (arith, le)))
  | false ↦ λ e. let less = leb-false n u e in (omega arith, inr (omega (arith, less)))
] refl

raised_cases : (x : List ℕ) (c n d v : ℕ) → slice_get (raised_level x c n) d ≡ Some v → Rose x d v ((c ≡ d) × (v ≡ n))
raised_cases [] c n d v is = absurd (none-some v is)
raised_cases (u ∷ us) zero n zero v is =
    let same : max u n ≡ v = same_Some (max u n) v is in
    let g = greater_of u n in (
      u,
      refl,
      subst (λ k. u ≤ k) same g.0,
      elim g.1 as (λ _. (v ≡ u) ⊎ ((zero ≡ zero) × (v ≡ n))) [
        | inl old ↦ inl (sym same ∙ old)
        | inr new ↦ inr (refl, sym same ∙ new)
      ],
    )
raised_cases (u ∷ us) zero n (suc d) v is = (v, is, omega arith, inl refl)
raised_cases (u ∷ us) (suc c) n zero v is = let same : u ≡ v = same_Some u v is in (u, refl, omega (arith, same), inl (sym same))
raised_cases (u ∷ us) (suc c) n (suc d) v is =
    let r = raised_cases us c n d v is in (
      r.0,
      r.1,
      r.2,
      elim r.3 as (λ _. (v ≡ r.0) ⊎ ((suc c ≡ suc d) × (v ≡ n))) [
        | inl old ↦ inl old
        | inr new ↦ inr (ap suc new.0, new.1)
      ],
    )

raised_has : (x : List ℕ) (c n v : ℕ) → slice_get (raised_level x c n) c ≡ Some v → n ≤ v
raised_has [] c n v is = absurd (none-some v is)
raised_has (u ∷ us) zero n v is = let same : max u n ≡ v = same_Some (max u n) v is in omega (arith, same)
raised_has (u ∷ us) (suc c) n v is = raised_has us c n v is

raised_other : (x : List ℕ) (c n d : ℕ) → (c ≡ d → ⊥) → slice_get (raised_level x c n) d ≡ slice_get x d
raised_other [] c n d other = refl
raised_other (u ∷ us) zero n zero other = absurd (other refl)
raised_other (u ∷ us) zero n (suc d) other = refl
raised_other (u ∷ us) (suc c) n zero other = refl
raised_other (u ∷ us) (suc c) n (suc d) other = raised_other us c n d (λ e. other (ap suc e))

raised_same : (x : List ℕ) (c n : ℕ) → has_level (slice_get x c) n ≡ true → raised_level x c n ≡ x
raised_same [] c n met = refl
raised_same (u ∷ us) zero n met = let le = leb-true n u met in let e : max u n ≡ u = omega (arith, le) in ap (λ k. k ∷ us) e
raised_same (u ∷ us) (suc c) n met = ap (λ ks. u ∷ ks) (raised_same us c n met)

-- a level that is written
pub raised_set : (x : List ℕ) (c n : ℕ) → has_level (slice_get x c) n ≡ false → raised_level x c n ≡ Rattle.std.proofs.Common.slice_set x c n
raised_set [] c n low = absurd (let e : true ≡ false = low in cc)
raised_set (u ∷ us) zero n low = let less = leb-false n u low in let e : max u n ≡ n = omega (arith, less) in ap (λ k. k ∷ us) e
raised_set (u ∷ us) (suc c) n low = ap (λ ks. u ∷ ks) (raised_set us c n low)

pub raised_kept : (x : List ℕ) (c n : ℕ) → has_level (slice_get x c) n ≡ true → x ≡ raised_level x c n
raised_kept x c n met = sym (raised_same x c n met)

-- All links of a cell.

pub all_length : (x : List ℕ) (from : ℕ) (ls : List Link) → length (all_raised x from ls) ≡ length x
all_length x from [] = refl
all_length x from (l ∷ ls) = all_length (raised_level x l.to (max from l.level)) from ls ∙ raised_length x l.to (max from l.level)

-- what a link asks
abbrev pub Asked : ℕ → List Link → ℕ → ℕ → Type 0
Asked from ls d v = (l : Link) × Contains ls l × (l.to ≡ d) × (v ≡ max from l.level)

first_link : (l : Link) (ls : List Link) → Contains (l ∷ ls) l
first_link l ls = (0, omega arith, refl)

pub all_cases : (x : List ℕ) (from : ℕ) (ls : List Link) (d v : ℕ) → slice_get (all_raised x from ls) d ≡ Some v → Rose x d v (Asked from ls d v)
all_cases x from [] d v is = (v, is, omega arith, inl refl)
all_cases x from (l ∷ ls) d v is =
    let r = all_cases (raised_level x l.to (max from l.level)) from ls d v is in
    let o = raised_cases x l.to (max from l.level) d r.0 r.1 in (
      o.0,
      o.1,
      omega (arith, o.2, r.2),
      elim r.3 as (λ _. (v ≡ o.0) ⊎ Asked from (l ∷ ls) d v) [
        | inr later ↦ inr (later.0, contains_later l later.0 ls later.1, later.2, later.3)
        | inl kept ↦ elim o.3 as (λ _. (v ≡ o.0) ⊎ Asked from (l ∷ ls) d v) [
          | inl old ↦ inl (kept ∙ old)
          | inr new ↦ inr (l, first_link l ls, new.0, kept ∙ new.1)
        ]
      ],
    )

pub all_has : (x : List ℕ) (from : ℕ) (ls : List Link) (l : Link) (v : ℕ) → Contains ls l → slice_get (all_raised x from ls) l.to ≡ Some v → max from l.level ≤ v
all_has x from [] l v has is = absurd (nothing_there l has)
all_has x from (k ∷ ls) l v has is = elim (contains_cases k l ls has) as (λ _. max from l.level ≤ v) [
  | inl same ↦
      let r = all_cases (raised_level x k.to (max from k.level)) from ls l.to v is in
      let own = raised_has x k.to (max from k.level) r.0 (ap (λ (z : Link). slice_get (raised_level x k.to (max from k.level)) z.to) same ∙ r.1) in
      let low : max from l.level ≤ r.0 = subst (λ (z : Link). max from z.level ≤ r.0) same own in
      through (max from l.level) r.0 v low r.2
  | inr later ↦ all_has (raised_level x k.to (max from k.level)) from ls l v later is
]
  where
    through : (a b c : ℕ) → a ≤ b → b ≤ c → a ≤ c
    through a b c first second = omega (arith, first, second)

-- a cell to which no link leads
pub all_other : (x : List ℕ) (from : ℕ) (ls : List Link) (d : ℕ) → leads_to ls d ≡ false → slice_get (all_raised x from ls) d ≡ slice_get x d
all_other x from [] d away = refl
all_other x from (l ∷ ls) d away =
    let parts = or_parts (l.to == d) (leads_to ls d) away in
    all_other (raised_level x l.to (max from l.level)) from ls d parts.1 ∙ raised_other x l.to (max from l.level) d (eqb-false l.to d parts.0)

-- where the links have got what they ask nothing rises
pub all_same : (x : List ℕ) (from : ℕ) (ls : List Link) → are_met x from ls ≡ true → all_raised x from ls ≡ x
all_same x from [] met = refl
all_same x from (l ∷ ls) met =
    let parts = and_parts (has_level (slice_get x l.to) (max from l.level)) (are_met x from ls) met in
    ap (λ y. all_raised y from ls) (raised_same x l.to (max from l.level) parts.0) ∙ all_same x from ls parts.1

-- What it means that links are met.

has_from : (o : Option ℕ) (n : ℕ) → ((v : ℕ) → o ≡ Some v → n ≤ v) → has_level o n ≡ true
has_from None n each = refl
has_from (Some u) n each = le-leb n u (each u refl)

pub has_at : (o : Option ℕ) (n v : ℕ) → has_level o n ≡ true → o ≡ Some v → n ≤ v
has_at None n v met is = absurd (none-some v is)
has_at (Some u) n v met is = let same : u ≡ v = same_Some u v is in let le = leb-true n u met in omega (arith, same, le)

pub met_from : (x : List ℕ) (from : ℕ) (ls : List Link) → ((l : Link) (v : ℕ) → Contains ls l → slice_get x l.to ≡ Some v → max from l.level ≤ v) → are_met x from ls ≡ true
met_from x from [] each = refl
met_from x from (l ∷ ls) each =
    and_from (has_level (slice_get x l.to) (max from l.level)) (are_met x from ls) (has_from (slice_get x l.to) (max from l.level) (λ v is. each l v (first_link l ls) is))
    (met_from x from ls (λ k v has is. each k v (contains_later l k ls has) is))

pub met_at : (x : List ℕ) (from : ℕ) (ls : List Link) (l : Link) (v : ℕ) → are_met x from ls ≡ true → Contains ls l → slice_get x l.to ≡ Some v → max from l.level ≤ v
met_at x from [] l v met has is = absurd (nothing_there l has)
met_at x from (k ∷ ls) l v met has is =
    let parts = and_parts (has_level (slice_get x k.to) (max from k.level)) (are_met x from ls) met in
    elim (contains_cases k l ls has) as (λ _. max from l.level ≤ v) [
      | inl same ↦ has_at (slice_get x l.to) (max from l.level) v (subst (λ (z : Link). has_level (slice_get x z.to) (max from z.level) ≡ true) same parts.0) is
      | inr later ↦ met_at x from ls l v parts.1 later is
    ]

-- links that are met are met still where levels have risen
pub met_grows : (x y : List ℕ) (from : ℕ) (ls : List Link) → ((d v : ℕ) → slice_get y d ≡ Some v → (u : ℕ) × (slice_get x d ≡ Some u) × (u ≤ v)) → are_met x from ls ≡ true → are_met y from ls ≡ true
met_grows x y from ls grown met = met_from y from ls (λ l v has is. let r = grown l.to v is in through (max from l.level) r.0 v (met_at x from ls l r.0 met has r.1) r.2)
  where
    through : (a b c : ℕ) → a ≤ b → b ≤ c → a ≤ c
    through a b c first second = omega (arith, first, second)
