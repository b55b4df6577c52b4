-- Tables of groups: one method more in them, and what a table of some paths says, joined into a table of others.
use Rattle.std.proofs.Common.{◌≡◌, ℕ, zero, suc, ◌+◌, ◌/◌, ◌<◌, ◌≤◌, Bool, true, false, List, [], ◌∷◌, ◌++◌, length, take, drop, map, get_or, slice_set, refl, sym, ap, subst, ◌∙◌, arith}
use Rattle.std.specs.Prelude.{Option, Some, None, IfSome, slice_get}
use Rattle.std.proofs.lemmas.List.{length-map, take-map, drop-map}
use Rattle.std.proofs.lemmas.Option.{none-some, same_Some}
use Rattle.paths.specs.Paths.{PathData}
use Rattle.algebra.specs.declared.basic.Basic.{Basic}
use Rattle.algebra.specs.Basics.{below_of, join_of}
use Rattle.algebra.specs.HeldPaths.{Held}
use Rattle.algebra.specs.Tables.{first_entry, half_table, count_of_parts}
use Rattle.algebra.proofs.Halves.{half_lengths, half_sizes}
use Rattle.rules.proofs.BasicLemmas.{both_below, below_chain}
use Rattle.refutation.specs.Tables.{table_entry}
use Rattle.refutation.specs.Overs.{IsAlike, joined_each, said_in_groups}
use Rattle.refutation.specs.Steps.{entry_along}
use Rattle.refutation.specs.declared.groups.Group.{Group}
use Rattle.refutation.specs.declared.steps.Step.{Step}
use Rattle.refutation.specs.declared.steps.Step.TheVariants.{Both, First, Second}
use Rattle.refutation.proofs.Sets.{join_least, join_first, join_second, join_assoc, join_const, const_joined}

-- Tables that are joined.

-- the first so many basics, each joined with the one at its place in another table; the others as they are
abbrev pub joined_first : ℕ → List Basic → List Basic → List Basic
joined_first zero xs ys = xs
joined_first (suc n) [] ys = []
joined_first (suc n) (x ∷ xs) [] = x ∷ xs
joined_first (suc n) (x ∷ xs) (y ∷ ys) = join_of x y ∷ joined_first n xs ys

joined_suc : (n : ℕ) (xs ys : List Basic) (d e : Basic) → n < length xs → n < length ys → slice_set (joined_first n xs ys) n (join_of (get_or (joined_first n xs ys) n d) (get_or ys n e)) ≡ joined_first (suc n) xs ys
joined_suc n [] ys d e h k = absurd (omega (arith, h))
joined_suc n (x ∷ xs) [] d e h k = absurd (omega (arith, k))
joined_suc zero (x ∷ xs) (y ∷ ys) d e h k = refl
joined_suc (suc n) (x ∷ xs) (y ∷ ys) d e h k = ap (λ zs. join_of x y ∷ zs) (joined_suc n xs ys d e (omega (arith, h)) (omega (arith, k)))

pub joined_next : (n : ℕ) (xs ys now new : List Basic) (d e j : Basic) → n < length xs → length xs ≡ length ys → now ≡ joined_first n xs ys → j ≡ join_of (get_or now n d) (get_or ys n e) → new ≡ slice_set now n j → new ≡ joined_first (n + 1) xs ys
joined_next n xs ys now new d e j below size is joined put =
    let next : suc n ≡ n + 1 = omega arith in
    put ∙ ap (slice_set now n) joined
    ∙ (λ i. slice_set (is i) n (join_of (get_or (is i) n d) (get_or ys n e)))
    ∙ joined_suc n xs ys d e below (omega (arith, below, size)) ∙ ap (λ k. joined_first k xs ys) next

pub joined_all_of : (n : ℕ) (xs ys : List Basic) → length xs ≤ n → length xs ≡ length ys → joined_first n xs ys ≡ joined_each xs ys
joined_all_of zero [] ys h e = refl
joined_all_of (suc n) [] ys h e = refl
joined_all_of zero (x ∷ xs) ys h e = absurd (omega (arith, h))
joined_all_of (suc n) (x ∷ xs) [] h e = refl
joined_all_of (suc n) (x ∷ xs) (y ∷ ys) h e = ap (λ zs. join_of x y ∷ zs) (joined_all_of n xs ys (omega (arith, h)) (omega (arith, e)))

joined_length : (xs ys : List Basic) → length (joined_each xs ys) ≡ length xs
joined_length [] ys = refl
joined_length (x ∷ xs) [] = refl
joined_length (x ∷ xs) (y ∷ ys) = ap suc (joined_length xs ys)

drop_joined : (n : ℕ) (xs ys : List Basic) → length xs ≡ length ys → drop n (joined_each xs ys) ≡ joined_each (drop n xs) (drop n ys)
drop_joined zero xs ys e = refl
drop_joined (suc n) [] [] e = refl
drop_joined (suc n) [] (y ∷ ys) e = absurd (omega (arith, e))
drop_joined (suc n) (x ∷ xs) [] e = absurd (omega (arith, e))
drop_joined (suc n) (x ∷ xs) (y ∷ ys) e = drop_joined n xs ys (omega (arith, e))

take_joined : (n : ℕ) (xs ys : List Basic) → length xs ≡ length ys → take n (joined_each xs ys) ≡ joined_each (take n xs) (take n ys)
take_joined zero xs ys e = refl
take_joined (suc n) [] [] e = refl
take_joined (suc n) [] (y ∷ ys) e = absurd (omega (arith, e))
take_joined (suc n) (x ∷ xs) [] e = absurd (omega (arith, e))
take_joined (suc n) (x ∷ xs) (y ∷ ys) e = ap (λ zs. join_of x y ∷ zs) (take_joined n xs ys (omega (arith, e)))

half_joined : (b : Bool) (xs ys : List Basic) → length xs ≡ length ys → half_table b (joined_each xs ys) ≡ joined_each (half_table b xs) (half_table b ys)
half_joined true xs ys e = ap (λ n. drop (n / 2) (joined_each xs ys)) (joined_length xs ys) ∙ drop_joined (length xs / 2) xs ys e ∙ ap (λ n. joined_each (drop (length xs / 2) xs) (drop (n / 2) ys)) e
half_joined false xs ys e = ap (λ n. take (n / 2) (joined_each xs ys)) (joined_length xs ys) ∙ take_joined (length xs / 2) xs ys e ∙ ap (λ n. joined_each (take (length xs / 2) xs) (take (n / 2) ys)) e

-- what tables say together along some steps
along_joined : (steps : List Step) (rel : List PathData) (xs ys : List Basic) (H : Held) → length xs ≡ length ys → entry_along steps rel (joined_each xs ys) H ≡ join_of (entry_along steps rel xs H) (entry_along steps rel ys H)
along_joined [] rel [] [] H e = refl
along_joined [] rel [] (y ∷ ys) H e = absurd (omega (arith, e))
along_joined [] rel (x ∷ xs) [] H e = absurd (omega (arith, e))
along_joined [] rel (x ∷ xs) (y ∷ ys) H e = refl
along_joined (Both ∷ steps) [] xs ys H e = refl
along_joined (Both ∷ steps) (p ∷ ps) xs ys H e = ap (λ t. entry_along steps ps t H) (half_joined (H p) xs ys e) ∙ along_joined steps ps (half_table (H p) xs) (half_table (H p) ys) H (half_lengths (H p) xs ys e)
along_joined (First ∷ steps) [] xs ys H e = refl
along_joined (First ∷ steps) (p ∷ ps) xs ys H e = along_joined steps ps xs ys H e
along_joined (Second ∷ steps) rel xs ys H e = ap (λ t. entry_along steps rel t H) (half_joined false xs ys e) ∙ along_joined steps rel (half_table false xs) (half_table false ys) H (half_lengths false xs ys e)

-- One method more.

-- three basics, where the last two change places
join_turned : (a b c : Basic) → join_of (join_of a b) c ≡ join_of (join_of a c) b
join_turned a b c = both_below _ _ (part a b c) (part a c b)
  where
    part : (a b c : Basic) → below_of (join_of (join_of a b) c) (join_of (join_of a c) b) ≡ true
    part a b c = join_least _ _ _
        (join_least _ _ _ (below_chain _ _ _ (join_first a c) (join_first (join_of a c) b)) (join_second (join_of a c) b))
        (below_chain _ _ _ (join_second a c) (join_first (join_of a c) b))

module _ (rel : List PathData) where
  -- in a later group than the first
  later_joined : (g : Group) (others new : List Group) (b : Basic) (H : Held) → said_in_groups rel new H ≡ join_of (said_in_groups rel others H) b
      → said_in_groups rel (g ∷ new) H ≡ join_of (said_in_groups rel (g ∷ others) H) b
  later_joined g others new b H joined =
      ap (join_of (entry_along g.steps.items rel g.table H)) joined ∙ sym (join_assoc (entry_along g.steps.items rel g.table H) (said_in_groups rel others H) b)

  -- in the group at a place
  group_joined : (gs : List Group) (at : ℕ) (g new : Group) (its : List Basic) → slice_get gs at ≡ Some g → length g.table ≡ length its → new.steps.items ≡ g.steps.items → new.table ≡ joined_each g.table its
      → (H : Held) → said_in_groups rel (slice_set gs at new) H ≡ join_of (said_in_groups rel gs H) (entry_along g.steps.items rel its H)
  group_joined [] at g new its is size steps put H = absurd (let f : slice_get [] at ≡ Some g = is in cc)
  group_joined (x ∷ gs) zero g new its is size steps put H =
      let same : x ≡ g = same_Some x g is in
      (λ i. join_of (entry_along (steps i) rel (put i) H) (said_in_groups rel gs H))
      ∙ ap (λ b. join_of b (said_in_groups rel gs H)) (along_joined g.steps.items rel g.table its H size)
      ∙ join_turned (entry_along g.steps.items rel g.table H) (entry_along g.steps.items rel its H) (said_in_groups rel gs H)
      ∙ ap (λ (y : Group). join_of (join_of (entry_along y.steps.items rel y.table H) (said_in_groups rel gs H)) (entry_along g.steps.items rel its H)) (sym same)
  group_joined (x ∷ gs) (suc at) g new its is size steps put H = later_joined x gs (slice_set gs at new) (entry_along g.steps.items rel its H) H (group_joined gs at g new its is size steps put H)

  pub group_put : (gs : List Group) (at : ℕ) (g new : Group) (its : List Basic) → slice_get gs at ≡ Some g → length g.table ≡ length its → new.steps.items ≡ g.steps.items → new.table ≡ joined_each g.table its
      → (H : Held) → IfSome (slice_get gs at) (λ x. said_in_groups rel (slice_set gs at new) H ≡ join_of (said_in_groups rel gs H) (entry_along x.steps.items rel its H))
  group_put gs at g new its is size steps put H =
      subst (λ o. IfSome o (λ (x : Group). said_in_groups rel (slice_set gs at new) H ≡ join_of (said_in_groups rel gs H) (entry_along x.steps.items rel its H))) (sym is) (group_joined gs at g new its is size steps put H)

  -- in the one with its steps
  pub alike_joined : (gs new : List Group) (at : ℕ) (steps : List Step) (its : List Basic) (count : ℕ) → at < length gs → IfSome (slice_get gs at) (IsAlike steps count)
      → ((H : Held) → IfSome (slice_get gs at) (λ g. said_in_groups rel new H ≡ join_of (said_in_groups rel gs H) (entry_along g.steps.items rel its H)))
      → (H : Held) → said_in_groups rel new H ≡ join_of (said_in_groups rel gs H) (entry_along steps rel its H)
  alike_joined gs new at steps its count below same joined H = by (slice_get gs at) refl same (joined H)
    where
      none_past : (xs : List Group) (k : ℕ) → k < length xs → slice_get xs k ≡ None → ⊥
      none_past [] k below is = absurd (omega (arith, below))
      none_past (x ∷ xs) zero below is = none-some x (sym is)
      none_past (x ∷ xs) (suc k) below is = none_past xs k (omega (arith, below)) is

      by : (o : Option Group) → slice_get gs at ≡ o → IfSome o (IsAlike steps count) → IfSome o (λ g. said_in_groups rel new H ≡ join_of (said_in_groups rel gs H) (entry_along g.steps.items rel its H))
          → said_in_groups rel new H ≡ join_of (said_in_groups rel gs H) (entry_along steps rel its H)
      by None is same joined = absurd (none_past gs at below is)
      by (Some g) is same joined = joined ∙ ap (λ ss. join_of (said_in_groups rel gs H) (entry_along ss rel its H)) same.0

  -- or in one of its own
  pub group_more : (gs : List Group) (g : Group) (H : Held) → said_in_groups rel (gs ++ g ∷ []) H ≡ join_of (said_in_groups rel gs H) (entry_along g.steps.items rel g.table H)
  group_more [] g H = join_const (entry_along g.steps.items rel g.table H) ∙ sym (const_joined (entry_along g.steps.items rel g.table H))
  group_more (x ∷ gs) g H = later_joined x gs (gs ++ g ∷ []) (entry_along g.steps.items rel g.table H) H (group_more gs g H)

-- Tables of some paths in tables of others.

-- each half of a table, and what it says, with a basic joined everywhere
pub half_map : (b : Bool) (f : Basic → Basic) (table : List Basic) → half_table b (map f table) ≡ map f (half_table b table)
half_map true f table = ap (λ n. drop (n / 2) (map f table)) (length-map table f) ∙ drop-map f (length table / 2) table
half_map false f table = ap (λ n. take (n / 2) (map f table)) (length-map table f) ∙ take-map f (length table / 2) table

entry_map : (rel : List PathData) (b : Basic) (table : List Basic) (H : Held) → length table ≡ count_of_parts rel → table_entry rel (map (λ x. join_of x b) table) H ≡ join_of (table_entry rel table H) b
entry_map [] b [] H e = absurd (omega (arith, e))
entry_map [] b (x ∷ xs) H e = refl
entry_map (p ∷ ps) b table H e =
    ap (λ t. table_entry ps t H) (half_map (H p) (λ x. join_of x b) table) ∙ entry_map ps b (half_table (H p) table) H (half_sizes p ps table (H p) e)

-- where no step is left, a basic is joined everywhere
pub joined_everywhere : (steps : List Step) (rel : List PathData) (into new from : List Basic) (b : Basic) → length steps ≡ 0 → b ≡ first_entry from → length into ≡ count_of_parts rel → new ≡ map (λ x. join_of x b) into
    → (H : Held) → table_entry rel new H ≡ join_of (table_entry rel into H) (entry_along steps rel from H)
joined_everywhere [] rel into new from b none is size put H =
    ap (λ t. table_entry rel t H) put ∙ entry_map rel b into H size ∙ ap (join_of (table_entry rel into H)) is
joined_everywhere (s ∷ steps) rel into new from b none is size put H = absurd (omega (arith, none))
