-- What a call may come to: the greatest of the body's effect and what is assigned to the methods that override.
use Rattle.std.proofs.Common.{◌≡◌, ℕ, suc, ◌+◌, ◌<◌, Bool, true, false, ◌&&◌, ◌||◌, ◌==◌, List, [], ◌∷◌, length, drop, get_or, refl, sym, ap, subst, ◌∙◌, arith, inl, inr}
use Rattle.std.specs.Prelude.{Contains, if◌then◌else◌}
use Rattle.std.proofs.Math.Seq.{drop-cons}
use Rattle.base.proofs.Lists.{contains_cases, contains_later}
use Rattle.paths.specs.Paths.{PathData}
use Rattle.algebra.specs.declared.basic.Basic.{Basic}
use Rattle.algebra.specs.Basics.{below_of, join_of}
use Rattle.algebra.specs.HeldPaths.{Held, has_path}
use Rattle.algebra.specs.Values.{Keeps}
use Rattle.core_program.specs.Core.{Program, Method}
use Rattle.rules.specs.Effect.{Assignment, effect}
use Rattle.rules.specs.Rules.{IsSubset, AtMost, IsAntitone, held_in}
use Rattle.rules.proofs.BasicLemmas.{every, each, below_itself, below_chain, join_mono}
use Rattle.rules.proofs.SetLemmas.{first}
use Rattle.rules.proofs.Falling.{stmt_falls}
use Rattle.rules.proofs.EffectRises.{stmt_rises}
use Rattle.fixpoint.proofs.NoteLemmas.{contains_none}
use Rattle.rules.specs.Called.{stmt_calls, has_method}
use Rattle.infer.specs.Cells.{greatest_of, inferred_effect}
use Rattle.effects.proofs.Values.{keeps_both, keeps_itself}
use Rattle.rules.proofs.CallsSame.{first_false, second_false, stmt_same}

-- Joins.

join_first : (a b : Basic) → AtMost a (join_of a b)
join_first a b = each (λ b. below_of a (join_of a b)) (each (λ a. every (λ b. below_of a (join_of a b))) refl a) b

join_second : (a b : Basic) → AtMost b (join_of a b)
join_second a b = each (λ b. below_of b (join_of a b)) (each (λ a. every (λ b. below_of b (join_of a b))) refl a) b

join_least : (a b c : Basic) → AtMost a c → AtMost b c → AtMost (join_of a b) c
join_least a b c low high = chosen_at (below_of a b)
  where
    chosen_at : (t : Bool) → AtMost (if t then b else a) c
    chosen_at true = high
    chosen_at false = low

-- The held paths that are relevant.

pub held_part : (rel : List PathData) (H : Held) → IsSubset (held_in rel H) (has_path rel)
held_part rel H q e = first (has_path rel q) (H q) e

pub held_more : (rel : List PathData) (H K : Held) → IsSubset H K → IsSubset (held_in rel H) (held_in rel K)
held_more rel H K part q e = both_held (has_path rel q) (H q) (K q) (part q) e
  where
    both_held : (r h k : Bool) → (h ≡ true → k ≡ true) → (r && h) ≡ true → (r && k) ≡ true
    both_held true h k more e = more e
    both_held false h k more e = e

-- Of the greatest of a basic and of what is assigned to some methods.

module _ (rel : ℕ → List PathData) where
  -- it is above the basic
  pub greatest_first : (A : Assignment) (b : Basic) (ns : List ℕ) (H : Held) → AtMost b (greatest_of rel A b ns H)
  greatest_first A b [] H = below_itself b
  greatest_first A b (n ∷ ns) H = below_chain b (join_of b (A n (held_in (rel n) H))) (greatest_of rel A b (n ∷ ns) H) (join_first b (A n (held_in (rel n) H))) (greatest_first A (join_of b (A n (held_in (rel n) H))) ns H)

  -- and above what is assigned to each
  pub greatest_of_each : (A : Assignment) (b : Basic) (ns : List ℕ) (n : ℕ) (H : Held) → Contains ns n → AtMost (A n (held_in (rel n) H)) (greatest_of rel A b ns H)
  greatest_of_each A b [] n H has = absurd (contains_none n has)
  greatest_of_each A b (k ∷ ns) n H has = elim (contains_cases k n ns has) as (λ _. AtMost (A n (held_in (rel n) H)) (greatest_of rel A b (k ∷ ns) H)) [
    | inl same ↦ subst (λ m. AtMost (A m (held_in (rel m) H)) (greatest_of rel A b (k ∷ ns) H)) same
        (below_chain (A k (held_in (rel k) H)) (join_of b (A k (held_in (rel k) H))) (greatest_of rel A b (k ∷ ns) H)
        (join_second b (A k (held_in (rel k) H))) (greatest_first A (join_of b (A k (held_in (rel k) H))) ns H))
    | inr later ↦ greatest_of_each A (join_of b (A k (held_in (rel k) H))) ns n H later
  ]

  -- and it is the least such
  pub greatest_least : (A : Assignment) (b c : Basic) (ns : List ℕ) (H : Held) → AtMost b c → ((n : ℕ) → Contains ns n → AtMost (A n (held_in (rel n) H)) c) → AtMost (greatest_of rel A b ns H) c
  greatest_least A b c [] H low each_low = low
  greatest_least A b c (n ∷ ns) H low each_low =
      greatest_least A (join_of b (A n (held_in (rel n) H))) c ns H
      (join_least b (A n (held_in (rel n) H)) c low (each_low n (0, omega arith, refl))) (λ k has. each_low k (contains_later n k ns has))

  greatest_falls : (A : Assignment) → IsAntitone rel A → (a b : Basic) (ns : List ℕ) (H K : Held) → IsSubset H K → AtMost a b → AtMost (greatest_of rel A a ns K) (greatest_of rel A b ns H)
  greatest_falls A falling a b [] H K part low = low
  greatest_falls A falling a b (n ∷ ns) H K part low =
      greatest_falls A falling (join_of a (A n (held_in (rel n) K))) (join_of b (A n (held_in (rel n) H))) ns H K part
      (join_mono a b (A n (held_in (rel n) K)) (A n (held_in (rel n) H)) low (falling n (held_in (rel n) H) (held_in (rel n) K) (held_part (rel n) K) (held_more (rel n) H K part)))

  greatest_rises : (A B : Assignment) → ((m : ℕ) (H : Held) → IsSubset H (has_path (rel m)) → AtMost (A m H) (B m H)) → (a b : Basic) (ns : List ℕ) (H : Held) → AtMost a b → AtMost (greatest_of rel A a ns H) (greatest_of rel B b ns H)
  greatest_rises A B above a b [] H low = low
  greatest_rises A B above a b (n ∷ ns) H low =
      greatest_rises A B above (join_of a (A n (held_in (rel n) H))) (join_of b (B n (held_in (rel n) H))) ns H
      (join_mono a b (A n (held_in (rel n) H)) (B n (held_in (rel n) H)) low (above n (held_in (rel n) H) (held_part (rel n) H)))

  greatest_same : (A B : Assignment) (m : ℕ) → ((n : ℕ) → (n == m) ≡ false → (H : Held) → A n H ≡ B n H) → (a b : Basic) (ns : List ℕ) (H : Held) → has_method ns m ≡ false → a ≡ b → greatest_of rel A a ns H ≡ greatest_of rel B b ns H
  greatest_same A B m same a b [] H quiet e = e
  greatest_same A B m same a b (n ∷ ns) H quiet e =
      let other = same n (first_false (n == m) (has_method ns m) quiet) (held_in (rel n) H) in
      greatest_same A B m same (join_of a (A n (held_in (rel n) H))) (join_of b (B n (held_in (rel n) H))) ns H (second_false (n == m) (has_method ns m) quiet) (λ i. join_of (e i) (other i))

-- Of what a call may come to.

module _ (P : Program) (rel : ℕ → List PathData) (overs : List ℕ) (method : Method) where
  pub run_falls : (A : Assignment) → IsAntitone rel A → (H K : Held) → IsSubset H K → AtMost (inferred_effect P rel A overs method K) (inferred_effect P rel A overs method H)
  run_falls A falling H K part =
      greatest_falls rel A falling (effect P rel A method.body K) (effect P rel A method.body H) overs H K part (stmt_falls P rel A falling method.body H K part)

  pub run_rises : (A B : Assignment) → ((m : ℕ) (H : Held) → IsSubset H (has_path (rel m)) → AtMost (A m H) (B m H)) → (H : Held) → AtMost (inferred_effect P rel A overs method H) (inferred_effect P rel B overs method H)
  run_rises A B above H = greatest_rises rel A B above (effect P rel A method.body H) (effect P rel B method.body H) overs H (stmt_rises P rel A B above method.body H)

  -- where two assignments differ at one method alone, which the body doesn't call and which doesn't override
  pub run_same : (A B : Assignment) (m : ℕ) → ((n : ℕ) → (n == m) ≡ false → (H : Held) → A n H ≡ B n H) → (stmt_calls (λ n. n == m) method.body || has_method overs m) ≡ false → (H : Held)
      → inferred_effect P rel A overs method H ≡ inferred_effect P rel B overs method H
  run_same A B m same quiet H =
      greatest_same rel A B m same (effect P rel A method.body H) (effect P rel B method.body H) overs H (second_false (stmt_calls (λ n. n == m) method.body) (has_method overs m) quiet)
      (stmt_same P rel A B (λ n. n == m) same method.body H (first_false (stmt_calls (λ n. n == m) method.body) (has_method overs m) quiet))

-- One table after the other is joined to a value, of each what it says of the paths that are known here.

-- the value so far is known, and with what is assigned to the rest it is the value with all
pub record IsJoined {S V : Type 0} (k : S → V → Type 0) (v : S → V → Held → Basic) (rel : ℕ → List PathData) (A : Assignment) (here : List PathData) (old : S) (value : V) (all : List ℕ) (now : S) (so_far : V) (rest : List ℕ) : Type 0 where
  pub known : k now so_far
  pub same : (H : Held) → greatest_of rel A (v now so_far H) rest (held_in here H) ≡ greatest_of rel A (v old value H) all (held_in here H)
  pub keeps : Keeps k v old now

module _ {S V : Type 0} (k : S → V → Type 0) (v : S → V → Held → Basic) (rel : ℕ → List PathData) (A : Assignment) (here : List PathData) (old : S) (value : V) (all : List ℕ) where
  pub joined_none : k old value → IsJoined k v rel A here old value all old value all
  joined_none known = record { known = known; same = λ H. refl; keeps = keeps_itself k v old }

  pub joined_more : (now mid new : S) (so_far own next : V) (n : ℕ) (rest : List ℕ) → IsJoined k v rel A here old value all now so_far (n ∷ rest)
      → Keeps k v now mid → ((H : Held) → v mid own H ≡ A n (held_in (rel n) (held_in here H))) → Keeps k v mid new → k new next → ((H : Held) → v new next H ≡ join_of (v mid so_far H) (v mid own H))
      → IsJoined k v rel A here old value all new next rest
  joined_more now mid new so_far own next n rest joined keeps_own own_is keeps_next known next_is = record {
    known = known;
    same = λ H.
        let front = next_is H ∙ (let one = keeps_own.same so_far joined.known H in let two = own_is H in λ i. join_of (one i) (two i)) in
        ap (λ b. greatest_of rel A b rest (held_in here H)) front ∙ joined.same H;
    keeps = keeps_both k v old mid new (keeps_both k v old now mid joined.keeps keeps_own) keeps_next;
  }

-- the method at a place, and those behind it
pub next_of : (ns : List ℕ) (i n : ℕ) → i < length ns → n ≡ get_or ns i n → drop i ns ≡ n ∷ drop (i + 1) ns
next_of ns i n below is = drop-cons ns i n below ∙ (let one : suc i ≡ i + 1 = omega arith in λ j. (sym is) j ∷ drop (one j) ns)
