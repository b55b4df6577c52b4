-- Floors: they fall with more held paths, one more line never lowers them, and lines one after the other.
use Rattle.std.proofs.Common.{◌≡◌, ℕ, zero, suc, Bool, true, false, List, [], ◌∷◌, ◌++◌, Some, refl, sym, ap, subst, ◌==◌, ◌&&◌, ◌⊎◌, inl, inr}
use Rattle.std.specs.Prelude.{slice_get, take, if◌then◌else◌}
use Rattle.std.specs.List.{AllByRecursion}
use Rattle.std.proofs.lemmas.Bool.{and_from, eqb-true, eq-eqb, cond-true}
use Rattle.std.proofs.lemmas.Option.{same_Some}
use Rattle.paths.specs.Paths.{PathData}
use Rattle.algebra.specs.declared.basic.Basic.{Basic}
use Rattle.algebra.specs.declared.basic.Basic.TheVariants.{Const}
use Rattle.algebra.specs.HeldPaths.{Held, has_path}
use Rattle.core_program.specs.Core.{Program}
use Rattle.rules.specs.Rules.{IsSubset, AtMost, IsAntitone, held_in}
use Rattle.rules.proofs.BasicLemmas.{below_itself, below_chain, join_mono}
use Rattle.rules.proofs.SetLemmas.{first, second}
use Rattle.refutation.specs.Lines.{LineData, covers, line_at, floor, joined_over}
use Rattle.refutation.specs.Certificates.{is_placed, is_justified, AreCertificateLines, keeps_bound, bound_of}
use Rattle.refutation.proofs.Sets.{below_const, join_least, join_first, join_second, choice_low, covers_part, part_covers}

pub choice_falls : (t u : Bool) (a : Basic) → (t ≡ true → u ≡ true) → AtMost (if t then a else Const) (if u then a else Const)
choice_falls true true a h = below_itself a
choice_falls true false a h = absurd (let e : false ≡ true = h refl in cc)
choice_falls false u a h = below_const (if u then a else Const)

-- each line keeps the bound of its method
abbrev pub AreWithin : Program → List LineData → Type 0
AreWithin P ls = AllByRecursion (λ l. keeps_bound P l.method l.found ≡ true) ls

module _ (rel : ℕ → List PathData) where
  line_falls : (l : LineData) (m : ℕ) (H K : Held) → IsSubset H K → AtMost (line_at rel l m K) (line_at rel l m H)
  line_falls l m H K part = choice_falls ((l.method == m) && covers l.held (rel m) K) ((l.method == m) && covers l.held (rel m) H) l.found (λ e.
      and_from (l.method == m) (covers l.held (rel m) H) (first (l.method == m) (covers l.held (rel m) K) e)
      (part_covers l.held (rel m) H (λ q h r. covers_part l.held (rel m) K (second (l.method == m) (covers l.held (rel m) K) e) q (part q h) r)))

  pub floor_part : (ls : List LineData) (m : ℕ) (H K : Held) → IsSubset H K → AtMost (floor rel ls m K) (floor rel ls m H)
  floor_part [] m H K part = refl
  floor_part (l ∷ ls) m H K part = join_mono _ _ _ _ (line_falls l m H K part) (floor_part ls m H K part)

  pub floor_falls : (ls : List LineData) → IsAntitone rel (floor rel ls)
  floor_falls ls m H K inside part = floor_part ls m H K part

  -- so does what is said of several methods
  pub over_falls : (ls : List LineData) (H : Held) (ns : List ℕ) → AtMost (joined_over rel (floor rel ls) ns H) (joined_over rel (floor rel ls) ns (has_path []))
  over_falls ls H [] = refl
  over_falls ls H (n ∷ ns) = join_mono _ _ _ _
      (floor_part ls n (held_in (rel n) (has_path [])) (held_in (rel n) H) (λ q has. absurd (let e : false ≡ true = second (has_path (rel n) q) false has in cc)))
      (over_falls ls H ns)

  -- one more line never lowers the floor
  pub floor_more : (ls : List LineData) (l : LineData) (m : ℕ) (H : Held) → AtMost (floor rel ls m H) (floor rel (ls ++ l ∷ []) m H)
  floor_more [] l m H = below_const _
  floor_more (x ∷ xs) l m H = join_mono _ _ _ _ (below_itself (line_at rel x m H)) (floor_more xs l m H)

  -- and what it says is in the floor
  pub floor_has : (ls : List LineData) (l : LineData) (m : ℕ) (H : Held) → AtMost (line_at rel l m H) (floor rel (ls ++ l ∷ []) m H)
  floor_has [] l m H = join_first (line_at rel l m H) Const
  floor_has (x ∷ xs) l m H = below_chain _ _ _ (floor_has xs l m H) (join_second _ _)

  -- and nothing else is new
  pub floor_both : (ls : List LineData) (l : LineData) (m : ℕ) (H : Held) (b : Basic) → AtMost (floor rel ls m H) b → AtMost (line_at rel l m H) b → AtMost (floor rel (ls ++ l ∷ []) m H) b
  floor_both [] l m H b low line = join_least (line_at rel l m H) Const b line (below_const b)
  floor_both (x ∷ xs) l m H b low line = join_least _ _ b (below_chain _ _ _ (join_first (line_at rel x m H) (floor rel xs m H)) low) (floor_both xs l m H b (below_chain _ _ _ (join_second (line_at rel x m H) (floor rel xs m H)) low) line)

  -- at its own paths a line says its basic
  pub line_itself : (l : LineData) → line_at rel l l.method (has_path l.held) ≡ l.found
  line_itself l = cond-true ((l.method == l.method) && covers l.held (rel l.method) (has_path l.held)) l.found Const
      (and_from (l.method == l.method) (covers l.held (rel l.method) (has_path l.held)) (eq-eqb l.method l.method refl) (part_covers l.held (rel l.method) (has_path l.held) (λ q h r. h)))

  -- the floor of lines that keep their bounds keeps them
  pub floor_within : (P : Program) (ls : List LineData) → AreWithin P ls → (m : ℕ) (H : Held) → keeps_bound P m (floor rel ls m H) ≡ true
  floor_within P [] within m H = below_const (bound_of (slice_get P.methods m))
  floor_within P (l ∷ ls) within m H = join_least _ _ _
      (choice_low ((l.method == m) && covers l.held (rel m) H) l.found (bound_of (slice_get P.methods m)) (λ e.
      subst (λ n. keeps_bound P n l.found ≡ true) (eqb-true l.method m (first (l.method == m) (covers l.held (rel m) H) e)) within.0))
      (floor_within P ls within.1 m H)

-- what stands at a place of a list with one more at its end
pub get_more : {A : Type 0} (xs : List A) (y : A) (k : ℕ) (x : A) → slice_get (xs ++ y ∷ []) k ≡ Some x
    → ((slice_get xs k ≡ Some x) × (take k (xs ++ y ∷ []) ≡ take k xs)) ⊎ ((y ≡ x) × (take k (xs ++ y ∷ []) ≡ xs))
get_more [] y zero x e = inr (same_Some y x e, refl)
get_more [] y (suc k) x e = absurd (let f : slice_get [] k ≡ Some x = e in cc)
get_more (z ∷ xs) y zero x e = inl (e, refl)
get_more (z ∷ xs) y (suc k) x e = elim (get_more xs y k x e) [
  | inl h ↦ inl (h.0, ap (λ ws. z ∷ ws) h.1)
  | inr h ↦ inr (h.0, ap (λ ws. z ∷ ws) h.1)
]

-- one more line that has its place and follows
pub lines_more : (P : Program) (rel : ℕ → List PathData) (ls : List LineData) (l : LineData) → AreCertificateLines P rel ls → is_placed P rel l ≡ true → is_justified P rel ls l ≡ true → AreCertificateLines P rel (ls ++ l ∷ [])
lines_more P rel ls l each placed justified = record {
  placed = λ k x e. elim (get_more ls l k x e) as (λ _. is_placed P rel x ≡ true) [
    | inl h ↦ each.placed k x h.0
    | inr h ↦ subst (λ y. is_placed P rel y ≡ true) h.0 placed
  ];
  steps = λ k x e. elim (get_more ls l k x e) as (λ _. is_justified P rel (take k (ls ++ l ∷ [])) x ≡ true) [
    | inl h ↦ subst (λ ys. is_justified P rel ys x ≡ true) (sym h.1) (each.steps k x h.0)
    | inr h ↦ subst (λ ys. is_justified P rel ys x ≡ true) (sym h.1) (subst (λ y. is_justified P rel ls y ≡ true) h.0 justified)
  ];
}

pub within_more : (P : Program) (ls : List LineData) (l : LineData) → AreWithin P ls → keeps_bound P l.method l.found ≡ true → AreWithin P (ls ++ l ∷ [])
within_more P [] l within keeps = (keeps, tt)
within_more P (x ∷ xs) l within keeps = (within.0, within_more P xs l within.1 keeps)
