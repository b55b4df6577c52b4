-- What justified lines say of a method, a call of it comes to by them: so a line that is said already follows.
use Rattle.std.proofs.Common.{◌≡◌, ℕ, zero, suc, ◌≤◌, true, ◌&&◌, ◌==◌, List, [], ◌∷◌, take, slice_get, Some, None, refl, sym, ap, subst, arith}
use Rattle.std.specs.Prelude.{Option}
use Rattle.std.proofs.lemmas.Bool.{and_from, eqb-true}
use Rattle.paths.specs.Paths.{PathData}
use Rattle.algebra.specs.declared.basic.Basic.{Basic}
use Rattle.algebra.specs.HeldPaths.{Held, has_path}
use Rattle.core_program.specs.Core.{Program, Method}
use Rattle.rules.specs.Rules.{IsSubset, AtMost, held_in}
use Rattle.rules.proofs.BasicLemmas.{below_chain, below_itself, join_mono}
use Rattle.rules.proofs.SetLemmas.{first, second}
use Rattle.rules.proofs.EffectRises.{stmt_rises}
use Rattle.rules.proofs.Falling.{stmt_falls}
use Rattle.refutation.specs.Lines.{LineData, covers, line_at, floor, body_effect, certified_up}
use Rattle.refutation.specs.Certificates.{is_placed, is_justified, AreCertificateLines}
use Rattle.refutation.specs.Wrongs.{placed_at, justified_at, AllPass, PassBefore}
use Rattle.refutation.proofs.Sets.{below_const, join_least, choice_low, covers_part}
use Rattle.refutation.proofs.Over.{over_least, over_above}
use Rattle.refutation.proofs.Below.{take_get, placed_is}
use Rattle.refutation.proofs.FloorLaws.{floor_falls, floor_part}

-- the first of the first
take_take : {A : Type 0} (xs : List A) (k n : ℕ) → k ≤ n → take k (take n xs) ≡ take k xs
take_take xs zero n le = refl
take_take [] (suc k) zero le = refl
take_take [] (suc k) (suc n) le = refl
take_take (x ∷ xs) (suc k) zero le = absurd (omega (arith, le))
take_take (x ∷ xs) (suc k) (suc n) le = ap (λ ys. x ∷ ys) (take_take xs k n (omega (arith, le)))

module _ (P : Program) (rel : ℕ → List PathData) where
  held_in_part : (paths : List PathData) (H K : Held) → IsSubset H K → IsSubset (held_in paths H) (held_in paths K)
  held_in_part paths H K part q e = and_from (has_path paths q) (K q) (first (has_path paths q) (H q) e) (part q (second (has_path paths q) (H q) e))

  pub body_falls : (ls : List LineData) (o : Option Method) (H K : Held) → IsSubset H K → AtMost (body_effect P rel (floor rel ls) o K) (body_effect P rel (floor rel ls) o H)
  body_falls ls None H K part = refl
  body_falls ls (Some method) H K part = stmt_falls P rel (floor rel ls) (floor_falls rel ls) method.body H K part

  -- more held paths never give more
  up_falls : (ls : List LineData) (m : ℕ) (H K : Held) → IsSubset H K → AtMost (certified_up P rel ls m K) (certified_up P rel ls m H)
  up_falls ls m H K part = join_mono _ _ _ _
      (body_falls ls (slice_get P.methods m) H K part)
      (over_least P rel (floor rel ls) m K _ (λ n over. below_chain _ _ _ (floor_part rel ls n (held_in (rel n) H) (held_in (rel n) K) (held_in_part (rel n) H K part)) (over_above P rel (floor rel ls) m H n over)))

  body_rises : (ls more : List LineData) (o : Option Method) (H : Held) → ((k : ℕ) (K : Held) → AtMost (floor rel ls k K) (floor rel more k K)) → AtMost (body_effect P rel (floor rel ls) o H) (body_effect P rel (floor rel more) o H)
  body_rises ls more None H above = refl
  body_rises ls more (Some method) H above = stmt_rises P rel (floor rel ls) (floor rel more) (λ k K part. above k K) method.body H

  -- lines that say more never give less
  up_rises : (ls more : List LineData) (m : ℕ) (H : Held) → ((k : ℕ) (K : Held) → AtMost (floor rel ls k K) (floor rel more k K)) → AtMost (certified_up P rel ls m H) (certified_up P rel more m H)
  up_rises ls more m H above = join_mono _ _ _ _
      (body_rises ls more (slice_get P.methods m) H above)
      (over_least P rel (floor rel ls) m H _ (λ n over. below_chain _ _ _ (above n (held_in (rel n) H)) (over_above P rel (floor rel more) m H n over)))

  floor_take : (k : ℕ) (ls : List LineData) (m : ℕ) (H : Held) → AtMost (floor rel (take k ls) m H) (floor rel ls m H)
  floor_take zero ls m H = below_const _
  floor_take (suc k) [] m H = refl
  floor_take (suc k) (l ∷ ls) m H = join_mono _ _ _ _ (below_itself (line_at rel l m H)) (floor_take k ls m H)

  floor_least : (ls : List LineData) (m : ℕ) (H : Held) (b : Basic) → ((k : ℕ) (l : LineData) → slice_get ls k ≡ Some l → AtMost (line_at rel l m H) b) → AtMost (floor rel ls m H) b
  floor_least [] m H b each = below_const b
  floor_least (l ∷ ls) m H b each = join_least _ _ _ (each 0 l refl) (floor_least ls m H b (λ k x e. each (suc k) x e))

  -- what justified lines say of a method at relevant paths, a call of it comes to by them
  said_up : (ls : List LineData) → AreCertificateLines P rel ls → (m : ℕ) (H : Held) → IsSubset H (has_path (rel m)) → AtMost (floor rel ls m H) (certified_up P rel ls m H)
  said_up ls each m H part = floor_least ls m H (certified_up P rel ls m H) (λ k l e. choice_low ((l.method == m) && covers l.held (rel m) H) l.found (certified_up P rel ls m H) (λ both.
      let same = eqb-true l.method m (first (l.method == m) (covers l.held (rel m) H) both) in
      subst (λ n. IsSubset H (has_path (rel n)) → covers l.held (rel n) H ≡ true → AtMost l.found (certified_up P rel ls n H)) same (λ inside c.
      below_chain _ _ _ (each.steps k l e)
      (below_chain _ _ _ (up_rises (take k ls) ls l.method (has_path l.held) (floor_take k ls))
      (up_falls ls l.method H (has_path l.held) (λ q h. covers_part l.held (rel l.method) H c q h (inside q h)))))
      part (second (l.method == m) (covers l.held (rel m) H) both)))

  -- a line that is said already follows
  pub known_follows : (ls : List LineData) (l : LineData) → AreCertificateLines P rel ls → is_placed P rel l ≡ true → AtMost l.found (floor rel ls l.method (has_path l.held)) → is_justified P rel ls l ≡ true
  known_follows ls l each placed low = below_chain _ _ _ low (said_up ls each l.method (has_path l.held) (placed_is P rel l placed).relevant)

  -- the lines before a place, which follow
  pub lines_before : (lines : List LineData) (at : ℕ) → AllPass (placed_at P rel) lines → PassBefore (justified_at P rel lines) lines at → AreCertificateLines P rel (take at lines)
  lines_before lines at placed before = record {
    placed = λ k l e. placed k l (take_get lines at k l e).1;
    steps = λ k l e. let there = take_get lines at k l e in
        subst (λ ys. is_justified P rel ys l ≡ true) (sym (take_take lines k at (omega (arith, there.0)))) (before k l there.0 there.1);
  }
