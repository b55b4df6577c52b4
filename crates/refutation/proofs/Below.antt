-- Each line of a certificate is at most what any closed assignment says, so no assignment is admissible.
use Rattle.std.proofs.Common.{◌≡◌, ℕ, zero, suc, ◌-◌, ◌<◌, true, false, List, [], ◌∷◌, length, Some, None, refl, sym, subst, ◌==◌, ◌&&◌, arith}
use Rattle.std.specs.Prelude.{Option, slice_get, take}
use Rattle.std.specs.List.{list_all}
use Rattle.std.proofs.lemmas.Bool.{eqb-true, not-true, both_ways}
use Rattle.paths.specs.Paths.{PathData}
use Rattle.algebra.specs.HeldPaths.{Held, has_path}
use Rattle.core_program.specs.Core.{Program, Method}
use Rattle.rules.specs.Near.{MethodPaths, AreRelevant, rel_of}
use Rattle.rules.specs.Effect.{Assignment}
use Rattle.rules.specs.Rules.{IsSubset, AtMost, IsAntitone, held_in, IsClosed, IsAdmissible, IsAccepted}
use Rattle.rules.proofs.BasicLemmas.{below_chain}
use Rattle.rules.proofs.SetLemmas.{first, second, all_has}
use Rattle.rules.proofs.EffectRises.{stmt_rises}
use Rattle.rules.proofs.UniqueSets.{unique_sets}
use Rattle.refutation.specs.Lines.{LineData, covers, line_at, floor, body_effect, certified_up}
use Rattle.refutation.specs.Certificates.{are_placed, is_placed, AreCertificateLines, IsCertificate, breaks, keeps_bound, bound_of}
use Rattle.refutation.proofs.Sets.{below_const, join_least, choice_low, covers_part}
use Rattle.refutation.proofs.Over.{over_least}

-- what stands at a place of the first k lines stands there in all of them
pub take_get : {A : Type 0} (xs : List A) (k j : ℕ) (x : A) → slice_get (take k xs) j ≡ Some x → (j < k) × (slice_get xs j ≡ Some x)
take_get [] zero j x e = absurd (let f : slice_get [] j ≡ Some x = e in cc)
take_get [] (suc k) j x e = absurd (let f : slice_get [] j ≡ Some x = e in cc)
take_get (y ∷ ys) zero j x e = absurd (let f : slice_get [] j ≡ Some x = e in cc)
take_get (y ∷ ys) (suc k) zero x e = (omega arith, e)
take_get (y ∷ ys) (suc k) (suc j) x e = let r = take_get ys k j x e in (omega (arith, r.0), r.1)

-- a line with its place: its method is there, its paths are relevant and have the required ones
pub record Placed (P : Program) (rel : ℕ → List PathData) (l : LineData) : Type 0 where
  pub method : Method
  pub is : slice_get P.methods l.method ≡ Some method
  pub relevant : IsSubset (has_path l.held) (has_path (rel l.method))
  pub required : IsSubset (has_path method.requires_) (has_path l.held)

pub placed_is : (P : Program) (rel : ℕ → List PathData) (l : LineData) → is_placed P rel l ≡ true → Placed P rel l
placed_is P rel l e = by (slice_get P.methods l.method) refl e
  where
    by : (o : Option Method) → slice_get P.methods l.method ≡ o → are_placed o (rel l.method) l.held ≡ true → Placed P rel l
    by None is e = absurd (let f : false ≡ true = e in cc)
    by (Some method) is e = record {
      method = method;
      is = is;
      relevant = all_has l.held (has_path (rel l.method)) (first (list_all (has_path (rel l.method)) l.held) (list_all (has_path l.held) method.requires_) e);
      required = all_has method.requires_ (has_path l.held) (second (list_all (has_path (rel l.method)) l.held) (list_all (has_path l.held) method.requires_) e);
    }

module _ (P : Program) (rel : ℕ → List PathData) (A : Assignment) (falling : IsAntitone rel A) where
  -- a line that is at most what the assignment says
  pub record IsLow (l : LineData) : Type 0 where
    pub relevant : IsSubset (has_path l.held) (has_path (rel l.method))
    pub low : AtMost l.found (A l.method (has_path l.held))

  low_at : (l : LineData) → IsLow l → (H : Held) → IsSubset H (has_path (rel l.method)) → covers l.held (rel l.method) H ≡ true → AtMost l.found (A l.method H)
  low_at l low H part c = below_chain _ _ _ low.low (falling l.method H (has_path l.held) low.relevant (λ q h. covers_part l.held (rel l.method) H c q h (part q h)))

  line_low : (l : LineData) → IsLow l → (m : ℕ) (H : Held) → IsSubset H (has_path (rel m)) → AtMost (line_at rel l m H) (A m H)
  line_low l low m H part = choice_low ((l.method == m) && covers l.held (rel m) H) l.found (A m H) (λ e.
      let is = eqb-true l.method m (first (l.method == m) (covers l.held (rel m) H) e) in
      subst (λ n. IsSubset H (has_path (rel n)) → covers l.held (rel n) H ≡ true → AtMost l.found (A n H)) is (low_at l low H) part (second (l.method == m) (covers l.held (rel m) H) e))

  floor_low : (ls : List LineData) → ((k : ℕ) (l : LineData) → slice_get ls k ≡ Some l → IsLow l) → (m : ℕ) (H : Held) → IsSubset H (has_path (rel m)) → AtMost (floor rel ls m H) (A m H)
  floor_low [] low m H part = below_const (A m H)
  floor_low (l ∷ ls) low m H part = join_least _ _ _ (line_low l (low 0 l refl) m H part) (floor_low ls (λ k x e. low (suc k) x e) m H part)

  in_part : (rel : List PathData) (H : Held) → IsSubset (held_in rel H) (has_path rel)
  in_part rel H q e = first (has_path rel q) (H q) e

  -- by low lines a call of a method comes to no more than a closed assignment says
  pub up_low : IsClosed P rel A → (ls : List LineData) → ((k : ℕ) (l : LineData) → slice_get ls k ≡ Some l → IsLow l) → (m : ℕ) (method : Method) → slice_get P.methods m ≡ Some method
      → (H : Held) → IsSubset H (has_path (rel m)) → IsSubset (has_path method.requires_) H → AtMost (certified_up P rel ls m H) (A m H)
  up_low closed ls low m method is H part required =
      let above = floor_low ls low in
      join_least _ _ _
      (subst (λ o. AtMost (body_effect P rel (floor rel ls) o H) (A m H)) (sym is)
      (below_chain _ _ _ (stmt_rises P rel (floor rel ls) A above method.body H) (closed.bodies m method is H part required)))
      (over_least P rel (floor rel ls) m H (A m H) (λ n over. below_chain _ _ _
      (above n (held_in (rel n) H) (in_part (rel n) H))
      (closed.overrides m n method is over H part required)))

  lows : IsClosed P rel A → (lines : List LineData) → AreCertificateLines P rel lines → (n k : ℕ) (l : LineData) → k < n → slice_get lines k ≡ Some l → IsLow l
  lows closed lines each zero k l within e = absurd (omega arith)
  lows closed lines each (suc n) k l within e =
      let at = placed_is P rel l (each.placed k l e) in
      record {
        relevant = at.relevant;
        low = below_chain _ _ _ (each.steps k l e) (up_low closed (take k lines)
            (λ j x ej. let t = take_get lines k j x ej in lows closed lines each n j x (omega (arith, t.0, within)) t.1)
            l.method at.method at.is (has_path l.held) at.relevant at.required);
      }

  -- each line is at most what a closed assignment says
  pub lines_low : IsClosed P rel A → (lines : List LineData) → AreCertificateLines P rel lines → (k : ℕ) (l : LineData) → slice_get lines k ≡ Some l → AtMost l.found (A l.method (has_path l.held))
  lines_low closed lines each k l e = (lows closed lines each (suc k) k l (omega arith) e).low

-- no assignment is admissible where there is a certificate
pub certificate_refuses : (P : Program) (rel : ℕ → List PathData) (lines : List LineData) → IsCertificate P rel lines → (A : Assignment) → IsAdmissible P rel A → ⊥
certificate_refuses P rel lines certificate A admissible = by (slice_get lines (length lines - 1)) refl certificate.broken
  where
    by : (o : Option LineData) → slice_get lines (length lines - 1) ≡ o → breaks P o ≡ true → ⊥
    by None is broken = absurd (let f : false ≡ true = broken in cc)
    by (Some l) is broken =
        let at = placed_is P rel l (certificate.each.placed (length lines - 1) l is) in
        let low = lines_low P rel A admissible.falling admissible.closed lines certificate.each (length lines - 1) l is in
        let required = admissible.falling l.method (has_path at.method.requires_) (has_path l.held) at.relevant at.required in
        let bound = admissible.bounds l.method at.method at.is in
        let keeps : keeps_bound P l.method l.found ≡ true = subst (λ o. AtMost l.found (bound_of o)) (sym at.is) (below_chain _ _ _ low (below_chain _ _ _ required bound)) in
        both_ways (keeps_bound P l.method l.found) (not-true (keeps_bound P l.method l.found) broken) keeps

pub certificate_rejects : (P : Program) (sets : List MethodPaths) (lines : List LineData) → AreRelevant P sets → IsCertificate P (rel_of sets) lines → IsAccepted P → ⊥
certificate_rejects P sets lines relevant certificate accepted =
    certificate_refuses P (rel_of sets) lines certificate accepted.assignment
    (subst (λ s. IsAdmissible P (rel_of s) accepted.assignment) (unique_sets P accepted.sets sets accepted.relevant relevant) accepted.admissible)
