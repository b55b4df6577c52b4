-- Units in order of their threads: where these differ, it makes no difference in which order the units were.
use Rattle.std.proofs.Common.{◌≡◌, ◌≢◌, Bool, true, false, List, [], ◌∷◌, refl, sym, ap, ◌∙◌, arith}
use Rattle.std.specs.Prelude.{nat_le, cond}
use Rattle.std.proofs.lemmas.Bool.{leb-true, leb-false, lt-leb}
use Rattle.semantics.specs.Units.{Entry, commit_place, placed, in_order}
use Rattle.reduction.proofs.Shape.{Each, each_in_order}
use Rattle.reduction.specs.Committing.{unit_thread, placed_by_thread, by_thread}

-- an insertion, by its test
pub put_by : (u v : List Entry) (us : List (List Entry)) (b : Bool) → nat_le (unit_thread u) (unit_thread v) ≡ b → placed_by_thread u (v ∷ us) ≡ cond b (u ∷ v ∷ us) (v ∷ placed_by_thread u us)
put_by u v us b e = ap (λ (x : Bool). cond x (u ∷ v ∷ us) (v ∷ placed_by_thread u us)) e

-- before a list whose first unit is of no lower thread than both, the one of the lower thread comes first
lower_first : (u v : List Entry) → unit_thread u ≢ unit_thread v → (us : List (List Entry)) → placed_by_thread u us ≡ u ∷ us → placed_by_thread v us ≡ v ∷ us → placed_by_thread u (placed_by_thread v us) ≡ placed_by_thread v (placed_by_thread u us)
lower_first u v other us one two = ap (placed_by_thread u) two ∙ by (nat_le (unit_thread u) (unit_thread v)) refl (nat_le (unit_thread v) (unit_thread u)) refl ∙ sym (ap (placed_by_thread v) one)
  where
    by : (b : Bool) → nat_le (unit_thread u) (unit_thread v) ≡ b → (c : Bool) → nat_le (unit_thread v) (unit_thread u) ≡ c → placed_by_thread u (v ∷ us) ≡ placed_by_thread v (u ∷ us)
    by true low true high = absurd (other (let l = leb-true (unit_thread u) (unit_thread v) low in let h = leb-true (unit_thread v) (unit_thread u) high in omega (arith, l, h)))
    by true low false high = put_by u v us true low ∙ ap (λ ws. u ∷ ws) (sym two) ∙ sym (put_by v u us false high)
    by false low true high = put_by u v us false low ∙ ap (λ ws. v ∷ ws) one ∙ sym (put_by v u us true high)
    by false low false high = absurd (let l = leb-false (unit_thread u) (unit_thread v) low in let h = leb-false (unit_thread v) (unit_thread u) high in omega (arith, l, h))

-- two insertions of different threads change places
put_swap : (u v : List Entry) → unit_thread u ≢ unit_thread v → (us : List (List Entry)) → placed_by_thread u (placed_by_thread v us) ≡ placed_by_thread v (placed_by_thread u us)
put_swap u v other [] = lower_first u v other [] refl refl
put_swap u v other (w ∷ us) = by (nat_le (unit_thread u) (unit_thread w)) refl (nat_le (unit_thread v) (unit_thread w)) refl (put_swap u v other us)
  where
    by : (b : Bool) → nat_le (unit_thread u) (unit_thread w) ≡ b → (c : Bool) → nat_le (unit_thread v) (unit_thread w) ≡ c → placed_by_thread u (placed_by_thread v us) ≡ placed_by_thread v (placed_by_thread u us)
        → placed_by_thread u (placed_by_thread v (w ∷ us)) ≡ placed_by_thread v (placed_by_thread u (w ∷ us))
    by true one true two rest = lower_first u v other (w ∷ us) (put_by u w us true one) (put_by v w us true two)
    by true one false two rest =
        let l = leb-true (unit_thread u) (unit_thread w) one in
        let h = leb-false (unit_thread v) (unit_thread w) two in
        ap (placed_by_thread u) (put_by v w us false two) ∙ put_by u w (placed_by_thread v us) true one
        ∙ sym (ap (placed_by_thread v) (put_by u w us true one) ∙ put_by v u (w ∷ us) false (lt-leb (unit_thread v) (unit_thread u) (omega (arith, l, h))) ∙ ap (λ ws. u ∷ ws) (put_by v w us false two))
    by false one true two rest =
        let l = leb-true (unit_thread v) (unit_thread w) two in
        let h = leb-false (unit_thread u) (unit_thread w) one in
        ap (placed_by_thread u) (put_by v w us true two) ∙ put_by u v (w ∷ us) false (lt-leb (unit_thread u) (unit_thread v) (omega (arith, l, h))) ∙ ap (λ ws. v ∷ ws) (put_by u w us false one)
        ∙ sym (ap (placed_by_thread v) (put_by u w us false one) ∙ put_by v w (placed_by_thread u us) true two)
    by false one false two rest =
        ap (placed_by_thread u) (put_by v w us false two) ∙ put_by u w (placed_by_thread v us) false one ∙ ap (λ ws. w ∷ ws) rest
        ∙ sym (ap (placed_by_thread v) (put_by u w us false one) ∙ put_by v w (placed_by_thread u us) false two)

-- units of different threads
abbrev pub AreApart : List (List Entry) → Type 0
AreApart [] = Unit {0}
AreApart (u ∷ us) = Each (λ v. unit_thread u ≢ unit_thread v) us × AreApart us

by_thread_placed : (u : List Entry) (us : List (List Entry)) → Each (λ v. unit_thread u ≢ unit_thread v) us → by_thread (placed u us) ≡ placed_by_thread u (by_thread us)
by_thread_placed u [] apart = refl
by_thread_placed u (v ∷ us) apart = by (nat_le (commit_place u) (commit_place v)) (by_thread_placed u us apart.1)
  where
    by : (b : Bool) → by_thread (placed u us) ≡ placed_by_thread u (by_thread us) → by_thread (cond b (u ∷ v ∷ us) (v ∷ placed u us)) ≡ placed_by_thread u (by_thread (v ∷ us))
    by true rest = refl
    by false rest = ap (placed_by_thread v) rest ∙ sym (put_swap u v apart.0 (by_thread us))

pub by_thread_in_order : (us : List (List Entry)) → AreApart us → by_thread (in_order us) ≡ by_thread us
by_thread_in_order [] apart = refl
by_thread_in_order (u ∷ us) apart = by_thread_placed u (in_order us) (each_in_order (λ v. unit_thread u ≢ unit_thread v) us apart.0) ∙ ap (placed_by_thread u) (by_thread_in_order us apart.1)
