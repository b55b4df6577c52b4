-- What it says that a call takes a lock, and that a lock helps around a whole method.
use Rattle.std.proofs.Common.{◌≡◌, ◌⊎◌, ℕ, Bool, true, false, ◌&&◌, ◌||◌, List, [], ◌∷◌, refl, sym, ap, subst, ◌∙◌, arith, inl, inr}
use Rattle.std.specs.Prelude.{Contains, Option, Some, None, slice_get, if◌then◌else◌}
use Rattle.std.proofs.lemmas.Bool.{and_parts, false≢true}
use Rattle.std.proofs.lemmas.Option.{none-some, same_Some}
use Rattle.base.proofs.Lists.{contains_cases, contains_later}
use Rattle.paths.specs.Paths.{PathData, path_eq}
use Rattle.paths.specs.Renamings.{under_call}
use Rattle.paths.proofs.PathOrder.{eq_is}
use Rattle.algebra.specs.declared.basic.Basic.{Basic}
use Rattle.algebra.specs.declared.basic.Basic.TheVariants.{Const, Mover, Atomic, Cmpd, Error}
use Rattle.algebra.specs.Basics.{below_of}
use Rattle.algebra.specs.HeldPaths.{Held, with_path}
use Rattle.core_program.specs.Core.{Program, Method}
use Rattle.rules.specs.Effect.{Assignment, call_of, held_under}
use Rattle.explain.specs.Helping.{first_path}
use Rattle.explain.specs.Around.{around, lock_around, wrapped}
use Rattle.explain.specs.Takings.{first_taken, if_atomic, is_freed, taken_lock, takes_only, IsLockTaken}

-- ---- a path that is held already changes nothing

with_or : (t h : Bool) → (t ≡ true → h ≡ true) → (t || h) ≡ h
with_or true h is = sym (is refl)
with_or false h is = refl

held_already : (H : Held) (p : PathData) → H p ≡ true → with_path p H ≡ H
held_already H p has = λ i q. with_or (path_eq p q) (H q) (λ same. ap H (sym (eq_is p q same)) ∙ has) i

-- ---- the lock that a call takes

only_atomic : (b : Basic) (o : Option PathData) (p : PathData) → if_atomic b o ≡ Some p → (b ≡ Atomic) × (o ≡ Some p)
only_atomic Const o p e = absurd (none-some p e)
only_atomic Mover o p e = absurd (none-some p e)
only_atomic Atomic o p e = (refl, e)
only_atomic Cmpd o p e = absurd (none-some p e)
only_atomic Error o p e = absurd (none-some p e)

module _ (P : Program) (rel : ℕ → List PathData) (A : Assignment) (overs : List ℕ) (m : ℕ) (receiver : Option PathData) (args : List (Option PathData)) (H : Held) where
  -- a path of the callee has this name, and passes both tests
  record IsFound (p : PathData) : Type 0 where
    path : PathData
    name : under_call receiver args path ≡ Some p
    freed : is_freed P rel A m receiver args H (Some p) ≡ true
    only : takes_only P rel A overs path m (held_under (rel m) receiver args H) ≡ true

  first_found : (qs : List PathData) (p : PathData) → first_taken P rel A overs m receiver args H qs ≡ Some p → IsFound p
  first_found [] p e = absurd (none-some p e)
  first_found (q ∷ qs) p e =
      by (is_freed P rel A m receiver args H (under_call receiver args q) && takes_only P rel A overs q m (held_under (rel m) receiver args H)) refl e (first_found qs p)
    where
      by : (b : Bool) → (is_freed P rel A m receiver args H (under_call receiver args q) && takes_only P rel A overs q m (held_under (rel m) receiver args H)) ≡ b
          → (if b then under_call receiver args q else first_taken P rel A overs m receiver args H qs) ≡ Some p
          → (first_taken P rel A overs m receiver args H qs ≡ Some p → IsFound p) → IsFound p
      by true is named later =
          let both = and_parts _ _ is in
          record { path = q; name = named; freed = subst (λ o. is_freed P rel A m receiver args H o ≡ true) named both.0; only = both.1 }
      by false is named later = later named

  -- such a lock isn't held, since without it the call can't be moved
  not_held : (p : PathData) (b : Bool) → H p ≡ b → is_freed P rel A m receiver args H (Some p) ≡ true → call_of P rel A m receiver args H ≡ Atomic → b ≡ false
  not_held p false has freed own = refl
  not_held p true has freed own =
      absurd (false≢true (ap (λ (b : Basic). below_of b Mover) (sym own) ∙ ap (λ (K : Held). below_of (call_of P rel A m receiver args K) Mover) (sym (held_already H p has)) ∙ freed))

  pub call_takes : (p : PathData) → taken_lock P rel A overs m receiver args H ≡ Some p → IsLockTaken P rel A overs m receiver args H p
  call_takes p e =
      let both = only_atomic (call_of P rel A m receiver args H) (first_taken P rel A overs m receiver args H (rel m)) p e in
      let found = first_found (rel m) p both.1 in
      record {
        path = found.path;
        name = found.name;
        only = found.only;
        free = not_held p (H p) refl found.freed both.0;
        stays = ap (λ (b : Basic). below_of b Mover) both.0;
        moves = found.freed;
      }

-- ---- the first path that passes a test

module _ (test : PathData → Bool) where
  path_passes : (ps : List PathData) (p : PathData) → first_path test ps ≡ Some p → Contains ps p × (test p ≡ true)
  path_passes [] p e = absurd (none-some p e)
  path_passes (q ∷ qs) p e = by (test q) refl e (path_passes qs p)
    where
      by : (b : Bool) → test q ≡ b → (if b then Some q else first_path test qs) ≡ Some p → (first_path test qs ≡ Some p → Contains qs p × (test p ≡ true)) → Contains (q ∷ qs) p × (test p ≡ true)
      by true is named later = let same = same_Some q p named in ((0, omega arith, same), subst (λ z. test z ≡ true) same is)
      by false is named later = let rest = later named in (contains_later q p qs rest.0, rest.1)

  none_passes : (ps : List PathData) → first_path test ps ≡ None → (p : PathData) → Contains ps p → test p ≡ false
  none_passes [] e p (k, below, is) = absurd (omega (arith, below))
  none_passes (q ∷ qs) e p there = by (test q) refl e (none_passes qs) (contains_cases q p qs there)
    where
      by : (b : Bool) → test q ≡ b → (if b then Some q else first_path test qs) ≡ None → (first_path test qs ≡ None → (r : PathData) → Contains qs r → test r ≡ false)
          → (q ≡ p) ⊎ Contains qs p → test p ≡ false
      by true is named later where_is = absurd (none-some q (sym named))
      by false is named later (inl same) = subst (λ z. test z ≡ false) same is
      by false is named later (inr more) = later named p more

-- ---- a lock around a whole method

module _ (P : Program) (rel : ℕ → List PathData) (A : Assignment) (m : ℕ) (method : Method) (limit : Basic) where
  around_is : slice_get P.methods m ≡ Some method → around P rel A m limit ≡ first_path (λ p. below_of (wrapped P rel A method p) limit) (rel m)
  around_is there = ap (λ o. lock_around P rel A (rel m) o limit) there

  pub around_fits : slice_get P.methods m ≡ Some method → (p : PathData) → around P rel A m limit ≡ Some p → Contains (rel m) p × (below_of (wrapped P rel A method p) limit ≡ true)
  around_fits there p e = path_passes (λ q. below_of (wrapped P rel A method q) limit) (rel m) p (sym (around_is there) ∙ e)

  pub around_none : slice_get P.methods m ≡ Some method → around P rel A m limit ≡ None → (p : PathData) → Contains (rel m) p → below_of (wrapped P rel A method p) limit ≡ false
  around_none there e p among = none_passes (λ q. below_of (wrapped P rel A method q) limit) (rel m) (sym (around_is there) ∙ e) p among
