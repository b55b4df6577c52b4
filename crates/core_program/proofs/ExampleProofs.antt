-- The example programs are typed: each fact by computation.
use Rattle.std.proofs.Common.{◌≡◌, ◌<◌, ◌≤◌, length, Bool, ℕ, zero, suc, ◌+◌, List, [], ◌∷◌, Some, None, true, false, refl, sym, ap, subst, ◌∙◌, arith}
use Rattle.std.specs.Prelude.{slice_get, filter, IfSome, Option, unwrap_or, ◌==◌, if◌then◌else◌}
use Rattle.std.proofs.lemmas.Option.{none-some, same_Some}
use Rattle.std.proofs.lemmas.Bool.{eqb-true, false≢true}
use Rattle.paths.specs.Paths.{path_order}
use Rattle.std.specs.List.Sorted.{IsStrictlySortedBy}
use Rattle.core_program.specs.declared.types.CoreType.TheVariants as type
use Rattle.core_program.specs.Core.{Program, Class, Method, Stmt}
use Rattle.core_program.specs.Dispatch.{above_of, partner, IsOwn, Overrides}
use Rattle.core_program.proofs.DispatchLemmas.{one_target, none_overrides, none_above}
use Rattle.core_program.specs.Types.{Variable}
use Rattle.core_program.specs.Typed.{IsTyped, IsTypedClass, IsTypedField, IsTypedMethod, IsEntry, IsLock, IsTypedStmt, fields_from, is_final_at, declared_in}
use Rattle.core_program.specs.Sizes.{stmt_height, stmt_nodes}
use Rattle.core_program.specs.Examples.{this_path, plain_class, plain_method, inc_body, run_body, start_worker, guarded_main, counter, nested, returns_locked, divides_by_zero, reads_unlocked}

-- P holds of each element with its place, where the first has this place
abbrev pub EachFrom : {A : Type 0} → (ℕ → A → Type 0) → ℕ → List A → Type 0
EachFrom P n [] = Unit {0}
EachFrom P n (x ∷ xs) = P n x × EachFrom P (suc n) xs

each_at : {A : Type 0} (P : ℕ → A → Type 0) (n : ℕ) (xs : List A) → EachFrom P n xs → (k : ℕ) (x : A) → slice_get xs k ≡ Some x → P (n + k) x
each_at P n [] all k x is = absurd (none-some x is)
each_at P n (y ∷ ys) all zero x is = subst (λ m. P m x) (omega arith) (subst (P n) (ap (λ o. unwrap_or o y) is) all.0)
each_at P n (y ∷ ys) all (suc k) x is = subst (λ m. P m x) (omega arith) (each_at P (suc n) ys all.1 k x is)

-- the same, counted from 0
pub each : {A : Type 0} (P : ℕ → A → Type 0) (xs : List A) → EachFrom P 0 xs → (k : ℕ) (x : A) → slice_get xs k ≡ Some x → P k x
each P xs all k x is = subst (λ m. P m x) (omega arith) (each_at P 0 xs all k x is)

-- each method of the counter program is of the class with its number
counter_owner : (m c : ℕ) → IsOwn counter c m → m ≡ c
counter_owner zero c (method, is, of_class) = ap (λ (x : Method). x.class) (same_Some _ _ is) ∙ of_class
counter_owner (suc zero) c (method, is, of_class) = ap (λ (x : Method). x.class) (same_Some _ _ is) ∙ of_class
counter_owner (suc (suc zero)) c (method, is, of_class) = ap (λ (x : Method). x.class) (same_Some _ _ is) ∙ of_class
counter_owner (suc (suc (suc m))) c (method, is, of_class) = absurd (none-some method is)

-- a class that extends none and has one method, which is the only one of its class
plain_class_typed : (P : Program) (c : ℕ) (fields finals : List ℕ) (run : Option ℕ) (m : ℕ) → ((d : ℕ) → above_of P d ≡ None) → IsOwn P c m → ((n : ℕ) → IsOwn P c n → n ≡ m) → m < length P.methods
    → fields ≡ fields_from c 0 P.fields → finals ≡ filter (λ f. is_final_at (slice_get P.fields f)) fields → IfSome run (IsEntry P c) → length fields ≤ 32
    → IsTypedClass P c (plain_class fields finals run m)
plain_class_typed P c fields finals run m none mine only there fields_are finals_are entry few = record {
  above = tt;
  apart = none_above P none c c;
  fields = fields_are;
  finals = finals_are;
  targets = one_target P c m fields finals run mine only there;
  run = entry;
  runs = λ d is. absurd (none-some d is);
  few = few;
}

-- a product of three facts, and so on, as a list of them is
counter_above : (c : ℕ) → above_of counter c ≡ None
counter_above zero = refl
counter_above (suc zero) = refl
counter_above (suc (suc zero)) = refl
counter_above (suc (suc (suc c))) = refl

counter_classes : EachFrom (IsTypedClass counter) 0 counter.classes
counter_classes = (
  plain_class_typed counter 0 _ _ _ 0 counter_above (_, refl, refl) (λ m mine. counter_owner m 0 mine) (omega arith) refl refl tt (omega arith),
  (
    plain_class_typed counter 1 _ _ _ 1 counter_above (_, refl, refl) (λ m mine. counter_owner m 1 mine) (omega arith) refl refl
        (record { method = _; is = refl; of_class = refl; no_parameters = refl; no_result = refl; no_locks = refl }) (omega arith),
    (plain_class_typed counter 2 _ _ _ 2 counter_above (_, refl, refl) (λ m mine. counter_owner m 2 mine) (omega arith) refl refl tt (omega arith), tt),
  ),
)

counter_fields : EachFrom (IsTypedField counter) 0 counter.fields
counter_fields = (
  record { class = _; of_class = refl; index = refl; ty = tt; guard = record { root_class = 0; root = refl; fields = tt; short = omega arith }; unguarded = λ e. absurd (false≢true e); writes = λ e. absurd (false≢true e) },
  (record { class = _; of_class = refl; index = refl; ty = omega arith; guard = tt; unguarded = λ e. refl; writes = λ e. absurd (false≢true e) }, tt),
)

this_lock : (c : ℕ) (P : Program) (scope : List Variable) → IsLock P c scope this_path
this_lock c P scope = record { root_class = c; root = refl; fields = tt; short = omega arith }

none_ascend : IsStrictlySortedBy path_order []
unfolding IsStrictlySortedBy
none_ascend = tt

-- a method without parameters, result and required locks is typed where its body is
plain_typed : (P : Program) (class place_at : ℕ) (annotated : Bool) (body : Stmt) → class < length P.classes → declared_in body ≡ 0 → IsTypedStmt P class None body [] 1 → stmt_height body ≤ 64 → IsTypedMethod P (plain_method class place_at annotated body)
plain_typed P class place_at annotated body there no_locals typed low = record {
  class = there;
  params = λ k d h. absurd (omega arith);
  result = tt;
  locks = λ k d h. absurd (omega arith);
  ascending = none_ascend;
  slots = sym (ap (λ n. 1 + n) no_locals);
  body = typed;
  returns = λ e. absurd (false≢true e);
  low = low;
  few_params = omega arith;
  few_locals = subst (λ n. n ≤ 64) (sym no_locals) (omega arith);
}

-- of the worker's argument: the local `c` of `main`
worker_is_typed : IsTypedStmt counter 2 None start_worker (record { slot = 1; is_final = true; ty = type.Class 0 } ∷ []) 2
worker_is_typed = (1, (_, refl, ((_, ((0, omega arith, refl), refl), refl), tt), refl), (_, refl, refl))

counter_methods : EachFrom (λ m. IsTypedMethod counter) 0 counter.methods
counter_methods = (
  plain_typed counter 0 48 true inc_body (omega arith) refl ((this_lock 0 counter [], ((_, refl, refl, (0, refl, refl), (_, (_, _, (_, refl, (0, refl, refl), refl), refl, refl), refl)), tt)), tt) (omega arith),
  (
    plain_typed counter 1 187 false run_body (omega arith) refl ((_, (_, refl, (0, (_, refl, (1, refl, refl), refl), refl), tt, refl), refl, refl), tt) (omega arith),
    (
      record {
        class = omega arith;
        params = λ k d h. absurd (omega arith);
        result = tt;
        locks = λ k d h. absurd (omega arith);
        ascending = none_ascend;
        slots = refl;
        body = ((refl, omega arith, (_, (_, refl, tt, refl), refl)), (worker_is_typed, (worker_is_typed, tt)));
        returns = λ e. absurd (false≢true e);
        low = omega arith;
        few_params = omega arith;
        few_locals = omega arith;
      },
      tt,
    ),
  ),
)

-- of one pair of a method with itself
pair_itself : (k m n : ℕ) → partner ((k, k) ∷ []) m ≡ Some n → n ≡ m
pair_itself k m n is = by_test (k == m) refl is
  where
    by_test : (b : Bool) → (k == m) ≡ b → (if b then Some k else None) ≡ Some n → n ≡ m
    by_test true same e = sym (same_Some _ _ e) ∙ eqb-true k m same
    by_test false same e = absurd (none-some n e)

abbrev PairsItself : ℕ → Class → Type 0
PairsItself c class = (m n : ℕ) → partner class.targets m ≡ Some n → n ≡ m

counter_pairs : EachFrom PairsItself 0 counter.classes
counter_pairs = (pair_itself 0, (pair_itself 1, (pair_itself 2, tt)))

themselves : (P : Program) (classes : List Class) → EachFrom PairsItself 0 classes → (c : ℕ) (class : Class) → slice_get classes c ≡ Some class → (m n : ℕ) → partner class.targets m ≡ Some n → n ≡ m
themselves P classes all c class is = each PairsItself classes all c class is

-- no method of the counter program overrides another
pub counter_alone : (over m : ℕ) → Overrides counter over m → ⊥
counter_alone = none_overrides counter (themselves counter counter.classes counter_pairs)

abbrev finals_of : Option Class → List ℕ
finals_of None = []
finals_of (Some c) = c.finals

pub counter_is_typed : IsTyped counter
counter_is_typed = record {
  classes = each (IsTypedClass counter) counter.classes counter_classes;
  fields = each (IsTypedField counter) counter.fields counter_fields;
  methods = each (λ m. IsTypedMethod counter) counter.methods counter_methods;
  overriding = λ over m first second o. absurd (counter_alone over m o);
  main = record { method = _; is = refl; of_class = refl; no_parameters = refl; no_result = refl; no_locks = refl };
  no_finals = λ class is. ap (λ o. finals_of o) (sym is);
  size = omega arith;
}

one_above : (writes_only : Bool) (place_at : ℕ) (annotated : Bool) (body : Stmt) (c : ℕ) → above_of (guarded_main writes_only place_at annotated body) c ≡ None
one_above writes_only place_at annotated body zero = refl
one_above writes_only place_at annotated body (suc c) = refl

one_owner : (writes_only : Bool) (place_at : ℕ) (annotated : Bool) (body : Stmt) (m : ℕ) → IsOwn (guarded_main writes_only place_at annotated body) 0 m → m ≡ 0
one_owner writes_only place_at annotated body zero mine = refl
one_owner writes_only place_at annotated body (suc m) (method, is, of_class) = absurd (none-some method is)

-- a `main` over a guarded field is typed where its body is
guarded_main_is_typed : (writes_only : Bool) (place_at : ℕ) (annotated : Bool) (body : Stmt) → declared_in body ≡ 0 → IsTypedStmt (guarded_main writes_only place_at annotated body) 0 None body [] 1 → stmt_height body ≤ 64 → stmt_nodes body ≤ 1000 → IsTyped (guarded_main writes_only place_at annotated body)
guarded_main_is_typed writes_only place_at annotated body no_locals typed low small =
    let P = guarded_main writes_only place_at annotated body in
    record {
      classes = each (IsTypedClass P) P.classes (plain_class_typed P 0 _ _ _ 0 (one_above writes_only place_at annotated body) (_, refl, refl) (λ m mine. one_owner writes_only place_at annotated body m mine) (omega arith) refl refl tt (omega arith), tt);
      fields = each (IsTypedField P) P.fields (record { class = _; of_class = refl; index = refl; ty = tt; guard = this_lock 0 P []; unguarded = λ e. absurd (false≢true e); writes = λ e. refl }, tt);
      overriding = λ over m first second o. absurd (none_overrides P (themselves P P.classes (λ m n is. pair_itself 0 m n is, tt)) over m o);
      methods = each (λ m. IsTypedMethod P) P.methods (plain_typed P 0 place_at annotated body (omega arith) no_locals typed low, tt);
      main = record { method = _; is = refl; of_class = refl; no_parameters = refl; no_result = refl; no_locks = refl };
      no_finals = λ class is. ap (λ o. finals_of o) (sym is);
      size = omega arith;
    }

pub nested_is_typed : IsTyped nested
nested_is_typed = guarded_main_is_typed _ _ _ _ refl ((this_lock 0 _ [], ((this_lock 0 _ [], ((_, refl, refl, (0, refl, refl), (_, refl, refl)), tt)), tt)), tt) (omega arith) (omega arith)

pub returns_locked_is_typed : IsTyped returns_locked
returns_locked_is_typed = guarded_main_is_typed _ _ _ _ refl ((this_lock 0 _ [], ((this_lock 0 _ [], (tt, tt)), tt)), tt) (omega arith) (omega arith)

pub divides_by_zero_is_typed : IsTyped divides_by_zero
divides_by_zero_is_typed = guarded_main_is_typed _ _ _ _ refl ((_, _, refl, refl, refl), tt) (omega arith) (omega arith)

pub reads_unlocked_is_typed : IsTyped reads_unlocked
reads_unlocked_is_typed = guarded_main_is_typed _ _ _ _ refl ((_, refl, (0, refl, refl), refl), ((this_lock 0 _ [], ((_, refl, refl, (0, refl, refl), (_, refl, refl)), ((_, refl, (0, refl, refl), refl), tt))), tt)) (omega arith) (omega arith)
