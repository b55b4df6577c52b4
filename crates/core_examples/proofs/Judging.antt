-- Programs that are accepted, and programs that aren't.
use Rattle.std.proofs.Common.{◌≡◌, ◌≤◌, ℕ, zero, suc, Bool, true, false, ◌==◌, ◌&&◌, ◌∙◌, List, [], ◌∷◌, length, Some, None, refl, sym, subst, arith}
use Rattle.std.specs.Prelude.{nat_le, if◌then◌else◌}
use Rattle.std.specs.List.{list_all}
use Rattle.std.proofs.lemmas.Bool.{and_parts, leb-true, eqb-true, false≢true}
use Rattle.algebra.specs.declared.basic.Basic.{Basic}
use Rattle.algebra.specs.declared.basic.Basic.TheVariants.{Const, Mover, Atomic, Cmpd, Error}
use Rattle.algebra.specs.Basics.{seq_of}
use Rattle.algebra.specs.HeldPaths.{Held}
use Rattle.core_program.specs.Core.{Program, Class, Method, ThisE, no_exprs, EmptyS}
use Rattle.core_program.specs.Dispatch.{partner, Overrides}
use Rattle.core_program.proofs.DispatchLemmas.{none_overrides}
use Rattle.std.proofs.lemmas.Option.{none-some, same_Some}
use Rattle.core_program.specs.Examples.{this_path, synchronized_this}
use Rattle.core_program.proofs.ExampleProofs.{each}
use Rattle.rules.specs.Near.{required, locked, called, MethodPaths, AreRelevant, AreFew, rel_of, loc_of}
use Rattle.rules.specs.Effect.{Assignment, effect, sync_effect}
use Rattle.rules.specs.Rules.{IsSubset, AtMost, IsAntitone, HoldsBound, IsAdmissible, IsAccepted}
use Rattle.rules.proofs.BasicLemmas.{below_chain}
use Rattle.rules.proofs.UniqueSets.{unique_sets}
use Rattle.core_examples.specs.Bodies.{all_movers, nothing_held}
use Rattle.core_examples.specs.Judged.{just, two_writes, no_lock, requiring_program, call_put, overridden, put_free}
use Rattle.core_examples.proofs.Sweep.{relevant_rows}

-- no lock is held, and none is needed
nothing_part : (H : Held) → IsSubset nothing_held H
nothing_part H q e = absurd (false≢true e)

-- at most 8 paths of each kind
abbrev has_few : MethodPaths → Bool
has_few s = nat_le (length s.rel) 8 && nat_le (length s.loc) 8

few_sets : (sets : List MethodPaths) → list_all has_few sets ≡ true → AreFew sets
few_sets sets all = record { rel = rel sets all; loc = loc sets all }
  where
    rel : (sets : List MethodPaths) → list_all has_few sets ≡ true → (m : ℕ) → length (rel_of sets m) ≤ 8
    rel [] all m = omega arith
    rel (s ∷ ss) all zero = leb-true _ _ (and_parts (nat_le (length s.rel) 8) _ (and_parts (has_few s) (list_all has_few ss) all).0).0
    rel (s ∷ ss) all (suc m) = rel ss (and_parts (has_few s) (list_all has_few ss) all).1 m

    loc : (sets : List MethodPaths) → list_all has_few sets ≡ true → (m : ℕ) → length (loc_of sets m) ≤ 8
    loc [] all m = omega arith
    loc (s ∷ ss) all zero = leb-true _ _ (and_parts (nat_le (length s.rel) 8) _ (and_parts (has_few s) (list_all has_few ss) all).0).1
    loc (s ∷ ss) all (suc m) = loc ss (and_parts (has_few s) (list_all has_few ss) all).1 m

-- the assignment of an accepted program is one over its sets
at_sets : (P : Program) (sets : List MethodPaths) → AreRelevant P sets → (accepted : IsAccepted P) → IsAdmissible P (rel_of sets) accepted.assignment
at_sets P sets relevant accepted = subst (λ s. IsAdmissible P (rel_of s) accepted.assignment) (unique_sets P accepted.sets sets accepted.relevant relevant) accepted.admissible

-- Two writes.

no_sets : (annotated : Bool) → AreRelevant (two_writes annotated) (just [] ∷ [])
no_sets annotated = relevant_rows (two_writes annotated) ([] ∷ []) refl refl (tt, tt)

abbrev all_cmpd : Assignment
all_cmpd m H = Cmpd

pub two_writes_accepted : IsAccepted (two_writes false)
two_writes_accepted = record {
  sets = just [] ∷ [];
  relevant = no_sets false;
  few = few_sets (just [] ∷ []) refl;
  assignment = all_cmpd;
  admissible = record {
    falling = λ m H K within part. refl;
    closed = record {
      bodies = λ m method is H within locks. each (λ n (it : Method). AtMost (effect (two_writes false) (rel_of (just [] ∷ [])) all_cmpd it.body H) Cmpd) (two_writes false).methods (refl, tt) m method is;
      overrides = λ m over method is o H within locks. refl;
    };
    bounds = each (HoldsBound all_cmpd) (two_writes false).methods (refl, tt);
  };
}

pub two_writes_refused : IsAccepted (two_writes true) → ⊥
two_writes_refused accepted =
    let a = accepted.admissible in
    false≢true (below_chain Cmpd (accepted.assignment 0 nothing_held) Atomic (a.closed.bodies 0 _ refl nothing_held (nothing_part _) (nothing_part _)) (a.bounds 0 _ refl))

pub no_lock_refused : IsAccepted no_lock → ⊥
no_lock_refused accepted =
    let a = accepted.admissible in
    false≢true (below_chain Error (accepted.assignment 0 nothing_held) Cmpd (a.closed.bodies 0 _ refl nothing_held (nothing_part _) (nothing_part _)) (a.bounds 0 _ refl))

-- A required lock.

abbrev this_sets : List MethodPaths
this_sets = just (this_path ∷ []) ∷ just (this_path ∷ []) ∷ []

with_lock_sets : AreRelevant (requiring_program (synchronized_this call_put)) this_sets
with_lock_sets = relevant_rows (requiring_program (synchronized_this call_put)) ((this_path ∷ []) ∷ (this_path ∷ []) ∷ []) refl refl
    ((required (_, refl, (0, omega arith, refl)), tt), ((locked (_, refl, (0, omega arith, refl)), tt), tt))

without_lock_sets : AreRelevant (requiring_program call_put) this_sets
without_lock_sets = relevant_rows (requiring_program call_put) ((this_path ∷ []) ∷ (this_path ∷ []) ∷ []) refl refl
    ((required (_, refl, (0, omega arith, refl)), tt), ((called ThisE 0 no_exprs this_path (_, refl, (0, omega arith, refl)) (required (_, refl, (0, omega arith, refl))) (_, refl, omega arith) refl, tt), tt))

abbrev of_put : Bool → Basic
of_put held = if held then Mover else Error

abbrev of_main : Bool → Basic
of_main held = if held then Mover else Atomic

abbrev put_levels : Assignment
put_levels zero H = of_put (H this_path)
put_levels (suc m) H = of_main (H this_path)

put_falls : (h k : Bool) → (h ≡ true → k ≡ true) → AtMost (of_put k) (of_put h)
put_falls true true part = refl
put_falls true false part = absurd (false≢true (part refl))
put_falls false true part = refl
put_falls false false part = refl

main_falls : (h k : Bool) → (h ≡ true → k ≡ true) → AtMost (of_main k) (of_main h)
main_falls true true part = refl
main_falls true false part = absurd (false≢true (part refl))
main_falls false true part = refl
main_falls false false part = refl

put_body : (b : Bool) → AtMost (seq_of (seq_of Const (seq_of Const (of_put b))) Const) (of_put b)
put_body true = refl
put_body false = refl

-- the call in `main`, where its lock is held or not
abbrev call_at : Bool → Basic
call_at b = seq_of (seq_of Const (seq_of Const (if b && true then of_put b else Error))) Const

main_body : (b : Bool) → AtMost (seq_of (sync_effect b (call_at b) (call_at true)) Const) (of_main b)
main_body true = refl
main_body false = refl

-- of two pairs of methods with themselves
pairs_themselves : (m n : ℕ) → partner ((0, 0) ∷ (1, 1) ∷ []) m ≡ Some n → n ≡ m
pairs_themselves m n is = by_tests (0 == m) (1 == m) refl refl is
  where
    by_tests : (a b : Bool) → (0 == m) ≡ a → (1 == m) ≡ b → (if a then Some 0 else (if b then Some 1 else None)) ≡ Some n → n ≡ m
    by_tests true b first second e = sym (same_Some _ _ e) ∙ eqb-true 0 m first
    by_tests false true first second e = sym (same_Some _ _ e) ∙ eqb-true 1 m second
    by_tests false false first second e = absurd (none-some n e)

alone : (over m : ℕ) → Overrides (requiring_program (synchronized_this call_put)) over m → ⊥
alone = none_overrides (requiring_program (synchronized_this call_put))
    (λ c class is. each (λ k (it : Class). (m n : ℕ) → partner it.targets m ≡ Some n → n ≡ m) (requiring_program (synchronized_this call_put)).classes (pairs_themselves, tt) c class is)

pub required_accepted : IsAccepted (requiring_program (synchronized_this call_put))
required_accepted = record {
  sets = this_sets;
  relevant = with_lock_sets;
  few = few_sets this_sets refl;
  assignment = put_levels;
  admissible = record {
    falling = falls;
    closed = record {
      bodies = λ m method is H within locks.
          each (λ n (it : Method). AtMost (effect (requiring_program (synchronized_this call_put)) (rel_of this_sets) put_levels it.body H) (put_levels n H)) (requiring_program (synchronized_this call_put)).methods
          (put_body (H this_path), (main_body (H this_path), tt)) m method is;
      overrides = λ m over method is o. absurd (alone over m o);
    };
    bounds = each (HoldsBound put_levels) (requiring_program (synchronized_this call_put)).methods (refl, (refl, tt));
  };
}
  where
    falls : IsAntitone (rel_of this_sets) put_levels
    falls zero H K within part = put_falls (H this_path) (K this_path) (part this_path)
    falls (suc m) H K within part = main_falls (H this_path) (K this_path) (part this_path)

pub unrequired_refused : IsAccepted (requiring_program call_put) → ⊥
unrequired_refused accepted =
    let a = at_sets (requiring_program call_put) this_sets without_lock_sets accepted in
    false≢true (below_chain Error (accepted.assignment 1 nothing_held) Cmpd (a.closed.bodies 1 _ refl nothing_held (nothing_part _) (nothing_part _)) (a.bounds 1 _ refl))

-- An overriding method.

abbrev three_sets : List MethodPaths
three_sets = just [] ∷ just [] ∷ just [] ∷ []

pub movers_accepted : IsAccepted (overridden EmptyS)
movers_accepted = record {
  sets = three_sets;
  relevant = relevant_rows (overridden EmptyS) ([] ∷ [] ∷ [] ∷ []) refl refl (tt, (tt, (tt, tt)));
  few = few_sets three_sets refl;
  assignment = all_movers;
  admissible = record {
    falling = λ m H K within part. refl;
    closed = record {
      bodies = λ m method is H within locks. each (λ n (it : Method). AtMost (effect (overridden EmptyS) (rel_of three_sets) all_movers it.body H) Mover) (overridden EmptyS).methods (refl, (refl, (refl, tt))) m method is;
      overrides = λ m over method is o H within locks. refl;
    };
    bounds = each (HoldsBound all_movers) (overridden EmptyS).methods (refl, (refl, (refl, tt)));
  };
}

-- two calls of a method with this effect
abbrev both_calls : Basic → Basic
both_calls x = seq_of (seq_of (seq_of Const Mover) Mover) (seq_of (seq_of Const (seq_of Const x)) (seq_of (seq_of Const (seq_of Const x)) Const))

never_both : (x : Basic) → AtMost Atomic x → AtMost (both_calls x) Atomic → ⊥
never_both Const low high = false≢true low
never_both Mover low high = false≢true low
never_both Atomic low high = false≢true high
never_both Cmpd low high = false≢true high
never_both Error low high = false≢true high

pub one_not_refused : IsAccepted (overridden put_free) → ⊥
one_not_refused accepted =
    let P = overridden put_free in
    let A = accepted.assignment in
    let a = at_sets P three_sets (relevant_rows P ([] ∷ [] ∷ [] ∷ []) refl refl (tt, (tt, (tt, tt)))) accepted in
    never_both (A 0 nothing_held)
    (below_chain Atomic (A 1 nothing_held) (A 0 nothing_held) (a.closed.bodies 1 _ refl nothing_held (nothing_part _) (nothing_part _))
    (a.closed.overrides 0 1 _ refl (record { differs = λ e. omega (arith, e); method = _; is = refl; runs = refl }) nothing_held (nothing_part _) (nothing_part _)))
    (below_chain (both_calls (A 0 nothing_held)) (A 2 nothing_held) Atomic (a.closed.bodies 2 _ refl nothing_held (nothing_part _) (nothing_part _)) (a.bounds 2 _ refl))
