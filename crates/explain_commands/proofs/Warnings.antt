-- Each write that is warned of is by a method that is there.
use Rattle.std.proofs.Common.{◌≡◌, ℕ, zero, suc, ◌+◌, ◌<◌, ◌≤◌, Bool, true, false, List, [], ◌∷◌, ◌++◌, length, get_or, Option, Some, None, option_map, if◌then◌else◌, sym, subst, arith}
use Rattle.algebra.specs.HeldPaths.{has_path}
use Rattle.core_program.specs.Core.{Program, Method}
use Rattle.explain.specs.declared.unguarded.BareWrite.{BareWrite}
use Rattle.explain.specs.Unguarded.{bare_field, bare_writes, first_writes, is_written, with_write, writes_from, writes_in, writes_of}
use Rattle.explain.specs.Visits.{Visit, stmt_visits}
use Rattle.explain_commands.specs.Warned.{AreByMethods}

both_there : (n : ℕ) (xs ys : List BareWrite) → AreByMethods n xs → AreByMethods n ys → AreByMethods n (xs ++ ys)
both_there n [] ys one two = two
both_there n (x ∷ xs) ys one two = (one.0, both_there n xs ys one.1 two)

firsts_there : (n : ℕ) (before ws : List BareWrite) → AreByMethods n ws → AreByMethods n (first_writes before ws)
firsts_there n before [] are = tt
firsts_there n before (w ∷ ws) are = by (is_written w.field before) (firsts_there n before ws are.1) (firsts_there n (before ++ w ∷ []) ws are.1)
  where
    by : (b : Bool) → AreByMethods n (first_writes before ws) → AreByMethods n (first_writes (before ++ w ∷ []) ws)
        → AreByMethods n (if b then first_writes before ws else w ∷ first_writes (before ++ w ∷ []) ws)
    by true one two = one
    by false one two = (are.0, two)

module _ (P : Program) (n : ℕ) where
  of_there : (m : ℕ) → m < n → (vs : List Visit) → AreByMethods n (writes_of P m vs)
  of_there m below [] = tt
  of_there m below (v ∷ vs) = by (bare_field P v.part) (of_there m below vs)
    where
      by : (o : Option ℕ) → AreByMethods n (writes_of P m vs) → AreByMethods n (with_write (option_map (λ f. record { method = m; node = v.node; field = f }) o) (writes_of P m vs))
      by None rest = rest
      by (Some f) rest = (below, rest)

  from_there : (m : ℕ) (methods : List Method) → m + length methods ≤ n → AreByMethods n (writes_from P m methods)
  from_there m [] within = tt
  from_there m (method ∷ methods) within =
      both_there n (writes_in P m method) (writes_from P (m + 1) methods) (of_there m (omega (arith, within)) (stmt_visits P method.body 0 (has_path method.requires_) None))
      (from_there (m + 1) methods (omega (arith, within)))

  pub writes_there : length P.methods ≤ n → AreByMethods n (bare_writes P)
  writes_there within = firsts_there n [] (writes_from P 0 P.methods) (from_there 0 P.methods (omega (arith, within)))

-- one of them
pub write_within : (n : ℕ) (ws : List BareWrite) (i : ℕ) (w : BareWrite) → i < length ws → w ≡ get_or ws i w → AreByMethods n ws → w.method < n
write_within n [] i w below is are = absurd (omega (arith, below))
write_within n (x ∷ ws) zero w below is are = subst (λ z. z.method < n) (sym is) are.0
write_within n (x ∷ ws) (suc i) w below is are = write_within n ws i w (omega (arith, below)) is are.1
