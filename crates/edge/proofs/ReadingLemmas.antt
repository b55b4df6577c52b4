-- What is left of a file that is being read.
use Rattle.std.proofs.Common.{◌≡◌, ℕ, ◌≤◌, ◌+◌, ◌==◌, true, false, List, ◌++◌, length, take, drop, Option, Some, None, ap, sym, ◌∙◌, arith, if◌then◌else◌}
use Rattle.std.specs.Prelude.{IfSome, IsSome}
use Rattle.std.specs.Option.{option_map, option_and_then}
use Rattle.std.specs.Str.{bytes_eq}
use Rattle.std.proofs.lemmas.Bool.{eq-eqb}
use Rattle.std.proofs.lemmas.Slice.Eq.{bytes_eq-Decides}
use Rattle.std.proofs.lemmas.Grind.{common_steps}
use Rattle.std.specs.Io.KnownBytes.{Consumes}
use Rattle.edge.specs.RealFiles.{OpenFile, is_next}

-- the bytes behind those that were read
pub dropped : (old new : Option (List ℕ)) (left buffer : List ℕ) (n : ℕ) → n ≤ length buffer → old ≡ Some left → Consumes old new (take n buffer) → new ≡ Some (drop n left)
dropped None new left buffer n within is read = absurd cc
dropped (Some xs) None left buffer n within is read = absurd read
dropped (Some xs) (Some ys) left buffer n within is read =
    let e : xs ≡ left = cc in
    let rest : ys ≡ drop n (take n buffer ++ ys) = grind (arith, common_steps) in
    ap Some (rest ∙ ap (drop n) (sym read ∙ e))

-- the same where the bytes are known
pub left_less : (known old new now : Option (List ℕ)) (buffer : List ℕ) (n : ℕ) → n ≤ length buffer → IfSome known (λ left. old ≡ Some left) → Consumes old new (take n buffer)
    → now ≡ new → IfSome known (λ left. now ≡ Some (drop n left))
left_less None old new now buffer n within is read same = tt
left_less (Some left) old new now buffer n within is read same = same ∙ dropped old new left buffer n within is read

-- the file that is being read tells what is left, where a read of its name from its byte on goes on in it
pub left_now : {A : Type 0} (result : Option A) (view : A → OpenFile) (at n : ℕ) (name : List ℕ) (left : Option (List ℕ)) → IsSome result
    → IfSome result (λ r. (view r).at ≡ at + n) → IfSome result (λ r. (view r).name ≡ name) → IfSome result (λ r. (view r).left ≡ left)
    → option_and_then (λ r. if is_next r name (at + n) then r.left else None) (option_map view result) ≡ left
left_now None view at n name left there a b c = absurd (let e : false ≡ true = there in cc)
left_now (Some r) view at n name left there a b c =
    let here : ((view r).at == (at + n)) ≡ true = eq-eqb (view r).at (at + n) a in
    let named : bytes_eq (view r).name name ≡ true = (bytes_eq-Decides (view r).name name).1 b in
    rw (here, named) c

-- a weaker fact of what is there
pub some_weaker : {A : Type 0} (o : Option A) (P Q : A → Type 0) → ((a : A) → P a → Q a) → IfSome o P → IfSome o Q
some_weaker None P Q weaker fact = tt
some_weaker (Some a) P Q weaker fact = weaker a fact
