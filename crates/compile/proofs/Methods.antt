-- The code of all methods is the program's.
use Rattle.std.proofs.Common.{◌≡◌, ℕ, zero, suc, ◌+◌, ◌≤◌, List, [], ◌∷◌, length, refl, sym, ap, subst, ◌∙◌, arith}
use Rattle.std.specs.Prelude.{Result, Ok, Err, IfOk, Some, slice_get, is_some}
use Rattle.std.specs.declared.alloc.AllocError.{AllocError}
use Rattle.core_program.specs.Core.{Program, Method}
use Rattle.state.specs.Work.{St, Act, Ret}
use Rattle.compile.specs.declared.stack.Code.{Code}
use Rattle.compile.specs.declared.stack.CodeTable.{CodeTable}
use Rattle.compile.specs.Standing.{Stands}
use Rattle.compile.specs.Rooms.{ReachedPlace, stmt_room, method_rooms}
use Rattle.compile.specs.IsCode.{IsCodeOf}
use Rattle.compile.specs.Emission.{emitted_method, method_weight, first_line_of_method, emitted_methods, method_entries}
use Rattle.compile.proofs.Lengths.{HasAt, split, length_method, all_at}
use Rattle.compile.proofs.Standings.{method_stands}
use Rattle.compile.proofs.Fitting.{reached_fits, method_fits}
use Rattle.compile.proofs.Attaining.{method_attains}

-- where a method's code stands
record Placed (code : List Code) (method : Method) (entry : ℕ) : Type 0 where
  at : ℕ
  has : HasAt code at (emitted_method method at)
  is : entry ≡ first_line_of_method method at

placed : (code : List Code) (ms : List Method) (at m entry : ℕ) (method : Method) → HasAt code at (emitted_methods ms at) → slice_get ms m ≡ Some method
    → slice_get (method_entries ms at) m ≡ Some entry → Placed code method entry
placed code [] at m entry method h there is = absurd cc
placed code (x ∷ ms) at zero entry method h there is =
    let same : x ≡ method = cc in
    let long = length_method x at in
    let parts = split code at (at + method_weight x) (emitted_method x at) (emitted_methods ms (at + method_weight x)) (omega arith) h in
    let here : entry ≡ first_line_of_method x at = cc in
    subst (λ y. Placed code y entry) same (record { at = at; has = parts.0; is = here })
placed code (x ∷ ms) at (suc m) entry method h there is =
    let long = length_method x at in
    let parts = split code at (at + method_weight x) (emitted_method x at) (emitted_methods ms (at + method_weight x)) (omega arith) h in
    placed code ms (at + method_weight x) m entry method parts.1 there is

length_entries : (ms : List Method) (at : ℕ) → length (method_entries ms at) ≡ length ms
length_entries [] at = refl
length_entries (m ∷ ms) at = ap suc (length_entries ms (at + method_weight m))

length_rooms : (ms : List Method) → length (method_rooms ms) ≡ length ms
length_rooms [] = refl
length_rooms (m ∷ ms) = ap suc (length_rooms ms)

room_is : (ms : List Method) (m most : ℕ) (method : Method) → slice_get ms m ≡ Some method → slice_get (method_rooms ms) m ≡ Some most → most ≡ stmt_room method.body
room_is [] m most method there is = absurd cc
room_is (x ∷ ms) zero most method there is =
    let same : x ≡ method = cc in
    let here : most ≡ stmt_room x.body = cc in
    here ∙ ap (λ y. stmt_room y.body) same
room_is (x ∷ ms) (suc m) most method there is = room_is ms m most method there is

-- the method of an entry
method_at : (ms : List Method) (at m entry : ℕ) → slice_get (method_entries ms at) m ≡ Some entry → (method : Method) × (slice_get ms m ≡ Some method)
method_at [] at m entry is = absurd cc
method_at (x ∷ ms) at zero entry is = (x, refl)
method_at (x ∷ ms) at (suc m) entry is = method_at ms (at + method_weight x) m entry is

code_is_of : (P : Program) → IsCodeOf P (emitted_methods P.methods 0) (method_entries P.methods 0) (method_rooms P.methods)
code_is_of P =
    let code = emitted_methods P.methods 0 in
    let all = all_at [] code code refl in
    record {
      entries = length_entries P.methods 0;
      rooms = length_rooms P.methods;
      stands = λ m place method there is.
          let p = placed code P.methods 0 m place method all there is in
          subst (λ x. Stands (is_some method.result) code x [] (St method.body ∷ Act Ret ∷ [])) (sym p.is) (method_stands method code p.at p.has);
      most = λ m most method there is. room_is P.methods m most method there is;
      bounds = λ typed m start most place n start_is most_is reached.
          let found = method_at P.methods 0 m start start_is in
          let p = placed code P.methods 0 m start found.0 all found.1 start_is in
          let room = room_is P.methods m most found.0 found.1 most_is in
          let fits = reached_fits P code (stmt_room found.0.body) (first_line_of_method found.0 p.at) (λ k. method_fits P code typed m found.0 p.at k found.1 p.has) place n
          (subst (λ x. ReachedPlace P code x place n) p.is reached) 1 in
          subst (λ x. n ≤ x) (sym room) fits.0;
      attained = λ typed m start most method there whole start_is most_is.
          let p = placed code P.methods 0 m start method all there start_is in
          let room = room_is P.methods m most method there most_is in
          let a = method_attains P code typed m method p.at there p.has whole in
          let fits = (reached_fits P code (stmt_room method.body) (first_line_of_method method p.at) (λ k. method_fits P code typed m method p.at k there p.has) a.0 a.1 a.2 1).0 in
          let same : a.1 ≡ most = omega (arith, a.3, fits, room) in
          (a.0, subst (λ n. ReachedPlace P code start a.0 n) same (subst (λ x. ReachedPlace P code x a.0 a.1) (sym p.is) a.2));
    }

-- what the compiler makes is the program's code
pub all_three : (P : Program) (r : Result CodeTable AllocError) → IfOk r (λ t. t.code.items ≡ emitted_methods P.methods 0)
    → IfOk r (λ t. t.entry.items ≡ method_entries P.methods 0) → IfOk r (λ t. t.room.items ≡ method_rooms P.methods)
    → IfOk r (λ t. IsCodeOf P t.code.items t.entry.items t.room.items)
all_three P (Ok t) code entry room =
    subst (λ x. IsCodeOf P x t.entry.items t.room.items) (sym code)
    (subst (λ x. IsCodeOf P (emitted_methods P.methods 0) x t.room.items) (sym entry)
    (subst (λ x. IsCodeOf P (emitted_methods P.methods 0) (method_entries P.methods 0) x) (sym room) (code_is_of P)))
all_three P (Err e) code entry room = tt
