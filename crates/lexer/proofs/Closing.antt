-- Where the first `*/` of a text ends.
use Rattle.std.proofs.Common.{◌≡◌, ℕ, suc, zero, ◌+◌, ◌<◌, ◌≤◌, ◌==◌, ◌&&◌, ◌||◌, Bool, true, false, List, [], ◌∷◌, ◌++◌, length, drop, take, ◌-◌, get_or, Some, None, Option, option_map, if◌then◌else◌, refl, ap, arith, drop-cons, sym, ◌∙◌, add-one, one-add, subst, eqb-true}
use Rattle.std.proofs.lemmas.Bool.{and_parts, or_parts}
use Rattle.std.proofs.lemmas.Grind.{common_steps}
use Rattle.lexer.specs.Pieces.{starts_close, closes, holds_close}
use Rattle.lexer.specs.Reading.{close_end}

pub close_step : (xs : List ℕ) (i : ℕ) → i < length xs
    → close_end (drop i xs) ≡ (if starts_close (drop i xs) then Some 2 else option_map (λ n. 1 + n) (close_end (drop (i + 1) xs)))
close_step xs i h = rw (add-one, drop-cons xs i 0 h) (refl)

pub close_within : (xs : List ℕ) → starts_close xs ≡ true → 2 ≤ length xs
close_within [] h = absurd (cc)
close_within (c ∷ []) h = absurd (cc)
close_within (c ∷ d ∷ cs) h = omega arith

shifted : (i : ℕ) (o : Option ℕ) → option_map (λ n. i + n) (option_map (λ n. 1 + n) o) ≡ option_map (λ n. (i + 1) + n) o
shifted i None = refl
shifted i (Some n) = ap Some (omega arith)

-- one byte on, where no `*/` stands
pub close_next : (xs : List ℕ) (i : ℕ) (here : Bool) → i < length xs → close_end xs ≡ option_map (λ n. i + n) (close_end (drop i xs))
    → here ≡ false → here ≡ starts_close (take (length xs - i) (drop i xs)) → close_end xs ≡ option_map (λ n. (i + 1) + n) (close_end (drop (i + 1) xs))
close_next xs i here l whole e is =
    let rest : take (length xs - i) (drop i xs) ≡ drop i xs = grind (arith, common_steps) in
    let none : starts_close (drop i xs) ≡ false = cc in
    let step = close_step xs i l in
    whole ∙ ap (option_map (λ n. i + n)) (step ∙ ap (λ b. if b then Some 2 else option_map (λ n. 1 + n) (close_end (drop (i + 1) xs))) none) ∙ shifted i (close_end (drop (i + 1) xs))

none_by : (here : Bool) (later : Option ℕ) (holds : Bool) → (if here then Some 2 else option_map (λ n. 1 + n) later) ≡ None → (later ≡ None → holds ≡ false)
    → (here || holds) ≡ false
none_by true later holds h f = absurd (cc)
none_by false None holds h f = f refl
none_by false (Some n) holds h f = absurd (cc)

-- where `*/` stands nowhere, no end of it is found
pub close_none : (xs : List ℕ) → close_end xs ≡ None → holds_close xs ≡ false
close_none [] h = refl
close_none (c ∷ cs) h = none_by (starts_close (c ∷ cs)) (close_end cs) (holds_close cs) h (close_none cs)

end_by : (here later : Bool) (o : List ℕ) (end : Option ℕ) → (if here then suc (length o) == 1 else later) ≡ true → (later ≡ true → end ≡ Some (suc (length o)))
    → (if here then Some 2 else option_map (λ n. 1 + n) end) ≡ Some (suc (suc (length o)))
end_by true later o end h f = let e : suc (length o) ≡ 1 = eqb-true (suc (length o)) 1 h in ap Some (omega arith)
end_by false later o end h f = ap (option_map (λ n. 1 + n)) (f h) ∙ ap Some (omega arith)

-- bytes that close give their end, whatever follows them
pub closes_end : (o after : List ℕ) → closes o ≡ true → close_end (o ++ after) ≡ Some (length o)
closes_end [] after h = absurd (cc)
closes_end (c ∷ []) after h = absurd (cc)
closes_end (c ∷ d ∷ o) after h = end_by (c == 42 && d == 47) (closes (d ∷ o)) o (close_end ((d ∷ o) ++ after)) h (closes_end (d ∷ o) after)

one_by : (here : Bool) (later : Option ℕ) (n : ℕ) → (if here then Some 2 else option_map (λ n. 1 + n) later) ≡ Some n → 1 ≤ n
one_by true later n e = let p : 2 ≡ n = cc in omega arith
one_by false None n e = absurd (cc)
one_by false (Some m) n e = let p : 1 + m ≡ n = cc in omega arith

later_by : (here : Bool) (later : Option ℕ) (n : ℕ) → here ≡ false → (if here then Some 2 else option_map (λ n. 1 + n) later) ≡ Some n
    → (m : ℕ) × (later ≡ Some m) × (1 + m ≡ n)
later_by true later n h e = absurd (cc)
later_by false None n h e = absurd (cc)
later_by false (Some m) n h e = (m, refl, cc)

-- bytes without `*/` end before the first one does
pub close_after : (o after : List ℕ) (n : ℕ) → holds_close o ≡ false → close_end (o ++ after) ≡ Some n → length o ≤ n
close_after [] after n h e = omega arith
close_after (c ∷ []) after n h e = one_by (starts_close (c ∷ after)) (close_end after) n e
close_after (c ∷ d ∷ o) after n h e =
    let b = or_parts (c == 42 && d == 47) (holds_close (d ∷ o)) h in
    let k = later_by (c == 42 && d == 47) (close_end ((d ∷ o) ++ after)) n b.0 e in
    let l = close_after (d ∷ o) after k.0 b.1 k.1 in
    let p = k.2 in omega arith

-- what is found ends with `*/`, within the text
pub record CloseAt (xs : List ℕ) (n : ℕ) : Type 0 where
  pub within : n ≤ length xs
  pub two : 2 ≤ n
  pub closed : closes (take n xs) ≡ true
  pub index : ℕ
  pub ends : n ≡ suc index
  pub last : get_or xs index 0 ≡ 47

at_here : (c d : ℕ) (cs : List ℕ) (n : ℕ) → (c == 42 && d == 47) ≡ true → n ≡ 2 → CloseAt (c ∷ d ∷ cs) n
at_here c d cs n here e =
    let b = and_parts (c == 42) (d == 47) here in
    let l : d ≡ 47 = eqb-true d 47 b.1 in
    subst (CloseAt (c ∷ d ∷ cs)) (sym e) (record { within = omega arith; two = omega arith; closed = rw here refl; index = 1; ends = refl; last = l })

at_later : (c d : ℕ) (cs : List ℕ) (n m : ℕ) → (c == 42 && d == 47) ≡ false → CloseAt (d ∷ cs) m → n ≡ suc m → CloseAt (c ∷ d ∷ cs) n
at_later c d cs n zero here at e = absurd (omega (arith, at.two))
at_later c d cs n (suc zero) here at e = absurd (omega (arith, at.two))
at_later c d cs n (suc (suc m)) here at e =
    subst (CloseAt (c ∷ d ∷ cs)) (sym e) (record { within = omega (arith, at.within); two = omega arith; closed = rw here at.closed; index = suc at.index; ends = ap suc at.ends; last = at.last })

at_by : (c d : ℕ) (cs : List ℕ) (n : ℕ) (here : Bool) → (c == 42 && d == 47) ≡ here
    → (if here then Some 2 else option_map (λ n. 1 + n) (close_end (d ∷ cs))) ≡ Some n → ((m : ℕ) → close_end (d ∷ cs) ≡ Some m → CloseAt (d ∷ cs) m)
    → CloseAt (c ∷ d ∷ cs) n
at_by c d cs n true here e f = at_here c d cs n here (let p : n ≡ 2 = cc in p)
at_by c d cs n false here e f =
    let k = later_by false (close_end (d ∷ cs)) n refl e in
    at_later c d cs n k.0 here (f k.0 k.1) (sym k.2 ∙ one-add k.0)

pub close_at : (xs : List ℕ) (n : ℕ) → close_end xs ≡ Some n → CloseAt xs n
close_at [] n h = absurd (cc)
close_at (c ∷ []) n h = absurd (cc)
close_at (c ∷ d ∷ cs) n h = at_by c d cs n (c == 42 && d == 47) refl h (λ m e. close_at (d ∷ cs) m e)
