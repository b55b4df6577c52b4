-- The laws of the whole program, as the contract of the parser states them.
use Rattle.std.proofs.Common.{◌≡◌, ℕ, zero, suc, ◌<◌, ◌≤◌, ◌+◌, true, false, List, [], ◌∷◌, ◌++◌, length, take, Ok, Err, refl, sym, ◌∙◌, ap, subst, append-nil, arith, length-append}
use Rattle.std.specs.List.{All, Contains}
use Rattle.lexer.specs.declared.tokens.Token.{Token}
use Rattle.syntax.specs.Faults.{Through, IsUnexpected, IsTooDeep}
use Rattle.syntax.specs.Grammar.{Wide, Grammar}
use Rattle.syntax.specs.Heights.{highest_body}
use Rattle.syntax.specs.Limits.{most_height}
use Rattle.syntax.specs.Names.{names_of_program}
use Rattle.syntax.specs.Tokens.{name_token}
use Rattle.syntax.proofs.Naming.{names_are_tokens}
use Rattle.syntax.specs.Trees.{ProgramTree}
use Rattle.parser.proofs.FirstTokens.{IsDeep, Same, same, deep}
use Rattle.parser.proofs.CompleteMembers.{program_read}
use Rattle.parser.proofs.Members.{right_program}
use Rattle.parser.proofs.Right.{Meets, Goes, RightAt, RightOk, RightErr}
use Rattle.parser.specs.Combine.{Res, starts}
use Rattle.parser.specs.Members.{program}
use Rattle.parser.specs.declared.stop.SyntaxFault.{SyntaxFault}
use Rattle.parser.specs.declared.stop.SyntaxFault.TheVariants as F

abbrev Reads : List Token → ProgramTree → Type 0
Reads zs t = Wide zs t

abbrev Ends : ProgramTree → List Token → Type 0
Ends t r = (highest_body t ≤ most_height) × (starts (λ x. true) r ≡ false)

ok_pair : (y z : ProgramTree × List Token) → (let r : Res ProgramTree = Ok y in r ≡ Ok z) → y ≡ z
ok_pair y z h = cc

err_pair : (y z : SyntaxFault × List Token) → (let r : Res ProgramTree = Err y in r ≡ Err z) → y ≡ z
err_pair y z h = cc

right_ok : (ts : List Token) (t : ProgramTree) (r : List Token) (s : Res ProgramTree) → RightAt program Reads Ends ts s → s ≡ Ok (t, r) → RightOk program Reads Ends ts t r
right_ok ts t r (Ok y) g e = subst (λ z. RightOk program Reads Ends ts z.0 z.1) (ok_pair y (t, r) e) g
right_ok ts t r (Err y) g e = cc

right_err : (ts : List Token) (f : SyntaxFault) (r : List Token) (s : Res ProgramTree) → RightAt program Reads Ends ts s → s ≡ Err (f, r) → RightErr program Reads ts f r
right_err ts f r (Ok y) g e = cc
right_err ts f r (Err y) g e = subst (λ z. RightErr program Reads ts z.0 z.1) (err_pair y (f, r) e) g

none_left : (r : List Token) → starts (λ x. true) r ≡ false → r ≡ []
none_left [] e = refl
none_left (x ∷ r) e = cc

-- what is read is in the grammar
pub read_right : (ts : List Token) (t : ProgramTree) (r : List Token) → program ts ≡ Ok (t, r) → Grammar ts t
read_right ts t r e =
    let g = right_ok ts t r (program ts) (right_program ts).at e in
    let whole : g.front ≡ ts = sym (g.whole ∙ ap (λ z. g.front ++ z) (none_left r g.after.1) ∙ append-nil g.front) in
    (subst (λ z. Wide z t) whole g.spelled, g.after.0)

-- the names of what is read are the texts of tokens
pub named_right : (ts : List Token) (t : ProgramTree) (r : List Token) → program ts ≡ Ok (t, r) → All (λ n. Contains ts (name_token n)) (names_of_program t)
named_right ts t r e = names_are_tokens t ts (read_right ts t r e).0

same_low : (low : Type 0) (r s : Res ProgramTree) → Same low r s → low → r ≡ s
same_low low r s (same e) l = e
same_low low r s (deep d n) l = absurd (n l)

-- what is in the grammar is read
pub read_only : (ts : List Token) (t : ProgramTree) → Grammar ts t → program ts ≡ Ok (t, [])
read_only ts t g = same_low (highest_body t ≤ most_height) (program ts) (Ok (t, [])) (program_read t ts g.0) g.1

take_front : (f r : List Token) → take (length f) (f ++ r) ≡ f
take_front [] r = refl
take_front (x ∷ f) r = ap (λ z. x ∷ z) (take_front f r)

-- what begins with the front and the next token
through_split : (f r w : List Token) → Through (length f) (f ++ r) w → (rest : List Token) × (w ≡ f ++ rest) × Meets r rest
through_split [] [] w t = (w, refl, t)
through_split [] (x ∷ r) [] t = absurd t
through_split [] (x ∷ r) (y ∷ w) t = (y ∷ w, refl, t)
through_split (x ∷ f) r [] t = absurd t
through_split (x ∷ f) r (y ∷ w) t =
    let k = through_split f r w t.1 in
    (k.0, ap (λ z. z ∷ w) (sym t.0) ∙ ap (λ z. x ∷ z) k.1, k.2)

through_join : (f r more : List Token) → Goes F.TooDeep r more → Through (length f) (f ++ r) (f ++ more)
through_join [] [] more g = absurd g
through_join [] (x ∷ r) [] g = absurd g
through_join [] (x ∷ r) (y ∷ more) g = g
through_join (x ∷ f) r more g = (refl, through_join f r more g)

place_is : (ts f r : List Token) (k : ℕ) → ts ≡ f ++ r → k + length r ≡ length ts → k ≡ length f
place_is ts f r k w e = omega (arith, e, ap length w, length-append f r)

pub place_fits : (ts : List Token) (f : SyntaxFault) (r : List Token) → program ts ≡ Err (f, r) → length r ≤ length ts
place_fits ts f r e =
    let g = right_err ts f r (program ts) (right_program ts).at e in
    omega (arith, ap length g.whole, length-append g.front r)

unexpected_none : (low : Type 0) (r s : Res ProgramTree) (t : ProgramTree) (w v : List Token) → Same low r (Ok (t, w)) → r ≡ Err (F.Unexpected, v) → ⊥
unexpected_none low r s t w v (same e) i = cc
unexpected_none low r s t w v (deep d n) i = let k : IsDeep (let q : Res ProgramTree = Err (F.Unexpected, v) in q) = subst IsDeep i d in cc

-- the place of an unexpected token
pub unexpected_right : (ts : List Token) (r : List Token) (k : ℕ) → program ts ≡ Err (F.Unexpected, r) → k + length r ≡ length ts → IsUnexpected ts k
unexpected_right ts r k e i =
    let g = right_err ts F.Unexpected r (program ts) (right_program ts).at e in
    let at : k ≡ length g.front = place_is ts g.front r k g.whole i in
    let front : take k ts ≡ g.front = ap (λ z. take z ts) at ∙ ap (λ z. take (length g.front) z) g.whole ∙ take_front g.front r in
    record {
      within = omega (arith, i);
      more = g.more;
      tree = g.tree;
      before = subst (λ z. Wide (z ++ g.more) g.tree) (sym front) g.spelled;
      none = λ w t s p.
          let q : Through (length g.front) (g.front ++ r) w = subst (λ z. Through z (g.front ++ r) w) at (subst (λ z. Through k z w) g.whole p) in
          let split = through_split g.front r w q in
          let told : program w ≡ Err (F.Unexpected, split.0) = ap program split.1 ∙ g.again split.0 split.2 in
          unexpected_none (highest_body t ≤ most_height) (program w) (Ok (t, [])) t [] split.0 (program_read t w s) told;
    }

deep_high : (h : ℕ) (r : Res ProgramTree) (t : ProgramTree) (w v : List Token) → Same (h ≤ most_height) r (Ok (t, w)) → r ≡ Err (F.TooDeep, v) → most_height < h
deep_high h r t w v (same e) i = cc
deep_high h r t w v (deep d n) i = omega (arith, n)

-- the place where a program is too deep
pub deep_right : (ts : List Token) (r : List Token) (k : ℕ) → program ts ≡ Err (F.TooDeep, r) → k + length r ≡ length ts → IsTooDeep ts k
deep_right ts r k e i =
    let g = right_err ts F.TooDeep r (program ts) (right_program ts).at e in
    let at : k ≡ length g.front = place_is ts g.front r k g.whole i in
    let p : Through (length g.front) (g.front ++ r) (g.front ++ g.more) = through_join g.front r g.more g.goes in
    record {
      program = g.front ++ g.more;
      tree = g.tree;
      spelled = g.spelled;
      through = subst (λ z. Through z ts (g.front ++ g.more)) (sym at) (subst (λ z. Through (length g.front) z (g.front ++ g.more)) (sym g.whole) p);
      each = λ w t s p.
          let q : Through (length g.front) (g.front ++ r) w = subst (λ z. Through z (g.front ++ r) w) at (subst (λ z. Through k z w) g.whole p) in
          let split = through_split g.front r w q in
          let told : program w ≡ Err (F.TooDeep, split.0) = ap program split.1 ∙ g.again split.0 split.2 in
          deep_high (highest_body t) (program w) t [] split.0 (program_read t w s) told;
    }

-- the grammar gives tokens at most one tree
pub one_tree : (ts : List Token) (t u : ProgramTree) → Grammar ts t → Grammar ts u → t ≡ u
one_tree ts t u g h = ap (λ z. z.0) (ok_pair (t, []) (u, []) (sym (read_only ts t g) ∙ read_only ts u h))

-- what begins with more tokens begins with fewer
through_take : (j k : ℕ) (ts more : List Token) → j < k → k ≤ length ts → Through j ts (take k ts ++ more)
through_take j zero ts more h i = absurd (omega (arith, h))
through_take j (suc k) [] more h i = absurd (omega (arith, i))
through_take zero (suc k) (x ∷ ts) more h i = refl
through_take (suc j) (suc k) (x ∷ ts) more h i = (refl, through_take j k ts more (omega (arith, h)) (omega (arith, i)))

not_before : (ts : List Token) (j k : ℕ) → IsUnexpected ts j → IsUnexpected ts k → j < k → ⊥
not_before ts j k u v h = u.none (take k ts ++ v.more) v.tree v.before (through_take j k ts v.more h v.within)

-- at most one place is unexpected
pub one_place : (ts : List Token) (j k : ℕ) → IsUnexpected ts j → IsUnexpected ts k → j ≡ k
one_place ts j k u v =
    let a : j < k → ⊥ = not_before ts j k u v in
    let b : k < j → ⊥ = not_before ts k j v u in
    omega (arith, a, b)
