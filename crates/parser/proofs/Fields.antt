-- One turn of the loop over the fields of a lock, and its end, as the parser uses them.
use Rattle.std.proofs.Common.{◌≡◌, ℕ, ◌<◌, true, false, List, [], ◌∷◌, length, Ok, refl, sym, subst, arith}
use Rattle.lexer.specs.declared.tokens.Token.{Token}
use Rattle.syntax.specs.declared.terminal.Terminal.TheVariants as T
use Rattle.syntax.specs.declared.tree.Name.{Name}
use Rattle.syntax.specs.Tokens.{is, token, name_token}
use Rattle.parser.proofs.TokenLaws.{field_law}
use Rattle.parser.proofs.LoopLaw.{loop_done, loop_more, Takes}
use Rattle.parser.proofs.Loops.{right_shorter}
use Rattle.parser.proofs.Lists.{several_takes}
use Rattle.parser.proofs.Parts.{x_name}
use Rattle.parser.proofs.Right.{Any}
use Rattle.parser.specs.Combine.{◌>>=◌, starts, loop, item_step}
use Rattle.parser.specs.Words.{field_name}

abbrev pub FieldL : List Token → Name → Type 0
FieldL zs n = (d : ℕ) × (zs ≡ token T.Dot d ∷ name_token n ∷ [])

pub field_long : (zs : List Token) (n : Name) → FieldL zs n → 0 < length zs
field_long zs n f = let k : 0 < length (token T.Dot f.0 ∷ name_token n ∷ []) = omega arith in subst (λ z. 0 < length z) (sym f.1) k

field_takes : Takes (is T.Dot) (item_step field_name)
field_takes = several_takes field_name FieldL Any (token T.Dot 0 ∷ name_token x_name ∷ [], x_name, (0, refl)) field_long (λ ns. Unit {0}) (λ so a r p q. tt)
    (is T.Dot) (λ x xs g. field_law (x ∷ xs)) (λ ns ts. Unit {0}) tt (λ n rest xs ys f q. tt)

pub field_more : (ns : List Name) (ts : List Token) → starts (is T.Dot) ts ≡ true
    → loop (is T.Dot) (item_step field_name) ns ts ≡ (item_step field_name ns ts >>= loop (is T.Dot) (item_step field_name))
field_more ns ts g = loop_more (is T.Dot) (item_step field_name) field_takes ns ts g

pub field_done : (ns : List Name) (ts : List Token) → starts (is T.Dot) ts ≡ false → loop (is T.Dot) (item_step field_name) ns ts ≡ Ok (ns, ts)
field_done ns ts g = loop_done (is T.Dot) (item_step field_name) ns ts g

pub field_shorter : (ts : List Token) (n : Name) (r : List Token) → field_name ts ≡ Ok (n, r) → length r < length ts
field_shorter ts n r e = right_shorter field_name FieldL Any ts n r field_long (field_name ts) (field_law ts).at e
