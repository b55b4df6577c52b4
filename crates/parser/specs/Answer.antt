-- What the parser's functions answer, beside what is read from lists.
use Rattle.std.specs.Prelude.{◌≡◌, List, Result, Ok, Err}
use Rattle.lexer.specs.declared.tokens.Token.{Token}
use Rattle.parser.specs.Combine.{Res}
use Rattle.parser.specs.declared.stop.Stop.{Stop}
use Rattle.parser.specs.declared.stop.Stop.TheVariants as ends

-- a stop is a fault that reading gives too, or want of memory
abbrev pub Fails : {Y : Type 0} → Stop → Res Y → Type 0
Fails ends.Memory read = Unit {0}
Fails (ends.Fault f rest) read = read ≡ Err (f, rest.now)

-- what a function returned, seen by view, is what reading gives, unless memory ran out
abbrev pub Gives : {X Y : Type 0} → (X → Y × List Token) → Result X Stop → Res Y → Type 0
Gives view (Ok x) read = read ≡ Ok (view x)
Gives view (Err e) read = Fails e read
