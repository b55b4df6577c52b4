-- The end of a text whose tokens have no tree.
use Rattle.std.proofs.Common.{◌≡◌, ℕ, List, ◌⊎◌, codes, inl, inr, subst, sym, IsUtf8}
use Rattle.lexer.specs.declared.tokens.Token.{Token}
use Rattle.lexer.specs.Tokens.{Tokens}
use Rattle.syntax.specs.Faults.{IsUnexpected, IsTooDeep}
use Rattle.parser.specs.declared.faults.ParseFault.{ParseFault}
use Rattle.parser.specs.declared.faults.ParseFault.TheVariants as parse
use Rattle.report.specs.declared.source_fault.SourceFault.TheVariants as source
use Rattle.report.specs.SourceFaults.{IsToldFault, parse_kind}
use Rattle.sources.specs.declared.refusal.SourceEnd.{SourceEnd}
use Rattle.sources.specs.Refusals.{IsRightEnd, TellsAt}
use Rattle.sources.specs.Programs.{NoProgram, unexpected, too_deep, token_offset}
use Rattle.sources.proofs.Told.{right_fault}

-- the fault stands at this place of the tokens
abbrev pub Stands : List Token → ParseFault → ℕ → Type 0
Stands tokens fault place = ((fault ≡ parse.Unexpected place) × IsUnexpected tokens place) ⊎ ((fault ≡ parse.TooDeep place) × IsTooDeep tokens place)

pub parse_told : (tokens : List Token) (fault : ParseFault) (place at : ℕ) → Stands tokens fault place → IsToldFault (source.Parse fault at)
parse_told tokens fault place at (inl s) = subst (λ f. IsToldFault (source.Parse f at)) (sym s.0) tt
parse_told tokens fault place at (inr s) = subst (λ f. IsToldFault (source.Parse f at)) (sym s.0) tt

pub no_tree_end : (text : List ℕ) (tokens : List Token) (fault : ParseFault) (place at : ℕ) (e : SourceEnd) → IsUtf8 text → Tokens text tokens → Stands tokens fault place
    → at ≡ token_offset text tokens place → TellsAt text at (parse_kind fault) e → IsRightEnd (NoProgram text) e
no_tree_end text tokens fault place at e utf8 cut (inl s) is tells =
    right_fault (NoProgram text) text (token_offset text tokens place) (codes "unexpected") e (unexpected tokens place utf8 cut s.1)
    (subst (λ f. TellsAt text (token_offset text tokens place) (parse_kind f) e) s.0 (subst (λ k. TellsAt text k (parse_kind fault) e) is tells))
no_tree_end text tokens fault place at e utf8 cut (inr s) is tells =
    right_fault (NoProgram text) text (token_offset text tokens place) (codes "too deep") e (too_deep tokens place utf8 cut s.1)
    (subst (λ f. TellsAt text (token_offset text tokens place) (parse_kind f) e) s.0 (subst (λ k. TellsAt text k (parse_kind fault) e) is tells))
