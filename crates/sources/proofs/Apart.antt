-- A file has one tree and one core program, and what refuses it excludes what it is refused as.
use Rattle.std.proofs.Common.{◌≡◌, ℕ, ◌≤◌, List, [], ◌∷◌, length, refl, suc, zero, sym, subst, ap, ◌∙◌, arith, Contains, IsUtf8}
use Rattle.std.proofs.lemmas.List.{take_all}
use Rattle.std.proofs.lemmas.Option.{same_Some}
use Rattle.lexer.specs.declared.tokens.Token.{Token}
use Rattle.lexer.proofs.Unique.{one_list, never_both}
use Rattle.syntax.specs.Faults.{Through}
use Rattle.syntax.specs.Trees.{ProgramTree}
use Rattle.syntax.specs.Grammar.{Grammar}
use Rattle.parser.proofs.Whole.{one_tree}
use Rattle.classes.specs.Faults as class
use Rattle.core_program.specs.Core.{Program}
use Rattle.typing.specs.Programs as types
use Rattle.rules.specs.Limits.{IsFirstCrowded}
use Rattle.rules.specs.Rules.{IsAccepted}
use Rattle.rules.proofs.LimitLemmas.{well_formed_first}
use Rattle.sources.specs.declared.refusal.Ending.{Ending}
use Rattle.sources.specs.declared.refusal.Ending.TheVariants.{Refused}
use Rattle.sources.specs.Programs.{IsProgram, NoProgram, not_text, no_tokens, unexpected, too_deep}
use Rattle.sources.specs.Checking.{HasCore, NoSource, no_program, class_fault, type_fault, crowded}
use Rattle.sources.specs.Verdicts.{NoAccepted, no_source, refuted}
use Rattle.sources.specs.Facts.{IsNoProgram, IsNotWellFormed, HasNoAssignment, IsAcceptedSource, RefusedAs}

nothing_in : {A : Type 0} (x : A) → Contains [] x → ⊥
nothing_in x c = omega (arith, c.1)

through_itself : (k : ℕ) (ts : List Token) → k ≤ length ts → Through k ts ts
through_itself zero [] le = refl
through_itself zero (x ∷ ts) le = refl
through_itself (suc k) [] le = absurd (omega arith)
through_itself (suc k) (x ∷ ts) le = (refl, through_itself k ts (omega arith))

through_within : (k : ℕ) (ts w : List Token) → Through k ts w → k ≤ length ts
through_within zero ts w t = omega arith
through_within (suc k) [] w t = absurd t
through_within (suc k) (x ∷ ts) [] t = absurd t
through_within (suc k) (x ∷ ts) (y ∷ w) t = omega (arith, through_within k ts w t.1)

-- a file has one tree at most
pub same_tree : (file : List ℕ) (t u : ProgramTree) → IsProgram file t → IsProgram file u → t ≡ u
same_tree file t u p q = one_tree q.tokens t u (subst (λ xs. Grammar xs t) (one_list p.cut q.cut) p.grammar) q.grammar

-- a file has one core program at most
pub same_core : (file : List ℕ) (t u : ProgramTree) (P Q : Program) → HasCore file t P → HasCore file u Q → P ≡ Q
same_core file t u P Q p q = same_Some P Q (sym p.core.core ∙ ap types.core_of (same_tree file t u p.program q.program) ∙ q.core.core)

-- a program is accepted where it is the core program of an accepted source
pub accepted_as : (file : List ℕ) (t u : ProgramTree) (P Q : Program) → HasCore file t P → HasCore file u Q → IsAccepted P → IsAccepted Q
accepted_as file t u P Q p q is = subst IsAccepted (same_core file t u P Q p q) is

-- a file with a line that it is no program is none
pub no_program_is_none : (file : List ℕ) (ending : Ending) (line : List ℕ) → NoProgram file ending line → IsNoProgram file
no_program_is_none file _ _ (not_text at up_to) = λ tree p.
    up_to.longest (length file) up_to.short (subst IsUtf8 (sym (take_all (length file) file (omega arith))) p.text)
no_program_is_none file _ _ (no_tokens fault text first) = λ tree p. never_both p.cut first
no_program_is_none file _ _ (unexpected ts place text cut is) = λ tree p.
    let same = one_list p.cut cut in
    is.none p.tokens tree p.grammar.0 (subst (λ us. Through place ts us) (sym same) (through_itself place ts is.within))
no_program_is_none file _ _ (too_deep ts place text cut is) = λ tree p.
    let same = one_list p.cut cut in
    let through = subst (λ us. Through place ts us) (sym same) (through_itself place ts (through_within place ts is.program is.through)) in
    let high = is.each p.tokens tree p.grammar.0 through in
    let low = p.grammar.1 in
    omega (arith, high, low)

-- a file with a line that it is no well-formed source is none
pub no_source_is_none : (file : List ℕ) (ending : Ending) (line : List ℕ) → NoSource file ending line → IsNotWellFormed file
no_source_is_none file _ _ (no_program {ending = ending} {line = line} is) = λ t P s. no_program_is_none file ending line is t s.has_core.program
no_source_is_none file _ _ (class_fault tree fault is first) = λ t P s.
    let same = same_tree file tree t is s.has_core.program in
    nothing_in fault (subst (λ fs. Contains fs fault) (ap class.all_class_faults same ∙ s.has_core.classes) first.stands)
no_source_is_none file _ _ (type_fault tree fault is faultless first) = λ t P s.
    let same = same_tree file tree t is s.has_core.program in
    nothing_in fault (subst (λ fs. Contains fs fault) (ap types.program_type_faults same ∙ s.has_core.core.faultless) first.stands)
no_source_is_none file _ _ (crowded tree Q m method core first is) = λ t P s.
    well_formed_first P m s.well_formed (subst (λ R. IsFirstCrowded R m) (same_core file tree t Q P core s.has_core) first)

-- how a file ends that is no program of the grammar
pub no_program_ends : (file : List ℕ) (ending : Ending) (line : List ℕ) → NoProgram file ending line → ending ≡ Refused
no_program_ends file _ _ (not_text at up_to) = refl
no_program_ends file _ _ (no_tokens fault text first) = refl
no_program_ends file _ _ (unexpected ts place text cut is) = refl
no_program_ends file _ _ (too_deep ts place text cut is) = refl

-- how a file ends that is no well-formed source
pub no_source_ends : (file : List ℕ) (ending : Ending) (line : List ℕ) → NoSource file ending line → ending ≡ Refused
no_source_ends file _ _ (no_program {ending = ending} {line = line} is) = no_program_ends file ending line is
no_source_ends file _ _ (class_fault tree fault is first) = refl
no_source_ends file _ _ (type_fault tree fault is faultless first) = refl
no_source_ends file _ _ (crowded tree Q m method core first is) = refl

pub no_accepted_is : (file : List ℕ) (ending : Ending) (line : List ℕ) → NoAccepted file ending line → RefusedAs file ending
no_accepted_is file _ _ (no_source {ending = ending} {line = line} is) =
    subst (RefusedAs file) (sym (no_source_ends file ending line is)) (no_source_is_none file ending line is)
no_accepted_is file _ _ (refuted tree P m declared found is broken) = (tree, P, is, broken.none)

-- an accepted source isn't one without an admissible assignment
pub accepted_or_none : (file : List ℕ) → IsAcceptedSource file → HasNoAssignment file → ⊥
accepted_or_none file a n = n.3 (accepted_as file a.0 n.0 a.1 n.1 a.2.has_core n.2.has_core a.3)
