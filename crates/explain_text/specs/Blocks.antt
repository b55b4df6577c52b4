-- The lines of one method.
use Rattle.std.specs.Prelude.{◌≡◌, ◌==◌, ℕ, Bool, true, false, List, [], ◌++◌, Option, Some, None, codes, decimal, slice_get, if◌then◌else◌}
use Rattle.algebra.specs.declared.basic.Basic.{Basic}
use Rattle.algebra.specs.Basics.{below_of, name_of}
use Rattle.core_program.specs.Core.{Program, Method}
use Rattle.explain.specs.declared.names.Alias.{Alias}
use Rattle.explain.specs.declared.causes.Cause.{Cause}
use Rattle.explain.specs.declared.deeds.Deed.{Deed}
use Rattle.explain.specs.declared.deeds.Help.{Help}
use Rattle.explain.specs.Around.{around}
use Rattle.explain.specs.Causes.{ArePaths, cause_of}
use Rattle.explain.specs.Deeds.{deed_of_part, help_of}
use Rattle.explain.specs.Whys.{WhyData, Wrong, Looped, Compound, Two, Overridden, Nothing, ExplainedData}
use Rattle.paths.specs.Paths.{PathData}
use Rattle.report.specs.Verdicts.{title_text}
use Rattle.rules.specs.Effect.{Assignment}
use Rattle.rules.specs.Rules.{declared_bound}
use Rattle.explain.specs.Visits.{Visit}
use Rattle.explain_text.specs.Pages.{PageData, node_offset, words_before_kind, note_line}
use Rattle.explain_text.specs.declared.codes.StepKind.{StepKind}
use Rattle.explain_text.specs.declared.codes.StepKind.TheVariants as kind
use Rattle.explain_text.specs.Codes.{cause_code, ending, help_code, spoken_kind, step_code, step_lead, why_code}
use Rattle.explain_text.specs.CauseTexts.{cause_text}
use Rattle.explain_text.specs.DeedTexts.{deed_text, help_text, is_compound, may_stay}
use Rattle.explain_text.specs.Words.{path_in}

-- the offset of a method's name; 0 where there is no such method
abbrev pub method_name_offset : Option Method → ℕ
method_name_offset None = 0
method_name_offset (Some method) = method.place_at

-- whether what a method declares is within this bound: one that says nothing may be compound
abbrev pub declares : Option Method → Basic → Bool
declares None limit = true
declares (Some method) limit = below_of (declared_bound method.annotated) limit

-- the words before the bound that a method breaks: of one that declares it, or of one that only counts as such a method
abbrev pub promise_words : (is_declared : Bool) → List ℕ
promise_words true = codes " is declared "
promise_words false = codes " counts as "

-- the words between a method and what it is: those of one that breaks a bound, or of one that keeps it
abbrev pub is_words : (is_declared is_refused : Bool) → Basic → List ℕ
is_words is_declared true limit = promise_words is_declared ++ name_of limit ++ codes ", found "
is_words is_declared false limit = codes " is "

-- the word by which a line says how grave it is: `error` where the method is refused for it, else `note`
abbrev pub kind_word : (is_refused : Bool) → List ℕ
kind_word true = codes "error"
kind_word false = codes "note"

-- `.. error: C.m is declared D, found F [CODE]`, `.. error: C.m counts as D, found F [CODE]`, or `.. note: C.m is F [CODE]`
abbrev pub head_line : Program → PageData → ExplainedData → List ℕ
head_line P page x =
    words_before_kind page (method_name_offset (slice_get P.methods x.method)) (kind_word x.is_refused)
    ++ title_text page.table x.method ++ is_words (declares (slice_get P.methods x.method) x.limit) x.is_refused x.limit ++ name_of x.found ++ ending (why_code x.why)

-- a method that overrides another and is this
abbrev pub over_text : PageData → ℕ → Basic → List ℕ
over_text page m b = title_text page.table m ++ codes " overrides it, and is " ++ name_of b

-- its line, at its name
abbrev pub over_line : Program → PageData → ℕ → Basic → List ℕ
over_line P page m b = note_line page (method_name_offset (slice_get P.methods m)) (over_text page m b) (codes "overridden-by")

-- a lock with which, held around all of it, a method is what it may be
abbrev pub around_text : PageData → ℕ → (limit : Basic) → PathData → List ℕ
around_text page m limit p = codes "with the lock of " ++ path_in page p ++ codes " held around all of it, " ++ title_text page.table m ++ codes " is " ++ name_of limit

-- its line, at the method's name
abbrev pub around_line : Program → PageData → ℕ → (limit : Basic) → PathData → List ℕ
around_line P page m limit p = note_line page (method_name_offset (slice_get P.methods m)) (around_text page m limit p) (codes "help-around")

-- the line of an error at a node, where these paths are held and this is wrong
abbrev pub cause_line : PageData → ℕ → List PathData → Cause → List ℕ
cause_line page node held cause = note_line page (node_offset page node) (cause_text page held cause) (cause_code cause)

-- a step: which one it is, and what it does
abbrev pub step_text : PageData → StepKind → Deed → List ℕ
step_text page kind deed = step_lead (spoken_kind kind (is_compound deed)) ++ deed_text page deed

-- so many more methods are refused for a call of the method that the line before names
abbrev pub more_text : ℕ → List ℕ
more_text n = if n == 1 then codes "1 more method is refused for a call of it" else decimal n ++ codes " more methods are refused for a call of it"

-- its line, at the error that is told; there is none for another reason
abbrev pub more_line : PageData → WhyData → ℕ → List ℕ
more_line page (Wrong v) n = note_line page (node_offset page v.node) (more_text n) (codes "more-errors")
more_line page why n = []

-- the line where there are more methods, and nothing where there are none
abbrev pub more_lines : PageData → WhyData → ℕ → List ℕ
more_lines page why n = if n == 0 then [] else more_line page why n

module _ (P : Program) (rel : ℕ → List PathData) (A : Assignment) (page : PageData) where
  -- what a step does, where these methods override each
  abbrev pub step_line : (overs : ℕ → List ℕ) → StepKind → Visit → List ℕ
  step_line overs kind v =
      let deed = deed_of_part P rel A overs v.part v.held in
      note_line page (node_offset page v.node) (step_text page kind deed) (step_code kind)

  -- a help, as the line of a step
  abbrev pub help_note : ℕ → Help → List ℕ
  help_note node help = note_line page (node_offset page node) (help_text page help) (help_code help)

  -- which lock would help it
  abbrev pub help_line : List Alias → Visit → List ℕ
  help_line aliases v = help_note v.node (help_of P rel A aliases v.part v.held)

  -- a help, as the line of a step beside another with that help: nothing where the step may stay
  abbrev pub note_beside : ℕ → (help other : Help) → List ℕ
  note_beside node help other = if may_stay help other then [] else help_note node help

  -- which locks would help two steps, of which one may stay
  abbrev pub help_lines : List Alias → (v w : Visit) → List ℕ
  help_lines aliases v w =
      let help = help_of P rel A aliases v.part v.held in
      let other = help_of P rel A aliases w.part w.held in
      note_beside v.node help other ++ note_beside w.node other help

  -- the line of this lock, if there is one, around the method that is told; else these lines
  abbrev pub around_or : ℕ → (limit : Basic) → Option PathData → List ℕ → List ℕ
  around_or m limit None lines = lines
  around_or m limit (Some p) lines = around_line P page m limit p

  -- what would help a method that may be at most this: a lock around all of it; where there is none, these lines
  abbrev pub helps : ℕ → (limit : Basic) → List ℕ → List ℕ
  helps m limit lines = around_or m limit (around P rel A m limit) lines

  -- the lines of steps, and of an overriding method, of a method that may be at most this
  abbrev pub steps_lines : (overs : ℕ → List ℕ) → List Alias → ℕ → (limit : Basic) → WhyData → List ℕ
  steps_lines overs aliases m limit (Wrong v) = []
  steps_lines overs aliases m limit (Looped v n) =
      step_line overs kind.Repeated v
      ++ note_line page (node_offset page n) (codes "this loop makes it each time round, and between two times another thread may come in") (codes "gap-loop")
      ++ helps m limit (help_line aliases v)
  steps_lines overs aliases m limit (Compound v) =
      step_line overs kind.Compound v ++ note_line page (node_offset page v.node) (codes "inside it another thread may come in") (codes "gap-inside")
      ++ helps m limit (help_line aliases v)
  steps_lines overs aliases m limit (Two v w) =
      step_line overs kind.First v ++ step_line overs kind.Second w
      ++ note_line page (node_offset page w.node) (codes "between the two another thread may come in") (codes "gap-between")
      ++ helps m limit (help_lines aliases v w)
  steps_lines overs aliases m limit (Overridden k b) = over_line P page k b
  steps_lines overs aliases m limit Nothing = []

-- the line of an error, which tells the held paths in ascending order
pub record IsErrorLine (P : Program) (rel : ℕ → List PathData) (page : PageData) (aliases : List Alias) (v : Visit) (text : List ℕ) : Type 0 where
  pub held : List PathData
  pub are_held : ArePaths v.held held
  pub text_is : text ≡ cause_line page v.node held (cause_of P rel aliases v.held v.part)

-- the lines that say why a method that may be at most this is more
abbrev pub IsWhyText : Program → (ℕ → List PathData) → Assignment → PageData → (ℕ → List ℕ) → List Alias → ℕ → (limit : Basic) → WhyData → List ℕ → Type 0
IsWhyText P rel A page overs aliases m limit (Wrong v) text = IsErrorLine P rel page aliases v text
IsWhyText P rel A page overs aliases m limit why text = text ≡ steps_lines P rel A page overs aliases m limit why

-- the lines of a method: what it is, and why. Of the variable or the field of the page that helps it where it is made final, if there is one,
-- it is said that it isn't.
pub record IsBlock (P : Program) (rel : ℕ → List PathData) (A : Assignment) (page : PageData) (overs : ℕ → List ℕ) (aliases : List Alias) (x : ExplainedData) (text : List ℕ) : Type 0 where
  pub more : List ℕ
  pub text_is : text ≡ head_line P page x ++ more
  pub why : IsWhyText P rel A page overs aliases x.method x.limit x.why more
