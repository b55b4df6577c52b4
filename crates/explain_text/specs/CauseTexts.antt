-- What is wrong with an error, in words.
use Rattle.std.specs.Prelude.{ℕ, Bool, true, false, List, ◌++◌, Option, Some, None, codes}
use Rattle.explain.specs.declared.causes.Cause.{Cause}
use Rattle.explain.specs.declared.causes.Cause.TheVariants as cause
use Rattle.paths.specs.Paths.{PathData}
use Rattle.report.specs.Verdicts.{method_path_text, title_text}
use Rattle.explain_text.specs.Pages.{PageData}
use Rattle.explain_text.specs.Words.{access_text, field_title, held_list_text, lack_text, path_in}

-- by how much a guard guards
abbrev pub guarded : Bool → List ℕ
guarded false = codes " is guarded by "
guarded true = codes " is guarded for writing by "

-- which locks are held
abbrev pub holding : PageData → List PathData → List ℕ
holding page held = codes "; held: " ++ held_list_text page held

-- that a lock isn't held, or under another name alone
abbrev pub missing_text : PageData → Option PathData → List ℕ
missing_text page None = codes ", which isn't held here"
missing_text page (Some q) = codes ", which is held here under another name only, " ++ path_in page q

-- a call of a method that requires this path, in its own names
abbrev pub requires_text : PageData → ℕ → PathData → List ℕ
requires_text page m q = codes "calls " ++ title_text page.table m ++ codes ", which requires " ++ method_path_text page.table m q

-- what is wrong where these paths are held
abbrev pub cause_text : PageData → List PathData → Cause → List ℕ
cause_text page held (cause.Bare receiver f writes_only p second) =
    access_text page receiver f ++ guarded writes_only ++ path_in page p ++ missing_text page second ++ holding page held
cause_text page held (cause.Nameless f writes_only lack) =
    field_title page.table f ++ guarded writes_only ++ codes "a lock that has no name here, since " ++ lack_text page lack ++ holding page held
cause_text page held (cause.Lacking m q p second) =
    requires_text page m q ++ codes ": here that is " ++ path_in page p ++ missing_text page second ++ holding page held
cause_text page held (cause.LackingName m q lack) =
    requires_text page m q ++ codes ": that has no name here, since " ++ lack_text page lack ++ holding page held
cause_text page held (cause.Refused m) = codes "calls " ++ title_text page.table m ++ codes ", which is an error itself"
cause_text page held cause.Other = codes "an error"
