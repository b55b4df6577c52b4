-- A cell whose links are met, and one whose links raise others.
use Rattle.std.proofs.Common.{sym, ap, ◌∙◌}
use Rattle.level_check.specs.Rises.{marks_of}
use Rattle.level_check.proofs.Settled.{turn}
use Rattle.level_check.proofs.rising.CellsRising.raise.Goals as goal

pub returns-then-not-raise_links-clause-exact : goal.returns-then-not-raise_links-clause-exact
returns-then-not-raise_links-clause-exact c =
    let s = c.args.self.now in
    let t = turn s.rows.items c.deref.result.now c.args.cell c.in-Some.row.now c.row.inside.links.items c.as_slice.result.now s.levels.items c.as_mut_slice.result.now c.raise_links.new.levels s.levels.len c.raise_links.result
    c.deref.ensures.value c.in-Some.ensures.lookup.3.0 c.in-Some.ensures.lookup.1 c.row.view_is c.as_slice.ensures.value c.as_mut_slice.ensures.value c.raise_links.ensures.exact c.raise_links.ensures.levels s.levels.ok.0 in
    sym c.if-not-raise_links.true ∙ t.exact

pub returns-then-not-raise_links-clause-kept : goal.returns-then-not-raise_links-clause-kept
returns-then-not-raise_links-clause-kept c =
    let s = c.args.self.now in
    let t = turn s.rows.items c.deref.result.now c.args.cell c.in-Some.row.now c.row.inside.links.items c.as_slice.result.now s.levels.items c.as_mut_slice.result.now c.raise_links.new.levels s.levels.len c.raise_links.result
    c.deref.ensures.value c.in-Some.ensures.lookup.3.0 c.in-Some.ensures.lookup.1 c.row.view_is c.as_slice.ensures.value c.as_mut_slice.ensures.value c.raise_links.ensures.exact c.raise_links.ensures.levels s.levels.ok.0 in
    λ e. ap marks_of (t.kept c.if-not-raise_links.true)

pub returns-then-not-raise_links-clause-keeps : goal.returns-then-not-raise_links-clause-keeps
returns-then-not-raise_links-clause-keeps c =
    let s = c.args.self.now in
    let t = turn s.rows.items c.deref.result.now c.args.cell c.in-Some.row.now c.row.inside.links.items c.as_slice.result.now s.levels.items c.as_mut_slice.result.now c.raise_links.new.levels s.levels.len c.raise_links.result
    c.deref.ensures.value c.in-Some.ensures.lookup.3.0 c.in-Some.ensures.lookup.1 c.row.view_is c.as_slice.ensures.value c.as_mut_slice.ensures.value c.raise_links.ensures.exact c.raise_links.ensures.levels s.levels.ok.0 in
    λ earlier k. (k.0, t.raised.count ∙ k.1, t.keeps earlier.rows.items earlier.levels.items k.0 k.2)

pub returns-clause-exact : goal.returns-clause-exact
returns-clause-exact c =
    let s = c.args.self.now in
    let t = turn s.rows.items c.deref.result.now c.args.cell c.in-Some.row.now c.row.inside.links.items c.as_slice.result.now s.levels.items c.as_mut_slice.result.now c.raise_links.new.levels s.levels.len c.raise_links.result
    c.deref.ensures.value c.in-Some.ensures.lookup.3.0 c.in-Some.ensures.lookup.1 c.row.view_is c.as_slice.ensures.value c.as_mut_slice.ensures.value c.raise_links.ensures.exact c.raise_links.ensures.levels s.levels.ok.0 in
    sym c.if-not-raise_links.false ∙ t.exact

pub returns-clause-rises : goal.returns-clause-rises
returns-clause-rises c =
    let s = c.args.self.now in
    let t = turn s.rows.items c.deref.result.now c.args.cell c.in-Some.row.now c.row.inside.links.items c.as_slice.result.now s.levels.items c.as_mut_slice.result.now c.raise_links.new.levels s.levels.len c.raise_links.result
    c.deref.ensures.value c.in-Some.ensures.lookup.3.0 c.in-Some.ensures.lookup.1 c.row.view_is c.as_slice.ensures.value c.as_mut_slice.ensures.value c.raise_links.ensures.exact c.raise_links.ensures.levels s.levels.ok.0 in
    λ e. t.raised.rises

pub returns-clause-under : goal.returns-clause-under
returns-clause-under c =
    let s = c.args.self.now in
    let t = turn s.rows.items c.deref.result.now c.args.cell c.in-Some.row.now c.row.inside.links.items c.as_slice.result.now s.levels.items c.as_mut_slice.result.now c.raise_links.new.levels s.levels.len c.raise_links.result
    c.deref.ensures.value c.in-Some.ensures.lookup.3.0 c.in-Some.ensures.lookup.1 c.row.view_is c.as_slice.ensures.value c.as_mut_slice.ensures.value c.raise_links.ensures.exact c.raise_links.ensures.levels s.levels.ok.0 in
    λ e x closed above. t.raised.under x closed above

pub returns-clause-others : goal.returns-clause-others
returns-clause-others c =
    let s = c.args.self.now in
    let t = turn s.rows.items c.deref.result.now c.args.cell c.in-Some.row.now c.row.inside.links.items c.as_slice.result.now s.levels.items c.as_mut_slice.result.now c.raise_links.new.levels s.levels.len c.raise_links.result
    c.deref.ensures.value c.in-Some.ensures.lookup.3.0 c.in-Some.ensures.lookup.1 c.row.view_is c.as_slice.ensures.value c.as_mut_slice.ensures.value c.raise_links.ensures.exact c.raise_links.ensures.levels s.levels.ok.0 in
    λ e other away before. t.raised.others other away before

pub returns-clause-keeps : goal.returns-clause-keeps
returns-clause-keeps c =
    let s = c.args.self.now in
    let t = turn s.rows.items c.deref.result.now c.args.cell c.in-Some.row.now c.row.inside.links.items c.as_slice.result.now s.levels.items c.as_mut_slice.result.now c.raise_links.new.levels s.levels.len c.raise_links.result
    c.deref.ensures.value c.in-Some.ensures.lookup.3.0 c.in-Some.ensures.lookup.1 c.row.view_is c.as_slice.ensures.value c.as_mut_slice.ensures.value c.raise_links.ensures.exact c.raise_links.ensures.levels s.levels.ok.0 in
    λ earlier k. (k.0, t.raised.count ∙ k.1, t.keeps earlier.rows.items earlier.levels.items k.0 k.2)
