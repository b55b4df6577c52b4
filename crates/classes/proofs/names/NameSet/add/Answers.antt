use Rattle.std.proofs.Common.{◌≡◌, not, sym, ap, ◌∙◌, map, ◌++◌, length, bytes_eq}
use Rattle.std.specs.List.{list_any}
use Rattle.classes.specs.Shows.{shows}
use Rattle.classes.proofs.Sets.{is_held, is_behind, as_it_is, put_first, put_behind}
use Rattle.classes.proofs.names.NameSet.add.Goals as goal

pub returns-then-is_in-clause-is_new : goal.returns-then-is_in-clause-is_new
returns-then-is_in-clause-is_new c =
    ap not (sym (is_held c.self.inside.few.items c.self.inside.more.keys c.deref.result.now c.args.text.now c.args.self.now c.is_in.result c.self.view_is
    c.deref.ensures.value c.is_in.ensures c.if-is_in.true))

pub returns-then-is_in-clause-names : goal.returns-then-is_in-clause-names
returns-then-is_in-clause-names c =
    as_it_is c.args.self.now c.args.text.now
    (is_held c.self.inside.few.items c.self.inside.more.keys c.deref.result.now c.args.text.now c.args.self.now c.is_in.result c.self.view_is
    c.deref.ensures.value c.is_in.ensures c.if-is_in.true)

pub returns-then-len-lt-FEW-clause-names : goal.returns-then-len-lt-FEW-clause-names
returns-then-len-lt-FEW-clause-names c =
    let none : length c.self.inside.more.keys ≡ 0 = c.is_empty.ensures.0 c.if-is_empty.true in
    put_first c.self.inside.few.items c.self.inside.more.keys c.push.new.self.items c.args.text c.args.self.now none
    c.in_ok-push.ensures.items
    (sym (c.is_in.ensures ∙ ap (list_any (λ k. bytes_eq c.args.text.now k.now)) c.deref.ensures.value) ∙ c.if-is_in.false) c.self.view_is

pub returns-clause-is_new : goal.returns-clause-is_new
returns-clause-is_new c =
    c.in_ok-insert.ensures.added ∙ ap not (sym (is_behind c.self.inside.few.items c.self.inside.more.keys c.deref.result.now c.args.text.now c.args.self.now
    c.is_in.result c.self.view_is c.deref.ensures.value c.is_in.ensures c.if-is_in.false))

pub returns-clause-names : goal.returns-clause-names
returns-clause-names c =
    ap (λ more. map shows (c.self.inside.few.items ++ more)) c.in_ok-insert.ensures.keys
    ∙ put_behind c.self.inside.few.items c.self.inside.more.keys c.args.text c.args.self.now
    (sym (c.is_in.ensures ∙ ap (list_any (λ k. bytes_eq c.args.text.now k.now)) c.deref.ensures.value) ∙ c.if-is_in.false) c.self.view_is
