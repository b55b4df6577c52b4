use Rattle.std.proofs.Common.{ap, ◌∙◌, arith}
use Rattle.core_program.specs.Views.{expr_of, exprs_from}
use Rattle.core_program.proofs.ViewLemmas.{expr_of-Call, expr_of-New}
use Rattle.compile.specs.Rooms.{expr_room, exprs_room}
use Rattle.compile.proofs.Measures.{expr_measure, exprs_measure}
use Rattle.compile.proofs.rooms.+rooms.Goals as goal

pub expr_room-exprs_room-requires : goal.expr_room-exprs_room-requires
expr_room-exprs_room-requires t c =
    let e = ap (λ x. expr_measure (expr_of x)) c.in-Call.is ∙ ap expr_measure (expr_of-Call c.in-Call.a c.in-Call.field-1 c.in-Call.args) in
    let s = ap (λ xs. exprs_measure (exprs_from xs)) c.as_slice.ensures.value in
    (omega arith, tt)

pub expr_room-exprs_room-requires-in-New : goal.expr_room-exprs_room-requires-in-New
expr_room-exprs_room-requires-in-New t c =
    let e = ap (λ x. expr_measure (expr_of x)) c.in-New.is ∙ ap expr_measure (expr_of-New c.in-New.field-0 c.in-New.args) in
    let s = ap (λ xs. exprs_measure (exprs_from xs)) c.as_slice-in-New.ensures.value in
    (omega arith, tt)

pub expr_room-returns-in_ok-one_more-in-Call : goal.expr_room-returns-in_ok-one_more-in-Call
expr_room-returns-in_ok-one_more-in-Call t c =
    let e = ap expr_room (ap expr_of c.in-Call.is ∙ expr_of-Call c.in-Call.a c.in-Call.field-1 c.in-Call.args) in
    let d = ap (λ x. expr_room (expr_of x)) c.deref-in-Call.ensures in
    let s = ap (λ xs. exprs_room (exprs_from xs)) c.as_slice.ensures.value in
    omega (arith, c.in_ok-expr_room-in-Call.ensures, c.in_ok-one_more-in-Call.ensures, c.in_ok-exprs_room-in-Call.ensures)

pub expr_room-returns-in_ok-exprs_room-in-New : goal.expr_room-returns-in_ok-exprs_room-in-New
expr_room-returns-in_ok-exprs_room-in-New t c =
    let e = ap expr_room (ap expr_of c.in-New.is ∙ expr_of-New c.in-New.field-0 c.in-New.args) in
    let s = ap (λ xs. exprs_room (exprs_from xs)) c.as_slice-in-New.ensures.value in
    omega (arith, c.in_ok-exprs_room-in-New.ensures)
