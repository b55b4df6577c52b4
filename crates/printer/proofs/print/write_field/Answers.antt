use Rattle.std.proofs.Common.{refl}
use Rattle.std.specs.Option.{option_map}
use Rattle.syntax.specs.declared.terminal.Terminal.TheVariants as T
use Rattle.printer.specs.Printing.{field_lexemes, flag_lexemes, guard_lexemes}
use Rattle.syntax.specs.Views.{lock_of}
use Rattle.printer.proofs.Writing.{put_first, writes_first, put_last, added}
use Rattle.printer.proofs.print.write_field.Goals as goal

pub returns : goal.returns
returns c =
    let guard = option_map lock_of c.args.guard.now in
    let all = field_lexemes record { is_final = c.args.is_final; ty = c.args.ty.now; name = c.args.name.now; guard = guard; writes_only = c.args.writes_only } in
    added c.terminal.result c.args.to.now c.terminal.new.self all all refl
    (writes_first (flag_lexemes T.Final c.args.is_final) c.in_ok-write_flag.ensures (put_first c.in_ok-write_type.ensures (put_first c.in_ok-write_name.ensures (writes_first (guard_lexemes c.args.writes_only guard) c.in_ok-write_guard.ensures (put_last c.terminal.ensures.put)))))
