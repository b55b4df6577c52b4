use Rattle.std.proofs.Common.{◌++◌, codes, string_bytes, arith}
use Rattle.base.proofs.Texts.{kept_more}
use Rattle.printer.specs.Layout.{indent}
use Rattle.printer.proofs.Indents.{indent_step}
use Rattle.printer.proofs.page.write_indent.Goals as goal

pub loop-level-preserved : goal.loop-level-preserved
loop-level-preserved c = (
  indent_step (string_bytes c.args.text.now ++ indent c.args.depth) (string_bytes c.loop-level.text) (string_bytes c.push_str.new.self) c.args.depth c.loop-level._level (omega (arith, c.loop-level-test.true)) c.loop-level.invariant.0 c.in_ok-push_str.ensures.bytes,
  omega (arith, c.loop-level.invariant.1, c.in_ok-push_str.ensures.len),
  kept_more (string_bytes c.args.text.now) (string_bytes c.loop-level.text) (string_bytes c.push_str.new.self) (codes "    ") c.loop-level.invariant.2 c.in_ok-push_str.ensures.bytes,
)
