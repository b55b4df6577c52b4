use Rattle.std.proofs.Common.{◌≡◌, map, ap, sym, subst, ◌∙◌, string_bytes}
use Rattle.printer.specs.Layout.{writes}
use Rattle.printer.specs.Printing.{all_lexemes, canonical, class_lexemes}
use Rattle.printer.specs.Reprinted.{ReadsBack}
use Rattle.syntax.specs.Views.{class_of, program_tree}
use Rattle.printer.proofs.ReadingBack.{reads_back}
use Rattle.printer.proofs.Writing.{canonical_text}
use Rattle.printer.proofs.print.print_program.Goals as goal

pub returns : goal.returns
returns c =
    let t = program_tree c.args.program.now in
    let e : string_bytes c.into_text.result ≡ canonical t = canonical_text (string_bytes c.into_text.result) c.new-printer.result c.write_classes.new.to t c.new-printer.ensures
    (c.in_ok-write_classes.ensures ∙ ap (λ z. writes c.new-printer.result (all_lexemes class_lexemes (map class_of z))) c.deref.ensures.value) c.into_text.ensures in
    record {
      text = e;
      reads_back = λ source ts its g. subst (λ z. ReadsBack z t) (sym e) (reads_back t source ts its g);
    }
