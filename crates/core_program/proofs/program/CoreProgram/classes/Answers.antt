use Rattle.std.proofs.Common.{sym, ap, ◌∙◌, map}
use Rattle.std.proofs.lemmas.Simd.{map-map}
use Rattle.core_program.specs.Kept.{kept_class}
use Rattle.core_program.specs.Pairs.{class_with_pairs}
use Rattle.core_program.specs.Views.{kept_classes, core_class_of}
use Rattle.core_program.proofs.program.CoreProgram.classes.Goals as goal

pub returns : goal.returns
returns c =
    let p = c.args.self.now in
    ap (map (core_class_of p)) c.as_slice.ensures.value ∙ sym (map-map (class_with_pairs (kept_classes p) p.names.items) kept_class p.classes.items)
