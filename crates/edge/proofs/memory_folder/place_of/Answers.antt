-- The files are seen as a mapped list.
use Rattle.std.proofs.Common.{◌∙◌, sym, string_bytes}
use Rattle.std.specs.Str.{bytes_eq}
use Rattle.edge.specs.InMemory.{StoredFile}
use Rattle.edge.proofs.FileLemmas.{position-map}
use Rattle.edge.proofs.memory_folder.place_of.Goals as goal

pub returns : goal.returns
returns c =
    c.first_named.ensures ∙ sym (position-map (λ f. record { name = string_bytes f.0; bytes = f.1.items }) (λ (f : StoredFile). bytes_eq f.name c.args.name.now) c.args.files.now)
