-- What is left behind the bytes that were read.
use Rattle.std.proofs.Common.{◌≡◌, ◌+◌, ◌<◌, ◌^◌, ◌∙◌, sym, ap, subst}
use Rattle.std.specs.Prelude.{IfSome}
use Rattle.edge.specs.RealFiles.{left_of}
use Rattle.edge.proofs.ReadingLemmas.{left_less, left_now, some_weaker}
use Rattle.edge.proofs.file_folder.FileFolder.read_part.Goals as goal

pub returns-clause-less : goal.returns-clause-less
returns-clause-less g c some below =
    let asked = c.in_ok-reading.ensures in
    let told = c.read_on.ensures in
    let n = c.in_ok-n.n in
    let after = g.R.File.Read.remaining c.read.new.self in
    let there = told.some some (subst (λ k. k + n < 2 ^ 64) (sym asked.at) below) in
    let now = left_now c.read_on.result (λ r. record { name = r.name.bytes; at = r.at; left = g.R.File.Read.remaining r.file }) c.args.at n c.args.name.now after there
    (subst (λ k. IfSome c.read_on.result (λ r. r.at ≡ k + n)) asked.at told.at)
    (some_weaker c.read_on.result (λ r. r.name ≡ c.in_ok-reading.reading.name) (λ r. r.name.bytes ≡ c.args.name.now) (λ r same. ap (λ x. x.bytes) same ∙ asked.name) told.name)
    (some_weaker c.read_on.result (λ r. r.file ≡ c.read.new.self) (λ r. g.R.File.Read.remaining r.file ≡ after) (λ r same. ap (λ x. g.R.File.Read.remaining x) same) told.file) in
    left_less (left_of c.args.self.now c.args.name.now c.args.at) (g.R.File.Read.remaining c.in_ok-reading.reading.file) after _ c.read.new.buf n c.in_ok-n.ensures.bound.0
    asked.left c.in_ok-n.ensures.bytes.0 now
