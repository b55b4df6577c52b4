use Rattle.std.proofs.Common.{ap}
use Rattle.witness.proofs.order_laws.comparison_laws.Goals as goal

pub returns-clause-objects : goal.returns-clause-objects
returns-clause-objects c q e same = (ap (λ s. s.heap) same, ap (λ s. s.output) same)

pub returns-clause-output : goal.returns-clause-output
returns-clause-output c q e same = same.1

pub returns-clause-weaker : goal.returns-clause-weaker
returns-clause-weaker c P strong weak weaker s w = record {
  last = w.last;
  runs = w.runs;
  closed = w.closed;
  broken = λ kept. w.broken (
    kept.0,
    record {
      rearranges = kept.1.rearranges;
      uninterrupted = kept.1.uninterrupted;
      last = kept.1.last;
      runs = kept.1.runs;
      like = weaker w.last kept.1.last kept.1.like;
    },
  );
}

pub returns-clause-full : goal.returns-clause-full
returns-clause-full c P by s w = record {
  last = w.last;
  runs = w.runs;
  closed = w.closed;
  broken = λ kept. w.broken (
    kept.0,
    record {
      uninterrupted = kept.1.uninterrupted;
      last = kept.1.last;
      runs = kept.1.runs;
      like = kept.1.like;
    },
  );
}
