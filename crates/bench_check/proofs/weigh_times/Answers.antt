-- Each turn works out the same ones and twos (`after_turn`); the working space keeps its lengths.
-- Assumes nothing.
use mathlib.Core.Path.{◌≡◌, refl, ◌∙◌}
use native.Mathlib.Omega.{arith}
use Rattle.trits.proofs.Counted.{same_counts}
use Rattle.bench_check.specs.{after}
use Rattle.bench_check.proofs.Laws.{after_turn}
use Rattle.bench_check.proofs.weigh_times.Goals as goal

pub loop-i-init : goal.loop-i-init
unfolding after
loop-i-init c = (refl, refl, same_counts c.default-counts.ensures.0 c.default-counts.ensures.1)

pub weigh-counts-requires : goal.weigh-counts-requires
weigh-counts-requires c =
    let l = c.loop-i.invariant in
    let p = c.requires in record {
      whole = p.whole;
      lengths = p.lengths;
      contents = p.contents;
      work_ones = l.0 ∙ p.work_ones;
      work_twos = l.1 ∙ p.work_twos;
    }

pub loop-i-preserved : goal.loop-i-preserved
loop-i-preserved c =
    let l = c.loop-i in (
      omega arith,
      omega arith,
      after_turn l._i c.weigh-counts.ensures,
    )

pub shape_of-work_ones : goal.shape_of-work_ones
shape_of-work_ones c =
    c.loop-i.invariant.0

pub shape_of-work_twos : goal.shape_of-work_twos
shape_of-work_twos c =
    c.loop-i.invariant.1

pub returns : goal.returns
returns c =
    let l = c.loop-i in
    let e : l._i ≡ c.args.times = omega arith in
    rw (← e) l.invariant.2
