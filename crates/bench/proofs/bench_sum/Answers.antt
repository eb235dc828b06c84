-- The planes stay where they are refused, and else hold the sum.
-- Assumes nothing.
use Prim.Native.Nat.{◌<◌}
use mathlib.Core.Path.{◌≡◌, refl, sym, ◌∙◌}
use native.Mathlib.Omega.{arith}
use Rattle.trits.proofs.Refusals.{number_positive, exit_kept, exit_new}
use Rattle.trits.proofs.Reading.{reads_words}
use Rattle.bench.specs.{sum_refusal, sum_ones, sum_twos}
use Rattle.bench.proofs.Laws.{addable}
use Rattle.bench.proofs.bench_sum.Goals as goal

pub returns-in-Err : goal.returns-in-Err
unfolding sum_ones sum_twos
returns-in-Err c =
    let a = c.args in
    let e : c.from.result ≡ sum_refusal a.ones.now a.twos.now a.so.now a.st.now = c.from.ensures ∙ c.in-Err.ensures in
    let p : 0 < c.from.result = omega (arith, number_positive c.in-Err.refusal) in
    record { value = e; ones_after = exit_kept _ _ e p; twos_after = exit_kept _ _ e p }

pub add_times-requires : goal.add_times-requires
add_times-requires c =
    let a = addable _ _ _ _ c.slice_known-1.given c.slice_known-2-1.given c.type_inv.so c.type_inv.st (sym c.in_default.ensures) in
    record { row = a.row; source = a.source; size = a.same }

pub returns : goal.returns
unfolding sum_ones sum_twos
returns c =
    let a = c.args in
    let z : sum_refusal a.ones.now a.twos.now a.so.now a.st.now ≡ 0 = sym c.in_default.ensures in
    let w = reads_words c.add_times.ensures refl (λ j. (c.type_inv.ones j).fits) (λ j. (c.type_inv.twos j).fits) in
    record { value = sym z; ones_after = w.ones_are ∙ exit_new _ _ z; twos_after = w.twos_are ∙ exit_new _ _ z }
