-- The half-rows of U and then those of V are the secret matrix (`filled_done`).
-- Assumes nothing.
use native.Mathlib.Omega.{arith}
use Rattle.calls.specs.Lent.{planes_of}
use Rattle.calls.proofs.Bounds.{bounds}
use Rattle.build_release.proofs.Released.{zero_rows, zero_cells, filled_done}
use Rattle.build_release.proofs.release.fill_matrix.Goals as goal

pub fill-requires : goal.fill-requires
fill-requires c =
    let z = c.args.z in
    let b = bounds z.sizes z.fit in
    let q = c.requires in
    let r = q.readable in
    rw c.shape-words.ensures (record {
      grid = zero_rows z.sizes _ _ c.zero_words.ensures c.zero_words-2.ensures q.ones_size q.twos_size;
      h_grid = r.hu;
      left_with = (record { row = r.b; size = r.b_size }, record { row = r.c; size = r.c_size });
      right_with = record { row = r.b; size = r.b_size };
      room = omega arith;
      few = omega (arith, b.high);
      h_few = omega (arith, b.high);
      narrow = omega (arith, b.high);
    })

pub fill-requires-2 : goal.fill-requires-2
fill-requires-2 c =
    let z = c.args.z in
    let b = bounds z.sizes z.fit in
    let r = c.requires.readable in
    let e = c.shape-words.ensures in
    rw e (record {
      grid = (rw e at c.fill.ensures).rows;
      h_grid = r.hv;
      left_with = record { row = r.c; size = r.c_size };
      right_with = tt;
      room = omega arith;
      few = omega (arith, b.high);
      h_few = omega (arith, b.high);
      narrow = omega (arith, b.high);
    })

pub returns : goal.returns
returns c =
    let z = c.args.z.sizes in
    let q = c.requires in
    let e = c.shape-words.ensures in
    filled_done z (planes_of c.args.secret) _ (zero_cells z _ _ c.zero_words.ensures c.zero_words-2.ensures q.ones_size q.twos_size) q.readable
    (rw e at c.fill.ensures) (rw e at c.fill-2.ensures)
