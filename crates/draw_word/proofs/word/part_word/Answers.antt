-- The syndrome is placed in rows of 0, and its halves are parted (`word_parted`).
-- Assumes nothing.
use Prim.Native.Nat.{◌+◌, ◌*◌, ◌≤◌}
use native.Mathlib.Omega.{arith}
use Rattle.trits.specs.Planes.{trit_at}
use Rattle.calls.specs.Lent.{half_words}
use Rattle.calls.proofs.Bounds.{Bounds, bounds, prod}
use Rattle.draw_word.specs.Steps.{pairs_of, start_word}
use Rattle.draw_word.proofs.Stages.{space_rows, space_empty, word_parted}
use Rattle.draw_word.proofs.word.part_word.Goals as goal

pub overflow_add-s : goal.overflow_add-s
overflow_add-s c =
    -- the sizes are in their ranges
    let within : Bounds c.args.z.sizes =
    bounds c.args.z.sizes c.args.z.fit in
    rw c.shape-s.ensures (omega (arith, (within).high))

pub overflow_add-rows : goal.overflow_add-rows
overflow_add-rows c = omega (arith, c.requires.small)

pub place_syndrome-requires : goal.place_syndrome-requires
place_syndrome-requires c =
    -- the sizes are in their ranges
    let within : Bounds c.args.z.sizes =
    bounds c.args.z.sizes c.args.z.fit in
    -- the working space has few words
    let few : (c.args.l + 5) * half_words c.args.z.sizes ≤ 8440 * 128 =
    let h = (within).high in
    prod (c.args.l + 5) (half_words c.args.z.sizes) 8440 128 (omega (arith, c.requires.small)) (omega (arith, h)) in
    let a = c.args in
    let b = within in
    let m = c.requires in
    let q = c.clear.ensures in
    let h = b.high in
    let r = space_rows _ _ (a.l + 5) (half_words a.z.sizes) q.0 q.1 m.work_ones_size m.work_twos_size in
    let none = space_empty _ _ (a.l + 5) (half_words a.z.sizes) q.0 q.1 m.work_ones_size m.work_twos_size in
    rw c.shape-s.ensures (record {
      grid = r;
      u_zero = none a.l;
      v_zero = none (a.l + 1);
      is_order = m.is_order;
      small = omega (arith, r.size, few);
      l_in = omega arith;
      half_fits = omega (arith, h);
      places_fit = omega (arith, b.ku, b.kv);
      y_room = omega (arith, m.y_size_here);
      y_twos = m.y_twos_here;
    })

pub part_halves-requires : goal.part_halves-requires
part_halves-requires c =
    let e = c.shape-s.ensures in
    rw e (record {
      grid = (rw e at c.place_syndrome.ensures).rows;
      b_row = c.requires.b_row;
      c_row = c.requires.c_row;
      l_in = omega arith;
      b_size_here = c.requires.b_size_here;
      c_size_here = c.requires.c_size_here;
    })

pub returns : goal.returns
returns c =
    let a = c.args in
    let m = c.requires in
    let q = c.clear.ensures in
    let e = c.shape-s.ensures in
    let h = rw e at c.part_halves.ensures in record {
      rows = h.rows;
      parted = word_parted a.z.sizes a.l (pairs_of a.b.ones.now a.b.twos.now a.c.ones.now a.c.twos.now)
          (start_word a.z.sizes a.p.now (trit_at a.y.ones.now a.y.twos.now)) (half_words a.z.sizes) _ _ _ _ _ _
          (space_empty _ _ (a.l + 5) (half_words a.z.sizes) q.0 q.1 m.work_ones_size m.work_twos_size)
          (rw e at c.place_syndrome.ensures) h;
    }
