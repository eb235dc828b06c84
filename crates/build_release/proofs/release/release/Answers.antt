-- The arranged matrix of the secret has R in its last columns (`Keyed`), and the key is read down them.
-- Assumes nothing.
use mathlib.Core.Path.{◌∙◌}
use native.Mathlib.Omega.{arith}
use Rattle.calls.specs.Lent.{planes_of, secret_of}
use Rattle.calls.proofs.Bounds.{bounds}
use Rattle.build_ranks.proofs.Lengths.{products}
use Rattle.build_release.proofs.Released.{row_words, ready_order, ready_size, ready_rank, final_order, final_ones, final_twos}
use Rattle.build_release.proofs.release.release.Goals as goal

pub overflow_add-k : goal.overflow_add-k
overflow_add-k c =
    let b = bounds c.args.z.sizes c.args.z.fit in
    omega (arith, b.high, b.ku, b.kv)

pub make_key-requires : goal.make_key-requires
make_key-requires c =
    let z = c.args.z.sizes in
    let s = secret_of z (planes_of c.args.secret) in
    let o = c.args.start.now in
    let q = c.requires in
    let r = q.is_order in
    let b = bounds z c.args.z.fit in
    let f = c.fill_matrix.ensures in
    let e = c.copy_order.ensures in
    let n = ready_size z s o f e r.size r q.rank_full in
    rw (row_words z c.shape-half.ensures c.div_ceil-kw.ensures, c.shape-half.ensures) (record {
      grid = f.rows;
      small = omega (arith, f.rows.size, (products z b).work);
      narrow = omega (arith, b.high);
      few = omega (arith, b.high);
      half_fits = omega arith;
      words = omega arith;
      places_fit = omega (arith, n);
      is_order = ready_order z s o f e r.size r q.rank_full;
      rank_full = ready_rank z s o f e r.size r q.rank_full;
      columns = omega (arith, n, b.ku, b.kv);
      key_words = omega (arith, b.ku, b.kv, b.high);
      ones_size = q.key_ones_size;
      twos_size = q.key_twos_size;
    })

pub returns : goal.returns
returns c =
    let z = c.args.z.sizes in
    let s = secret_of z (planes_of c.args.secret) in
    let o = c.args.start.now in
    let q = c.requires in
    let r = q.is_order in
    let f = c.fill_matrix.ensures in
    let e = c.copy_order.ensures in
    let g = rw (row_words z c.shape-half.ensures c.div_ceil-kw.ensures, c.shape-half.ensures) at c.make_key.ensures in (
      final_order z s o f e r.size r q.rank_full g.order_after,
      g.ko_after ∙ final_ones z s o f e r.size r q.rank_full g.order_after,
      g.kt_after ∙ final_twos z s o f e r.size r q.rank_full g.order_after,
    )
