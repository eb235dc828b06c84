-- By what the row writer says, for all places and for the last k.
-- Assumes nothing.
use Prim.Native.Nat.{ℕ, ◌+◌}
use mathlib.Core.Path.{◌≡◌, sym, ap, ◌∙◌}
use mathlib.Core.List.{List}
use native.Mathlib.Omega.{arith}
use Rattle.trits.specs.Planes.{ones_of, twos_of}
use Rattle.matrix.specs.Linear.{Vector}
use Rattle.calls.specs.Lent.{half_words}
use Rattle.calls.proofs.Bounds.{bounds, prod}
use Rattle.draw_release.proofs.release_word.Goals as goal

-- a plane of n words, where n is m
ones_sized : {o : List ℕ} (v : Vector) {n m : ℕ} → o ≡ ones_of v n → n ≡ m → o ≡ ones_of v m
ones_sized v e f = e ∙ ap (ones_of v) f

twos_sized : {o : List ℕ} (v : Vector) {n m : ℕ} → o ≡ twos_of v n → n ≡ m → o ≡ twos_of v m
twos_sized v e f = e ∙ ap (twos_of v) f

pub overflow_add-rows : goal.overflow_add-rows
overflow_add-rows c = omega (arith, c.requires.small)

pub overflow_add-u : goal.overflow_add-u
overflow_add-u c = omega (arith, c.requires.small)

pub overflow_add-v : goal.overflow_add-v
overflow_add-v c = omega (arith, c.requires.small)

pub overflow_add-n : goal.overflow_add-n
overflow_add-n c =
    rw c.shape-s.ensures (omega (arith, (bounds c.args.z.sizes c.args.z.fit).high))

pub overflow_add-k : goal.overflow_add-k
overflow_add-k c =
    let b = bounds c.args.z.sizes c.args.z.fit in
    omega (arith, b.high, b.ku, b.kv)

pub overflow_add-first : goal.overflow_add-first
overflow_add-first c =
    rw c.shape-s.ensures (omega (arith, (bounds c.args.z.sizes c.args.z.fit).high))

pub write_places-requires : goal.write_places-requires
write_places-requires c =
    let a = c.args in
    let R = c.requires.grid in
    let n = c.requires in
    let o = c.requires.is_order in
    let h = (bounds a.z.sizes a.z.fit).high in
    let big = prod (a.l + 5) (half_words a.z.sizes) 8440 128 (omega (arith, c.requires.small)) (omega (arith, h)) in
    rw c.shape-s.ensures (record {
      grid = R;
      is_order = o;
      small = omega (arith, R.size, big);
      u_in = omega arith;
      v_in = omega arith;
      half_fits = omega (arith, h);
      places_fit = omega (arith, o.size);
      room = omega (arith, n.word_ones_size);
      twos_size = n.word_twos_size ∙ sym n.word_ones_size;
    })

pub write_places-requires-2 : goal.write_places-requires-2
write_places-requires-2 c =
    let a = c.args in
    let b = bounds a.z.sizes a.z.fit in
    let R = c.requires.grid in
    let n = c.requires in
    let o = c.requires.is_order in
    let h = b.high in
    let big = prod (a.l + 5) (half_words a.z.sizes) 8440 128 (omega (arith, c.requires.small)) (omega (arith, h)) in
    rw c.shape-s.ensures (record {
      grid = R;
      is_order = o;
      small = omega (arith, R.size, big);
      u_in = omega arith;
      v_in = omega arith;
      half_fits = omega (arith, h);
      places_fit = omega (arith, o.size, b.ku, b.kv);
      room = omega (arith, n.s_ones_size);
      twos_size = n.s_twos_size ∙ sym n.s_ones_size;
    })

pub returns : goal.returns
returns c =
    let n = c.requires in
    let e = c.shape-s.ensures in
    let w = rw e at c.write_places.ensures in
    let t = rw e at c.write_places-2.ensures in (
      ones_sized _ w.oo_after n.word_ones_size,
      twos_sized _ w.ot_after n.word_ones_size,
      ones_sized _ t.oo_after n.s_ones_size,
      twos_sized _ t.ot_after n.s_ones_size,
    )
