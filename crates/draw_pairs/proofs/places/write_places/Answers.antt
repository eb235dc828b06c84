-- The row is made 0, and the trits put there; the words are then known (`reads_words`).
-- Assumes nothing.
use mathlib.Core.Path.{ap, ◌∙◌}
use native.Mathlib.Omega.{arith}
use lib.ListN.{length}
use Rattle.trits.specs.Rows.{matrix_at}
use Rattle.trits.proofs.Reading.{reads_words}
use Rattle.trits.proofs.Lists.{length_zeros}
use Rattle.trits.proofs.Ends.{zeros_hold}
use Rattle.draw_pairs.specs.Steps.{written_from}
use Rattle.draw_pairs.proofs.places.write_places.Goals as goal

pub put_places-requires : goal.put_places-requires
put_places-requires c =
    let a = c.args in
    let e = c.zero_words.ensures in
    let n = ap length e ∙ length_zeros (length a.oo.now) in
    let p = c.requires in record {
      grid = c.requires.grid;
      nothing_put =
          zeros_hold (written_from a.half (matrix_at a.w a.m.ones.now a.m.twos.now a.u) (matrix_at a.w a.m.ones.now a.m.twos.now a.v)
          a.p.now a.from) e c.zero_words-2.ensures p.twos_size;
      is_order = c.requires.is_order;
      small = c.requires.small;
      u_in = c.requires.u_in;
      v_in = c.requires.v_in;
      half_fits = c.requires.half_fits;
      places_fit = p.places_fit;
      room = omega (arith, n, p.room);
    }

pub returns : goal.returns
returns c =
    let a = c.args in
    let n = ap length c.zero_words.ensures ∙ length_zeros (length a.oo.now) in
    let w = reads_words c.put_places.ensures n (λ j. (c.type_inv.oo j).fits) (λ j. (c.type_inv.ot j).fits) in
    record {
      oo_after = w.ones_are;
      ot_after = w.twos_are;
    }
