-- A trit 1 takes the row, a trit 2 adds it, and at 0 no row is looked at.
-- Assumes nothing.
use mathlib.Core.Path.{◌≡◌, refl, sym, ap, ap₂, ◌∙◌, subst₂}
use native.Mathlib.Omega.{arith}
use lib.ListN.{length}
use Rattle.trits.specs.Trit.{sub_t, add_t, zip_v}
use Rattle.trits.specs.Planes.{trit_at, Row, Reads}
use Rattle.trits.proofs.Reading.{reads_to}
use Rattle.held_key.specs.Held.{held_key, held_key_under}
use Rattle.held_key.proofs.Stretch.{ones_length, row_row}
use Rattle.checker.proofs.Product.{take_known, take_two, take_none}
use Rattle.checker.proofs.weighing.take_row.Goals as goal

pub returns-then-t-eq0 : goal.returns-then-t-eq0
returns-then-t-eq0 c =
    let a = c.args in record {
      row = c.requires.work.row;
      size = refl;
      trits = take_none (trit_at a.work_ones.now a.work_twos.now) (held_key a.held a.key.ones.now a.key.twos.now a.i) a.t c.if-t-eq0.true;
    }

pub sub_row-requires : goal.sub_row-requires
unfolding held_key_under
sub_row-requires c =
    -- the row lent is row i of the key: it can be read, has the size of the word under work, and holds the trits of the key
    let lent :
    let a = c.args in
    let row = held_key a.held a.key.ones.now a.key.twos.now a.i in Reads c.held_row.result.now c.held_row-2.result.now (length a.work_ones.now)
    row =
    let p = c.requires in
    let eo = c.held_row.ensures in
    let et = c.held_row-2.ensures in record {
      row = subst₂ Row (sym eo) (sym et) (row_row p.whole c.args.i p.row_in p.readable);
      size = ap length eo ∙ ones_length p.whole c.args.i p.row_in ∙ sym p.work.size;
      trits = ap₂ trit_at eo et;
    } in
    record { row = c.requires.work.row; source = lent.row; size = lent.size }

pub returns-then-t-eq1 : goal.returns-then-t-eq1
unfolding held_key_under
returns-then-t-eq1 c =
    -- the row lent is row i of the key: it can be read, has the size of the word under work, and holds the trits of the key
    let lent :
    let a = c.args in
    let row = held_key a.held a.key.ones.now a.key.twos.now a.i in Reads c.held_row.result.now c.held_row-2.result.now (length a.work_ones.now)
    row =
    let p = c.requires in
    let eo = c.held_row.ensures in
    let et = c.held_row-2.ensures in record {
      row = subst₂ Row (sym eo) (sym et) (row_row p.whole c.args.i p.row_in p.readable);
      size = ap length eo ∙ ones_length p.whole c.args.i p.row_in ∙ sym p.work.size;
      trits = ap₂ trit_at eo et;
    } in
    let a = c.args in
    let u = trit_at a.work_ones.now a.work_twos.now in
    reads_to c.sub_row.ensures
    (ap (zip_v sub_t u) lent.trits
    ∙ take_known u (held_key a.held a.key.ones.now a.key.twos.now a.i) a.t c.if-t-eq1.true)

pub add_row-requires : goal.add_row-requires
unfolding held_key_under
add_row-requires c =
    -- the row lent is row i of the key: it can be read, has the size of the word under work, and holds the trits of the key
    let lent :
    let a = c.args in
    let row = held_key a.held a.key.ones.now a.key.twos.now a.i in Reads c.held_row.result.now c.held_row-2.result.now (length a.work_ones.now)
    row =
    let p = c.requires in
    let eo = c.held_row.ensures in
    let et = c.held_row-2.ensures in record {
      row = subst₂ Row (sym eo) (sym et) (row_row p.whole c.args.i p.row_in p.readable);
      size = ap length eo ∙ ones_length p.whole c.args.i p.row_in ∙ sym p.work.size;
      trits = ap₂ trit_at eo et;
    } in
    record { row = c.requires.work.row; source = lent.row; size = lent.size }

pub returns-else-t-eq1 : goal.returns-else-t-eq1
unfolding held_key_under
returns-else-t-eq1 c =
    -- the row lent is row i of the key: it can be read, has the size of the word under work, and holds the trits of the key
    let lent :
    let a = c.args in
    let row = held_key a.held a.key.ones.now a.key.twos.now a.i in Reads c.held_row.result.now c.held_row-2.result.now (length a.work_ones.now)
    row =
    let p = c.requires in
    let eo = c.held_row.ensures in
    let et = c.held_row-2.ensures in record {
      row = subst₂ Row (sym eo) (sym et) (row_row p.whole c.args.i p.row_in p.readable);
      size = ap length eo ∙ ones_length p.whole c.args.i p.row_in ∙ sym p.work.size;
      trits = ap₂ trit_at eo et;
    } in
    let a = c.args in
    let u = trit_at a.work_ones.now a.work_twos.now in
    let z : a.t ≡ 2 = omega (arith, c.if-t-eq0.false, c.if-t-eq1.false, c.requires.trit) in
    reads_to c.add_row.ensures
    (ap (zip_v add_t u) lent.trits ∙ take_two u (held_key a.held a.key.ones.now a.key.twos.now a.i) a.t z)
