-- The working space is y, then y less the rows that s names; its ones and twos with those of s are the full word's (`weighed`).
-- Assumes nothing.
use Prim.Native.Nat.{◌*◌}
use mathlib.Core.Path.{◌≡◌, refl, sym, ap, ap₂, ◌∙◌, subst₂}
use mathlib.Core.List.{List}
use Prim.Native.Nat.{ℕ}
use native.Mathlib.Omega.{arith}
use lib.ListN.{length}
use Rattle.trits.specs.Trit.{counts_v, sum_of}
use Rattle.trits.specs.Planes.{trit_at, words_for, Row, Reads}
use Rattle.trits.specs.Refusal.{planes_refusal}
use Rattle.trits.proofs.Counting.{counts_le}
use Rattle.trits.proofs.Ends.{counts_ended}
use Rattle.trits.proofs.Refusals.{row_ended}
use Rattle.held_key.specs.Held.{row_trits}
use Rattle.held_key.proofs.Sizes.{sizes}
use Rattle.check_tests.proofs.Passed.{fitted, contents}
use Rattle.checker.proofs.Weighed.{weighed, at_most}
use Rattle.checker.proofs.weighing.weigh.Goals as goal

-- two planes that were copied hold what their sources hold
copied : {o t p q : List ℕ} {n : ℕ} → o ≡ p → t ≡ q → Row p q → length p ≡ n → Reads o t n (trit_at p q)
copied e f row size = record { row = subst₂ Row (sym e) (sym f) row; size = ap length e ∙ size; trits = ap₂ trit_at e f }

-- the words of a row of k trits have the ones and twos of its trits
counted : (ones twos : List ℕ) (k : ℕ) → planes_refusal ones twos 1 k ≡ 0 → length ones ≡ words_for k → length twos ≡ words_for k
    → counts_v (trit_at ones twos) (64 * length ones) ≡ counts_v (trit_at ones twos) k
counted ones twos k tested lo lt = counts_ended (trit_at ones twos) k (64 * length ones) (omega (arith, lo)) (row_ended ones twos k tested lo lt)

pub copy_words-requires : goal.copy_words-requires
copy_words-requires c =
    (fitted _ _ _ _ _ c.requires.lengths).y_ones ∙ sym c.requires.work_ones

pub copy_words-requires-2 : goal.copy_words-requires-2
copy_words-requires-2 c =
    (fitted _ _ _ _ _ c.requires.lengths).y_twos ∙ sym c.requires.work_twos

pub take_rows-requires : goal.take_rows-requires
take_rows-requires c =
    let p = c.requires in
    let h = c.args.begun.held in
    let f = fitted _ _ _ _ _ p.lengths in
    let passed = contents _ _ _ _ _ _ _ p.contents in
    let y_readable = c.readable-2.ensures 1 (row_trits h) passed.1 (f.y_twos ∙ sym f.y_ones) in
    let work = copied c.copy_words.ensures c.copy_words-2.ensures y_readable f.y_ones in
    record {
      whole = p.whole;
      readable = c.readable.ensures h.k (row_trits h) passed.0 (p.whole.twos_size ∙ sym p.whole.ones_size);
      work = record { row = work.row; size = work.size };
      s_trits = omega (arith, f.s_ones);
      s_twos = f.s_twos ∙ sym f.s_ones;
    }

pub count-first-requires : goal.count-first-requires
count-first-requires c =
    let p = c.requires in
    let f = fitted _ _ _ _ _ p.lengths in
    let size = ap length c.copy_words.ensures ∙ f.y_ones in
    let r = c.take_rows.ensures in
    record {
      row = r.row;
      ones_len_bound = omega (arith, r.size, size, sizes c.args.begun.held p.whole.is_sound);
    }

pub count-last-requires : goal.count-last-requires
count-last-requires c =
    let p = c.requires in
    let h = c.args.begun.held in
    let f = fitted _ _ _ _ _ p.lengths in
    record {
      row = c.readable-3.ensures 1 h.k (contents _ _ _ _ _ _ _ p.contents).2 (f.s_twos ∙ sym f.s_ones);
      ones_len_bound = omega (arith, f.s_ones, sizes h p.whole.is_sound);
    }

pub add_counts-requires : goal.add_counts-requires
add_counts-requires c =
    let p = c.requires in
    let h = c.args.begun.held in
    let s = c.args.s in
    let f = fitted _ _ _ _ _ p.lengths in
    let size = ap length c.copy_words.ensures ∙ f.y_ones in
    let of_s = counted s.ones.now s.twos.now h.k (contents _ _ _ _ _ _ _ p.contents).2 f.s_ones f.s_twos in
    let few = sizes h p.whole.is_sound in (
      omega (arith, at_most c.take_rows.ensures c.count-first.ensures, size, few),
      omega (arith, ap sum_of (c.count-last.ensures ∙ of_s), counts_le (trit_at s.ones.now s.twos.now) h.k, few),
    )

pub returns : goal.returns
returns c =
    let p = c.requires in
    let h = c.args.begun.held in
    let y = c.args.y in
    let s = c.args.s in
    let f = fitted _ _ _ _ _ p.lengths in
    let passed = contents _ _ _ _ _ _ _ p.contents in
    let y_readable = c.readable-2.ensures 1 (row_trits h) passed.1 (f.y_twos ∙ sym f.y_ones) in
    let work = copied c.copy_words.ensures c.copy_words-2.ensures y_readable f.y_ones in
    let of_s = counted s.ones.now s.twos.now h.k passed.2 f.s_ones f.s_twos in
    c.add_counts.ensures
    ∙ weighed (trit_at y.ones.now y.twos.now) (trit_at s.ones.now s.twos.now) p.whole passed.0
    (row_ended y.ones.now y.twos.now (row_trits h) passed.1 f.y_ones f.y_twos) work refl
    c.take_rows.ensures c.count-first.ensures (c.count-last.ensures ∙ of_s)
