-- The hash decides; where it refuses nothing the working space holds y, and the full word is judged.
-- Assumes nothing.
use Prim.Native.Nat.{ℕ}
use mathlib.Core.Path.{sym, ap, ◌∙◌}
use native.Mathlib.Omega.{arith}
use Rattle.trits.specs.Trit.{Trit}
use Rattle.trits.specs.Planes.{words_for, Reads}
use Rattle.packed.specs.Packed.{packed_row}
use Rattle.syndrome.specs.Syndrome.{hashed_row, hashed_refusal}
use Rattle.syndrome.proofs.Made.{hashed_ended, made_reads}
use Rattle.held_key.specs.Held.{row_trits, row_words}
use Rattle.held_key.proofs.Sizes.{sizes}
use Rattle.check_tests.specs.Check.{held_counts}
use Rattle.check_tests.proofs.Answers.{told_refused, answer_new}
use Rattle.checker.proofs.Weighed.{few_counts}
use Rattle.check_text.proofs.Tested.{text_fitted, text_contents_law}
use Rattle.check_text.proofs.judge_text.Goals as goal

pub make-requires : goal.make-requires
make-requires c =
    let e = c.row_trits.ensures in
    let n = sizes _ c.args.begun.sound in record {
      small = omega (arith, e, n);
      twos_size = c.requires.work_twos ∙ sym c.requires.work_ones;
      ones_size = c.requires.work_ones ∙ ap words_for (sym e);
      message = c.requires.message;
    }

pub returns-in_err-make : goal.returns-in_err-make
returns-in_err-make c =
    let a = c.args in
    told_refused _ _ _ _ c.from_residual.ensures.1
    (c.in_err-make.ensures.0 ∙ ap (λ (m : ℕ). hashed_refusal m a.salt.now a.text.now) c.row_trits.ensures)

pub weigh_made-counts-requires : goal.weigh_made-counts-requires
weigh_made-counts-requires c =
    -- where it refused nothing the working space holds y
    let e = c.in_ok-make.ensures in
    let r = made_reads _ _ _ _ _ _ c.row_trits.ensures (sym e.0) e.1 e.2 in
    let (keys, bytes) = text_contents_law _ _ _ _ c.requires.contents in record {
      whole = c.requires.whole;
      key_tested = keys;
      s_size = (text_fitted _ _ _ c.requires.lengths).1;
      s_tested = bytes;
      work = record { row = r.row; size = r.size };
      ended = λ q l. ap (λ (v : ℕ → Trit). v q) r.trits ∙ hashed_ended _ _ _ q l;
    }

pub judge-requires : goal.judge-requires
judge-requires c =
    few_counts _ _ c.requires.whole c.weigh_made-counts.ensures

pub returns : goal.returns
returns c =
    let a = c.args in
    -- where it refused nothing the working space holds y
    let e = c.in_ok-make.ensures in
    let made : Reads c.make.new.ones c.make.new.twos (row_words a.begun.held) (hashed_row (row_trits a.begun.held) a.salt.now a.text.now) =
    made_reads _ _ _ _ _ _ c.row_trits.ensures (sym e.0) e.1 e.2 in
    let hash_told = e.0 ∙ ap (λ (m : ℕ). hashed_refusal m a.salt.now a.text.now) c.row_trits.ensures in
    let counted = c.weigh_made-counts.ensures
    ∙ ap (λ (y : ℕ → Trit). held_counts a.begun.held a.key.ones.now a.key.twos.now y (packed_row a.s.now)) made.trits in
    c.judge.ensures ∙ answer_new _ hash_told counted
