-- What is lent to the checker is what the definition says (`row_refusal`, `row_kept_law`).
use Prim.Native.Nat.{ℕ}
use mathlib.Core.Path.{refl, ap, ◌∙◌}
use Rattle.trits.specs.Planes.{zero_words, tabulate}
use Rattle.text_line.specs.Answer.{offered_ones, offered_twos}
use Rattle.text_line.proofs.Lent.{part_key, part_after, row_refusal, row_kept_law}
use Rattle.text_line.proofs.handle.store_digits.Goals as goal

pub offered-row-requires : goal.offered-row-requires
unfolding tabulate zero_words
offered-row-requires c =
    record {
      are_digits = c.requires.are_digits;
      short = c.requires.short;
      ones_zero = refl;
      twos_zero = refl;
    }

pub returns : goal.returns
returns c =
    let a = c.args in
    let h = a.held in
    let ones = a.ones.now in
    let twos = a.twos.now in
    let d = a.digits.now in
    let w = c.key_words-words.ensures.value in
    let o = c.offered-row.ensures in
    let m = c.row_trits.ensures in
    let ex = o.ones_after ∙ ap (λ (x : ℕ). offered_ones x d) m in
    let ey = o.twos_after ∙ ap (λ (x : ℕ). offered_twos x d) m in
    let (told, state, ones_kept, twos_kept) = c.store_row.ensures in
    let p = part_key h ones w in
    let q = part_key h twos w in record {
      refusal = told ∙ row_refusal h ones twos p q d ex ey;
      kept = row_kept_law h ones twos p q d ex ey state ones_kept twos_kept (part_after h ones w) (part_after h twos w);
    }
