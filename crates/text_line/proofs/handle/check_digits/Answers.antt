-- What is lent to the checker is what the definition says (`sign_answer_here`).
use Prim.Native.Nat.{ℕ}
use mathlib.Core.Path.{refl, ap, ◌∙◌}
use Rattle.trits.specs.Planes.{zero_words, tabulate}
use Rattle.text_line.specs.Answer.{offered_ones, offered_twos}
use Rattle.text_line.proofs.Lent.{take_zeros, part_key, sign_answer_here}
use Rattle.text_line.proofs.handle.check_digits.Goals as goal

pub offered-y-requires : goal.offered-y-requires
unfolding tabulate zero_words
offered-y-requires c =
    record {
      are_digits = c.requires.y_digits;
      short = c.requires.y_short;
      ones_zero = refl;
      twos_zero = refl;
    }

pub offered-s-requires : goal.offered-s-requires
unfolding tabulate zero_words
offered-s-requires c =
    record {
      are_digits = c.requires.s_digits;
      short = c.requires.s_short;
      ones_zero = refl;
      twos_zero = refl;
    }

pub returns : goal.returns
unfolding tabulate zero_words
returns c =
    let a = c.args in
    let h = a.held in
    let ones = a.key.ones.now in
    let twos = a.key.twos.now in
    let y = a.y.now in
    let w = c.key_words-words.ensures.value in
    let r = c.row_words-row.ensures in
    let m = c.row_trits.ensures in
    let o = c.offered-y.ensures in
    let q = c.offered-s.ensures in
    let z = take_zeros c.row_words-row.result 16 r.upper_bound ∙ ap zero_words r.value in
    c.check.ensures.0
    ∙ sign_answer_here h ones twos (part_key h ones w) (part_key h twos w) a.number y a.s.now
    (o.ones_after ∙ ap (λ (x : ℕ). offered_ones x y) m) (o.twos_after ∙ ap (λ (x : ℕ). offered_twos x y) m) q.ones_after q.twos_after z z
