-- A key of n at most 256 takes at most 382 words (`key_asked`).
use mathlib.Core.Path.{ap, ◌∙◌}
use Prim.Native.Nat.{ℕ, ◌*◌}
use native.Mathlib.Omega.{arith}
use Rattle.text_line.proofs.Lent.{key_asked}
use Rattle.text_line.proofs.offer.key_words.Goals as goal

pub overflow_mul-result : goal.overflow_mul-result
overflow_mul-result c =
    let h = c.args.held in
    omega (arith, ap (λ (j : ℕ). h.k * j) c.row_words.ensures.value, key_asked h)

pub returns : goal.returns
returns c =
    let h = c.args.held in
    let e = ap (λ (j : ℕ). h.k * j) c.row_words.ensures.value in
    record {
      value = e ∙ (key_asked h).0;
      upper_bound = omega (arith, e, key_asked h);
    }
