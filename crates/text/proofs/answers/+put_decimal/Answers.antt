-- The last digit follows the digits of a tenth (`decimal_more`), which is the measure.
use Rattle.std.proofs.Common.{ℕ, ◌+◌, ◌/◌, ◌%◌, List, [], ◌∷◌, length, ap, ◌∙◌, arith}
use Rattle.trits.specs.Rows.{put_words}
use Rattle.text.specs.Numbers.{decimal}
use Rattle.text.proofs.Written.{decimal_small, decimal_more, length_more, put_then}
use Rattle.text.proofs.answers.+put_decimal.Goals as goal

pub put_byte-requires : goal.put_byte-requires
put_byte-requires t c = omega (arith, c.requires, ap length (decimal_small c.args.n c.if-n-lt10.true))

pub returns-then-n-lt10 : goal.returns-then-n-lt10
returns-then-n-lt10 t c =
    let e = decimal_small c.args.n c.if-n-lt10.true in
    let p = c.put_byte.ensures in
    record {
      value = p.value ∙ ap (λ (l : List ℕ). c.args.at + length l) e;
      out_after = p.out_after ∙ ap (put_words c.args.at c.args.out.now) e;
    }

pub put_decimal-next-requires : goal.put_decimal-next-requires
put_decimal-next-requires t c =
    (omega (arith, c.if-n-lt10.false), omega (arith, c.requires, length_more c.args.n c.if-n-lt10.false))

pub put_byte-requires-2 : goal.put_byte-requires-2
put_byte-requires-2 t c =
    omega (
      arith,
      c.requires,
      length_more c.args.n c.if-n-lt10.false,
      c.put_decimal-next.ensures.value,
      c.put_decimal-next.auto.out,
    )

pub returns : goal.returns
returns t c =
    let n = c.args.n in
    let h = c.if-n-lt10.false in
    let d = c.put_decimal-next.ensures in
    let p = c.put_byte-2.ensures in
    let g =
    put_then c.args.out.now c.args.at (decimal (n / 10)) _ ((48 + n % 10) ∷ []) (omega (arith, c.requires, length_more n h)) d.value d.out_after
    p.out_after in
    record {
      value = omega (arith, p.value, d.value, length_more n h);
      out_after = g ∙ ap (put_words c.args.at c.args.out.now) (decimal_more n h);
    }
