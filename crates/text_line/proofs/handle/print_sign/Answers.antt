-- The verdict, or the refusal.
use mathlib.Core.Path.{◌≡◌, refl, ap, ◌∙◌}
use native.Mathlib.Omega.{arith}
use lib.ListN.{length}
use Rattle.std.specs.Prelude.{Ok, Err}
use Rattle.trits.specs.Rows.{put_words}
use Rattle.trits.proofs.Refusals.{number_positive}
use Rattle.text.specs.Answers.{sign_refused}
use Rattle.check_tests.specs.Check.{told}
use Rattle.check_tests.specs.declared.Verdict.TheVariants.{Yes, No}
use Rattle.text_line.proofs.Lines.{sign_verdict, sign_refused_here}
use Rattle.text_line.proofs.handle.print_sign.Goals as goal

pub returns-in-Ok-Yes : goal.returns-in-Ok-Yes
returns-in-Ok-Yes c =
    let a = c.args in
    let e = sign_verdict a.number a.formula (told (Ok (Yes c.in-Ok-Yes.counts))) refl in
    let p = c.put_verdict.ensures in
    let f : c.in-Ok-Yes.field-0 ≡ Yes c.in-Ok-Yes.counts = rw c.in-Ok-Yes.is at c.in-Ok-Yes.field-0-is in
    rw (c.in-Ok-Yes.is, f) (record {
      value = p.value ∙ ap length e;
      out_after = p.out_after ∙ ap (put_words 0 a.out.now) e;
    })

pub returns-in-Ok-No : goal.returns-in-Ok-No
returns-in-Ok-No c =
    let a = c.args in
    let e = sign_verdict a.number a.formula (told (Ok (No c.in-Ok-No.counts))) refl in
    let p = c.put_verdict-in-Ok-No.ensures in
    let f : c.in-Ok-No.field-0 ≡ No c.in-Ok-No.counts = rw c.in-Ok-No.is at c.in-Ok-No.field-0-is in
    rw (c.in-Ok-No.is, f) (record {
      value = p.value ∙ ap length e;
      out_after = p.out_after ∙ ap (put_words 0 a.out.now) e;
    })

pub returns-in-Err : goal.returns-in-Err
returns-in-Err c =
    let a = c.args in
    let r = c.in-Err.refusal in
    let e =
    ap (sign_refused a.number a.formula) c.from.ensures
    ∙ sign_refused_here a.number a.formula (told (Err r)) (λ z. omega (arith, number_positive r, z)) in
    let p = c.put_sign_refused.ensures in
    rw c.in-Err.is (record {
      value = p.value ∙ ap length e;
      out_after = p.out_after ∙ ap (put_words 0 a.out.now) e;
    })
