-- The ranks are tested and nothing written where they refuse; else the key is released; the working space is 0 after both.
-- Assumes nothing.
use mathlib.Core.Path.{◌≡◌, refl, sym, ap, ◌∙◌}
use mathlib.Core.Bool.{Bool, true, false, true≢false}
use Prim.Native.Nat.{ℕ, ◌<◌}
use native.Mathlib.Omega.{arith}
use lib.ListN.{length}
use Rattle.std.specs.Prelude.{Result, Ok, Err}
use Rattle.std.specs.Result.{is_ok}
use Rattle.trits.specs.declared.refusal.Refusal.{Refusal}
use Rattle.trits.specs.Refusal.{code_of}
use Rattle.trits.proofs.Refusals.{exit_kept, exit_new, number_positive}
use Rattle.scheme.specs.declared.sizes.Sizes.{Sizes}
use Rattle.scheme.specs.Build.{build_refusal}
use Rattle.calls.specs.Lent.{Planes, planes_of, secret_of}
use Rattle.calls.proofs.Exits.{cleared}
use Rattle.build_ranks.specs.Steps.{matrices}
use Rattle.build_release.proofs.Released.{full_rank, same_ranks}
use Rattle.build.proofs.finish.finish.Goals as goal
use Rattle.build.proofs.finish.finish.Goals.{then-is_ok, else-is_ok}

-- the test of the ranks tells the refusal that the definition says
ranks_told : (z : Sizes) (i : Planes) {r : ℕ} → r ≡ build_refusal z (matrices z i.hu.ones i.hu.twos i.hv.ones i.hv.twos) → r ≡ build_refusal z (secret_of z i)
ranks_told z i e = e ∙ same_ranks z (matrices z i.hu.ones i.hu.twos i.hv.ones i.hv.twos) (secret_of z i) refl refl

-- what was not refused has no number, and what was has one
passes : (r : Result Unit Refusal) {t : Bool} → t ≡ is_ok r → t ≡ true → code_of r ≡ 0
passes (Ok u) e f = refl
passes (Err q) e f = absurd (true≢false (sym f ∙ e))

refuses : (r : Result Unit Refusal) {t : Bool} → t ≡ is_ok r → t ≡ false → 0 < code_of r
refuses (Ok u) e f = absurd (true≢false (sym e ∙ f))
refuses (Err q) e f = number_positive q

pub returns : goal.returns
returns c =
    let z = c.args.z.sizes in
    let i = planes_of c.args.secret in
    let told = ranks_told z i c.test_ranks-tested.ensures in
    elim c.if-is_ok.branch [
      | then-is_ok w ↦
          let f = sym told ∙ passes c.test_ranks-tested.result c.is_ok.ensures.value w.if-is_ok.true in
          let (order, ones, twos) = w.release.ensures in (
            told,
            w.p-is ∙ order ∙ exit_new _ _ f,
            w.key_ones-is ∙ ones ∙ exit_new _ _ f,
            w.key_twos-is ∙ twos ∙ exit_new _ _ f,
            cleared c.clear.ensures.0 (omega (arith, ap length w.work_ones-is)),
            cleared c.clear.ensures.1 (omega (arith, ap length w.work_twos-is)),
          )
      | else-is_ok w ↦
          let h = refuses c.test_ranks-tested.result c.is_ok.ensures.value w.if-is_ok.false in (
            told,
            w.p-is ∙ exit_kept _ _ told h,
            w.key_ones-is ∙ exit_kept _ _ told h,
            w.key_twos-is ∙ exit_kept _ _ told h,
            cleared c.clear.ensures.0 (omega (arith, ap length w.work_ones-is)),
            cleared c.clear.ensures.1 (omega (arith, ap length w.work_twos-is)),
          )
    ]

pub release-requires : goal.release-requires
release-requires c =
    let z = c.args.z.sizes in
    let l = c.requires in
    let i = planes_of c.args.secret in
    let f = sym (ranks_told z i c.test_ranks-tested.ensures) ∙ passes c.test_ranks-tested.result c.is_ok.ensures.value c.if-is_ok.true in record {
      readable = l.readable;
      is_order = l.is_order;
      rank_full = full_rank z (secret_of z i) f;
      p_size = l.p_size;
      key_ones_size = l.key_ones_size;
      key_twos_size = l.key_twos_size;
      work_ones_size = omega (arith, l.work_ones_size);
      work_twos_size = omega (arith, l.work_twos_size);
    }
