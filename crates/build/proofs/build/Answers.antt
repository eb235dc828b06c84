-- Each return has the number of the first test that applies; nothing is written before the ranks are tested, and then what `finish` says.
-- Assumes nothing.
use mathlib.Core.List.{List}
use Prim.Native.Nat.{ℕ, ◌<◌}
use mathlib.Core.Path.{◌≡◌, refl, sym, ap, ap₂, ◌∙◌, subst}
use mathlib.Core.Bool.{true}
use native.Mathlib.Omega.{arith}
use lib.Dec.{lit<}
use lib.ListN.{length}
use Rattle.trits.specs.Planes.{pair_of, Pair, zero_words}
use Rattle.trits.specs.Refusal.{number_of, code_of, at_exit, space_stays, space_exit}
use Rattle.trits.proofs.Outcomes.{handed_on, refused_positive}
use Rattle.trits.proofs.Refusals.{exit_kept, space_kept}
use Rattle.scheme.specs.declared.sizes.Sizes.{Sizes}
use Rattle.scheme.specs.Build.{build_refusal, key_order}
use Rattle.calls.specs.Lent.{planes_of, secret_of}
use Rattle.calls.specs.BuildCall.{BuildCall, build_call, build_answer, order_exit, order_exit_under, key_ones_of, key_twos_of, key_exit}
use Rattle.calls.specs.BuildCall.{key_exit_under, build_work_exit, build_work_exit_under}
use Rattle.build.proofs.Answers.{contents_leaves, contents_passed, answer_size, answer_length, answer_contents, answer_ranks}
use Rattle.build.proofs.Answers.{same_lengths, lengths_secret, lengths_key, work_ended}
use Rattle.build.proofs.build.Goals as goal

-- the answer, and each buffer as it is at exit
abbrev Ended : Sizes → BuildCall → ℕ → List ℕ → Pair → Pair → Type 0
Ended z i r p key work = (r ≡ build_answer z i) × (p ≡ order_exit z i) × (key ≡ key_exit z i) × (work ≡ build_work_exit z i)

-- a refusal that leaves the working space is the whole answer: every buffer stays
refused : (z : Sizes) (i : BuildCall) {r : ℕ} → r ≡ build_answer z i → 0 < r → space_stays r ≡ true → Ended z i r i.p i.key i.work
unfolding order_exit_under key_exit_under build_work_exit_under
refused z i e h g = (
  e,
  exit_kept _ _ e h,
  ap₂ pair_of (exit_kept _ _ e h) (exit_kept _ _ e h),
  ap₂ pair_of (space_kept _ e g) (space_kept _ e g),
)

-- what the end of the build tells and leaves
finished : (z : Sizes) (i : BuildCall) {r : ℕ} {p ko kt wo wt : List ℕ} → build_refusal z (secret_of z i.secret) ≡ build_answer z i
    → (r ≡ build_refusal z (secret_of z i.secret))
    × (p ≡ at_exit (build_refusal z (secret_of z i.secret)) (key_order z (secret_of z i.secret) i.start) i.p)
    × (ko ≡ at_exit (build_refusal z (secret_of z i.secret)) (key_ones_of z (secret_of z i.secret) i.start) i.key.ones)
    × (kt ≡ at_exit (build_refusal z (secret_of z i.secret)) (key_twos_of z (secret_of z i.secret) i.start) i.key.twos)
    × (wo ≡ zero_words (length i.work.ones))
    × (wt ≡ zero_words (length i.work.twos))
    → Ended z i r p (pair_of ko kt) (pair_of wo wt)
unfolding build_work_exit_under key_exit_under order_exit_under
finished z i g (told, order, ones, twos, ones_zero, twos_zero) =
    let k = secret_of z i.secret in (
      told ∙ g,
      order ∙ ap (λ (r : ℕ). at_exit r (key_order z k i.start) i.p) g,
      ap₂ pair_of (ones ∙ ap (λ (r : ℕ). at_exit r (key_ones_of z k i.start) i.key.ones) g)
          (twos ∙ ap (λ (r : ℕ). at_exit r (key_twos_of z k i.start) i.key.twos) g),
      ap₂ pair_of (ones_zero ∙ work_ended z k i.work.ones ∙ ap (λ (r : ℕ). space_exit r i.work.ones) g)
          (twos_zero ∙ work_ended z k i.work.twos ∙ ap (λ (r : ℕ). space_exit r i.work.twos) g),
    )

pub returns-in_err-z : goal.returns-in_err-z
returns-in_err-z c =
    let a = c.args in
    let i = build_call (planes_of a.secret) a.start.now a.p.now a.key_ones.now a.key_twos.now a.work_ones.now a.work_twos.now in
    let (size, unfit) = c.in_err-z.ensures in
    let told = handed_on c.from_residual.result _ c.from_residual.ensures.1 (ap number_of size) in
    refused a.z i (told ∙ answer_size a.z i unfit) (refused_positive _ c.from_residual.ensures.0) (ap space_stays told)

pub returns-then-lent_lengths_differ : goal.returns-then-lent_lengths_differ
returns-then-lent_lengths_differ c =
    let a = c.args in
    let z = c.in_ok-z.z in
    let i = build_call (planes_of a.secret) a.start.now a.p.now a.key_ones.now a.key_twos.now a.work_ones.now a.work_twos.now in
    let differ = same_lengths z.sizes i (sym c.lent_lengths_differ.ensures ∙ c.if-lent_lengths_differ.true) in
    subst (λ (z : Sizes). Ended z i 2 i.p i.key i.work) c.in_ok-z.ensures (refused z.sizes i (answer_length z.sizes i z.fit differ) (lit< tt) refl)

pub test_contents-requires : goal.test_contents-requires
test_contents-requires c =
    let a = c.args in
    let z = c.in_ok-z.z in
    let i = build_call (planes_of a.secret) a.start.now a.p.now a.key_ones.now a.key_twos.now a.work_ones.now a.work_twos.now in
    let same = same_lengths z.sizes i (sym c.lent_lengths_differ.ensures ∙ c.if-lent_lengths_differ.false) in
    record { lengths = lengths_secret z.sizes i same; start_size = (lengths_key z.sizes i same).start }

pub returns-in_err-test_contents : goal.returns-in_err-test_contents
returns-in_err-test_contents c =
    let a = c.args in
    let z = c.in_ok-z.z in
    let i = build_call (planes_of a.secret) a.start.now a.p.now a.key_ones.now a.key_twos.now a.work_ones.now a.work_twos.now in
    let same = same_lengths z.sizes i (sym c.lent_lengths_differ.ensures ∙ c.if-lent_lengths_differ.false) in
    let r = c.from_residual-in_err-test_contents in
    let told = handed_on r.result _ r.ensures.1 c.in_err-test_contents.ensures.refusal in
    let positive = refused_positive r.result r.ensures.0 in
    subst (λ (z : Sizes). Ended z i (code_of r.result) i.p i.key i.work) c.in_ok-z.ensures
    (refused z.sizes i (answer_contents z.sizes i z.fit same told (λ q. omega (arith, q, positive))) positive
    (ap space_stays told ∙ (contents_leaves z.sizes i).stays (λ q. omega (arith, told, q, positive))))

pub finish-requires : goal.finish-requires
finish-requires c =
    let a = c.args in
    let z = c.in_ok-z.z in
    let i = build_call (planes_of a.secret) a.start.now a.p.now a.key_ones.now a.key_twos.now a.work_ones.now a.work_twos.now in
    let same = same_lengths z.sizes i (sym c.lent_lengths_differ.ensures ∙ c.if-lent_lengths_differ.false) in
    let passed = contents_passed z.sizes i (sym c.in_ok-test_contents.ensures.refusal) in
    let l = lengths_key z.sizes i same in
    record {
      readable = c.in_ok-test_contents.ensures.readable;
      is_order = passed.1;
      p_size = l.p;
      key_ones_size = l.k1;
      key_twos_size = l.k2;
      work_ones_size = l.w1;
      work_twos_size = l.w2;
    }

pub returns : goal.returns
returns c =
    let a = c.args in
    let z = c.in_ok-z.z in
    let n = c.finish.new in
    let i = build_call (planes_of a.secret) a.start.now a.p.now a.key_ones.now a.key_twos.now a.work_ones.now a.work_twos.now in
    let same = same_lengths z.sizes i (sym c.lent_lengths_differ.ensures ∙ c.if-lent_lengths_differ.false) in
    subst (λ (z : Sizes). Ended z i (code_of c.finish.result) n.p (pair_of n.key_ones n.key_twos) (pair_of n.work_ones n.work_twos)) c.in_ok-z.ensures
    (finished z.sizes i (answer_ranks z.sizes i z.fit same (sym c.in_ok-test_contents.ensures.refusal)) c.finish.ensures)
