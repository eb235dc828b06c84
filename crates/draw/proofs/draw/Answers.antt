-- Each return has the number of the first test that applies; nothing is written before all tests have passed, and then what `finish` says.
-- Assumes nothing.
use Prim.Native.Nat.{ℕ, ◌<◌}
use mathlib.Core.Path.{◌≡◌, refl, sym, ap, ap₂, ◌∙◌, subst}
use mathlib.Core.Bool.{true}
use mathlib.Core.List.{List}
use native.Mathlib.Omega.{arith}
use lib.Dec.{lit<}
use lib.ListN.{length}
use Rattle.trits.specs.Planes.{Pair, pair_of, row_pair, zero_words}
use Rattle.trits.specs.Refusal.{number_of, code_of, first, at_exit, space_stays, space_exit}
use Rattle.trits.proofs.Outcomes.{handed_on, refused_positive}
use Rattle.trits.proofs.Refusals.{exit_kept, space_kept}
use Rattle.scheme.specs.declared.sizes.Sizes.{Sizes}
use Rattle.scheme.specs.Sizes.{places, dim}
use Rattle.scheme.specs.Draw.{signature}
use Rattle.calls.specs.Lent.{secret_of, secret_refusal}
use Rattle.calls.specs.DrawCall.{DrawCall, draw_lent, syndrome_of, choices_of, draw_answer, word_of, word_exit, word_exit_under, s_exit}
use Rattle.calls.specs.DrawCall.{s_exit_under, draw_work_exit, draw_work_exit_under}
use Rattle.draw_tests.specs.Steps.{ending}
use Rattle.draw_tests.proofs.Answers.{same_choices, contents_leaves, answer_size, answer_length, answer_contents, answer_ending}
use Rattle.draw_tests.proofs.Answers.{same_lengths, lengths_secret, lengths_choices, work_ended}
use Rattle.draw.proofs.draw.Goals as goal

-- the answer, and each buffer as it is at exit
abbrev Ended : Sizes → DrawCall → ℕ → Pair → Pair → Pair → Type 0
Ended z i r word s work = (r ≡ draw_answer z i) × (word ≡ word_exit z i) × (s ≡ s_exit z i) × (work ≡ draw_work_exit z i)

-- a refusal that leaves the working space is the whole answer: every buffer stays
refused : (z : Sizes) (i : DrawCall) {r : ℕ} → r ≡ draw_answer z i → 0 < r → space_stays r ≡ true → Ended z i r i.word i.s i.work
unfolding word_exit_under s_exit_under draw_work_exit_under
refused z i e h g = (
  e,
  ap₂ pair_of (exit_kept _ _ e h) (exit_kept _ _ e h),
  ap₂ pair_of (exit_kept _ _ e h) (exit_kept _ _ e h),
  ap₂ pair_of (space_kept _ e g) (space_kept _ e g),
)

-- what the end of the draw tells and leaves
finished : (z : Sizes) (i : DrawCall) {r : ℕ} {eo et so st wo wt : List ℕ} → ending z i ≡ draw_answer z i
    → (r ≡ ending z i)
    × (eo ≡ at_exit (ending z i) (row_pair (places z) (word_of z i)).ones i.word.ones)
    × (et ≡ at_exit (ending z i) (row_pair (places z) (word_of z i)).twos i.word.twos)
    × (so ≡ at_exit (ending z i) (row_pair (dim z) (signature z (word_of z i))).ones i.s.ones)
    × (st ≡ at_exit (ending z i) (row_pair (dim z) (signature z (word_of z i))).twos i.s.twos)
    × (wo ≡ zero_words (length i.work.ones))
    × (wt ≡ zero_words (length i.work.twos))
    → Ended z i r (pair_of eo et) (pair_of so st) (pair_of wo wt)
unfolding draw_work_exit_under s_exit_under word_exit_under
finished z i g (told, word_ones, word_twos, s_ones, s_twos, ones_zero, twos_zero) =
    let w : Pair = row_pair (places z) (word_of z i) in
    let t : Pair = row_pair (dim z) (signature z (word_of z i)) in
    let zero = work_ended z (secret_of z i.secret) i.p (syndrome_of i) (choices_of i) in (
      told ∙ g,
      ap₂ pair_of (word_ones ∙ ap (λ (r : ℕ). at_exit r w.ones i.word.ones) g) (word_twos ∙ ap (λ (r : ℕ). at_exit r w.twos i.word.twos) g),
      ap₂ pair_of (s_ones ∙ ap (λ (r : ℕ). at_exit r t.ones i.s.ones) g) (s_twos ∙ ap (λ (r : ℕ). at_exit r t.twos i.s.twos) g),
      ap₂ pair_of (ones_zero ∙ zero i.work.ones ∙ ap (λ (r : ℕ). space_exit r i.work.ones) g)
          (twos_zero ∙ zero i.work.twos ∙ ap (λ (r : ℕ). space_exit r i.work.twos) g),
    )

-- 1 is told before anything is touched
pub returns-in_err-z : goal.returns-in_err-z
returns-in_err-z c =
    let a = c.args in
    let i = draw_lent a.secret a.p.now a.y a.choices a.word_ones.now a.word_twos.now a.s_ones.now a.s_twos.now a.work_ones.now a.work_twos.now in
    let (size, unfit) = c.in_err-z.ensures in
    let told = handed_on c.from_residual.result _ c.from_residual.ensures.1 (ap number_of size) in
    refused a.z i (told ∙ answer_size a.z i unfit) (refused_positive _ c.from_residual.ensures.0) (ap space_stays told)

pub returns-then-lent_lengths_differ : goal.returns-then-lent_lengths_differ
returns-then-lent_lengths_differ c =
    let a = c.args in
    let i = draw_lent a.secret a.p.now a.y a.choices a.word_ones.now a.word_twos.now a.s_ones.now a.s_twos.now a.work_ones.now a.work_twos.now in
    let z = c.in_ok-z.z in
    let differ = same_lengths z.sizes i (sym c.lent_lengths_differ.ensures ∙ c.if-lent_lengths_differ.true) in
    subst (λ (z : Sizes). Ended z i 2 i.word i.s i.work) c.in_ok-z.ensures (refused z.sizes i (answer_length z.sizes i z.fit differ) (lit< tt) refl)

pub test_contents-requires-clause-secret_lengths : goal.test_contents-requires-clause-secret_lengths
test_contents-requires-clause-secret_lengths c =
    let a = c.args in
    let i = draw_lent a.secret a.p.now a.y a.choices a.word_ones.now a.word_twos.now a.s_ones.now a.s_twos.now a.work_ones.now a.work_twos.now in
    let z = c.in_ok-z.z in
    lengths_secret z.sizes i (same_lengths z.sizes i (sym c.lent_lengths_differ.ensures ∙ c.if-lent_lengths_differ.false))

pub test_contents-requires-clause-chosen_lengths : goal.test_contents-requires-clause-chosen_lengths
test_contents-requires-clause-chosen_lengths c =
    let a = c.args in
    let i = draw_lent a.secret a.p.now a.y a.choices a.word_ones.now a.word_twos.now a.s_ones.now a.s_twos.now a.work_ones.now a.work_twos.now in
    let z = c.in_ok-z.z in
    (lengths_choices z.sizes i (same_lengths z.sizes i (sym c.lent_lengths_differ.ensures ∙ c.if-lent_lengths_differ.false))).chosen

pub returns-in_err-test_contents : goal.returns-in_err-test_contents
returns-in_err-test_contents c =
    let a = c.args in
    let i = draw_lent a.secret a.p.now a.y a.choices a.word_ones.now a.word_twos.now a.s_ones.now a.s_twos.now a.work_ones.now a.work_twos.now in
    let z = c.in_ok-z.z in
    let same = same_lengths z.sizes i (sym c.lent_lengths_differ.ensures ∙ c.if-lent_lengths_differ.false) in
    let r = c.from_residual-in_err-test_contents in
    let told = handed_on r.result _ r.ensures.1
    (c.in_err-test_contents.ensures.refusal ∙ ap (first (secret_refusal z.sizes i.secret)) (same_choices z.sizes i)) in
    let positive = refused_positive r.result r.ensures.0 in
    subst (λ (z : Sizes). Ended z i (code_of r.result) i.word i.s i.work) c.in_ok-z.ensures
    (refused z.sizes i (answer_contents z.sizes i z.fit same told (λ q. omega (arith, q, positive))) positive
    (ap space_stays told ∙ (contents_leaves z.sizes i).stays (λ q. omega (arith, told, q, positive))))

pub finish-requires : goal.finish-requires
finish-requires c =
    let a = c.args in
    let i = draw_lent a.secret a.p.now a.y a.choices a.word_ones.now a.word_twos.now a.s_ones.now a.s_twos.now a.work_ones.now a.work_twos.now in
    let z = c.in_ok-z.z in
    let same = same_lengths z.sizes i (sym c.lent_lengths_differ.ensures ∙ c.if-lent_lengths_differ.false) in
    let l = lengths_choices z.sizes i same in
    record {
      ready = c.in_ok-test_contents.ensures.ready;
      word_ones_size = l.word_ones;
      word_twos_size = l.word_twos;
      s_ones_size = l.s_ones;
      s_twos_size = l.s_twos;
      work_ones_size = l.work_ones;
      work_twos_size = l.work_twos;
    }

pub returns : goal.returns
unfolding word_of
returns c =
    let a = c.args in
    let i = draw_lent a.secret a.p.now a.y a.choices a.word_ones.now a.word_twos.now a.s_ones.now a.s_twos.now a.work_ones.now a.work_twos.now in
    let z = c.in_ok-z.z in
    let n = c.finish.new in
    let same = same_lengths z.sizes i (sym c.lent_lengths_differ.ensures ∙ c.if-lent_lengths_differ.false) in
    let passed = c.in_ok-test_contents.ensures.refusal ∙ ap (first (secret_refusal z.sizes i.secret)) (same_choices z.sizes i) in
    subst (λ (z : Sizes). Ended z i (code_of c.finish.result) (pair_of n.word_ones n.word_twos) (pair_of n.s_ones n.s_twos)
    (pair_of n.work_ones n.work_twos)) c.in_ok-z.ensures
    (finished z.sizes i (answer_ending z.sizes i z.fit same (sym passed)) c.finish.ensures)
