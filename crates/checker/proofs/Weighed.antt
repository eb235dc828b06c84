-- What a weighing asks, and the ones and twos of the full word from those of the working space and of s. Assumes nothing.
use mathlib.Core.Path.{◌≡◌, ap, ap₂, ◌∙◌}
use mathlib.Core.List.{List}
use Prim.Native.Nat.{ℕ, ◌+◌, ◌*◌, ◌≤◌}
use native.Mathlib.Omega.{arith}
use lib.ListN.{length}
use Rattle.trits.specs.Trit.{Trit, t0, sub_t, zip_v, counts_v, sum_of}
use Rattle.trits.specs.Planes.{trit_at, Reads}
use Rattle.trits.specs.Refusal.{planes_refusal}
use Rattle.trits.specs.declared.Counts.{Counts}
use Rattle.trits.proofs.Refusals.{planes_passed}
use Rattle.trits.proofs.Counting.{counts_le}
use Rattle.held_key.specs.declared.state.Held.{Held}
use Rattle.verdict.specs.Verdict.{times_key, full_word, full_counts}
use Rattle.held_key.specs.Held.{row_trits, row_words, held_key}
use Rattle.check_tests.specs.Check.{Check, PackedCheck, check_refusal, check_packed_refusal, held_counts, held_counts_under}
use Rattle.held_key.specs.Steps.{Whole}
use Rattle.held_key.proofs.Sizes.{sizes}
use Rattle.held_key.proofs.Stretch.{row_past}
use Rattle.check_tests.proofs.Passed.{whole, check_passed, check_packed_passed}
use Rattle.checker.specs.Steps.{ForWeigh, ForWeighPacked, add_counts}
use Rattle.checker.proofs.Product.{full_counts_here}

-- ---- the ones and twos that the working space and s give

pub weighed : {h : Held} {ones twos o t p q : List ℕ} {a : ℕ} {c d : Counts} (y s : ℕ → Trit) → Whole h ones twos
    → planes_refusal ones twos h.k (row_trits h) ≡ 0
    → ((q : ℕ) → row_trits h ≤ q → y q ≡ t0) → Reads o t a y → a ≡ row_words h
    → Reads p q (length o) (zip_v sub_t (trit_at o t) (times_key h.k (held_key h ones twos) s))
    → c ≡ counts_v (trit_at p q) (64 * length p) → d ≡ counts_v s h.k
    → add_counts c d ≡ held_counts h ones twos y s
unfolding held_counts_under
weighed {h} {ones} {twos} {o} {t} {p} {q} {a} {c} {d} y s w z yz r e g ec ed =
    let R = held_key h ones twos in
    let l : length p ≡ row_words h = g.size ∙ r.size ∙ e in
    let f : trit_at p q ≡ zip_v sub_t y (times_key h.k R s) = g.trits ∙ ap (λ (x : ℕ → Trit). zip_v sub_t x (times_key h.k R s)) r.trits in
    let past = (planes_passed ones twos h.k (row_trits h) z).1 in
    full_counts_here (row_trits h) h.k R y s (64 * row_words h) (omega arith) yz (λ i q i<k b. row_past w i i<k past q b)
    (ec ∙ ap₂ (λ (x : ℕ → Trit) (y : ℕ). counts_v x (64 * y)) f l) ed

-- the ones and twos of a row are at most its places
pub at_most : {p q : List ℕ} {n : ℕ} {c : Counts} {v : ℕ → Trit} → Reads p q n v → c ≡ counts_v (trit_at p q) (64 * length p) → sum_of c ≤ 64 * n
at_most {p} {q} r e = omega (arith, ap sum_of e, counts_le (trit_at p q) (64 * length p), r.size)

-- and those of a full word at most n
pub few_counts : {h : Held} {ones twos : List ℕ} {c : Counts} (y s : ℕ → Trit) → Whole h ones twos → c ≡ held_counts h ones twos y s → sum_of c ≤ 16384
unfolding held_counts_under full_counts
few_counts {h} {ones} {twos} {c} y s w e =
    omega (arith, ap sum_of e, counts_le (full_word (row_trits h) h.k (held_key h ones twos) y s) (row_trits h + h.k), sizes h w.is_sound)

-- those of a full word under one state are those under another that is the same
pub counts_alike : {h k : Held} {c : Counts} (ones twos : List ℕ) (y s : ℕ → Trit) → c ≡ held_counts h ones twos y s → h ≡ k → c ≡ held_counts k ones twos y s
counts_alike ones twos y s e same = e ∙ ap (λ (h : Held). held_counts h ones twos y s) same

-- ---- a check that passed its tests can be weighed

pub ready : (c : Check) → check_refusal c ≡ 0
    → ForWeigh c.held c.ones c.twos c.y_ones c.y_twos c.s_ones c.s_twos c.work_ones c.work_twos
ready c e =
    let (called, lengths, contents) = check_passed c e in record {
      whole = whole called;
      lengths = lengths;
      contents = contents;
      work_ones = called.work_ones;
      work_twos = called.work_twos;
    }

pub packed_ready : (c : PackedCheck) → check_packed_refusal c ≡ 0
    → ForWeighPacked c.held c.ones c.twos c.y c.s c.work_ones c.work_twos
packed_ready c e =
    let (called, lengths, contents) = check_packed_passed c e in record {
      whole = whole called;
      lengths = lengths;
      contents = contents;
      work_ones = called.work_ones;
      work_twos = called.work_twos;
    }
