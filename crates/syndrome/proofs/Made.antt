-- The output of the state that a salt and a text make, and the refusals of the call. Assumes nothing.
use mathlib.Core.Path.{◌≡◌, refl, ap, sym, ◌∙◌, subst}
use mathlib.Core.Bool.{Bool}
use mathlib.Core.List.{List, ◌++◌}
use Prim.Native.Nat.{ℕ, ◌+◌, ◌≤◌, ◌<◌}
use native.Mathlib.Omega.{arith}
use borrow.Author.Tests.{lt-ltb, le-ltb, eq-eqb, ne_eqb, eqb-true}
use lib.Dec.{ltb, eqb, lit<}
use lib.ListN.{length}
use Rattle.trits.specs.Trit.{t0}
use Rattle.trits.specs.Planes.{ones_of, twos_of, words_for, Reads}
use Rattle.trits.specs.Refusal.{refuse, at_exit}
use Rattle.trits.proofs.Ends.{upto_out}
use Rattle.trits.proofs.Reading.{holds_reads}
use Rattle.trits.proofs.Refusals.{exit_new, passed_refuse, passed_demand}
use Rattle.packed.specs.Packed.{packed_row}
use Rattle.packed.specs.Stream.{kept, stream_row, too_short}
use Rattle.packed.specs.Calls.{most_trits}
use Rattle.packed.proofs.Turned.{stream_decides}
use Rattle.keccak.specs.Lanes.{lanes_of}
use Rattle.shake.specs.Shake.{absorbed, blocks_of, shake256}
use Rattle.shake.proofs.Sponge.{squeezed_held}
use Rattle.syndrome.specs.Syndrome.{salt_bytes, hashed, hashed_row, hashed_refusal, syndrome_of, syndrome_refusal, syndrome_ones, syndrome_twos}
use Rattle.syndrome.specs.Steps.{output_for}

-- ---- the state that absorbed the salt and then the text

module _ (m : ℕ) (salt text : List ℕ) {a : List (List ℕ)} (e : a ≡ lanes_of (absorbed (salt ++ text) (blocks_of (salt ++ text)))) where
  pub output_hashed : output_for m a ≡ hashed m salt text
  unfolding hashed shake256
  output_hashed = squeezed_held (absorbed (salt ++ text) (blocks_of (salt ++ text))) e (m + 136)

  pub row_hashed : stream_row m (output_for m a) ≡ hashed_row m salt text
  unfolding hashed_row
  row_hashed = ap (stream_row m) output_hashed

  -- whether it gives too few trits decides
  pub hashed_decides : {short : Bool} → short ≡ too_short m (output_for m a) → refuse short 6 0 ≡ hashed_refusal m salt text
  unfolding hashed_refusal
  hashed_decides h = stream_decides m (hashed m salt text) (ap (too_short m) (sym output_hashed) ∙ sym h)

-- ---- the refusals of the call, each where the tests before it passed

module _ (m : ℕ) (salt text ones twos : List ℕ) where
  pub made_size : 16384 < m → 1 ≡ syndrome_refusal (syndrome_of m salt text ones twos)
  unfolding syndrome_refusal
  made_size l = rw (lt-ltb 16384 m l)

  module _ (l : m ≤ 16384) where
    pub made_ones : (length ones ≡ words_for m → ⊥) → 2 ≡ syndrome_refusal (syndrome_of m salt text ones twos)
    unfolding syndrome_refusal
    made_ones f = rw (le-ltb 16384 m l, ne_eqb _ _ f)

    module _ (o : length ones ≡ words_for m) where
      pub made_twos : (length twos ≡ words_for m → ⊥) → 2 ≡ syndrome_refusal (syndrome_of m salt text ones twos)
      unfolding syndrome_refusal
      made_twos f = rw (le-ltb 16384 m l, eq-eqb _ _ o, ne_eqb _ _ f)

      module _ (t : length twos ≡ words_for m) where
        pub made_salt : (length salt ≡ 32 → ⊥) → 2 ≡ syndrome_refusal (syndrome_of m salt text ones twos)
        unfolding syndrome_refusal
        made_salt f = rw (le-ltb 16384 m l, eq-eqb _ _ o, eq-eqb _ _ t, ne_eqb _ _ f)

        pub made_passed : length salt ≡ 32 → hashed_refusal m salt text ≡ syndrome_refusal (syndrome_of m salt text ones twos)
        unfolding syndrome_refusal
        made_passed s = rw (le-ltb 16384 m l, eq-eqb _ _ o, eq-eqb _ _ t, eq-eqb _ _ s)

-- ---- the row so made

-- it is 0 past its length
pub hashed_ended : (m : ℕ) (salt text : List ℕ) (q : ℕ) → m ≤ q → hashed_row m salt text q ≡ t0
unfolding hashed_row stream_row
hashed_ended m salt text q l = upto_out (packed_row (kept (hashed m salt text))) m q l

-- and the planes hold it, where nothing was refused
made_holds : (m : ℕ) (salt text wo wt : List ℕ) {r : ℕ} {ones twos : List ℕ} → r ≡ 0 → let y = hashed_row m salt text in
    ones ≡ at_exit r (ones_of y (words_for m)) wo → twos ≡ at_exit r (twos_of y (words_for m)) wt → Reads ones twos (words_for m) y
made_holds m salt text wo wt {r} {ones} {twos} z eo et =
    let y = hashed_row m salt text in
    holds_reads ones twos (words_for m) y (λ j l. hashed_ended m salt text j (omega arith))
    (record { ones_are = eo ∙ sym (exit_new (ones_of y (words_for m)) wo z); twos_are = et ∙ sym (exit_new (twos_of y (words_for m)) wt z) })

-- the same for another name of the length
pub made_reads : (m k : ℕ) (salt text wo wt : List ℕ) {r : ℕ} {ones twos : List ℕ} → m ≡ k → r ≡ 0 → let y = hashed_row m salt text in
    ones ≡ at_exit r (ones_of y (words_for m)) wo → twos ≡ at_exit r (twos_of y (words_for m)) wt → Reads ones twos (words_for k) (hashed_row k salt text)
made_reads m k salt text wo wt {r} {ones} {twos} e z eo et =
    subst (λ (x : ℕ). Reads ones twos (words_for x) (hashed_row x salt text)) e (made_holds m salt text wo wt z eo et)

-- ---- a call that was not refused

module _ (m : ℕ) (salt text ones twos : List ℕ) (z : syndrome_refusal (syndrome_of m salt text ones twos) ≡ 0) where
  pub syndrome_passed : (length salt ≡ salt_bytes) × (hashed_refusal m salt text ≡ 0)
  unfolding syndrome_refusal
  syndrome_passed =
      let a = passed_refuse (ltb most_trits m) 1 _ (lit< tt) z in
      let b = passed_demand (eqb (length ones) (words_for m)) 2 _ (lit< tt) a.1 in
      let c = passed_demand (eqb (length twos) (words_for m)) 2 _ (lit< tt) b.1 in
      let d = passed_demand (eqb (length salt) salt_bytes) 2 _ (lit< tt) c.1 in
      (eqb-true _ _ d.0, d.1)

  -- its planes hold the row
  pub syndrome_holds : let c = syndrome_of m salt text ones twos in Reads (syndrome_ones c) (syndrome_twos c) (words_for m) (hashed_row m salt text)
  unfolding syndrome_ones syndrome_twos
  syndrome_holds = made_holds m salt text ones twos z refl refl
