-- The states of the sponge: blocks absorbed one after another, and the output squeezed. Assumes nothing.
use mathlib.Core.Path.{◌≡◌, refl, sym, ap, ◌∙◌, fun_ext}
use mathlib.Core.Logic.{◌≢◌}
use mathlib.Core.Bool.{cond}
use mathlib.Core.List.{List}
use Prim.Native.Nat.{ℕ, zero, suc, ◌+◌, ◌-◌, ◌*◌, ◌/◌, ◌%◌, ◌^◌, ◌≤◌, ◌<◌}
use native.Mathlib.Decide.{dec_lt}
use native.Mathlib.Nat.{mod-lt}
use native.Mathlib.Numerals.{add-one}
use native.Mathlib.Omega.{arith}
use borrow.Author.Tests.{lt-ltb, le-ltb}
use borrow.Rule.Slice.PartMut.{put_mid}
use lib.Bits.{bit_xor}
use lib.Dec.{ltb, lit<}
use lib.ListN.{length, get_or}
use Rattle.trits.specs.Planes.{tabulate}
use Rattle.trits.proofs.Lists.{length_tabulate, get_d_tabulate}
use Rattle.trits.proofs.Parts.{put_patched}
use Rattle.trits.proofs.Patches.{Patched, patch_join}
use Rattle.keccak.specs.Keccak.{State, permuted}
use Rattle.keccak.specs.Lanes.{lane_at, lanes_of}
use Rattle.keccak.proofs.Lanes.{Same, lane_of, same_lanes, same_permuted}
use Rattle.shake.specs.Shake.{rate, padded_byte, word_of, added, absorbed, state_byte, squeezed, squeezed_byte, squeezed_bytes}
use Rattle.shake.specs.Output.{output_of, Gives, Taken}
use Rattle.shake.specs.declared.squeezing.Output.{Output}
use Rattle.shake.specs.Steps.{absorbed_block, lane_bytes, state_bytes}

-- ---- the lanes of a block, worked out: bytes 8 to 15 come to lane (1, 0), the last eight to (1, 3), and none to (2, 3)

added_lanes : (added (λ i. i) (λ x y. 0) 1 0 ≡ 1084818905618843912) × (added (λ i. i) (λ x y. 0) 1 3 ≡ 9765639646188044672)
    × (added (λ i. i) (λ x y. 7) 2 3 ≡ 7)
unfolding added word_of
added_lanes = (refl, refl, refl)

-- ---- a block is read at its own places, and a state at its 25 lanes

module _ {f g : ℕ → ℕ} (h : (i : ℕ) → i < rate → f i ≡ g i) where
  same_word : (p : ℕ) → p + 8 ≤ rate → word_of f p ≡ word_of g p
  unfolding word_of
  same_word p l =
      rw (
        h p (omega arith),
        h (p + 1) (omega arith),
        h (p + 2) (omega arith),
        h (p + 3) (omega arith),
        h (p + 4) (omega arith),
        h (p + 5) (omega arith),
        h (p + 6) (omega arith),
        h (p + 7) (omega arith),
      )

  pub same_added : {a b : State} → Same a b → Same (added f a) (added g b)
  unfolding added
  same_added {a} {b} s x y hx hy = by (dec_lt (8 * (5 * y + x)) rate)
    where
      by : Dec (8 * (5 * y + x) < rate)
          → cond (ltb (8 * (5 * y + x)) rate) (bit_xor (a x y) (word_of f (8 * (5 * y + x)))) (a x y)
          ≡ cond (ltb (8 * (5 * y + x)) rate) (bit_xor (b x y) (word_of g (8 * (5 * y + x)))) (b x y)
      by (yes l) = rw (lt-ltb (8 * (5 * y + x)) rate l, s x y hx hy, same_word (8 * (5 * y + x)) (omega arith))
      by (no n) = rw (le-ltb (8 * (5 * y + x)) rate (omega arith), s x y hx hy)

-- ---- absorbing

-- a block added and permuted in arrays
pub block_made : {f : ℕ → ℕ} (message : List ℕ) (start : ℕ) (a : List (List ℕ)) {next made : List (List ℕ)}
    → ((i : ℕ) → i < rate → f i ≡ padded_byte message (start + i)) → next ≡ lanes_of (added f (lane_at a))
    → made ≡ lanes_of (permuted (lane_at next)) → made ≡ absorbed_block message start a
unfolding absorbed_block
block_made {f} message start a {next} {made} h en em =
    em ∙ same_lanes (same_permuted (λ x y hx hy. ap (λ (l : List (List ℕ)). lane_at l x y) en ∙ lane_of (added f (lane_at a)) x y hx hy
    ∙ same_added h (λ x y hx hy. refl) x y hx hy))

pub absorbed_next : (message : List ℕ) (j : ℕ) {a next : List (List ℕ)} → a ≡ lanes_of (absorbed message j)
    → next ≡ absorbed_block message (rate * j) a → next ≡ lanes_of (absorbed message (j + 1))
unfolding absorbed_block absorbed
absorbed_next message j {a} {next} e f =
    f ∙ same_lanes (same_permuted (same_added {f = λ i. padded_byte message (rate * j + i)} (λ i l. refl)
    (λ x y hx hy. ap (λ (l : List (List ℕ)). lane_at l x y) e ∙ lane_of (absorbed message j) x y hx hy)))
    ∙ ap (λ (k : ℕ). lanes_of (absorbed message k)) (sym (add-one j))

-- ---- squeezing

pub same_byte : {a b : State} → Same a b → (i : ℕ) → i < rate → state_byte a i ≡ state_byte b i
unfolding state_byte
same_byte s i l = rw (s (i / 8 % 5) (i / 40) (mod-lt (i / 8) (lit< tt)) (omega arith))

same_squeezed : {a b : State} → Same a b → (j : ℕ) → Same (squeezed a j) (squeezed b j)
unfolding squeezed
same_squeezed s zero = s
same_squeezed s (suc j) = same_permuted (same_squeezed s j)

-- a block written lane by lane: byte k of lane j is byte 8 j + k of the state
lane_byte : (s : State) (j k : ℕ) → k < 8 → s (j % 5) (j / 5) / 2 ^ (8 * k) % 256 ≡ state_byte s (8 * j + k)
unfolding state_byte
lane_byte s j k h =
    let x : (8 * j + k) / 8 % 5 ≡ j % 5 = omega arith in
    let y : (8 * j + k) / 40 ≡ j / 5 = omega arith in
    let z : (8 * j + k) % 8 ≡ k = omega arith in
    rw (x, y, z)

pub lane_put : (s : State) (j : ℕ) {l₀ l ys : List ℕ} → 8 * j + 8 ≤ length l → Patched (state_byte s) 0 (8 * j) l₀ l
    → ys ≡ lane_bytes (s (j % 5) (j / 5)) → Patched (state_byte s) 0 (8 * (j + 1)) l₀ (put_mid (8 * j) (8 * j + 8 - 8 * j) l ys)
unfolding lane_bytes
lane_put s j {l₀} {l} {ys} h p made =
    let f : ℕ → ℕ = λ k. s (j % 5) (j / 5) / 2 ^ (8 * k) % 256 in
    let n = 8 * j + 8 - 8 * j in
    let size : 8 ≡ n = omega arith in
    let end : 8 * j + n ≡ 8 * (j + 1) = omega arith in
    let q = put_patched (8 * j) n l (omega arith) ys (ap length made ∙ length_tabulate 8 f ∙ size) in
    rw end at (patch_join p q (omega arith) (λ k g.
    ap (λ (z : List ℕ). get_or z k 0) made ∙ get_d_tabulate 8 f k 0 (omega arith) ∙ lane_byte s j k (omega arith)))

pub gives_first : (s : State) (b : List (List ℕ)) {block : List ℕ} → Same (lane_at b) s → block ≡ state_bytes b → Gives s 0 b block 0
unfolding squeezed
gives_first s b h e = record { reads = h; bytes = e; place = refl }

-- where no byte is taken
pub output_gives : (a : List (List ℕ)) {o : Output} → o ≡ output_of a → Gives (lane_at a) 0 o.state o.block o.place
output_gives a {o} e = rw e (gives_first (lane_at a) a (λ x y hx hy. refl) refl)

pub in_block : {s : State} {i p : ℕ} {b : List (List ℕ)} {block : List ℕ} → Gives s i b block p → p < rate
in_block {i} h = rw h.place (mod-lt i (lit< tt))

pub gives_byte : {s : State} {i p : ℕ} {b : List (List ℕ)} {block : List ℕ} → Gives s i b block p → get_or block p 0 ≡ squeezed_byte s i
unfolding squeezed_byte state_bytes
gives_byte {s} {i} {p} {b} h =
    ap (λ (z : List ℕ). get_or z p 0) h.bytes ∙ get_d_tabulate rate (state_byte (lane_at b)) p 0 (in_block h) ∙ same_byte h.reads p (in_block h)
    ∙ ap (state_byte (squeezed s (i / rate))) h.place

-- the state of the next byte is another where a block begins, and else the same
module _ {s : State} {i p : ℕ} {b : List (List ℕ)} {block : List ℕ} (h : Gives s i b block p) where
  pub gives_permuted : p + 1 ≡ rate → {next : List (List ℕ)} {made : List ℕ} → next ≡ lanes_of (permuted (lane_at b)) → made ≡ state_bytes next
      → Gives s (i + 1) next made 0
  unfolding squeezed
  gives_permuted z e f = record {
    reads = λ x y hx hy.
        let d : (i + 1) / rate ≡ suc (i / rate) = omega (arith, h.place) in
        ap (λ (l : List (List ℕ)). lane_at l x y) e ∙ lane_of (permuted (lane_at b)) x y hx hy ∙ same_permuted h.reads x y hx hy
        ∙ ap (λ (k : ℕ). squeezed s k x y) (sym d);
    bytes = f;
    place = omega (arith, h.place);
  }

  pub gives_same : (p + 1 ≡ rate → ⊥) → Gives s (i + 1) b block (p + 1)
  gives_same n =
      let g : p + 1 ≢ rate = n in
      let d : (i + 1) / rate ≡ i / rate = omega (arith, h.place) in record {
        reads = λ x y hx hy. h.reads x y hx hy ∙ ap (λ (k : ℕ). squeezed s k x y) (sym d);
        bytes = h.bytes;
        place = omega (arith, h.place);
      }

-- the output of arrays is that of the state which they hold
same_bytes : {a : List (List ℕ)} (s : State) → a ≡ lanes_of s → squeezed_byte (lane_at a) ≡ squeezed_byte s
unfolding squeezed_byte
same_bytes {a} s e =
    let h : Same (lane_at a) s = λ x y hx hy. ap (λ (l : List (List ℕ)). lane_at l x y) e ∙ lane_of s x y hx hy in
    fun_ext (λ i. same_byte (same_squeezed h (i / rate)) (i % rate) (mod-lt i (lit< tt)))

pub squeezed_held : {a : List (List ℕ)} (s : State) → a ≡ lanes_of s → (n : ℕ) → squeezed_bytes (lane_at a) n ≡ squeezed_bytes s n
unfolding squeezed_bytes
squeezed_held {a} s e n = ap (λ (f : ℕ → ℕ). tabulate f n) (same_bytes s e)

pub length_squeezed : (s : State) (n : ℕ) → length (squeezed_bytes s n) ≡ n
unfolding squeezed_bytes
length_squeezed s n = length_tabulate n (squeezed_byte s)

pub gives_at : {s : State} {i p : ℕ} {b : List (List ℕ)} {block : List ℕ} → Gives s i b block p → (n : ℕ) → i < n
    → get_or block p 0 ≡ get_or (squeezed_bytes s n) i 0
unfolding squeezed_bytes
gives_at {s} {i} g n l = gives_byte g ∙ sym (get_d_tabulate n (squeezed_byte s) i 0 l)

-- a byte that is taken is that of its place in the output
pub taken_at : {before after : Output} {byte : ℕ} {s : State} {i : ℕ} → Taken before byte after → Gives s i before.state before.block before.place
    → (n : ℕ) → i < n → byte ≡ get_or (squeezed_bytes s n) i 0
unfolding squeezed_bytes
taken_at {s = s} {i = i} t g n l = t.is_next g ∙ sym (get_d_tabulate n (squeezed_byte s) i 0 l)
