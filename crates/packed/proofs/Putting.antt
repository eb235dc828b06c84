-- How many trits a byte of a stream gives, and where the row stands after it. Assumes nothing.
use mathlib.Core.Path.{◌≡◌, refl, sym, ap, ap₂, ◌∙◌}
use mathlib.Core.Bool.{Bool, cond}
use mathlib.Core.List.{List}
use Prim.Native.Nat.{ℕ, ◌+◌, ◌-◌, ◌*◌, ◌≤◌, ◌<◌}
use native.Mathlib.Decide.{dec_lt}
use native.Mathlib.Omega.{arith}
use borrow.Author.Tests.{lt-ltb, le-ltb}
use lib.Dec.{ltb}
use lib.ListN.{length, get_or}
use Rattle.trits.specs.Trit.{t0, trit_of, up_to}
use Rattle.trits.proofs.Ends.{upto_in, upto_out}
use Rattle.packed.specs.Packed.{digit_of, packed_row}
use Rattle.packed.specs.Stream.{kept, stream_row}
use Rattle.packed.specs.Steps.{gives}
use Rattle.packed.proofs.Digits.{packed_place}
use Rattle.packed.proofs.Keeping.{given, given_more, given_same, given_at, given_all}

-- ---- how many trits a byte gives

pub gives_none : (m at b : ℕ) → 243 ≤ b → gives m at b ≡ 0
unfolding gives
gives_none m at b h = ap (λ (t : Bool). cond t (cond (ltb (m - at) 5) (m - at) 5) 0) (le-ltb b 243 h)

pub gives_few : (m at b : ℕ) → b < 243 → m - at < 5 → gives m at b ≡ m - at
unfolding gives
gives_few m at b h l = ap₂ (λ (s t : Bool). cond s (cond t (m - at) 5) 0) (lt-ltb b 243 h) (lt-ltb (m - at) 5 l)

pub gives_five : (m at b : ℕ) → b < 243 → 5 ≤ m - at → gives m at b ≡ 5
unfolding gives
gives_five m at b h l = ap₂ (λ (s t : Bool). cond s (cond t (m - at) 5) 0) (lt-ltb b 243 h) (le-ltb (m - at) 5 l)

-- ---- one byte of the stream

-- where the row stands when i bytes are read: at trits of m are there, five of each byte that gives any, but for the last
pub record Stands (m : ℕ) (bytes : List ℕ) (at i : ℕ) : Type 0 where
  pub within : at ≤ m
  pub most : at ≤ 5 * given bytes i
  pub all : at < m → at ≡ 5 * given bytes i
  pub read : i ≤ length bytes

pub stands_none : (m : ℕ) (bytes : List ℕ) → Stands m bytes 0 0
unfolding kept
stands_none m bytes = record { within = omega arith; most = omega arith; all = λ l. by bytes; read = omega arith }
  where
    by : (l : List ℕ) → 0 ≡ 5 * given l 0
    by l = refl

module _ {m : ℕ} {bytes : List ℕ} {at i : ℕ} (s : Stands m bytes at i) (l : at < m) where
  -- there is a byte to read
  pub stands_more : m ≤ 5 * length (kept bytes) → i < length bytes
  stands_more h = by (dec_lt i (length bytes))
    where
      by : Dec (i < length bytes) → i < length bytes
      by (yes g) = g
      by (no g) = absurd (omega (arith, s.all l, given_all bytes i (omega arith)))

  module _ (h : i < length bytes) where
    b : ℕ
    b = get_or bytes i 0

    pub stands_next : {new : ℕ} → new ≡ at + gives m at (get_or bytes i 0) → Stands m bytes new (i + 1)
    unfolding b
    stands_next {new} e = by (dec_lt b 243) (dec_lt (m - at) 5)
      where
        by : Dec (b < 243) → Dec (m - at < 5) → Stands m bytes new (i + 1)
        by (no g) d =
            let z = gives_none m at b (omega arith) in
            let y = given_same bytes i h (omega arith) in
            let a = s.all l in
            record { within = omega arith; most = omega arith; all = λ q. omega arith; read = omega arith }
        by (yes g) (yes d) =
            let z = gives_few m at b g d in
            let y = given_more bytes i h g in
            let a = s.all l in
            record { within = omega arith; most = omega arith; all = λ q. absurd (omega arith); read = omega arith }
        by (yes g) (no d) =
            let z = gives_five m at b g (omega arith) in
            let y = given_more bytes i h g in
            let a = s.all l in
            record { within = omega arith; most = omega arith; all = λ q. omega arith; read = omega arith }

    -- the trits of byte i are the stream's next
    next_trit : b < 243 → (k : ℕ) → k < 5 → packed_row (kept bytes) (at + k) ≡ trit_of (digit_of b k)
    unfolding b
    next_trit g k q =
        ap (λ (p : ℕ). packed_row (kept bytes) (p + k)) (s.all l) ∙ packed_place (kept bytes) (given bytes i) k q
        ∙ ap (λ (x : ℕ). trit_of (digit_of x k)) (given_at bytes i h g)

    -- so are those that it gives the row's
    pub next_trits : (k : ℕ) → k < gives m at (get_or bytes i 0) → stream_row m bytes (at + k) ≡ trit_of (digit_of (get_or bytes i 0) k)
    unfolding stream_row b
    next_trits k q = by (dec_lt b 243) (dec_lt (m - at) 5)
      where
        by : Dec (b < 243) → Dec (m - at < 5) → up_to m (packed_row (kept bytes)) (at + k) ≡ trit_of (digit_of b k)
        by (no g) d = absurd (omega (arith, gives_none m at b (omega arith)))
        by (yes g) (yes d) =
            let z = gives_few m at b g d in
            upto_in (packed_row (kept bytes)) m (at + k) (omega arith) ∙ next_trit g k (omega arith)
        by (yes g) (no d) =
            let z = gives_five m at b g (omega arith) in
            upto_in (packed_row (kept bytes)) m (at + k) (omega arith) ∙ next_trit g k (omega arith)

    -- the same for a byte that is known to be byte i
    module _ {x : ℕ} (f : x ≡ get_or bytes i 0) where
      pub stands_byte : {new : ℕ} → new ≡ at + gives m at x → Stands m bytes new (i + 1)
      stands_byte e = stands_next (rw f at e)

      pub byte_trits : (k : ℕ) → k < gives m at x → stream_row m bytes (at + k) ≡ trit_of (digit_of x k)
      byte_trits k q = next_trits k (rw f at q) ∙ ap (λ (y : ℕ). trit_of (digit_of y k)) (sym f)

-- the row when m trits are there
pub stands_all : {m : ℕ} {bytes : List ℕ} {at i : ℕ} → Stands m bytes at i → m ≤ at → at ≡ m
stands_all s h = omega (arith, s.within)

-- it is 0 past them
pub stream_ended : (m : ℕ) (bytes : List ℕ) (p : ℕ) → m ≤ p → stream_row m bytes p ≡ t0
unfolding stream_row
stream_ended m bytes p l = upto_out (packed_row (kept bytes)) m p l
