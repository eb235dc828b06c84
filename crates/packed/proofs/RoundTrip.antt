-- Reading what was packed returns its trits, packing what was read returns its bytes, and no two packed texts of one length mean
-- the same trits. Assumes nothing.
use mathlib.Core.Path.{◌≡◌, refl, sym, ap, ap₂, ◌∙◌, subst, fun_ext}
use mathlib.Core.Bool.{false}
use mathlib.Core.List.{List}
use Prim.Native.Nat.{ℕ, ◌+◌, ◌*◌, ◌/◌, ◌%◌, ◌≤◌, ◌<◌}
use native.Mathlib.Decide.{dec_lt}
use native.Mathlib.Omega.{arith}
use borrow.Author.Tests.{eqb-true, ltb-false}
use mir.Syntax.{w64}
use mir.Val.{Fits}
use lib.Dec.{eqb, ltb, lit<}
use lib.ListN.{length, get_or}
use Rattle.trits.specs.Trit.{Trit, t0, number, trit_of, up_to}
use Rattle.trits.specs.Planes.{tabulate, trit_at, ones_of, twos_of, words_for, both_set, past_end, Row, Holds}
use Rattle.trits.specs.Refusal.{planes_refusal}
use Rattle.trits.proofs.Lists.{length_tabulate, get_d_tabulate, tabulated}
use Rattle.trits.proofs.Reading.{read_holds, holds_reads, length_ones, length_twos}
use Rattle.trits.proofs.Tests.{none_any, both_apart, past_zero}
use Rattle.trits.proofs.Matrix.{one_row_past}
use Rattle.trits.proofs.Ends.{upto_out, upto_ended}
use Rattle.trits.proofs.Refusals.{passed_refuse, passed_demand, planes_passed, vector_passes, exit_new}
use Rattle.packed.specs.Packed.{bytes_for, byte_of, digit_of, packed_row, packed_bytes, bad_byte, packed_refusal}
use Rattle.packed.specs.Calls.{Pack, pack_of, pack_refusal, pack_refusal_under, pack_exit, Unpack, unpack_of, unpack_refusal, unpack_ones, unpack_twos}
use Rattle.trits.proofs.Arithmetic.{trit_number}
use Rattle.packed.proofs.Digits.{digit_number, byte_lt, digit_byte, byte_digits, packed_place}
use Rattle.packed.proofs.Keeping.{big, bytes_small}
use Rattle.packed.proofs.Past.{bytes_end, ended_passes, packed_upto}
use Rattle.packed.proofs.Turned.{bytes_good, bytes_passed, packed_out, unpack_passed, pack_passed}
use borrow.Author.Tests.{le-ltb}

-- ---- trits to bytes to trits, always

module _ (m : ℕ) (v : ℕ → Trit) where
  pub packed_length : length (packed_bytes m v) ≡ bytes_for m
  unfolding packed_bytes
  packed_length = length_tabulate (bytes_for m) (byte_of (up_to m v))

  packed_byte : (j : ℕ) → j < bytes_for m → get_or (packed_bytes m v) j 0 ≡ byte_of (up_to m v) j
  unfolding packed_bytes
  packed_byte j h = get_d_tabulate (bytes_for m) (byte_of (up_to m v)) j 0 h

  packed_trit : (p : ℕ) → p < 5 * bytes_for m → packed_row (packed_bytes m v) p ≡ up_to m v p
  packed_trit p h =
      let j = p / 5 in
      let k = p % 5 in
      let e : p ≡ 5 * j + k = omega arith in
      ap (packed_row (packed_bytes m v)) e ∙ packed_place (packed_bytes m v) j k (omega arith)
      ∙ ap (λ (b : ℕ). trit_of (digit_of b k)) (packed_byte j (omega arith)) ∙ ap trit_of (digit_byte (up_to m v) j k (omega arith))
      ∙ trit_number (up_to m v (5 * j + k)) ∙ ap (up_to m v) (sym e)

  -- reading what was packed returns its trits
  pub packed_back : packed_row (packed_bytes m v) ≡ up_to m v
  packed_back = fun_ext (λ p. by p (dec_lt p (5 * bytes_for m)))
    where
      by : (p : ℕ) → Dec (p < 5 * bytes_for m) → packed_row (packed_bytes m v) p ≡ up_to m v p
      by p (yes l) = packed_trit p l
      by p (no f) = bytes_end (packed_bytes m v) p (omega (arith, packed_length)) ∙ sym (upto_out v m p (omega arith))

  packed_good : bad_byte (packed_bytes m v) ≡ false
  unfolding bad_byte
  packed_good = none_any (length (packed_bytes m v)) (big (packed_bytes m v)) (λ j l.
      let h : j < bytes_for m = omega (arith, packed_length) in
      le-ltb 242 (get_or (packed_bytes m v) j 0) (omega (arith, packed_byte j h, byte_lt (up_to m v) j)))

  -- and it is not refused
  pub packed_accepted : packed_refusal m (packed_bytes m v) ≡ 0
  packed_accepted = sym (bytes_good m (packed_bytes m v) packed_good
      (ended_passes m (packed_bytes m v) (λ q h l. ap (λ (u : ℕ → Trit). u q) packed_back ∙ upto_out v m q h)))

-- so rows that pack alike are alike
pub packed_apart : (m : ℕ) (u v : ℕ → Trit) → packed_bytes m u ≡ packed_bytes m v → up_to m u ≡ up_to m v
packed_apart m u v e = sym (packed_back m u) ∙ ap packed_row e ∙ packed_back m v

-- ---- bytes to trits to bytes, where they are read at all

module _ (m : ℕ) (bytes : List ℕ) (size : length bytes ≡ bytes_for m) (passes : packed_refusal m bytes ≡ 0) where
  read_digit : (j k : ℕ) → k < 5 → number (packed_row bytes (5 * j + k)) ≡ digit_of (get_or bytes j 0) k
  read_digit j k l = ap number (packed_place bytes j k l) ∙ digit_number (get_or bytes j 0) k

  read_byte : (j : ℕ) → j < length bytes → byte_of (packed_row bytes) j ≡ get_or bytes j 0
  unfolding byte_of
  read_byte j h =
      let v = packed_row bytes in
      let z : number (v (5 * j)) ≡ number (v (5 * j + 0)) = ap (λ (p : ℕ). number (v p)) (omega arith) in
      omega (
        arith,
        z,
        read_digit j 0 (omega arith),
        read_digit j 1 (omega arith),
        read_digit j 2 (omega arith),
        read_digit j 3 (omega arith),
        read_digit j 4 (omega arith),
        byte_digits (get_or bytes j 0) (bytes_small bytes (bytes_passed m bytes passes).0 j h),
      )

  -- packing what was read returns its bytes
  pub bytes_back : packed_bytes m (packed_row bytes) ≡ bytes
  unfolding packed_bytes
  bytes_back =
      ap (λ (v : ℕ → Trit). tabulate (byte_of v) (bytes_for m)) (packed_upto m bytes (bytes_passed m bytes passes).1)
      ∙ sym (tabulated (bytes_for m) (byte_of (packed_row bytes)) bytes size (λ j h. sym (read_byte j (omega (arith, size)))))

-- ---- one packed form for one row: two packed texts of one length that both pass mean the same trits only if they are equal

pub one_form : (m : ℕ) (a b : List ℕ) → length a ≡ bytes_for m → length b ≡ bytes_for m → packed_refusal m a ≡ 0 → packed_refusal m b ≡ 0
    → ((p : ℕ) → p < m → packed_row a p ≡ packed_row b p) → a ≡ b
one_form m a b la lb pa pb e = sym (bytes_back m a la pa) ∙ ap (packed_bytes m) (fun_ext (λ p. by p (dec_lt p m))) ∙ bytes_back m b lb pb
  where
    by : (p : ℕ) → Dec (p < m) → packed_row a p ≡ packed_row b p
    by p (yes l) = e p l
    by p (no f) = packed_out m a pa p (omega arith) ∙ sym (packed_out m b pb p (omega arith))

-- ---- the calls: unpack of what pack wrote gives the row's own words back

-- what a row is that pack does not refuse
pub record Packable (c : Pack) : Type 0 where
  pub few : c.m ≤ 16384
  pub ones_size : length c.ones ≡ words_for c.m
  pub twos_size : length c.twos ≡ words_for c.m
  pub bytes_size : length c.bytes ≡ bytes_for c.m
  pub both : both_set c.ones c.twos ≡ false
  pub past : past_end c.ones c.twos c.m ≡ false

pub packable : (c : Pack) → pack_refusal c ≡ 0 → Packable c
unfolding pack_refusal_under
packable c e =
    let m = c.m in
    let a = passed_refuse (ltb 16384 m) 1 _ (lit< tt) e in
    let b = passed_demand (eqb (length c.ones) (words_for m)) 2 _ (lit< tt) a.1 in
    let d = passed_demand (eqb (length c.twos) (words_for m)) 2 _ (lit< tt) b.1 in
    let f = passed_demand (eqb (length c.bytes) (bytes_for m)) 2 _ (lit< tt) d.1 in
    let p = planes_passed c.ones c.twos 1 m f.1 in
    let o = eqb-true (length c.ones) (words_for m) b.0 in
    let t = eqb-true (length c.twos) (words_for m) d.0 in
    record {
      few = ltb-false 16384 m a.0;
      ones_size = o;
      twos_size = t;
      bytes_size = eqb-true (length c.bytes) (bytes_for m) f.0;
      both = p.0;
      past = sym (one_row_past c.ones c.twos m o t) ∙ p.1;
    }

module _ (c : Pack) (e : pack_refusal c ≡ 0) (ho : (j : ℕ) → Fits w64 (get_or c.ones j 0)) (ht : (j : ℕ) → Fits w64 (get_or c.twos j 0)) where
  abbrev m : ℕ
  m = c.m

  abbrev v : ℕ → Trit
  v = trit_at c.ones c.twos

  p : Packable c
  p = packable c e

  row : Row c.ones c.twos
  row = record { same = p.twos_size ∙ sym p.ones_size; apart = both_apart ho ht p.both }

  -- what pack wrote
  wrote : pack_exit c ≡ packed_bytes m v
  unfolding pack_exit
  wrote = sym (exit_new (packed_bytes m v) c.bytes e)

  holds : Holds c.ones c.twos (words_for m) (packed_row (pack_exit c))
  holds =
      let z = past_zero c.ones c.twos m row.same p.past in
      let s : v ≡ packed_row (pack_exit c) = sym (ap packed_row wrote ∙ packed_back m v ∙ upto_ended v m z) in
      subst (λ (u : ℕ → Trit). Holds c.ones c.twos (words_for m) u) s
      (read_holds c.ones c.twos (words_for m) row p.ones_size (λ j. (ho j).fits) (λ j. (ht j).fits))

  module _ (o t : List ℕ) (lo : length o ≡ words_for c.m) (lt : length t ≡ words_for c.m) where
    -- unpack does not refuse it
    pub back_passes : unpack_refusal (unpack_of c.m (pack_exit c) o t) ≡ 0
    back_passes =
        sym (unpack_passed m o t (pack_exit c) p.few (ap length wrote ∙ packed_length m v) lo lt)
        ∙ ap (packed_refusal m) wrote ∙ packed_accepted m v

    -- and gives back the words that were packed, whatever the planes held
    pub back_ones : unpack_ones (unpack_of c.m (pack_exit c) o t) ≡ c.ones
    unfolding unpack_ones
    back_ones = sym (exit_new (ones_of (packed_row (pack_exit c)) (words_for m)) o back_passes) ∙ sym holds.ones_are

    pub back_twos : unpack_twos (unpack_of c.m (pack_exit c) o t) ≡ c.twos
    unfolding unpack_twos
    back_twos = sym (exit_new (twos_of (packed_row (pack_exit c)) (words_for m)) t back_passes) ∙ sym holds.twos_are

-- ---- the calls: pack of what unpack wrote gives the bytes back

-- what bytes are that unpack does not refuse
pub record Unpackable (c : Unpack) : Type 0 where
  pub few : c.m ≤ 16384
  pub bytes_size : length c.bytes ≡ bytes_for c.m
  pub ones_size : length c.ones ≡ words_for c.m
  pub twos_size : length c.twos ≡ words_for c.m
  pub good : packed_refusal c.m c.bytes ≡ 0

pub unpackable : (c : Unpack) → unpack_refusal c ≡ 0 → Unpackable c
unfolding unpack_refusal
unpackable c e =
    let m = c.m in
    let a = passed_refuse (ltb 16384 m) 1 _ (lit< tt) e in
    let b = passed_demand (eqb (length c.bytes) (bytes_for m)) 2 _ (lit< tt) a.1 in
    let d = passed_demand (eqb (length c.ones) (words_for m)) 2 _ (lit< tt) b.1 in
    let f = passed_demand (eqb (length c.twos) (words_for m)) 2 _ (lit< tt) d.1 in
    record {
      few = ltb-false 16384 m a.0;
      bytes_size = eqb-true (length c.bytes) (bytes_for m) b.0;
      ones_size = eqb-true (length c.ones) (words_for m) d.0;
      twos_size = eqb-true (length c.twos) (words_for m) f.0;
      good = f.1;
    }

module _ (c : Unpack) (e : unpack_refusal c ≡ 0) where
  abbrev n : ℕ
  n = words_for c.m

  abbrev u : ℕ → Trit
  u = packed_row c.bytes

  q : Unpackable c
  q = unpackable c e

  ended : (i : ℕ) → c.m ≤ i → u i ≡ t0
  ended = packed_out c.m c.bytes q.good

  -- what unpack wrote
  ones_wrote : unpack_ones c ≡ ones_of u n
  unfolding unpack_ones
  ones_wrote = sym (exit_new (ones_of u n) c.ones e)

  twos_wrote : unpack_twos c ≡ twos_of u n
  unfolding unpack_twos
  twos_wrote = sym (exit_new (twos_of u n) c.twos e)

  trits_wrote : trit_at (unpack_ones c) (unpack_twos c) ≡ u
  trits_wrote =
      ap₂ trit_at ones_wrote twos_wrote
      ∙ (holds_reads (ones_of u n) (twos_of u n) n u (λ i l. ended i (omega arith)) (record { ones_are = refl; twos_are = refl })).trits

  module _ (b : List ℕ) (lb : length b ≡ bytes_for c.m) where
    -- pack does not refuse it
    pub again_passes : pack_refusal (pack_of c.m (unpack_ones c) (unpack_twos c) b) ≡ 0
    again_passes =
        sym (pack_passed c.m (unpack_ones c) (unpack_twos c) b q.few lb (ap length ones_wrote ∙ length_ones u n)
        (ap length twos_wrote ∙ length_twos u n))
        ∙ ap₂ (λ (x y : List ℕ). planes_refusal x y 1 c.m) ones_wrote twos_wrote ∙ vector_passes u c.m ended

    -- and gives back the bytes that were unpacked, whatever was lent for them
    pub again_bytes : pack_exit (pack_of c.m (unpack_ones c) (unpack_twos c) b) ≡ c.bytes
    unfolding pack_exit
    again_bytes =
        sym (exit_new (packed_bytes c.m (trit_at (unpack_ones c) (unpack_twos c))) b again_passes) ∙ ap (packed_bytes c.m) trits_wrote
        ∙ bytes_back c.m c.bytes q.bytes_size q.good

-- so bytes that unpack takes and that leave the same words are the same
pub unpacked_apart : (c d : Unpack) → c.m ≡ d.m → unpack_refusal c ≡ 0 → unpack_refusal d ≡ 0
    → unpack_ones c ≡ unpack_ones d → unpack_twos c ≡ unpack_twos d → c.bytes ≡ d.bytes
unpacked_apart c d s e f o t =
    let b = d.bytes in
    let l = (unpackable d f).bytes_size in
    sym (again_bytes c e b (l ∙ sym (ap bytes_for s)))
    ∙ ap₂ (λ (m : ℕ) (x : List ℕ × List ℕ). pack_exit (pack_of m x.0 x.1 b)) s (ap₂ (λ (x y : List ℕ). (x, y)) o t)
    ∙ again_bytes d f b l
