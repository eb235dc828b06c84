-- What sizes in their ranges say of lengths. Assumes nothing.
use mathlib.Core.Path.{◌≡◌}
use mathlib.Core.Bool.{true, and-eq-true_iff}
use Prim.Native.Nat.{ℕ, ◌*◌, ◌≤◌, ◌<◌}
use native.Mathlib.Nat.{mul-le-mul}
use native.Mathlib.Omega.{arith}
use borrow.Author.Tests.{leb-true}
use lib.Dec.{leb}
use Rattle.scheme.specs.declared.sizes.Sizes.{Sizes}
use Rattle.scheme.specs.Sizes.{half, places, ru, rv, gap_v, gap_u, sizes_fit, sizes_fit_under}
use Rattle.scheme.proofs.Ranges.{sizes_fit_law}
use Rattle.calls.specs.Lent.{half_words}

pub record Bounds (z : Sizes) : Type 0 where
  pub low : 4 ≤ z.n
  pub high : z.n ≤ 16384
  pub ku : z.ku < half z
  pub kv : z.kv < half z
  pub gu : gap_u z ≤ z.ku
  pub gv : gap_v z ≤ z.kv
  pub even : places z ≡ z.n

pub bounds : (z : Sizes) → sizes_fit z ≡ true → Bounds z
unfolding sizes_fit_under
bounds z h =
    let a = (and-eq-true_iff (leb 4 z.n) _).0 h in
    let b = (and-eq-true_iff (leb z.n 16384) _).0 a.1 in
    let r = sizes_fit_law z h in
    record {
      low = leb-true 4 z.n a.0;
      high = leb-true z.n 16384 b.0;
      ku = r.ku_low;
      kv = r.kv_low;
      gu = r.gu_low;
      gv = r.gv_low;
      even = r.even;
    }

pub prod : (a b A B : ℕ) → a ≤ A → b ≤ B → a * b ≤ A * B
prod a b A B h g = mul-le-mul h g

-- neither matrix has many words
pub record Words (z : Sizes) : Type 0 where
  pub u : ru z * half_words z ≤ 1048576
  pub v : rv z * half_words z ≤ 1048576

pub words : (z : Sizes) → Bounds z → Words z
words z b =
    let h = b.high in
    let w : half_words z ≤ 128 = omega arith in
    record { u = prod (ru z) (half_words z) 8192 128 (omega arith) w; v = prod (rv z) (half_words z) 8192 128 (omega arith) w }
