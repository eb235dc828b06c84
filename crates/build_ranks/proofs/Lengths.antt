-- What sizes in their ranges say of a build's lengths, and the chain of the ranks. Assumes nothing.
use mathlib.Core.Path.{◌≡◌, sym, ◌∙◌}
use Prim.Native.Nat.{ℕ, ◌+◌, ◌*◌, ◌≤◌}
use native.Mathlib.Nat.{mul-add, add-mul}
use native.Mathlib.Omega.{arith}
use borrow.Author.Tests.{eq-eqb, ne_eqb}
use Rattle.matrix.specs.Linear.{rank, range}
use Rattle.scheme.specs.declared.sizes.Sizes.{Sizes}
use Rattle.scheme.specs.Sizes.{half, dim, ru, rv, codim}
use Rattle.scheme.specs.Secret.{Secret}
use Rattle.scheme.specs.Build.{build_refusal}
use Rattle.calls.specs.Lent.{half_words}
use Rattle.calls.specs.BuildCall.{key_row_words, build_work_words}
use Rattle.calls.proofs.Bounds.{Bounds, prod, words}

-- no product of sizes is large, and each matrix has room in the working space
pub record Products (z : Sizes) : Type 0 where
  pub u : ru z * half_words z ≤ 1048576
  pub v : rv z * half_words z ≤ 1048576
  pub key : dim z * key_row_words z ≤ 4194304
  pub work : build_work_words z ≤ 4294912
  pub u_room : (ru z + 243) * half_words z ≤ build_work_words z
  pub v_room : (rv z + 243) * half_words z ≤ build_work_words z

pub products : (z : Sizes) → Bounds z → Products z
products z b =
    let l = b.low in
    let h = b.high in
    let hu = b.ku in
    let hv = b.kv in
    let m = words z b in
    let f : build_work_words z ≡ (codim z + 243) * half_words z + (codim z + 243) * half_words z = mul-add (codim z + 243) (half_words z) (half_words z) in
    let e : codim z * half_words z ≡ ru z * half_words z + rv z * half_words z = add-mul (ru z) (rv z) (half_words z) in
    let t = add-mul (codim z) 243 (half_words z) in
    record {
      u = m.u;
      v = m.v;
      key = prod (dim z) (key_row_words z) 16384 256 (omega arith) (omega arith);
      work = prod (codim z + 243) (half_words z + half_words z) 16777 256 (omega arith) (omega arith);
      u_room = omega (arith, e, f, t, add-mul (ru z) 243 (half_words z));
      v_room = omega (arith, e, f, t, add-mul (rv z) 243 (half_words z));
    }

-- ---- the ranks

module _ (z : Sizes) (s : Secret) {u : ℕ} (eu : u ≡ rank (ru z) (half z) s.hu (range (half z))) where
  pub lacks_u : (u ≡ ru z → ⊥) → 9 ≡ build_refusal z s
  unfolding build_refusal
  lacks_u f = rw (ne_eqb (rank (ru z) (half z) s.hu (range (half z))) (ru z) (λ e. f (eu ∙ e)))

  module _ {v : ℕ} (fu : u ≡ ru z) (ev : v ≡ rank (rv z) (half z) s.hv (range (half z))) where
    pub lacks_v : (v ≡ rv z → ⊥) → 10 ≡ build_refusal z s
    unfolding build_refusal
    lacks_v f = rw (
      eq-eqb (rank (ru z) (half z) s.hu (range (half z))) (ru z) (sym eu ∙ fu),
      ne_eqb (rank (rv z) (half z) s.hv (range (half z))) (rv z) (λ e. f (ev ∙ e)),
    )

    pub lacks_none : v ≡ rv z → 0 ≡ build_refusal z s
    unfolding build_refusal
    lacks_none fv = rw (
      eq-eqb (rank (ru z) (half z) s.hu (range (half z))) (ru z) (sym eu ∙ fu),
      eq-eqb (rank (rv z) (half z) s.hv (range (half z))) (rv z) (sym ev ∙ fv),
    )
