-- What a sound state says of its numbers. Assumes nothing.
use mathlib.Core.Path.{◌≡◌, refl, sym}
use mathlib.Core.Bool.{Bool, true, false, ◌&&◌, true≢false}
use Prim.Native.Nat.{◌+◌, ◌-◌, ◌*◌, ◌%◌, ◌≤◌}
use native.Mathlib.Nat.{mul-le-mul}
use native.Mathlib.Omega.{arith}
use lib.Dec.{eqb, leb}
use borrow.Author.Tests.{leb-true, eqb-true}
use Rattle.held_key.specs.declared.state.Held.{Held}
use Rattle.held_key.specs.Held.{most_key_number, numbers_fit, numbers_fit_under, sound, sound_under, row_words, key_words}

pub and_both : (a b : Bool) → (a && b) ≡ true → (a ≡ true) × (b ≡ true)
and_both true b e = (refl, e)
and_both false b e = absurd (true≢false (sym e))

pub record Sizes (h : Held) : Type 0 where
  pub is_begun : h.begun ≡ 1
  pub many : 4 ≤ h.n
  pub few : h.n ≤ 16384
  pub over : 2 ≤ h.k
  pub below : h.k + 2 ≤ h.n
  pub counted : h.rows ≤ h.k
  pub room : key_words h ≤ 16384 * 256

pub sizes : (h : Held) → sound h ≡ true → Sizes h
unfolding sound_under numbers_fit_under
sizes h e =
    let a = and_both (eqb h.begun 1) _ e in
    let z = and_both (numbers_fit h.number h.n h.k h.w) (leb h.rows h.k) a.1 in
    let b = and_both (leb h.number most_key_number) _ z.0 in
    let c = and_both (leb 4 h.n) _ b.1 in
    let d = and_both (leb h.n 16384) _ c.1 in
    let f = and_both (eqb (h.n % 2) 0) _ d.1 in
    let g = and_both (leb 2 h.k) _ f.1 in
    let i = and_both (leb h.k (h.n - 2)) _ g.1 in
    let many : 4 ≤ h.n = leb-true _ _ c.0 in
    let few : h.n ≤ 16384 = leb-true _ _ d.0 in
    let under : h.k ≤ h.n - 2 = leb-true _ _ i.0 in
    record {
      is_begun = eqb-true _ _ a.0;
      many = many;
      few = few;
      over = leb-true _ _ g.0;
      below = omega arith;
      counted = leb-true _ _ z.1;
      room = mul-le-mul {n₁ = h.k} {m₁ = row_words h} {n₂ = 16384} {m₂ = 256} (omega arith) (omega arith);
    }
