-- The words of products are counted, those that are 1 and those that are 2; the two counts give the sum modulo 3 (`dot_number`).
-- Assumes nothing.
use Prim.Native.Nat.{ℕ, ◌*◌}
use mathlib.Core.Path.{◌≡◌}
use mathlib.Core.List.{List}
use native.Mathlib.Omega.{arith}
use lib.ListN.{length, get_or}
use mir.Syntax.{w64}
use mir.Val.{Fits}
use Rattle.trits.specs.Trit.{sum_to}
use Rattle.trits.proofs.Products.{Known, same_le, other_le, same_turn, other_turn, dot_number}
use Rattle.rows.specs.Steps.{ForDot}
use Rattle.rows.proofs.dot.Goals as goal

pub loop-i-init : goal.loop-i-init
unfolding sum_to
loop-i-init c =
    omega arith

-- what is known in a turn, from what is asked of the rows and what their types say
known : {ao at bo bt : List ℕ} → ForDot ao at bo bt
    → ((j : ℕ) → Fits w64 (get_or ao j 0)) → ((j : ℕ) → Fits w64 (get_or at j 0))
    → ((j : ℕ) → Fits w64 (get_or bo j 0)) → ((j : ℕ) → Fits w64 (get_or bt j 0)) → (i : ℕ) → Known ao at bo bt i
known r a b u v i =
    record {
      ua = r.left.apart;
      va = r.right.apart;
      ha = a i;
      hb = b i;
      hc = u i;
      hd = v i;
    }

pub overflow_add-ones : goal.overflow_add-ones
overflow_add-ones c =
    let t = c.type_inv in
    omega (arith, same_le (known c.requires t.a_ones t.a_twos t.b_ones t.b_twos c.loop-i.i))

pub overflow_add-twos : goal.overflow_add-twos
overflow_add-twos c =
    let t = c.type_inv in
    omega (arith, other_le (known c.requires t.a_ones t.a_twos t.b_ones t.b_twos c.loop-i.i))

pub loop-i-preserved : goal.loop-i-preserved
loop-i-preserved c =
    let l = c.loop-i in
    let t = c.type_inv in
    let k = known c.requires t.a_ones t.a_twos t.b_ones t.b_twos l.i in (
      omega arith,
      omega (arith, same_le k),
      omega (arith, other_le k),
      rw c.from-ones.ensures (same_turn k l.ones l.invariant.3),
      rw c.from-twos.ensures (other_turn k l.twos l.invariant.4),
    )

pub returns : goal.returns
returns c =
    let l = c.loop-i in
    let e : l.i ≡ length c.args.a.ones.now = omega arith in
    rw (← e) (dot_number _ _ (64 * l.i) l.ones l.twos l.invariant.3 l.invariant.4)
