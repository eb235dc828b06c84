-- A turn writes twelve bytes more, or all that are left (`bytes_turn`); the row is 0 past its length, so that the bytes are those of its first m trits.
-- Assumes nothing.
use Prim.Native.Nat.{ℕ, ◌-◌, ◌*◌}
use mathlib.Core.Path.{◌≡◌, sym, ap, subst, ◌∙◌}
use mathlib.Core.List.{List}
use native.Mathlib.Omega.{arith}
use Rattle.trits.specs.Trit.{Trit}
use Rattle.trits.specs.Planes.{trit_at, tabulate}
use Rattle.trits.proofs.Ends.{upto_ended}
use Rattle.trits.proofs.Parts.{length_mid}
use Rattle.trits.proofs.Patches.{Patched, patch_none, patched_all}
use Rattle.packed.specs.Packed.{bytes_for, byte_of, packed_bytes}
use Rattle.packed.proofs.Values.{bits_apart, bytes_turn}
use Rattle.packing.proofs.read.read_bytes.Goals as goal

-- the end of what is written, said otherwise
patched_to : {f : ℕ → ℕ} {e e' : ℕ} {b₀ b : List ℕ} → e ≡ e' → Patched f 0 e b₀ b → Patched f 0 e' b₀ b
patched_to {f} {e} {e'} {b₀} {b} p h = let P : ℕ → Type 0 = λ n. Patched f 0 n b₀ b in subst P p h

pub loop-k-init : goal.loop-k-init
loop-k-init c = patched_to (omega arith) (patch_none _ _ _)

pub bits_from-x-requires : goal.bits_from-x-requires
bits_from-x-requires c = omega (arith, c.requires.row.same)

pub bits_from-y-requires : goal.bits_from-y-requires
bits_from-y-requires c = omega (arith, c.requires.row.same)

pub read_twelve-requires : goal.read_twelve-requires
read_twelve-requires c =
    let l = c.loop-k in
    let j = 12 * l.k in
    let end = c.min-end.result in record {
      is_table = c.digit_values-values.ensures;
      apart = bits_apart c.requires.row j c.bits_from-x.ensures c.bits_from-y.ensures;
      few = omega (arith, length_mid j (end - j) l.bytes (omega arith));
    }

pub loop-k-preserved : goal.loop-k-preserved
loop-k-preserved c =
    let l = c.loop-k in
    patched_to (omega arith) (bytes_turn c.requires.row (12 * l.k) c.bits_from-x.ensures c.bits_from-y.ensures _
    (omega arith) (omega arith) (omega arith) (patched_to (omega arith) l.invariant) c.read_twelve.ensures)

pub shape_of-bytes : goal.shape_of-bytes
shape_of-bytes c = c.loop-k.invariant.kept

pub returns : goal.returns
unfolding packed_bytes
returns c =
    let a = c.args in
    patched_all _ c.loop-k.invariant c.requires.bytes_size (omega arith)
    ∙ ap (λ (v : ℕ → Trit). tabulate (byte_of v) (bytes_for a.m)) (sym (upto_ended (trit_at a.row.ones.now a.row.twos.now) a.m c.requires.ended))
