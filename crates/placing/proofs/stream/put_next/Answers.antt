-- A byte above 242 gives nothing; any other five trits, or as many as are missing (`byte_next`, `first_next`).
-- Assumes nothing.
use Prim.Native.Nat.{ℕ, ◌+◌, ◌-◌, ◌<◌}
use mathlib.Core.Path.{sym, ap, ◌∙◌}
use native.Mathlib.Omega.{arith}
use Rattle.packed.proofs.Pieces.{byte_next, first_next}
use Rattle.packed.proofs.Putting.{gives_none, gives_few, gives_five}
use Rattle.placing.proofs.stream.put_next.Goals as goal

pub returns-then-b-gt242 : goal.returns-then-b-gt242
returns-then-b-gt242 c =
    let a = c.args in
    let z = gives_none a.m a.w.now.at a.b (omega arith) in
    record { place = omega arith; goes_on = λ v s f. s }

pub append-requires : goal.append-requires
append-requires c =
    record { twos_size = c.requires.twos_size; room = omega (arith, c.requires.place, c.requires.trits_fit); few = omega arith; small = c.requires.small }

pub returns-then-left-lt5 : goal.returns-then-left-lt5
returns-then-left-lt5 c =
    let a = c.args in
    let e = c.append.ensures in
    let good : a.b < 243 = omega arith in
    let z = gives_few a.m a.w.now.at a.b good c.if-left-lt5.true in record {
      place = e.place ∙ ap (λ (n : ℕ). a.w.now.at + n) (sym z);
      goes_on = λ v so_far f. e.goes_on v so_far
          (first_next c.requires.is_masks v a.b a.w.now.at good c.mask.ensures (a.m - a.w.now.at) (omega arith)
          (λ k l. f k (omega (arith, z, l))) c.first_trits.ensures);
    }

pub append-requires-else-left-lt5 : goal.append-requires-else-left-lt5
append-requires-else-left-lt5 c =
    record { twos_size = c.requires.twos_size; room = omega (arith, c.requires.place, c.requires.trits_fit); few = omega arith; small = c.requires.small }

pub returns-else-left-lt5 : goal.returns-else-left-lt5
returns-else-left-lt5 c =
    let a = c.args in
    let e = c.append-else-left-lt5.ensures in
    let good : a.b < 243 = omega arith in
    let z = gives_five a.m a.w.now.at a.b good c.if-left-lt5.false in record {
      place = e.place ∙ ap (λ (n : ℕ). a.w.now.at + n) (sym z);
      goes_on = λ v so_far f. e.goes_on v so_far
          (byte_next c.requires.is_masks v a.b a.w.now.at good c.mask-else-left-lt5.ensures (λ k l. f k (omega (arith, z, l))));
    }
