-- The ranges are tested one after another.
-- Assumes nothing.
use mathlib.Core.Path.{◌≡◌, refl, ap, ◌∙◌}
use mathlib.Core.Bool.{Bool, ◌&&◌}
use Prim.Native.Nat.{◌-◌, ◌%◌}
use lib.Dec.{eqb, leb}
use borrow.Author.Tests.{le-leb, lt-leb}
use Rattle.held_key.specs.Held.{most_key_number, numbers_fit_under}
use Rattle.held_key.proofs.Ranges.{tested, untested, in_a_row, contained}
use Rattle.held_key.proofs.state.numbers_fit.Goals as goal
use Rattle.held_key.proofs.state.numbers_fit.Goals.{then-number-le-MOST_KEY_NUMBER, else-number-le-MOST_KEY_NUMBER, then-contains, else-contains}
use Rattle.held_key.proofs.state.numbers_fit.Goals.{then-n-eq0, else-n-eq0}

pub returns-then-contains-2 : goal.returns-then-contains-2
unfolding numbers_fit_under
returns-then-contains-2 c =
    let a = c.args in
    let to_n : c.if-number-le-MOST_KEY_NUMBER.value ≡ (leb a.number most_key_number && (leb 4 a.n && leb a.n 16384)) =
    elim c.if-number-le-MOST_KEY_NUMBER.branch [
      | then-number-le-MOST_KEY_NUMBER w ↦
          let e = w.new.ensures in
          tested _ _ (le-leb a.number most_key_number w.if-number-le-MOST_KEY_NUMBER.true)
          (w.value-is ∙ contained _ _ _ _ 4 16384 w.contains.ensures.value e.start e.end e.exhausted)
      | else-number-le-MOST_KEY_NUMBER w ↦ untested _ _ (lt-leb a.number most_key_number w.if-number-le-MOST_KEY_NUMBER.false) w.value-is
    ] in
    let to_even : c.if-contains.value ≡ (c.if-number-le-MOST_KEY_NUMBER.value && eqb (a.n % 2) 0) =
    elim c.if-contains.branch [
      | then-contains w ↦ tested _ _ w.if-contains.true w.value-is
      | else-contains w ↦ untested _ _ w.if-contains.false w.value-is
    ] in
    let to_k : c.if-n-eq0.value ≡ (c.if-contains.value && (leb 2 a.k && leb a.k (a.n - 2))) =
    elim c.if-n-eq0.branch [
      | then-n-eq0 w ↦
          let e = w.new-then-n-eq0.ensures in
          tested _ _ w.if-n-eq0.true
          (w.value-is ∙ contained _ _ _ _ 2 (a.n - 2) w.contains-then-n-eq0.ensures.value e.start e.end e.exhausted)
      | else-n-eq0 w ↦ untested _ _ w.if-n-eq0.false w.value-is
    ] in
    let upto_k : c.if-n-eq0.value ≡ (((leb a.number most_key_number && (leb 4 a.n && leb a.n 16384)) && eqb (a.n % 2) 0) && (leb 2 a.k && leb a.k (a.n - 2))) =
    to_k ∙ ap (λ (t : Bool). t && (leb 2 a.k && leb a.k (a.n - 2))) (to_even ∙ ap (λ (t : Bool). t && eqb (a.n % 2) 0) to_n) in
    let e = c.new-then-contains-2.ensures in
    tested _ _ c.if-contains-2.true (contained _ _ _ _ 1 a.n c.contains-then-contains-2.ensures.value e.start e.end e.exhausted)
    ∙ ap (λ (t : Bool). t && (leb 1 a.w && leb a.w a.n)) upto_k
    ∙ in_a_row (leb a.number most_key_number) (leb 4 a.n) (leb a.n 16384) (eqb (a.n % 2) 0) (leb 2 a.k) (leb a.k (a.n - 2)) (leb 1 a.w) (leb a.w a.n)

pub returns-else-contains-2 : goal.returns-else-contains-2
unfolding numbers_fit_under
returns-else-contains-2 c =
    let a = c.args in
    let to_n : c.if-number-le-MOST_KEY_NUMBER.value ≡ (leb a.number most_key_number && (leb 4 a.n && leb a.n 16384)) =
    elim c.if-number-le-MOST_KEY_NUMBER.branch [
      | then-number-le-MOST_KEY_NUMBER w ↦
          let e = w.new.ensures in
          tested _ _ (le-leb a.number most_key_number w.if-number-le-MOST_KEY_NUMBER.true)
          (w.value-is ∙ contained _ _ _ _ 4 16384 w.contains.ensures.value e.start e.end e.exhausted)
      | else-number-le-MOST_KEY_NUMBER w ↦ untested _ _ (lt-leb a.number most_key_number w.if-number-le-MOST_KEY_NUMBER.false) w.value-is
    ] in
    let to_even : c.if-contains.value ≡ (c.if-number-le-MOST_KEY_NUMBER.value && eqb (a.n % 2) 0) =
    elim c.if-contains.branch [
      | then-contains w ↦ tested _ _ w.if-contains.true w.value-is
      | else-contains w ↦ untested _ _ w.if-contains.false w.value-is
    ] in
    let to_k : c.if-n-eq0.value ≡ (c.if-contains.value && (leb 2 a.k && leb a.k (a.n - 2))) =
    elim c.if-n-eq0.branch [
      | then-n-eq0 w ↦
          let e = w.new-then-n-eq0.ensures in
          tested _ _ w.if-n-eq0.true
          (w.value-is ∙ contained _ _ _ _ 2 (a.n - 2) w.contains-then-n-eq0.ensures.value e.start e.end e.exhausted)
      | else-n-eq0 w ↦ untested _ _ w.if-n-eq0.false w.value-is
    ] in
    let upto_k : c.if-n-eq0.value ≡ (((leb a.number most_key_number && (leb 4 a.n && leb a.n 16384)) && eqb (a.n % 2) 0) && (leb 2 a.k && leb a.k (a.n - 2))) =
    to_k ∙ ap (λ (t : Bool). t && (leb 2 a.k && leb a.k (a.n - 2))) (to_even ∙ ap (λ (t : Bool). t && eqb (a.n % 2) 0) to_n) in
    untested _ _ c.if-contains-2.false refl
    ∙ ap (λ (t : Bool). t && (leb 1 a.w && leb a.w a.n)) upto_k
    ∙ in_a_row (leb a.number most_key_number) (leb 4 a.n) (leb a.n 16384) (eqb (a.n % 2) 0) (leb 2 a.k) (leb a.k (a.n - 2)) (leb 1 a.w) (leb a.w a.n)
