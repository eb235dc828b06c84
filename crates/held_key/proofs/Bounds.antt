-- A key number that is above neither of two bounds is taken alike under both: at a beginning, in a state, at a row (request C-15). Assumes nothing.
use mathlib.Core.Path.{◌≡◌}
use mathlib.Core.Bool.{◌&&◌, cond}
use mathlib.Core.List.{List, []}
use Prim.Native.Nat.{ℕ, ◌≤◌}
use borrow.Author.Tests.{le-leb}
use lib.Dec.{ltb}
use lib.ListN.{length}
use Rattle.trits.specs.Planes.{trit_at}
use Rattle.trits.specs.Rows.{row_part}
use Rattle.trits.specs.Refusal.{PlanesTest}
use Rattle.held_key.specs.declared.state.Held.{Held}
use Rattle.held_key.specs.Held.{numbers_fit_under, sound_under, row_words, held_row_under, held_key_under}
use Rattle.held_key.specs.Store.{Store, begin_refusal_under, row_refusal_under, store_refusal_under}

module _ (a b number : ℕ) (la : number ≤ a) (lb : number ≤ b) (n k w : ℕ) where
  fits_either : numbers_fit_under a number n k w ≡ numbers_fit_under b number n k w
  unfolding numbers_fit_under
  fits_either = rw (le-leb number a la, le-leb number b lb)

  pub begin_either : begin_refusal_under a number n k w ≡ begin_refusal_under b number n k w
  unfolding begin_refusal_under
  begin_either = rw fits_either

module _ (a b : ℕ) (h : Held) (la : h.number ≤ a) (lb : h.number ≤ b) where
  pub sound_either : sound_under a h ≡ sound_under b h
  unfolding sound_under
  sound_either = rw (fits_either a b h.number la lb h.n h.k h.w)

  row_either : (ones twos : ℕ) → row_refusal_under a h ones twos ≡ row_refusal_under b h ones twos
  unfolding row_refusal_under
  row_either ones twos = rw sound_either

  pub key_either : (ones twos : List ℕ) → held_key_under a h ones twos ≡ held_key_under b h ones twos
  unfolding held_key_under held_row_under
  key_either ones twos = λ t i.
      let there = sound_either t && ltb i h.rows in
      trit_at (cond there (row_part ones h.k (row_words h) i) []) (cond there (row_part twos h.k (row_words h) i) [])

pub store_either : (a b : ℕ) (test : PlanesTest) (c : Store) → c.held.number ≤ a → c.held.number ≤ b
    → store_refusal_under a test c ≡ store_refusal_under b test c
unfolding store_refusal_under
store_either a b test c la lb = rw (row_either a b c.held la lb (length c.ones) (length c.twos))
