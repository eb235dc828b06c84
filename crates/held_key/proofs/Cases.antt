-- A beginning at the edges of the ranges, and a state's key number, computed from the definitions ("At the edges"; request C-15). Assumes nothing.
use mathlib.Core.Path.{◌≡◌, refl}
use mathlib.Core.Bool.{true, false}
use Prim.Native.Nat.{ℕ}
use Rattle.held_key.specs.declared.state.Held.{Held}
use Rattle.held_key.specs.Held.{numbers_fit_under, sound, sound_under}
use Rattle.held_key.specs.Store.{begin_refusal, begin_refusal_under}

-- n = 4 and 16,384 pass; 2, 5 and 16,386 give 1
sizes_4 : begin_refusal 7 4 2 1 ≡ 0
unfolding begin_refusal_under numbers_fit_under
sizes_4 = refl

sizes_16384 : begin_refusal 7 16384 16382 16384 ≡ 0
unfolding begin_refusal_under numbers_fit_under
sizes_16384 = refl

sizes_2 : begin_refusal 7 2 2 1 ≡ 1
unfolding begin_refusal_under numbers_fit_under
sizes_2 = refl

sizes_5 : begin_refusal 7 5 2 1 ≡ 1
unfolding begin_refusal_under numbers_fit_under
sizes_5 = refl

sizes_16386 : begin_refusal 7 16386 2 1 ≡ 1
unfolding begin_refusal_under numbers_fit_under
sizes_16386 = refl

-- key numbers: each of these begins a key
numbers_taken : (begin_refusal 0 4 2 1 ≡ 0) × (begin_refusal 255 4 2 1 ≡ 0) × (begin_refusal 256 4 2 1 ≡ 0) × (begin_refusal 65535 4 2 1 ≡ 0)
    × (begin_refusal 65536 4 2 1 ≡ 0) × (begin_refusal 4294967295 4 2 1 ≡ 0)
unfolding begin_refusal_under numbers_fit_under
numbers_taken = (refl, refl, refl, refl, refl, refl)

-- and none of these, the last being the largest of a word
numbers_refused : (begin_refusal 4294967296 4 2 1 ≡ 1) × (begin_refusal 4294967303 4 2 1 ≡ 1) × (begin_refusal 18446744073709551615 4 2 1 ≡ 1)
unfolding begin_refusal_under numbers_fit_under
numbers_refused = (refl, refl, refl)

-- a state with this key number, n = 4, k = 2, w = 1, and one row
abbrev numbered : ℕ → Held
numbered number = record { begun = 1; number = number; n = 4; k = 2; w = 1; rows = 1 }

state_numbers : (sound (numbered 255) ≡ true) × (sound (numbered 256) ≡ true) × (sound (numbered 4294967295) ≡ true)
    × (sound (numbered 4294967296) ≡ false)
unfolding sound_under numbers_fit_under
state_numbers = (refl, refl, refl, refl)

-- before request C-15 they ended at 255
state_before : (sound_under 255 (numbered 255) ≡ true) × (sound_under 255 (numbered 256) ≡ false)
unfolding sound_under numbers_fit_under
state_before = (refl, refl)
