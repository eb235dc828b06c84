-- Computed: the contents of the secret and of the choices, buffer after buffer, 4 before 3 in each (request C-20); 8 from g_U on, and gaps that were no
-- sizes before (request C-18). Assumes nothing.
use mathlib.Core.Path.{◌≡◌, refl}
use mathlib.Core.Bool.{true, false}
use mathlib.Core.List.{[], ◌∷◌}
use Prim.Native.Nat.{ℕ}
use Rattle.trits.specs.Trit.{any_to}
use Rattle.trits.specs.Planes.{bit, bit_at, both_set, past_end, trit_at}
use Rattle.trits.specs.Rows.{row_part, rows_past_end}
use Rattle.trits.specs.Refusal.{first, planes_refusal}
use Rattle.matrix.specs.Orders.{is_order}
use Rattle.scheme.specs.declared.sizes.Sizes.{Sizes}
use Rattle.scheme.specs.Sizes.{gaps_fit, sizes_fit, sizes_fit_under}
use Rattle.scheme.specs.Secret.{has_zero}
use Rattle.calls.specs.Lent.{planes, secret_refusal, secret_refusal_under}
use Rattle.calls.specs.DrawCall.{draw_call, choices_refusal, choices_refusal_under}
use Rattle.calls.specs.OneGap.{one_gap_fits}

-- the paper's sizes: every buffer is one word of two trits, or of one
abbrev four : Sizes
four = record { n = 4; ku = 1; kv = 1; gv = 0; gu = 0; w = 4 }

-- H_U, H_V, b and c with these words, each in ones and twos
abbrev of_secret : ℕ → ℕ → ℕ → ℕ → ℕ → ℕ → ℕ → ℕ → ℕ
of_secret uo ut vo vt bo bt co ct = secret_refusal four (planes (uo ∷ []) (ut ∷ []) (vo ∷ []) (vt ∷ []) (bo ∷ []) (bt ∷ []) (co ∷ []) (ct ∷ []))

-- 4 before 3 in each, and both before 8
past_first : (of_secret 5 1 3 0 2 0 1 2 ≡ 4) × (of_secret 3 0 4 4 2 0 1 2 ≡ 4) × (of_secret 3 0 1 2 1 5 1 2 ≡ 4) × (of_secret 3 0 1 2 2 0 5 1 ≡ 4)
    × (of_secret 3 0 1 2 2 0 1 1 ≡ 3) × (of_secret 3 0 1 2 2 0 1 0 ≡ 8)
unfolding secret_refusal_under first planes_refusal rows_past_end row_part past_end both_set any_to bit_at bit has_zero trit_at
past_first = (refl, refl, refl, refl, refl, refl)

-- 3 in H_U before 4 in H_V, 3 in b before 4 in c; but 4 in H_U before 3 in H_V
buffer_first : (of_secret 1 1 5 1 2 0 1 2 ≡ 3) × (of_secret 3 0 1 2 1 1 4 0 ≡ 3) × (of_secret 4 0 1 1 2 0 1 2 ≡ 4)
unfolding secret_refusal_under first planes_refusal rows_past_end row_part past_end both_set any_to bit_at bit has_zero trit_at
buffer_first = (refl, refl, refl)

-- y, the V trits and the U values with these words, each in ones and twos; all orders rise
abbrev of_choices : ℕ → ℕ → ℕ → ℕ → ℕ → ℕ → ℕ
of_choices yo yt vo vt uo ut =
    choices_refusal four
    (draw_call (planes [] [] [] [] [] [] [] []) (0 ∷ 1 ∷ 2 ∷ 3 ∷ [])
    (yo ∷ []) (yt ∷ []) (0 ∷ 1 ∷ []) (vo ∷ []) (vt ∷ []) (0 ∷ 1 ∷ []) (uo ∷ []) (ut ∷ []) [] [] [] [] [] [])

choices_past_first : (of_choices 5 1 0 1 1 0 ≡ 4) × (of_choices 1 2 3 1 1 0 ≡ 4) × (of_choices 1 2 0 1 2 2 ≡ 4) × (of_choices 1 2 0 1 0 0 ≡ 8)
unfolding choices_refusal_under first planes_refusal rows_past_end row_part past_end both_set any_to bit_at bit has_zero trit_at is_order
choices_past_first = (refl, refl, refl, refl)

choices_buffer_first : (of_choices 1 1 2 0 1 0 ≡ 3) × (of_choices 1 2 1 1 2 2 ≡ 3) × (of_choices 4 0 1 1 1 0 ≡ 4)
unfolding choices_refusal_under first planes_refusal rows_past_end row_part past_end both_set any_to bit_at bit has_zero trit_at is_order
choices_buffer_first = (refl, refl, refl)

-- ---- k_U = 2 and k_V = 1, at gaps g_V and g_U

abbrev six : ℕ → ℕ → Sizes
six gv gu = record { n = 6; ku = 2; kv = 1; gv = gv; gu = gu; w = 6 }

-- two U values with these words in ones and twos; y and the V trit are 0
abbrev of_values : ℕ → ℕ → ℕ → ℕ → ℕ
of_values gv gu uo ut =
    choices_refusal (six gv gu)
    (draw_call (planes [] [] [] [] [] [] [] []) (0 ∷ 1 ∷ 2 ∷ 3 ∷ 4 ∷ 5 ∷ [])
    (0 ∷ []) (0 ∷ []) (0 ∷ 1 ∷ 2 ∷ []) (0 ∷ []) (0 ∷ []) (0 ∷ 1 ∷ 2 ∷ []) (uo ∷ []) (ut ∷ []) [] [] [] [] [] [])

-- a first value 0 is refused at g_U = 0 and not at 1, a second one at 1 and not at 2, whatever g_V is
from_gap_u : (of_values 0 0 2 0 ≡ 8) × (of_values 1 0 2 0 ≡ 8) × (of_values 0 1 2 0 ≡ 0) × (of_values 1 1 2 0 ≡ 0)
    × (of_values 0 1 1 0 ≡ 8) × (of_values 1 1 0 1 ≡ 8) × (of_values 0 2 0 0 ≡ 0)
unfolding choices_refusal_under first planes_refusal rows_past_end row_part past_end both_set any_to bit_at bit has_zero trit_at is_order
from_gap_u = (refl, refl, refl, refl, refl, refl, refl)

-- g_U = 2, above k_V, is a size now, and one gap 2 was none; 1 is a size for both halves, and was one
newly_allowed : (sizes_fit (six 0 2) ≡ true) × (sizes_fit_under (one_gap_fits 2) (six 2 2) ≡ false) × (sizes_fit (six 2 2) ≡ false)
    × (sizes_fit_under (one_gap_fits 1) (six 1 1) ≡ true) × (sizes_fit (six 1 1) ≡ true)
unfolding sizes_fit_under gaps_fit one_gap_fits
newly_allowed = (refl, refl, refl, refl, refl)
