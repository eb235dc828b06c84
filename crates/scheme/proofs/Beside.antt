-- Worked cases of the build and the draw that the paper's examples leave open, by computation over
-- the definitions; their values were worked out apart from them. Assumes nothing.
use mathlib.Core.Path.{◌≡◌, refl}
use mathlib.Core.List.{List, [], ◌∷◌}
use mathlib.Core.Bool.{true, false}
use Prim.Native.Nat.{ℕ}
use Rattle.trits.specs.Trit.{dot_v, any_to, sum_to}
use Rattle.trits.specs.Planes.{tabulate}
use Rattle.matrix.specs.Linear.{agree, find, solve, in_span, keep, pivots, rank, without, fill, range}
use Rattle.matrix.specs.Orders.{is_order}
use Rattle.trits.specs.InDigits.{vector, digits, matrix, digit_rows}
use Rattle.scheme.specs.Sizes.{Sizes, gaps_fit, sizes_fit, sizes_fit_under}
use Rattle.scheme.specs.Secret.{Secret, no_zero, has_zero, secret_matrix}
use Rattle.scheme.specs.Build.{arrange, arranged, row_of_r, build_fits, build_refusal, key_order, key_row}
use Rattle.scheme.specs.Draw.{Choices, choices_fit, pivots_v, supplied_v, draw_v, pivots_u, supplied_u, draw_u, drawn, draw_refusal}

abbrev choose : List ℕ → List ℕ → List ℕ → List ℕ → Choices
choose o_v t_v o_u v_u = record { order_v = o_v; trits_v = vector t_v; order_u = o_u; values_u = vector v_u }

-- ---- n = 6 with k = n-k = 3: k is odd, R is not symmetric, p is not its own inverse

abbrev sizes6 : ℕ → ℕ → ℕ → Sizes
sizes6 gv gu w = record { n = 6; ku = 1; kv = 2; gv = gv; gu = gu; w = w }

abbrev secret6 : Secret
secret6 = record {
  hu = matrix ((0 ∷ 1 ∷ 1 ∷ []) ∷ (1 ∷ 2 ∷ 0 ∷ []) ∷ []);
  hv = matrix ((1 ∷ 1 ∷ 2 ∷ []) ∷ []);
  b = vector (2 ∷ 2 ∷ 1 ∷ []);
  c = vector (2 ∷ 2 ∷ 2 ∷ []);
}

abbrev start6 : List ℕ
start6 = 1 ∷ 4 ∷ 2 ∷ 0 ∷ 5 ∷ 3 ∷ []

abbrev order6 : List ℕ
order6 = 1 ∷ 4 ∷ 3 ∷ 0 ∷ 5 ∷ 2 ∷ []

abbrev choices6 : Choices
choices6 = choose (2 ∷ 0 ∷ 1 ∷ []) (1 ∷ 2 ∷ []) (1 ∷ 2 ∷ 0 ∷ []) (2 ∷ [])

pub record Cases6 : Type 0 where
  pub given : build_fits (sizes6 0 0 3) secret6 start6 ≡ true
  pub passed : build_refusal (sizes6 0 0 3) secret6 ≡ 0
  pub order : key_order (sizes6 0 0 3) secret6 start6 ≡ order6
  pub rows : digit_rows 3 3 (key_row (sizes6 0 0 3) secret6 start6) ≡ (1 ∷ 1 ∷ 2 ∷ []) ∷ (2 ∷ 1 ∷ 2 ∷ []) ∷ (1 ∷ 1 ∷ 0 ∷ []) ∷ []
  pub fits : choices_fit (sizes6 0 0 3) choices6 ≡ true
  pub draw : digits 6 (drawn (sizes6 0 0 3) secret6 order6 (vector (1 ∷ 2 ∷ 0 ∷ [])) choices6) ≡ 2 ∷ 0 ∷ 2 ∷ 2 ∷ 0 ∷ 0 ∷ []
  pub released : draw_refusal (sizes6 0 0 3) secret6 order6 (vector (1 ∷ 2 ∷ 0 ∷ [])) choices6 ≡ 0
  -- g_U = k_U leaves the last part empty
  pub draw_gap : digits 6 (drawn (sizes6 1 1 5) secret6 order6 (vector (1 ∷ 2 ∷ 0 ∷ [])) choices6) ≡ 1 ∷ 1 ∷ 0 ∷ 1 ∷ 2 ∷ 1 ∷ []
  pub released_gap : draw_refusal (sizes6 1 1 5) secret6 order6 (vector (1 ∷ 2 ∷ 0 ∷ [])) choices6 ≡ 0
  -- g_V = 2, above k_U: V's first part is the whole order, and U's has no gap
  pub draw_above : digits 6 (drawn (sizes6 2 0 3) secret6 order6 (vector (1 ∷ 2 ∷ 0 ∷ [])) choices6) ≡ 2 ∷ 0 ∷ 2 ∷ 2 ∷ 0 ∷ 0 ∷ []
  pub released_above : draw_refusal (sizes6 2 0 3) secret6 order6 (vector (1 ∷ 2 ∷ 0 ∷ [])) choices6 ≡ 0

pub cases6 : Cases6
unfolding dot_v any_to sum_to tabulate agree find solve in_span keep pivots rank without fill range is_order digit_rows gaps_fit sizes_fit_under
    no_zero has_zero
    secret_matrix arrange arranged row_of_r build_fits build_refusal choices_fit pivots_v supplied_v draw_v pivots_u supplied_u draw_u drawn draw_refusal
cases6 = record {
  given = refl;
  passed = refl;
  order = refl;
  rows = refl;
  fits = refl;
  draw = refl;
  released = refl;
  draw_gap = refl;
  released_gap = refl;
  draw_above = refl;
  released_above = refl;
}

-- ---- n = 8 with k = 3 and n-k = 5, and draws at equal and at different gaps

abbrev sizes8 : ℕ → ℕ → ℕ → Sizes
sizes8 gv gu w = record { n = 8; ku = 2; kv = 1; gv = gv; gu = gu; w = w }

abbrev secret8 : Secret
secret8 = record {
  hu = matrix ((1 ∷ 1 ∷ 2 ∷ 2 ∷ []) ∷ (1 ∷ 0 ∷ 1 ∷ 0 ∷ []) ∷ []);
  hv = matrix ((1 ∷ 2 ∷ 2 ∷ 0 ∷ []) ∷ (1 ∷ 1 ∷ 2 ∷ 2 ∷ []) ∷ (1 ∷ 1 ∷ 0 ∷ 1 ∷ []) ∷ []);
  b = vector (0 ∷ 0 ∷ 0 ∷ 2 ∷ []);
  c = vector (2 ∷ 1 ∷ 1 ∷ 1 ∷ []);
}

abbrev start8 : List ℕ
start8 = 6 ∷ 3 ∷ 5 ∷ 0 ∷ 2 ∷ 4 ∷ 1 ∷ 7 ∷ []

abbrev order8 : List ℕ
order8 = 6 ∷ 3 ∷ 7 ∷ 0 ∷ 2 ∷ 4 ∷ 1 ∷ 5 ∷ []

abbrev y8 : List ℕ
y8 = 1 ∷ 0 ∷ 2 ∷ 2 ∷ 1 ∷ []

-- a V order and a U order whose first parts have rank, and one of each whose first part lacks it without a gap
abbrev good_v : List ℕ
good_v = 3 ∷ 1 ∷ 0 ∷ 2 ∷ []

abbrev bad_v : List ℕ
bad_v = 1 ∷ 2 ∷ 3 ∷ 0 ∷ []

abbrev good_u : List ℕ
good_u = 2 ∷ 0 ∷ 3 ∷ 1 ∷ []

abbrev bad_u : List ℕ
bad_u = 1 ∷ 3 ∷ 0 ∷ 2 ∷ []

-- a draw with these orders, V trit 2 and U values 1 and 2: its word and its refusal, at gaps g_V and g_U and a weight
abbrev choices8 : List ℕ → List ℕ → Choices
choices8 o_v o_u = choose o_v (2 ∷ []) o_u (1 ∷ 2 ∷ [])

abbrev word8 : ℕ → ℕ → ℕ → List ℕ → List ℕ → List ℕ
word8 gv gu w o_v o_u = digits 8 (drawn (sizes8 gv gu w) secret8 order8 (vector y8) (choices8 o_v o_u))

abbrev refusal8 : ℕ → ℕ → ℕ → List ℕ → List ℕ → ℕ
refusal8 gv gu w o_v o_u = draw_refusal (sizes8 gv gu w) secret8 order8 (vector y8) (choices8 o_v o_u)

pub record Cases8 : Type 0 where
  pub given : build_fits (sizes8 1 1 7) secret8 start8 ≡ true
  pub passed : build_refusal (sizes8 1 1 7) secret8 ≡ 0
  pub order : key_order (sizes8 1 1 7) secret8 start8 ≡ order8
  pub rows : digit_rows 3 5 (key_row (sizes8 1 1 7) secret8 start8)
      ≡ (2 ∷ 2 ∷ 2 ∷ 1 ∷ 2 ∷ []) ∷ (2 ∷ 0 ∷ 2 ∷ 0 ∷ 0 ∷ []) ∷ (1 ∷ 2 ∷ 0 ∷ 0 ∷ 0 ∷ []) ∷ []
  pub draw : word8 1 1 7 good_v good_u ≡ 1 ∷ 0 ∷ 1 ∷ 1 ∷ 2 ∷ 1 ∷ 1 ∷ 2 ∷ []
  pub released : refusal8 1 1 7 good_v good_u ≡ 0
  pub another_weight : refusal8 1 1 6 good_v good_u ≡ 14
  -- the first parts without a gap
  pub lacks_v : refusal8 0 0 7 bad_v good_u ≡ 12
  pub lacks_u : refusal8 0 0 7 good_v bad_u ≡ 13
  pub lacks_both : refusal8 0 0 7 bad_v bad_u ≡ 12
  -- and the same V order where both gaps are 1
  pub draw_wider : word8 1 1 7 bad_v good_u ≡ 1 ∷ 2 ∷ 1 ∷ 2 ∷ 1 ∷ 0 ∷ 2 ∷ 2 ∷ []
  pub draw_narrow : word8 0 0 7 good_v good_u ≡ 2 ∷ 1 ∷ 2 ∷ 0 ∷ 0 ∷ 2 ∷ 1 ∷ 2 ∷ []
  -- the gap of V widens V's first part alone
  pub gap_of_u_no_help : refusal8 0 1 7 bad_v good_u ≡ 12
  pub gap_of_v : refusal8 1 0 7 bad_v good_u ≡ 0
  -- the gap of U widens U's first part alone
  pub gap_of_v_no_help : refusal8 1 0 7 good_v bad_u ≡ 13
  pub gap_of_u : refusal8 0 1 7 good_v bad_u ≡ 0
  pub draw_gap_of_u : word8 0 1 7 good_v bad_u ≡ 1 ∷ 0 ∷ 1 ∷ 1 ∷ 2 ∷ 1 ∷ 1 ∷ 2 ∷ []
  -- g_U = 2, above k_V: every U value is any trit, and the word is another
  pub draw_above : word8 0 2 4 good_v good_u ≡ 0 ∷ 0 ∷ 1 ∷ 2 ∷ 1 ∷ 0 ∷ 2 ∷ 0 ∷ []
  pub released_above : refusal8 0 2 4 good_v good_u ≡ 0
  -- the U values from g_U on may not be 0, whatever g_V is
  pub first_any : choices_fit (sizes8 0 1 7) (choose good_v (2 ∷ []) good_u (0 ∷ 2 ∷ [])) ≡ true
  pub first_zero : choices_fit (sizes8 1 0 7) (choose good_v (2 ∷ []) good_u (0 ∷ 2 ∷ [])) ≡ false
  pub second_zero : choices_fit (sizes8 0 1 7) (choose good_v (2 ∷ []) good_u (1 ∷ 0 ∷ [])) ≡ false
  pub both_any : choices_fit (sizes8 0 2 7) (choose good_v (2 ∷ []) good_u (0 ∷ 0 ∷ [])) ≡ true

pub cases8 : Cases8
unfolding dot_v any_to sum_to tabulate agree find solve in_span keep pivots rank without fill range is_order digit_rows gaps_fit sizes_fit_under
    no_zero has_zero
    secret_matrix arrange arranged row_of_r build_fits build_refusal choices_fit pivots_v supplied_v draw_v pivots_u supplied_u draw_u drawn draw_refusal
cases8 = record {
  given = refl;
  passed = refl;
  order = refl;
  rows = refl;
  draw = refl;
  released = refl;
  another_weight = refl;
  lacks_v = refl;
  lacks_u = refl;
  lacks_both = refl;
  draw_wider = refl;
  draw_narrow = refl;
  gap_of_u_no_help = refl;
  gap_of_v = refl;
  gap_of_v_no_help = refl;
  gap_of_u = refl;
  draw_gap_of_u = refl;
  draw_above = refl;
  released_above = refl;
  first_any = refl;
  first_zero = refl;
  second_zero = refl;
  both_any = refl;
}

-- ---- what is refused

-- n = 4 with H_U, H_V as given
abbrev small : List ℕ → List ℕ → Secret
small u v = record { hu = matrix (u ∷ []); hv = matrix (v ∷ []); b = vector (0 ∷ 1 ∷ []); c = vector (1 ∷ 2 ∷ []) }

abbrev sizes4 : ℕ → Sizes
sizes4 n = record { n = n; ku = 1; kv = 1; gv = 0; gu = 0; w = 4 }

-- the last column is tried, at j = l = 1: H_U = (2 0), H_V = (2 2), b = (1,2), c = (2,2)
pub last_tried : arranged 2 4 (secret_matrix (sizes4 4) (record {
  hu = matrix ((2 ∷ 0 ∷ []) ∷ []);
  hv = matrix ((2 ∷ 2 ∷ []) ∷ []);
  b = vector (1 ∷ 2 ∷ []);
  c = vector (2 ∷ 2 ∷ []);
})) (0 ∷ 3 ∷ 2 ∷ 1 ∷ [])
    ≡ record { kept = 2; order = 0 ∷ 2 ∷ 1 ∷ 3 ∷ [] }
unfolding dot_v any_to agree find solve in_span arranged arrange secret_matrix
last_tried = refl

pub record Refused : Type 0 where
  pub lacks_u : build_refusal (sizes4 4) (small (0 ∷ 0 ∷ []) (1 ∷ 2 ∷ [])) ≡ 9
  pub lacks_v : build_refusal (sizes4 4) (small (1 ∷ 1 ∷ []) (0 ∷ 0 ∷ [])) ≡ 10
  pub lacks_both : build_refusal (sizes4 4) (small (0 ∷ 0 ∷ []) (0 ∷ 0 ∷ [])) ≡ 9
  -- n = 4 and 16,384 pass, 2 and 16,386 do not, nor does an odd one
  pub least : sizes_fit (sizes4 4) ≡ true
  pub most : sizes_fit (sizes4 16384) ≡ true
  pub below : sizes_fit (sizes4 2) ≡ false
  pub above : sizes_fit (sizes4 16386) ≡ false
  pub odd : sizes_fit (sizes4 7) ≡ false
  -- w is from 1 to n
  pub no_weight : sizes_fit (sizes8 1 1 0) ≡ false
  pub weight_above : sizes_fit (sizes8 1 1 9) ≡ false
  -- g_V is at most k_V, and may be above k_U
  pub gap_v_most : sizes_fit (sizes8 1 0 8) ≡ true
  pub gap_v_above : sizes_fit (sizes8 2 0 8) ≡ false
  pub gap_v_over_ku : sizes_fit (sizes6 2 0 6) ≡ true
  pub gap_v_over_kv : sizes_fit (sizes6 3 0 6) ≡ false
  -- g_U is at most k_U, and may be above k_V
  pub gap_u_most : sizes_fit (sizes6 0 1 6) ≡ true
  pub gap_u_above : sizes_fit (sizes6 0 2 6) ≡ false
  pub gap_u_over_kv : sizes_fit (sizes8 0 2 8) ≡ true
  pub gap_u_over_ku : sizes_fit (sizes8 0 3 8) ≡ false

pub refused : Refused
unfolding dot_v any_to agree find solve in_span keep pivots rank range gaps_fit sizes_fit_under build_refusal
refused = record {
  lacks_u = refl;
  lacks_v = refl;
  lacks_both = refl;
  least = refl;
  most = refl;
  below = refl;
  above = refl;
  odd = refl;
  no_weight = refl;
  weight_above = refl;
  gap_v_most = refl;
  gap_v_above = refl;
  gap_v_over_ku = refl;
  gap_v_over_kv = refl;
  gap_u_most = refl;
  gap_u_above = refl;
  gap_u_over_kv = refl;
  gap_u_over_ku = refl;
}
