-- The secret and its pairs ("The secret pairs"). Assumes nothing.
use Rattle.std.specs.Prelude.{Bool, not, cond, ℕ, ◌+◌, ◌-◌, ltb}
use Rattle.trits.specs.Trit.{t1, add_t, neg_t, sub_t, mul_t, is_set, any_to}
use Rattle.matrix.specs.Linear.{Vector, Matrix}
use Rattle.scheme.specs.Sizes.{Sizes, half, ru}

-- H_U and H_V, and the vectors b and c
pub record Secret : Type 0 where
  pub hu : Matrix
  pub hv : Matrix
  pub b : Vector
  pub c : Vector

-- some trit below m is 0 ("Turned back by the input", 8)
unfoldable pub has_zero : ℕ → Vector → Bool
has_zero m v = any_to (λ i. not (is_set (v i))) m

-- none is, which is asked of c below N
unfoldable pub no_zero : ℕ → Vector → Bool
no_zero m v = not (has_zero m v)

-- d is 1 + b·c at each place
abbrev pub d_of : Secret → Vector
d_of s i = add_t t1 (mul_t (s.b i) (s.c i))

-- e_U of a word in secret places, where place i is paired with N + i: d·e_L - b·e_R
abbrev pub u_of : Sizes → Secret → Vector → Vector
u_of z s e i = sub_t (mul_t (d_of s i) (e i)) (mul_t (s.b i) (e (half z + i)))

-- and its e_V: e_R - c·e_L
abbrev pub v_of : Sizes → Secret → Vector → Vector
v_of z s e i = sub_t (e (half z + i)) (mul_t (s.c i) (e i))

-- back again, the left half: e_U + b·e_V
abbrev pub left_of : Secret → Vector → Vector → Vector
left_of s u v i = add_t (u i) (mul_t (s.b i) (v i))

-- and the right half: c·e_L + e_V
abbrev pub right_of : Secret → Vector → Vector → Vector
right_of s u v i = add_t (mul_t (s.c i) (left_of s u v i)) (v i)

-- two stretches in one vector, the second from place N on
abbrev pub join : ℕ → Vector → Vector → Vector
join N l r q = cond (ltb q N) (l q) (r (q - N))

-- the word in secret places that e_U and e_V make
abbrev pub whole : Sizes → Secret → Vector → Vector → Vector
whole z s u v = join (half z) (left_of s u v) (right_of s u v)

-- the secret matrix: rows (d·H_U | -b·H_U), then rows (-c·H_V | H_V)
unfoldable pub secret_matrix : Sizes → Secret → Matrix
secret_matrix z s i =
    cond (ltb i (ru z))
    (join (half z) (λ q. mul_t (d_of s q) (s.hu i q)) (λ q. neg_t (mul_t (s.b q) (s.hu i q))))
    (join (half z) (λ q. neg_t (mul_t (s.c q) (s.hv (i - ru z) q))) (s.hv (i - ru z)))
