-- The working space of a draw, stage after stage: rows of N places, the matrix under elimination and its tables below row l, then x_U, x_V,
-- a row for products, e_V, e_U ("One draw"). No rule of the paper: code is tied to it. Assumes nothing.
use Rattle.std.specs.Prelude.{◌≡◌, List, ℕ, ◌+◌, ◌*◌, ◌≤◌, length}
use Rattle.trits.specs.Trit.{up_to}
use Rattle.trits.specs.Planes.{trit_at, Row, words_for}
use Rattle.trits.specs.Rows.{matrix_at}
use Rattle.matrix.specs.Linear.{Vector, Matrix, zeros}
use Rattle.matrix.specs.Orders.{Order}
use Rattle.grid.specs.Steps.{Rows}
use Rattle.scheme.specs.declared.sizes.Sizes.{Sizes}
use Rattle.scheme.specs.Sizes.{half, codim, places, ru, rv}
use Rattle.scheme.specs.Secret.{Secret, join, u_of, v_of, left_of, right_of}
use Rattle.scheme.specs.Draw.{Choices, placed, draw_v, draw_u}
use Rattle.calls.specs.declared.lent.Choices.{Choices as LentChoices}
use Rattle.calls.specs.Lent.{Planes, secret_of, half_words}
use Rattle.calls.specs.Steps.{Readable}
use Rattle.calls.specs.DrawCall.{DrawCall, syndrome_of, choices_of}
use Rattle.draw_tests.specs.Steps.{Ready}
use Rattle.draw_half.specs.Steps.{Ends}

-- b and c alone, with no matrices
abbrev pub pairs_of : List ℕ → List ℕ → List ℕ → List ℕ → Secret
pairs_of bo bt co ct = record { hu = λ i. zeros; hv = λ i. zeros; b = trit_at bo bt; c = trit_at co ct }

-- the orders and the supplied trits
abbrev pub choices : List ℕ → List ℕ → List ℕ → List ℕ → List ℕ → List ℕ → Choices
choices ov vo vt ou uo ut = record { order_v = ov; trits_v = trit_at vo vt; order_u = ou; values_u = trit_at uo ut }

-- those that the code is lent
abbrev pub choices_lent : LentChoices → Choices
choices_lent ch = choices ch.v_order.now ch.v.ones.now ch.v.twos.now ch.u_order.now ch.u.ones.now ch.u.twos.now

-- (y, 0...0) in secret places
abbrev pub start_word : Sizes → List ℕ → Vector → Vector
start_word z p y = placed p (join (codim z) y zeros)

-- x is parted, and the rows of e_V and e_U hold 0
pub record Parted (z : Sizes) (l : ℕ) (s : Secret) (x : Vector) (A : Matrix) : Type 0 where
  pub left : A l ≡ up_to (half z) (u_of z s x)
  pub right : A (l + 1) ≡ up_to (half z) (v_of z s x)
  pub empty_v : A (l + 3) ≡ zeros
  pub empty_u : A (l + 4) ≡ zeros

-- where nothing is refused, the rows hold e_V and e_U for x_U and x_V
pub record SolvedHalves (n : ℕ) (z : Sizes) (l : ℕ) (s : Secret) (ch : Choices) (x_u x_v : Vector) (A : Matrix) : Type 0 where
  pub e_v : n ≡ 0 → A (l + 3) ≡ draw_v z s x_v ch
  pub e_u : n ≡ 0 → A (l + 4) ≡ draw_u z s x_u (draw_v z s x_v ch) ch

-- the rows of e_U and e_V become those of the left and the right half
pub record Joined (l : ℕ) (s : Secret) (A B : Matrix) : Type 0 where
  pub left : B (l + 4) ≡ left_of s (A (l + 4)) (A (l + 3))
  pub right : B (l + 3) ≡ right_of s (A (l + 4)) (A (l + 3))

-- e_V and e_U of a draw
abbrev pub e_v_of : Sizes → DrawCall → Vector
e_v_of z i = draw_v z (secret_of z i.secret) (v_of z (secret_of z i.secret) (start_word z i.p (syndrome_of i))) (choices_of i)

abbrev pub e_u_of : Sizes → DrawCall → Vector
e_u_of z i = draw_u z (secret_of z i.secret) (u_of z (secret_of z i.secret) (start_word z i.p (syndrome_of i))) (e_v_of z i) (choices_of i)

-- where nothing is refused, the rows hold the halves of the word
pub record MadeWhere (n : ℕ) (z : Sizes) (l : ℕ) (i : DrawCall) (A : Matrix) : Type 0 where
  pub left : n ≡ 0 → A (l + 4) ≡ left_of (secret_of z i.secret) (e_u_of z i) (e_v_of z i)
  pub right : n ≡ 0 → A (l + 3) ≡ right_of (secret_of z i.secret) (e_u_of z i) (e_v_of z i)

-- b, c, an order, a syndrome, and working space
pub record ForPartWord (z : Sizes) (l : ℕ) (b_ones b_twos c_ones c_twos p y_ones y_twos work_ones work_twos : List ℕ) : Type 0 where
  pub b_row : Row b_ones b_twos
  pub c_row : Row c_ones c_twos
  pub b_size_here : length b_ones ≡ half_words z
  pub c_size_here : length c_ones ≡ half_words z
  pub is_order : Order (places z) p
  pub y_size_here : length y_ones ≡ words_for (codim z)
  pub y_twos_here : length y_twos ≡ length y_ones
  pub small : l ≤ 8435
  pub work_ones_size : length work_ones ≡ (l + 5) * half_words z
  pub work_twos_size : length work_twos ≡ (l + 5) * half_words z

-- a secret that was tested, both orders and their values, and the halves of the word in the working space
pub record ForSolveHalves (z : Sizes) (l : ℕ) (i : Planes) (ch : LentChoices) (work_ones work_twos : List ℕ) : Type 0 where
  pub secret : Readable z i
  pub v_is_order : Order (half z) ch.v_order.now
  pub u_is_order : Order (half z) ch.u_order.now
  pub v_row : Row ch.v.ones.now ch.v.twos.now
  pub u_row : Row ch.u.ones.now ch.u.twos.now
  pub v_size_here : length ch.v.ones.now ≡ words_for z.kv
  pub u_size_here : length ch.u.ones.now ≡ words_for z.ku
  pub u_few : ru z + 243 ≤ l
  pub v_few : rv z + 243 ≤ l
  pub small : l ≤ 8435
  pub grid : Rows work_ones work_twos (l + 5) (half_words z)
  pub u_ends : Ends (half z) ((matrix_at (half_words z) work_ones work_twos) l)
  pub v_ends : Ends (half z) ((matrix_at (half_words z) work_ones work_twos) (l + 1))
  pub ev_zero : (matrix_at (half_words z) work_ones work_twos) (l + 3) ≡ zeros
  pub eu_zero : (matrix_at (half_words z) work_ones work_twos) (l + 4) ≡ zeros

-- b, c, and the halves of the word in the working space
pub record ForJoinWord (z : Sizes) (l : ℕ) (b_ones b_twos c_ones c_twos work_ones work_twos : List ℕ) : Type 0 where
  pub b_row : Row b_ones b_twos
  pub c_row : Row c_ones c_twos
  pub b_size_here : length b_ones ≡ half_words z
  pub c_size_here : length c_ones ≡ half_words z
  pub small : l ≤ 8435
  pub grid : Rows work_ones work_twos (l + 5) (half_words z)

-- all that a draw is given, tested, and working space
pub record ForMakeWord (z : Sizes) (l : ℕ) (i : DrawCall) (work_ones work_twos : List ℕ) : Type 0 where
  pub ready : Ready z i
  pub u_few : ru z + 243 ≤ l
  pub v_few : rv z + 243 ≤ l
  pub small : l ≤ 8435
  pub work_ones_size : length work_ones ≡ (l + 5) * half_words z
  pub work_twos_size : length work_twos ≡ (l + 5) * half_words z
