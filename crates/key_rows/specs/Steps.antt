-- The key in a matrix whose columns stand in the key's order, and the way it is written. No rule of the paper: code is tied to it. Assumes nothing.
use Rattle.std.specs.Prelude.{◌≡◌, List, ℕ, ◌+◌, ◌-◌, ◌*◌, ◌≤◌, ◌<◌, length, get_or, take}
use Rattle.trits.specs.Trit.{up_to}
use Rattle.trits.specs.Planes.{bit, tabulate, ones_of, twos_of}
use Rattle.trits.specs.Rows.{rows_of}
use Rattle.matrix.specs.Linear.{Vector, Matrix, column}
use Rattle.grid.specs.Steps.{Rows}

-- ---- what is made

-- row i of the key, r trits, read down column r + i
unfoldable pub read_down : ℕ → Matrix → ℕ → Vector
read_down r A i = up_to r (column A (r + i))

-- the words of the first k of a key's rows, kw each
unfoldable pub key_ones : ℕ → ℕ → Matrix → List ℕ
key_ones k kw R = rows_of (λ i. ones_of (R i) kw) k

unfoldable pub key_twos : ℕ → ℕ → Matrix → List ℕ
key_twos k kw R = rows_of (λ i. twos_of (R i) kw) k

-- after r rows stand kw blocks of 64 words: block g has the columns of the words c of the 64 rows from row 64 * g on; the rows are as they were
pub record TurnedGroup (w r c kw : ℕ) (l₀ l : List ℕ) : Type 0 where
  pub kept : length l ≡ length l₀
  pub bits : (g x b : ℕ) → g < kw → x < 64 → b < 64 → bit b (get_or l (r * w + x + 64 * g) 0) ≡ bit x (get_or (take (r * w) l₀) ((64 * g + b) * w + c) 0)
  pub before : (p : ℕ) → p < r * w → get_or l p 0 ≡ get_or l₀ p 0

-- word p of n blocks of 64 words
unfoldable pub each_block : ℕ → List ℕ → ℕ → List ℕ
each_block p l n = tabulate (λ g. get_or l (p + 64 * g) 0) n

-- the rows i to e - 1, kw words each, have the words f says; the rows before them are as they were
pub record Written (kw i e : ℕ) (f : ℕ → ℕ → ℕ) (l₀ l : List ℕ) : Type 0 where
  pub kept : length l ≡ length l₀
  pub words : (j g : ℕ) → i ≤ j → j < e → g < kw → get_or l (j * kw + g) 0 ≡ f j g
  pub before : (p : ℕ) → p < i * kw → get_or l p 0 ≡ get_or l₀ p 0

-- rows from row i on whose columns are those of one word from its column x on: some, and none past the last
pub record GroupEnd (i x k e : ℕ) : Type 0 where
  pub some : i < e
  pub near : e + x ≤ i + 64
  pub within : e ≤ k

-- ---- what is asked

-- a plane of r rows, a word of them, and room for kw blocks after them
pub record ForTurnGroup (plane : List ℕ) (w r c kw : ℕ) : Type 0 where
  pub room : r * w + 64 * kw ≤ length plane
  pub small : length plane ≤ 4294967296
  pub column : c < w

-- a row, and a column of a word
pub record ForGroupEnd (i x k : ℕ) : Type 0 where
  pub row : i < k
  pub column : x < 64

-- blocks, words of them, and room for rows
pub record ForWriteGroup (plane : List ℕ) (at i e kw : ℕ) (key : List ℕ) : Type 0 where
  pub begins : i ≤ e
  pub room : (j g : ℕ) → j < e → g < kw → at + (j - i) + 64 * g < length plane
  pub near : at + (e - i) ≤ 4294967296
  pub size : e * kw ≤ length key

-- a grid with working rows after its first r, and room for the key
pub record ForWriteKey (ones twos : List ℕ) (rows w r k kw : ℕ) (ko kt : List ℕ) : Type 0 where
  pub grid : Rows ones twos rows w
  pub small : length ones ≤ 4294967296
  pub narrow : w ≤ 65536
  pub room : r + 243 ≤ rows
  pub columns : r + k ≤ 64 * w
  pub words : kw ≤ w
  pub ones_size : length ko ≡ k * kw
  pub twos_size : length kt ≡ k * kw
