-- Blocks of a plane's own rows, turned into working words after them. No rule of the paper: code is tied to it. Assumes nothing.
use Rattle.std.specs.Prelude.{◌≡◌, List, ℕ, ◌+◌, ◌*◌, ◌≤◌, ◌<◌, length, get_or, take}
use Rattle.trits.specs.Planes.{bit}

-- the 64 words from `at` on are the words c of the 64 rows from row i on, 0 past the first r rows; no other word is changed
pub record OwnLoaded (w r i c at : ℕ) (l₀ l : List ℕ) : Type 0 where
  pub kept : length l ≡ length l₀
  pub words : (x : ℕ) → x < 64 → get_or l (at + x) 0 ≡ get_or (take (r * w) l₀) ((i + x) * w + c) 0
  pub before : (p : ℕ) → p < at → get_or l p 0 ≡ get_or l₀ p 0
  pub past : (p : ℕ) → at + 64 ≤ p → get_or l p 0 ≡ get_or l₀ p 0

-- they are the columns of these words
pub record OwnBlock (w r i c at : ℕ) (l₀ l : List ℕ) : Type 0 where
  pub kept : length l ≡ length l₀
  pub bits : (x b : ℕ) → x < 64 → b < 64 → bit b (get_or l (at + x) 0) ≡ bit x (get_or (take (r * w) l₀) ((i + b) * w + c) 0)
  pub before : (p : ℕ) → p < at → get_or l p 0 ≡ get_or l₀ p 0
  pub past : (p : ℕ) → at + 64 ≤ p → get_or l p 0 ≡ get_or l₀ p 0

-- a plane of r rows or more, and a word of them
pub record ForOwnWord (plane : List ℕ) (w r c : ℕ) : Type 0 where
  pub room : r * w ≤ length plane
  pub small : length plane ≤ 4294967296
  pub column : c < w

-- a plane of r rows, a word of those from row i on, and 64 working words after the rows
pub record ForOwnBlock (plane : List ℕ) (w r i c at : ℕ) : Type 0 where
  pub after : r * w ≤ at
  pub room : at + 64 ≤ length plane
  pub small : length plane ≤ 4294967296
  pub column : c < w
  pub from_small : i ≤ 4294967296
