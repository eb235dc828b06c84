-- What the sample's own choices ask. No rule of the paper: code is tied to it. Assumes nothing.
use Rattle.std.specs.Prelude.{List, ℕ, ◌≤◌, ◌<◌, length}

-- a place and a step, both below n
pub record ForTurn (q a n : ℕ) : Type 0 where
  pub place : q < n
  pub step : a < n
  pub small : n ≤ 16384

-- an order's length, its first place and its step
pub record ForFillOrder (order : List ℕ) (a b : ℕ) : Type 0 where
  pub small : length order ≤ 16384
  pub first : a < length order
  pub step : b < length order
