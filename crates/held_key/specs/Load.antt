-- A host that loads a key: what it keeps while it offers packed rows one after another ("Held
-- key and lines of text"). For the laws of the loader. Assumes nothing.
use Rattle.std.specs.Prelude.{List, ℕ, zero, suc}
use Rattle.held_key.specs.declared.state.Held.{Held}
use Rattle.held_key.specs.Store.{packed_store_of, store_packed_held, store_packed_ones, store_packed_twos}

-- the state and the planes of the key
pub record Holding : Type 0 where
  pub held : Held
  pub ones : List ℕ
  pub twos : List ℕ

-- a packed row is offered: what the call leaves
unfoldable pub offer : Holding → List ℕ → Holding
offer s row =
    let c = packed_store_of s.held s.ones s.twos row in
    record { held = store_packed_held c; ones = store_packed_ones c; twos = store_packed_twos c }

-- the first i of these rows are offered, one after the other
unfoldable pub offer_all : (ℕ → List ℕ) → ℕ → Holding → Holding
offer_all rows zero s = s
offer_all rows (suc i) s = offer (offer_all rows i s) (rows i)
