-- Beginning a key and storing a row: the refusals in the paper's order, the state and the lent planes at
-- exit ("Held key and lines of text", both sections "Turned back"). Assumes nothing.
-- What depends on the largest key number, or on the test of a pair of planes, is defined with any other in its place, by a name that ends in `Under`.
use Rattle.std.specs.Prelude.{List, ℕ, ◌+◌, ◌*◌, eqb, length, Result, Ok, Err}
use Rattle.trits.specs.Planes.{ones_of, twos_of}
use Rattle.trits.specs.Rows.{put_words}
use Rattle.trits.specs.Refusal.{number_of, refuse, demand, first, at_exit, PlanesTest, planes_refusal}
use Rattle.trits.specs.declared.refusal.Refusal.{Refusal}
use Rattle.packed.specs.Packed.{bytes_for, packed_row, packed_refusal}
use Rattle.held_key.specs.declared.state.Held.{Held}
use Rattle.held_key.specs.Held.{most_key_number, numbers_fit_under, sound_under, row_trits, row_words, key_words}

-- ---- what a call answers

-- the number of the refusal, or 0
abbrev pub refusal_of : {A : Type 0} → Result A Refusal → ℕ
refusal_of (Ok a) = 0
refusal_of (Err r) = number_of r

-- the state after a call that answers so: the new one, and after a refusal the host's, which stays
abbrev pub held_after : Held → Result Held Refusal → Held
held_after h (Ok new) = new
held_after h (Err r) = h

-- ---- beginning: the new key replaces the held one, whatever that was

-- only a size can be refused
unfoldable pub begin_refusal_under : ℕ → ℕ → ℕ → ℕ → ℕ → ℕ
begin_refusal_under most number n k w = demand (numbers_fit_under most number n k w) 1 0

abbrev pub begin_refusal : ℕ → ℕ → ℕ → ℕ → ℕ
begin_refusal number n k w = begin_refusal_under most_key_number number n k w

-- a key of which no row is stored yet
unfoldable pub begun_held : ℕ → ℕ → ℕ → ℕ → Held
begun_held number n k w = record { begun = 1; number = number; n = n; k = k; w = w; rows = 0 }

-- the state after a beginning
unfoldable pub begin_held : Held → ℕ → ℕ → ℕ → ℕ → Held
begin_held h number n k w = at_exit (begin_refusal number n k w) (begun_held number n k w) h

-- ---- storing a row: what is lent

-- the state and the planes of the key as they are at entry, and a row in planes
pub record Store : Type 0 where
  pub held : Held
  pub ones : List ℕ
  pub twos : List ℕ
  pub row_ones : List ℕ
  pub row_twos : List ℕ

abbrev pub store_of : Held → List ℕ → List ℕ → List ℕ → List ℕ → Store
store_of h ones twos row_ones row_twos = record { held = h; ones = ones; twos = twos; row_ones = row_ones; row_twos = row_twos }

-- or a packed row
pub record PackedStore : Type 0 where
  pub held : Held
  pub ones : List ℕ
  pub twos : List ℕ
  pub row : List ℕ

abbrev pub packed_store_of : Held → List ℕ → List ℕ → List ℕ → PackedStore
packed_store_of h ones twos row = record { held = h; ones = ones; twos = twos; row = row }

-- ---- its refusals

-- the state, then the lengths of the key's planes
unfoldable pub row_refusal_under : ℕ → Held → ℕ → ℕ → ℕ
row_refusal_under most h ones twos =
    refuse (eqb h.begun 0) 20
    (demand (sound_under most h) 1
    (refuse (eqb h.rows h.k) 21
    (demand (eqb ones (key_words h)) 2
    (demand (eqb twos (key_words h)) 2
    0))))

abbrev pub row_refusal : Held → ℕ → ℕ → ℕ
row_refusal h ones twos = row_refusal_under most_key_number h ones twos

-- then a row in planes: its lengths, its contents (4, 3)
unfoldable pub store_refusal_under : ℕ → PlanesTest → Store → ℕ
store_refusal_under most test c =
    let h = c.held in
    first (row_refusal_under most h (length c.ones) (length c.twos))
    (demand (eqb (length c.row_ones) (row_words h)) 2
    (demand (eqb (length c.row_twos) (row_words h)) 2
    (test c.row_ones c.row_twos 1 (row_trits h))))

abbrev pub store_refusal : Store → ℕ
store_refusal c = store_refusal_under most_key_number planes_refusal c

-- or a packed row: its length, its contents (5, 15)
unfoldable pub store_packed_refusal : PackedStore → ℕ
store_packed_refusal c =
    let h = c.held in
    first (row_refusal h (length c.ones) (length c.twos))
    (demand (eqb (length c.row) (bytes_for (row_trits h))) 2
    (packed_refusal (row_trits h) c.row))

-- ---- the state and the planes of the key at exit

-- the state that counts one row more
unfoldable pub next_held : Held → Held
next_held h = record { begun = h.begun; number = h.number; n = h.n; k = h.k; w = h.w; rows = h.rows + 1 }

-- the state after a row was offered
unfoldable pub stored_held : ℕ → Held → Held
stored_held refusal h = at_exit refusal (next_held h) h

-- a plane of the key after a row was offered, which has these words in that plane: they stand from the row's own start on, and no other word changes
unfoldable pub stored_plane : ℕ → Held → List ℕ → List ℕ → List ℕ
stored_plane refusal h plane row = at_exit refusal (put_words (h.rows * row_words h) plane row) plane

-- after a row in planes
abbrev pub store_held : Store → Held
store_held c = stored_held (store_refusal c) c.held

abbrev pub store_ones : Store → List ℕ
store_ones c = stored_plane (store_refusal c) c.held c.ones c.row_ones

abbrev pub store_twos : Store → List ℕ
store_twos c = stored_plane (store_refusal c) c.held c.twos c.row_twos

-- the words that a packed row has in the two planes
abbrev pub new_ones : PackedStore → List ℕ
new_ones c = ones_of (packed_row c.row) (row_words c.held)

abbrev pub new_twos : PackedStore → List ℕ
new_twos c = twos_of (packed_row c.row) (row_words c.held)

-- after a packed row
abbrev pub store_packed_held : PackedStore → Held
store_packed_held c = stored_held (store_packed_refusal c) c.held

abbrev pub store_packed_ones : PackedStore → List ℕ
store_packed_ones c = stored_plane (store_packed_refusal c) c.held c.ones (new_ones c)

abbrev pub store_packed_twos : PackedStore → List ℕ
store_packed_twos c = stored_plane (store_packed_refusal c) c.held c.twos (new_twos c)
