-- The verifier, which is the checker's call that gives the verdict ("The words of demand 3"), and a key and a
-- signature on their way from the editor to the module ("The two halves"). Assumes nothing.
use Rattle.std.specs.Prelude.{◌≡◌, List, ℕ, ◌+◌, ◌*◌, ◌≤◌, ◌<◌, length}
use Rattle.trits.specs.Trit.{ones_v, twos_v}
use Rattle.trits.specs.Planes.{words_for}
use Rattle.trits.specs.Rows.{row_part}
use Rattle.packed.specs.Packed.{bytes_for}
use Rattle.packed.specs.Calls.{pack_of, pack_exit}
use Rattle.syndrome.specs.Syndrome.{syndrome_of, syndrome_refusal, syndrome_ones, syndrome_twos}
use Rattle.matrix.specs.Linear.{Vector}
use Rattle.verdict.specs.Verdict.{Extending, Found}
use Rattle.held_key.specs.declared.state.Held.{Held}
use Rattle.check_tests.specs.declared.Checked.{Checked}
use Rattle.held_key.specs.Held.{most_key_number, row_trits, held_key}
use Rattle.held_key.specs.Store.{begin_held}
use Rattle.held_key.specs.Load.{Holding, offer_all}
use Rattle.check_tests.specs.Check.{Check, PackedCheck}
use Rattle.check_text.specs.TextCheck.{TextCheck}
use Rattle.scheme.specs.declared.sizes.Sizes.{Sizes}
use Rattle.scheme.specs.Sizes.{places, dim, codim, sized}
use Rattle.calls.specs.BuildCall.{BuildCall, key_row_words, key_exit}
use Rattle.calls.specs.DrawCall.{DrawCall, s_exit}

-- ---- what a check finds: its answer is `check_answer`, `check_packed_answer` where y and s are packed, or `check_text_answer` of a salt and a text

-- the whole key is any k rows that the call finds held: under it the word e of n trits has the syndrome y and extends s
abbrev pub HeldExtending : Held → List ℕ → List ℕ → Vector → Vector → Vector → Type 0
HeldExtending h ones twos y s e = Extending (row_trits h) h.k (held_key h ones twos) y s e

-- and some word of weight w does
abbrev pub HeldFound : Held → List ℕ → List ℕ → Vector → Vector → Type 0
HeldFound h ones twos y s = Found (row_trits h) h.k h.w (held_key h ones twos) y s

-- ---- end to end

-- what the hosts lend on the way, beside what build and draw are lent: a key number; a state of any content; planes for the
-- key, bytes for its rows, y and s, working space, of any content too, of the lengths that the sizes say
pub record Host (z : Sizes) : Type 0 where
  pub number : ℕ
  pub before : Held
  pub ones : List ℕ
  pub twos : List ℕ
  pub row_bytes : ℕ → List ℕ
  pub y_bytes : List ℕ
  pub s_bytes : List ℕ
  pub work_ones : List ℕ
  pub work_twos : List ℕ
  pub number_fits : number ≤ most_key_number
  pub ones_size : length ones ≡ dim z * words_for (codim z)
  pub twos_size : length twos ≡ dim z * words_for (codim z)
  pub row_bytes_size : (j : ℕ) → j < dim z → length (row_bytes j) ≡ bytes_for (codim z)
  pub y_bytes_size : length y_bytes ≡ bytes_for (codim z)
  pub s_bytes_size : length s_bytes ≡ bytes_for (dim z)
  pub work_ones_size : length work_ones ≡ words_for (codim z)
  pub work_twos_size : length work_twos ≡ words_for (codim z)

-- row j of the built key, packed by a call of `pack` from its stretch of the key's words
abbrev pub packed_key_row : (z : Sizes) → BuildCall → Host z → ℕ → List ℕ
packed_key_row z i m j =
    let part : List ℕ → List ℕ = λ plane. row_part plane (dim z) (key_row_words z) j in
    pack_exit (pack_of (codim z) (part (key_exit z i).ones) (part (key_exit z i).twos) (m.row_bytes j))

-- the module begins a key with these numbers, and its k packed rows are stored one after another
abbrev pub carried : (z : Sizes) → BuildCall → ℕ → Host z → Holding
carried z i w m = offer_all (packed_key_row z i m) (dim z) (record { held = begin_held m.before m.number z.n (dim z) w; ones = m.ones; twos = m.twos })

-- the s that the draw handed out, packed by a call of `pack`
abbrev pub packed_signature : (z : Sizes) → ℕ → ℕ → ℕ → DrawCall → Host z → List ℕ
packed_signature z gv gu w l m = pack_exit (pack_of (dim z) (s_exit (sized z gv gu w) l).ones (s_exit (sized z gv gu w) l).twos m.s_bytes)

-- then it checks y, packed by a call of `pack` too, and that s
abbrev pub carried_check : (z : Sizes) → BuildCall → ℕ → ℕ → ℕ → DrawCall → Host z → PackedCheck
carried_check z i gv gu w l m = record {
  held = (carried z i w m).held;
  number = m.number;
  ones = (carried z i w m).ones;
  twos = (carried z i w m).twos;
  y = pack_exit (pack_of (codim z) l.y.ones l.y.twos m.y_bytes);
  s = packed_signature z gv gu w l m;
  work_ones = m.work_ones;
  work_twos = m.work_twos;
}

-- or y and that s in planes, as they are lent
abbrev pub carried_planes : (z : Sizes) → BuildCall → ℕ → ℕ → ℕ → DrawCall → Host z → Check
carried_planes z i gv gu w l m = record {
  held = (carried z i w m).held;
  number = m.number;
  ones = (carried z i w m).ones;
  twos = (carried z i w m).twos;
  y_ones = l.y.ones;
  y_twos = l.y.twos;
  s_ones = (s_exit (sized z gv gu w) l).ones;
  s_twos = (s_exit (sized z gv gu w) l).twos;
  work_ones = m.work_ones;
  work_twos = m.work_twos;
}

-- or the salt and the text for which y was made by a call of `syndrome`, in planes of any content
pub record Signs (z : Sizes) (salt text : List ℕ) (l : DrawCall) : Type 0 where
  pub ones : List ℕ
  pub twos : List ℕ
  pub not_refused : syndrome_refusal (syndrome_of (codim z) salt text ones twos) ≡ 0
  pub y_ones : l.y.ones ≡ syndrome_ones (syndrome_of (codim z) salt text ones twos)
  pub y_twos : l.y.twos ≡ syndrome_twos (syndrome_of (codim z) salt text ones twos)

abbrev pub carried_text : (z : Sizes) → BuildCall → ℕ → ℕ → ℕ → DrawCall → Host z → List ℕ → List ℕ → TextCheck
carried_text z i gv gu w l m salt text = record {
  held = (carried z i w m).held;
  number = m.number;
  ones = (carried z i w m).ones;
  twos = (carried z i w m).twos;
  salt = salt;
  text = text;
  s = packed_signature z gv gu w l m;
  work_ones = m.work_ones;
  work_twos = m.work_twos;
}

-- yes, with these ones and twos
abbrev pub yes : ℕ → ℕ → Checked
yes ones twos = record { refusal = 0; yes = 1; ones = ones; twos = twos }

-- what a check answers to the s of a released word e: yes, with the ones and twos of that word, and they add up to w
pub record Accepts (z : Sizes) (w : ℕ) (e : Vector) (answer : Checked) : Type 0 where
  pub says : answer ≡ yes (ones_v e (places z)) (twos_v e (places z))
  pub adds_up : answer.ones + answer.twos ≡ w
