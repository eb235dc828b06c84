-- The check of a salt and a text, which make y (request C-12): its refusals in order, the answer, and the working space at exit. Assumes nothing.
use Rattle.std.specs.Prelude.{cond, List, ℕ, eqb, length}
use Rattle.trits.specs.Planes.{zero_words}
use Rattle.trits.specs.Refusal.{demand, first, space_exit, planes_refusal}
use Rattle.trits.specs.declared.Counts.{Counts}
use Rattle.packed.specs.Packed.{bytes_for, packed_row, packed_bytes, packed_refusal}
use Rattle.syndrome.specs.Syndrome.{salt_bytes, hashed_row, hashed_refusal}
use Rattle.held_key.specs.declared.state.Held.{Held}
use Rattle.held_key.specs.Held.{row_trits}
use Rattle.check_tests.specs.declared.Checked.{Checked}
use Rattle.check_tests.specs.Check.{call_refusal, held_counts, answered, PackedCheck, packed_check_of}

-- ---- what is lent

-- the held state, the key number asked for, the planes of the key, the salt, the text, packed s, and the working space as it is at entry
pub record TextCheck : Type 0 where
  pub held : Held
  pub number : ℕ
  pub ones : List ℕ
  pub twos : List ℕ
  pub salt : List ℕ
  pub text : List ℕ
  pub s : List ℕ
  pub work_ones : List ℕ
  pub work_twos : List ℕ

abbrev pub text_check_of : Held → ℕ → List ℕ → List ℕ → List ℕ → List ℕ → List ℕ → List ℕ → List ℕ → TextCheck
text_check_of h number ones twos salt text s wo wt = record {
  held = h;
  number = number;
  ones = ones;
  twos = twos;
  salt = salt;
  text = text;
  s = s;
  work_ones = wo;
  work_twos = wt;
}

-- ---- refusals

-- the lengths of the salt and of packed s; a text may have any
unfoldable pub text_lengths : Held → ℕ → ℕ → ℕ
text_lengths h salt s =
    demand (eqb salt salt_bytes) 2
    (demand (eqb s (bytes_for h.k)) 2
    0)

-- then the contents: the held rows (4, 3), s (5, 15); a salt and a text may have any
unfoldable pub text_contents : Held → List ℕ → List ℕ → List ℕ → ℕ
text_contents h ones twos s =
    first (planes_refusal ones twos h.k (row_trits h))
    (packed_refusal h.k s)

-- the state, the key number and all lengths, then the contents, and 6 after the contents of s
unfoldable pub check_text_refusal : TextCheck → ℕ
check_text_refusal c =
    let h = c.held in
    first (call_refusal h c.number (length c.ones) (length c.twos) (length c.work_ones) (length c.work_twos))
    (first (text_lengths h (length c.salt) (length c.s))
    (first (text_contents h c.ones c.twos c.s)
    (hashed_refusal (row_trits h) c.salt c.text)))

-- ---- the answer: the verdict on the y so made

abbrev pub check_text_counts : TextCheck → Counts
check_text_counts c = held_counts c.held c.ones c.twos (hashed_row (row_trits c.held) c.salt c.text) (packed_row c.s)

unfoldable pub check_text_answer : TextCheck → Checked
check_text_answer c = answered (check_text_refusal c) (check_text_counts c) c.held.w

-- ---- the working space at exit: as after any check, but zero after 6

unfoldable pub text_space_exit : ℕ → List ℕ → List ℕ
text_space_exit answer plane = cond (eqb answer 6) (zero_words (length plane)) (space_exit answer plane)

abbrev pub check_text_work_ones : TextCheck → List ℕ
check_text_work_ones c = text_space_exit (check_text_refusal c) c.work_ones

abbrev pub check_text_work_twos : TextCheck → List ℕ
check_text_work_twos c = text_space_exit (check_text_refusal c) c.work_twos

-- ---- beside it: the packed check of the y so made, under the same key and with the same s

abbrev pub made_check : TextCheck → PackedCheck
made_check c =
    let m = row_trits c.held in
    packed_check_of c.held c.number c.ones c.twos (packed_bytes m (hashed_row m c.salt c.text)) c.s c.work_ones c.work_twos
