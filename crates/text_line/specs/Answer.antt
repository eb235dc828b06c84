-- What one line prints, and what it makes of the held key ("Held key and lines of text", "Turned back by the state"). Assumes nothing.
-- What depends on the largest key number is defined with any other in its place, by a name that ends in `Under`.
use Rattle.std.specs.Prelude.{◌&&◌, cond, List, [], ◌++◌, ℕ, eqb, leb, ltb, length, take, drop}
use Rattle.trits.specs.Planes.{ones_of, twos_of, words_for, zero_words}
use Rattle.trits.specs.Refusal.{refuse, at_exit, planes_refusal}
use Rattle.text.specs.Digits.{digit_row}
use Rattle.text.specs.Forms.{Line, no_form, key_line, row_line, sign_line, line_of}
use Rattle.text.specs.Answers.{verdict_answer, sign_refused, line_refused}
use Rattle.held_key.specs.declared.state.Held.{Held}
use Rattle.check_tests.specs.declared.Checked.{Checked}
use Rattle.held_key.specs.Held.{most_key_number, row_trits, row_words, key_words}
use Rattle.held_key.specs.Load.{Holding}
use Rattle.held_key.specs.Store.{begin_refusal_under, begun_held, Store, store_of, store_refusal_under, stored_held, stored_plane}
use Rattle.check_tests.specs.Check.{Check, check_of, check_answer_under}

-- what is kept from line to line: the state, and the words of the held key
abbrev pub holding : Held → List ℕ → List ℕ → Holding
holding h ones twos = record { held = h; ones = ones; twos = twos }

-- "the program takes n up to 256"
abbrev pub most_places : ℕ
most_places = 256

-- words that the state asks for; none where its n is above 256 or its k above n, which no line brings about
unfoldable pub asked : Held → ℕ → ℕ
asked h words = cond (leb h.n most_places && leb h.k h.n) words 0

-- the words of a plane that the held key takes, and those after them
unfoldable pub key_part : Held → List ℕ → List ℕ
key_part h plane = take (asked h (key_words h)) plane

unfoldable pub after_key : Held → List ℕ → List ℕ
after_key h plane = drop (asked h (key_words h)) plane

-- the planes of a digit field for a row of m trits; no words where the count is not m, so that a wrong count is a wrong length
unfoldable pub offered_ones : ℕ → List ℕ → List ℕ
offered_ones m digits = cond (eqb (length digits) m) (ones_of (digit_row digits) (words_for m)) []

unfoldable pub offered_twos : ℕ → List ℕ → List ℕ
offered_twos m digits = cond (eqb (length digits) m) (twos_of (digit_row digits) (words_for m)) []

-- ---- P: a new key replaces the held one, or is refused 1 and leaves it

unfoldable pub key_refusal_under : ℕ → ℕ → ℕ → ℕ → ℕ → ℕ
key_refusal_under most number n k w = refuse (ltb most_places n) 1 (begin_refusal_under most number n k w)

unfoldable pub key_held_under : ℕ → Held → ℕ → ℕ → ℕ → ℕ → Held
key_held_under most h number n k w = at_exit (key_refusal_under most number n k w) (begun_held number n k w) h

-- ---- K: the next row, as the checker stores it

-- what the checker is lent: the part of each plane that the key takes, and the digits in planes
abbrev pub row_store : Holding → List ℕ → Store
row_store kept digits =
    let h = kept.held in
    store_of h (key_part h kept.ones) (key_part h kept.twos) (offered_ones (row_trits h) digits) (offered_twos (row_trits h) digits)

unfoldable pub digits_refusal_under : ℕ → Holding → List ℕ → ℕ
digits_refusal_under most kept digits = store_refusal_under most planes_refusal (row_store kept digits)

-- the state and the part of each plane that the key takes as the checker leaves them, and the words after that part
unfoldable pub row_kept_under : ℕ → Holding → List ℕ → Holding
row_kept_under most kept digits =
    let c = row_store kept digits in
    let refusal = store_refusal_under most planes_refusal c in record {
      held = stored_held refusal c.held;
      ones = stored_plane refusal c.held c.ones c.row_ones ++ after_key kept.held kept.ones;
      twos = stored_plane refusal c.held c.twos c.row_twos ++ after_key kept.held kept.twos;
    }

-- ---- S: the check, as the checker answers it

-- what the checker is lent: the part of each plane that the key takes, the digits of y and s in planes, and working space of one row
abbrev pub sign_check : Holding → ℕ → List ℕ → List ℕ → Check
sign_check kept number y s =
    let h = kept.held in
    check_of h number (key_part h kept.ones) (key_part h kept.twos) (offered_ones (row_trits h) y) (offered_twos (row_trits h) y)
    (offered_ones h.k s) (offered_twos h.k s) (zero_words (asked h (row_words h))) (zero_words (asked h (row_words h)))

unfoldable pub sign_answer_under : ℕ → Holding → ℕ → List ℕ → List ℕ → Checked
sign_answer_under most kept number y s = check_answer_under most planes_refusal (sign_check kept number y s)

-- the answer to an S line: the verdict, or the refusal
unfoldable pub sign_prints : ℕ → ℕ → Checked → List ℕ
sign_prints number formula c =
    cond (eqb c.refusal 0) (verdict_answer number formula c.ones c.twos (eqb c.yes 1)) (sign_refused number formula c.refusal)

-- a line that prints only its refusal
unfoldable pub refusal_prints : ℕ → List ℕ
refusal_prints refusal = cond (eqb refusal 0) [] (line_refused refusal)

-- ---- any line

unfoldable pub line_prints_under : ℕ → Holding → Line → List ℕ
line_prints_under most kept no_form = line_refused 11
line_prints_under most kept (key_line number n k w) = refusal_prints (key_refusal_under most number n k w)
line_prints_under most kept (row_line digits) = refusal_prints (digits_refusal_under most kept digits)
line_prints_under most kept (sign_line number formula y s) = sign_prints number formula (sign_answer_under most kept number y s)

unfoldable pub line_kept_under : ℕ → Holding → Line → Holding
line_kept_under most kept no_form = kept
line_kept_under most kept (key_line number n k w) = record { held = key_held_under most kept.held number n k w; ones = kept.ones; twos = kept.twos }
line_kept_under most kept (row_line digits) = row_kept_under most kept digits
line_kept_under most kept (sign_line number formula y s) = kept

-- ---- the same under the largest key number that there is

abbrev pub key_refusal : ℕ → ℕ → ℕ → ℕ → ℕ
key_refusal number n k w = key_refusal_under most_key_number number n k w

abbrev pub key_held : Held → ℕ → ℕ → ℕ → ℕ → Held
key_held h number n k w = key_held_under most_key_number h number n k w

abbrev pub digits_refusal : Holding → List ℕ → ℕ
digits_refusal kept digits = digits_refusal_under most_key_number kept digits

abbrev pub row_kept : Holding → List ℕ → Holding
row_kept kept digits = row_kept_under most_key_number kept digits

abbrev pub sign_answer : Holding → ℕ → List ℕ → List ℕ → Checked
sign_answer kept number y s = sign_answer_under most_key_number kept number y s

abbrev pub line_prints : Holding → Line → List ℕ
line_prints kept line = line_prints_under most_key_number kept line

abbrev pub line_kept : Holding → Line → Holding
line_kept kept line = line_kept_under most_key_number kept line

-- what a line of bytes says
abbrev pub read_line : List ℕ → Line
read_line line = line_of most_key_number line
