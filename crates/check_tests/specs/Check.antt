-- The check: its refusals in the paper's order, the answer, and the working space at exit ("The verdict", both sections "Turned back"). Assumes nothing.
-- What depends on the largest key number, or on the test of a pair of planes, is defined with any other in its place, by a name that ends in `Under`.
use Rattle.std.specs.Prelude.{cond, List, ℕ, eqb, length, Result, Ok, Err}
use Rattle.trits.specs.Trit.{Trit, sum_of}
use Rattle.trits.specs.Planes.{trit_at, words_for}
use Rattle.trits.specs.Refusal.{number_of, refuse, demand, first, space_exit, PlanesTest, planes_refusal}
use Rattle.trits.specs.declared.Counts.{Counts}
use Rattle.trits.specs.declared.refusal.Refusal.{Refusal}
use Rattle.packed.specs.Packed.{bytes_for, packed_row, packed_refusal}
use Rattle.held_key.specs.declared.state.Held.{Held}
use Rattle.check_tests.specs.declared.Checked.{Checked}
use Rattle.check_tests.specs.declared.Verdict.{Verdict}
use Rattle.check_tests.specs.declared.Verdict.TheVariants.{Yes, No}
use Rattle.verdict.specs.Verdict.{full_counts}
use Rattle.held_key.specs.Held.{most_key_number, sound_under, row_trits, row_words, key_words, held_key_under}

-- ---- what is lent

-- the held state, the key number asked for, the planes of the key, y and s in planes, and the working space as it is at entry
pub record Check : Type 0 where
  pub held : Held
  pub number : ℕ
  pub ones : List ℕ
  pub twos : List ℕ
  pub y_ones : List ℕ
  pub y_twos : List ℕ
  pub s_ones : List ℕ
  pub s_twos : List ℕ
  pub work_ones : List ℕ
  pub work_twos : List ℕ

abbrev pub check_of : Held → ℕ → List ℕ → List ℕ → List ℕ → List ℕ → List ℕ → List ℕ → List ℕ → List ℕ → Check
check_of h number ones twos yo yt so st wo wt = record {
  held = h;
  number = number;
  ones = ones;
  twos = twos;
  y_ones = yo;
  y_twos = yt;
  s_ones = so;
  s_twos = st;
  work_ones = wo;
  work_twos = wt;
}

-- the same with packed y and s
pub record PackedCheck : Type 0 where
  pub held : Held
  pub number : ℕ
  pub ones : List ℕ
  pub twos : List ℕ
  pub y : List ℕ
  pub s : List ℕ
  pub work_ones : List ℕ
  pub work_twos : List ℕ

abbrev pub packed_check_of : Held → ℕ → List ℕ → List ℕ → List ℕ → List ℕ → List ℕ → List ℕ → PackedCheck
packed_check_of h number ones twos y s wo wt = record { held = h; number = number; ones = ones; twos = twos; y = y; s = s; work_ones = wo; work_twos = wt }

-- ---- refusals

-- the state and the key number, then the lengths of the key's planes and of the working space
unfoldable pub call_refusal_under : ℕ → Held → ℕ → ℕ → ℕ → ℕ → ℕ → ℕ
call_refusal_under most h number ones twos work_ones work_twos =
    refuse (eqb h.begun 0) 20
    (demand (sound_under most h) 1
    (demand (eqb h.rows h.k) 20
    (demand (eqb number h.number) 22
    (demand (eqb ones (key_words h)) 2
    (demand (eqb twos (key_words h)) 2
    (demand (eqb work_ones (row_words h)) 2
    (demand (eqb work_twos (row_words h)) 2
    0)))))))

abbrev pub call_refusal : Held → ℕ → ℕ → ℕ → ℕ → ℕ → ℕ
call_refusal h number ones twos work_ones work_twos = call_refusal_under most_key_number h number ones twos work_ones work_twos

-- y and s in planes: their lengths
unfoldable pub planes_lengths : Held → ℕ → ℕ → ℕ → ℕ → ℕ
planes_lengths h y_ones y_twos s_ones s_twos =
    demand (eqb y_ones (row_words h)) 2
    (demand (eqb y_twos (row_words h)) 2
    (demand (eqb s_ones (words_for h.k)) 2
    (demand (eqb s_twos (words_for h.k)) 2
    0)))

-- then the contents: the held rows, y, s (4, 3 in each)
unfoldable pub planes_contents_under : PlanesTest → Held → List ℕ → List ℕ → List ℕ → List ℕ → List ℕ → List ℕ → ℕ
planes_contents_under test h ones twos y_ones y_twos s_ones s_twos =
    first (test ones twos h.k (row_trits h))
    (first (test y_ones y_twos 1 (row_trits h))
    (test s_ones s_twos 1 h.k))

abbrev pub planes_contents : Held → List ℕ → List ℕ → List ℕ → List ℕ → List ℕ → List ℕ → ℕ
planes_contents h ones twos y_ones y_twos s_ones s_twos = planes_contents_under planes_refusal h ones twos y_ones y_twos s_ones s_twos

-- packed y and s: their lengths
unfoldable pub packed_lengths : Held → ℕ → ℕ → ℕ
packed_lengths h y s =
    demand (eqb y (bytes_for (row_trits h))) 2
    (demand (eqb s (bytes_for h.k)) 2
    0)

-- then the contents: the held rows (4, 3), y (5, 15), s (5, 15)
unfoldable pub packed_contents_under : PlanesTest → Held → List ℕ → List ℕ → List ℕ → List ℕ → ℕ
packed_contents_under test h ones twos y s =
    first (test ones twos h.k (row_trits h))
    (first (packed_refusal (row_trits h) y)
    (packed_refusal h.k s))

abbrev pub packed_contents : Held → List ℕ → List ℕ → List ℕ → List ℕ → ℕ
packed_contents h ones twos y s = packed_contents_under planes_refusal h ones twos y s

-- the check of y and s in planes
unfoldable pub check_refusal_under : ℕ → PlanesTest → Check → ℕ
check_refusal_under most test c =
    let h = c.held in
    first (call_refusal_under most h c.number (length c.ones) (length c.twos) (length c.work_ones) (length c.work_twos))
    (first (planes_lengths h (length c.y_ones) (length c.y_twos) (length c.s_ones) (length c.s_twos))
    (planes_contents_under test h c.ones c.twos c.y_ones c.y_twos c.s_ones c.s_twos))

abbrev pub check_refusal : Check → ℕ
check_refusal c = check_refusal_under most_key_number planes_refusal c

-- the check of packed y and s
unfoldable pub check_packed_refusal_under : ℕ → PlanesTest → PackedCheck → ℕ
check_packed_refusal_under most test c =
    let h = c.held in
    first (call_refusal_under most h c.number (length c.ones) (length c.twos) (length c.work_ones) (length c.work_twos))
    (first (packed_lengths h (length c.y) (length c.s))
    (packed_contents_under test h c.ones c.twos c.y c.s))

abbrev pub check_packed_refusal : PackedCheck → ℕ
check_packed_refusal c = check_packed_refusal_under most_key_number planes_refusal c

-- ---- the answer

-- the ones and twos of the full word of y and s under the held key
unfoldable pub held_counts_under : ℕ → Held → List ℕ → List ℕ → (ℕ → Trit) → (ℕ → Trit) → Counts
held_counts_under most h ones twos y s = full_counts (row_trits h) h.k (held_key_under most h ones twos) y s

abbrev pub held_counts : Held → List ℕ → List ℕ → (ℕ → Trit) → (ℕ → Trit) → Counts
held_counts h ones twos y s = held_counts_under most_key_number h ones twos y s

-- the numbers that an answer is told by: the refusal or 0, 1 for yes and 0 for all else, the ones and the twos or 0
abbrev pub told : Result Verdict Refusal → Checked
told (Ok (Yes counts)) = record { refusal = 0; yes = 1; ones = counts.ones; twos = counts.twos }
told (Ok (No counts)) = record { refusal = 0; yes = 0; ones = counts.ones; twos = counts.twos }
told (Err r) = record { refusal = number_of r; yes = 0; ones = 0; twos = 0 }

-- the answer is the ones and the twos, and yes exactly when their sum is w (request C-13); a refusal returns its number alone
unfoldable pub answered : ℕ → Counts → ℕ → Checked
answered refusal counts w =
    cond (eqb refusal 0)
    (record { refusal = 0; yes = cond (eqb (sum_of counts) w) 1 0; ones = counts.ones; twos = counts.twos })
    (record { refusal = refusal; yes = 0; ones = 0; twos = 0 })

-- what the check of y and s in planes counts and answers
abbrev pub check_counts_under : ℕ → Check → Counts
check_counts_under most c = held_counts_under most c.held c.ones c.twos (trit_at c.y_ones c.y_twos) (trit_at c.s_ones c.s_twos)

abbrev pub check_counts : Check → Counts
check_counts c = check_counts_under most_key_number c

unfoldable pub check_answer_under : ℕ → PlanesTest → Check → Checked
check_answer_under most test c = answered (check_refusal_under most test c) (check_counts_under most c) c.held.w

abbrev pub check_answer : Check → Checked
check_answer c = check_answer_under most_key_number planes_refusal c

-- what the check of packed y and s counts and answers
abbrev pub check_packed_counts_under : ℕ → PackedCheck → Counts
check_packed_counts_under most c = held_counts_under most c.held c.ones c.twos (packed_row c.y) (packed_row c.s)

abbrev pub check_packed_counts : PackedCheck → Counts
check_packed_counts c = check_packed_counts_under most_key_number c

unfoldable pub check_packed_answer_under : ℕ → PlanesTest → PackedCheck → Checked
check_packed_answer_under most test c = answered (check_packed_refusal_under most test c) (check_packed_counts_under most c) c.held.w

abbrev pub check_packed_answer : PackedCheck → Checked
check_packed_answer c = check_packed_answer_under most_key_number planes_refusal c

-- ---- the working space at exit

abbrev pub check_work_ones : Check → List ℕ
check_work_ones c = space_exit (check_refusal c) c.work_ones

abbrev pub check_work_twos : Check → List ℕ
check_work_twos c = space_exit (check_refusal c) c.work_twos

abbrev pub check_packed_work_ones : PackedCheck → List ℕ
check_packed_work_ones c = space_exit (check_packed_refusal c) c.work_ones

abbrev pub check_packed_work_twos : PackedCheck → List ℕ
check_packed_work_twos c = space_exit (check_packed_refusal c) c.work_twos
