-- A text fed byte by byte, and then ended, prints what its lines print. Assumes nothing.
use mathlib.Core.Path.{◌≡◌, refl, sym, ap, ap₂, ◌∙◌, subst}
use mathlib.Core.Bool.{Bool, cond}
use mathlib.Core.List.{List, [], ◌∷◌, ◌++◌, append-nil, append_assoc}
use Prim.Native.Nat.{ℕ, ◌+◌, ◌≤◌, ◌<◌}
use native.Mathlib.Numerals.{add-one}
use native.Mathlib.Decide.{dec_lt, ℕ_discrete}
use native.Mathlib.Omega.{arith}
use borrow.Author.Tests.{eq-eqb, ne_eqb, lt-ltb}
use lib.Dec.{eqb}
use lib.ListN.{length, set, take, length-append, length-set}
use lib.Seq.{take-suc-set}
use Rattle.trits.specs.Planes.{zero_words}
use Rattle.trits.proofs.Lists.{length_zeros}
use Rattle.text.specs.Fields.{onto, split}
use Rattle.text.proofs.Parting.{some_part}
use Rattle.text.specs.Forms.{Line, no_form, line_of}
use Rattle.text.specs.Answers.{header}
use Rattle.held_key.specs.Load.{Holding}
use Rattle.text_line.specs.Answer.{line_prints, line_kept, read_line}
use Rattle.text_lines.specs.Print.{without_empty_end, lines_of, answers, answers_under, no_key, prints, prints_under}
use Rattle.text_lines.specs.Machine.{Machine, gathered, ended, stepped, step_prints, end_prints, fed, started}
use Rattle.text_lines.proofs.Bytes.{gathered_long, gathered_short, step_end, step_none, step_more, step_full, end_none, end_some}

-- ---- parts of a text whose first bytes have no line end

-- parts with more bytes at the front of the first of them
abbrev joined : List ℕ → List (List ℕ) → List (List ℕ)
joined p [] = p ∷ []
joined p (x ∷ xs) = (p ++ x) ∷ xs

-- bytes with no line end among them: they all stand in the first line, whatever follows
abbrev Open : List ℕ → Type 0
Open p = (t : List ℕ) → split 10 (p ++ t) ≡ joined p (split 10 t)

open_none : Open []
open_none t = let s = some_part 10 t in s.2 ∙ ap (joined []) (sym s.2)

open_more : (p : List ℕ) (b : ℕ) → (b ≡ 10 → ⊥) → Open p → Open (p ++ (b ∷ []))
unfolding split onto
open_more p b f o t =
    let s = some_part 10 t in
    ap (split 10) (append_assoc p (b ∷ []) t) ∙ o (b ∷ t) ∙ ap (λ (x : Bool). joined p (cond x ([] ∷ split 10 t) (onto b (split 10 t)))) (ne_eqb b 10 f)
    ∙ ap (λ (x : List (List ℕ)). joined p (onto b x)) s.2
    ∙ ap (λ (x : List ℕ). x ∷ s.1) (sym (append_assoc p (b ∷ []) s.0))
    ∙ ap (joined (p ++ (b ∷ []))) (sym s.2)

open_last : (p : List ℕ) → Open p → split 10 (p ++ []) ≡ p ∷ []
unfolding split
open_last p o = o [] ∙ ap (λ (x : List ℕ). x ∷ []) (append-nil p)

open_end : (p t : List ℕ) (b : ℕ) → b ≡ 10 → Open p → split 10 (p ++ (b ∷ t)) ≡ p ∷ split 10 t
unfolding split
open_end p t b e o =
    o (b ∷ t) ∙ ap (λ (x : Bool). joined p (cond x ([] ∷ split 10 t) (onto b (split 10 t)))) (eq-eqb b 10 e)
    ∙ ap (λ (x : List ℕ). x ∷ split 10 t) (append-nil p)

-- ---- the buffer has the line so far, or as much of it as tells that it is too long

record Gathers (m : Machine) (p : List ℕ) : Type 0 where
  size : length m.line ≡ 1025
  within : length p ≤ 1025 → (m.len ≡ length p) × (take m.len m.line ≡ p)
  over : 1025 < length p → m.len ≡ 1025

gathers_none : (m : Machine) → length m.line ≡ 1025 → m.len ≡ 0 → Gathers m []
gathers_none m s z = record { size = s; within = λ h. (z, ap (λ (j : ℕ). take j m.line) z); over = λ h. absurd (omega arith) }

too_long : (p : List ℕ) → 1024 < length p → no_form ≡ read_line p
unfolding line_of
too_long p l = rw (lt-ltb 1024 (length p) l)

module _ {m : Machine} {p : List ℕ} (g : Gathers m p) where
  says_line : gathered m ≡ read_line p
  says_line = by (dec_lt 1024 (length p))
    where
      by : Dec (1024 < length p) → gathered m ≡ read_line p
      by (no l) = let w = g.within (omega arith) in sym (gathered_short m (omega (arith, w.0))) ∙ ap read_line w.1
      by (yes l) = sym (gathered_long m (long (dec_lt 1025 (length p)))) ∙ too_long p l
        where
          long : Dec (1025 < length p) → 1024 < m.len
          long (yes h) = omega (arith, g.over h)
          long (no h) = omega (arith, (g.within (omega arith)).0)

  -- another byte of the line
  gathers_more : (b : ℕ) → (b ≡ 10 → ⊥) → Gathers (stepped b m) (p ++ (b ∷ [])) × ((stepped b m).kept ≡ m.kept)
  gathers_more b f = by (dec_lt 1024 (length p))
    where
      more : length (p ++ (b ∷ [])) ≡ length p + 1
      more = length-append p (b ∷ [])

      by : Dec (1024 < length p) → Gathers (stepped b m) (p ++ (b ∷ [])) × ((stepped b m).kept ≡ m.kept)
      by (no l) =
          let w = g.within (omega arith) in
          let e = step_more m b f (omega (arith, w.0)) in
          let room : m.len < length m.line = omega (arith, w.0, g.size) in
          let t : take (m.len + 1) (set m.line m.len b) ≡ p ++ (b ∷ []) =
          ap (λ (j : ℕ). take j (set m.line m.len b)) (add-one m.len) ∙ take-suc-set m.line m.len b room
          ∙ ap (λ (x : List ℕ). x ++ (b ∷ [])) w.1 in
          let g' : Gathers (record { len = m.len + 1; line = set m.line m.len b; kept = m.kept }) (p ++ (b ∷ [])) = record {
            size = length-set m.line m.len b ∙ g.size;
            within = λ h. (omega (arith, w.0, more), t);
            over = λ h. absurd (omega (arith, more, h));
          } in
          (subst (λ (x : Machine). Gathers x (p ++ (b ∷ []))) e g', sym (ap (λ (x : Machine). x.kept) e))
      by (yes l) =
          let full = long (dec_lt 1025 (length p)) in
          let e = step_full m b f (omega (arith, full)) in
          let g' : Gathers m (p ++ (b ∷ [])) = record { size = g.size; within = λ h. absurd (omega (arith, more, h)); over = λ h. full } in
          (subst (λ (x : Machine). Gathers x (p ++ (b ∷ []))) e g', sym (ap (λ (x : Machine). x.kept) e))
        where
          long : Dec (1025 < length p) → m.len ≡ 1025
          long (yes h) = g.over h
          long (no h) = omega (arith, (g.within (omega arith)).0)

  -- the end of the text
  gathers_last : end_prints m ≡ answers m.kept (without_empty_end (p ∷ []))
  unfolding without_empty_end answers_under
  gathers_last = by (ℕ_discrete (length p) 0)
    where
      by : Dec (length p ≡ 0) → end_prints m ≡ answers m.kept (cond (eqb (length p) 0) [] (p ∷ []))
      by (yes z) =
          let w = g.within (omega arith) in
          sym (end_none m (w.0 ∙ z)).1 ∙ sym (ap (λ (t : Bool). answers m.kept (cond t [] (p ∷ []))) (eq-eqb (length p) 0 z))
      by (no f) =
          sym (end_some m (λ z. f (size (dec_lt 1025 (length p)) z))).1 ∙ ap (line_prints m.kept) says_line
          ∙ sym (append-nil (line_prints m.kept (read_line p)))
          ∙ sym (ap (λ (t : Bool). answers m.kept (cond t [] (p ∷ []))) (ne_eqb (length p) 0 f))
        where
          size : Dec (1025 < length p) → m.len ≡ 0 → length p ≡ 0
          size (yes h) z = absurd (omega (arith, g.over h, z))
          size (no h) z = omega (arith, (g.within (omega arith)).0, z)

-- ---- the whole text

-- a line, and then the others
next_line : (kept : Holding) (p t : List ℕ)
    → answers kept (without_empty_end (p ∷ split 10 t)) ≡ line_prints kept (read_line p) ++ answers (line_kept kept (read_line p))
    (without_empty_end (split 10 t))
unfolding without_empty_end answers_under
next_line kept p t =
    let s = some_part 10 t in
    ap (λ (x : List (List ℕ)). answers kept (without_empty_end (p ∷ x))) s.2
    ∙ sym (ap (λ (x : List (List ℕ)). line_prints kept (read_line p) ++ answers (line_kept kept (read_line p)) (without_empty_end x)) s.2)

fed_from : (text : List ℕ) (m : Machine) (p : List ℕ) → Gathers m p → Open p → fed m text ≡ answers m.kept (without_empty_end (split 10 (p ++ text)))
unfolding fed ended
fed_from [] m p g o = gathers_last g ∙ sym (ap (λ (x : List (List ℕ)). answers m.kept (without_empty_end x)) (open_last p o))
fed_from (b ∷ text) m p g o = by (ℕ_discrete b 10) (λ q. fed_from text (ended m) [] q open_none) (λ q r. fed_from text (stepped b m) (p ++ (b ∷ [])) q r)
  where
    by : Dec (b ≡ 10)
        → (Gathers (ended m) [] → fed (ended m) text ≡ answers (ended m).kept (without_empty_end (split 10 text)))
        → (Gathers (stepped b m) (p ++ (b ∷ [])) → Open (p ++ (b ∷ []))
        → fed (stepped b m) text ≡ answers (stepped b m).kept (without_empty_end (split 10 (p ++ (b ∷ []) ++ text))))
        → step_prints b m ++ fed (stepped b m) text ≡ answers m.kept (without_empty_end (split 10 (p ++ (b ∷ text))))
    by (yes e) q r =
        let h = step_end m b e in
        ap₂ (λ (x : List ℕ) (y : Machine). x ++ fed y text) (sym h.1) (sym h.0)
        ∙ ap (λ (x : List ℕ). line_prints m.kept (gathered m) ++ x) (q (gathers_none (ended m) g.size refl))
        ∙ ap (λ (l : Line). line_prints m.kept l ++ answers (line_kept m.kept l) (without_empty_end (split 10 text))) (says_line g)
        ∙ sym (next_line m.kept p text)
        ∙ sym (ap (λ (x : List (List ℕ)). answers m.kept (without_empty_end x)) (open_end p text b e o))
    by (no f) q r =
        let h = gathers_more g b f in
        ap (λ (x : List ℕ). x ++ fed (stepped b m) text) (sym (step_none m b f))
        ∙ r h.0 (open_more p b f o)
        ∙ ap₂ (λ (k : Holding) (x : List ℕ). answers k (without_empty_end (split 10 x))) h.1 (append_assoc p (b ∷ []) text)

-- a text fed byte by byte from no line on, whatever is held and whatever the buffer has, prints what its lines print
pub fed_lines : (kept : Holding) (line text : List ℕ) → length line ≡ 1025
    → fed (record { len = 0; line = line; kept = kept }) text ≡ answers kept (lines_of text)
unfolding lines_of
fed_lines kept line text s = fed_from text (record { len = 0; line = line; kept = kept }) [] (gathers_none _ s refl) open_none

-- and from the start on, with the header, exactly what the definition of the whole text gives
pub printed_whole : (text : List ℕ) → header ++ fed started text ≡ prints text
unfolding started prints_under
printed_whole text = ap (λ (x : List ℕ). header ++ x) (fed_lines no_key (zero_words 1025) text (length_zeros 1025))
