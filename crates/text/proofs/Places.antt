-- A line by the places of its tabs: the parts between them, whether the fields after the letter are four, and what a K line and the letter come to.
-- The functions' proofs go by texts parted at a tab (`PartedAt`, `FourOf`); these say the same of places. Assumes nothing.
use mathlib.Core.Path.{◌≡◌, sym, ap, refl, ◌∙◌}
use mathlib.Core.List.{List, [], ◌∷◌}
use Prim.Native.Nat.{ℕ, suc, ◌+◌, ◌-◌, ◌≤◌, ◌<◌}
use native.Mathlib.Decide.{ℕ_discrete}
use native.Mathlib.Omega.{arith}
use lib.ListN.{length, take, drop, length-take, length-drop}
use lib.Seq.{drop-drop, length-take-le, take_all}
use Rattle.text.specs.Fields.{fields}
use Rattle.text.specs.Forms.{no_form, one_field, four_fields, row_of, form_of}
use Rattle.text.specs.Steps.{PartedAt, FourOf, NotFour, bounded}
use Rattle.text.proofs.Parting.{before, before_le, split_more, split_last, some_part}
use Rattle.text.proofs.Told.{form_alone, form_none}

-- the bytes from place a up to place e
abbrev pub part : ℕ → ℕ → List ℕ → List ℕ
part a e line = take (e - a) (drop a line)

-- the fields after the letter are four, which end at b, c, d and at the line's end
pub record Four (line : List ℕ) (b c d : ℕ) : Type 0 where
  pub two_b : 2 ≤ b
  pub b_c : b < c
  pub c_d : c < d
  pub d_end : d < length line
  pub are : fields (drop 2 line) ≡ part 2 b line ∷ part (b + 1) c line ∷ part (c + 1) d line ∷ part (d + 1) (length line) line ∷ []

-- ---- the parts from a place of a line on

module _ (line : List ℕ) (a e : ℕ) (h : e ≡ a + before 9 (drop a line)) where
  pub field_within : a ≤ length line → (a ≤ e) × (e ≤ length line)
  field_within b = (omega arith, omega (arith, before_le 9 (drop a line), length-drop a line))

  -- a field that does not end the line has a tab after it
  pub field_room : a ≤ length line → (e ≡ length line → ⊥) → e + 1 ≤ length line
  field_room b f = omega (arith, f, field_within b)

  pub field_more : a ≤ length line → (e ≡ length line → ⊥) → fields (drop a line) ≡ part a e line ∷ fields (drop (e + 1) line)
  field_more b f =
      let g : e - a ≡ before 9 (drop a line) = omega arith in
      let n : a + suc (before 9 (drop a line)) ≡ e + 1 = omega arith in
      split_more 9 (drop a line) (omega (arith, before_le 9 (drop a line), length-drop a line))
      ∙ ap (λ (x : List ℕ). take (before 9 (drop a line)) (drop a line) ∷ fields x)
      (drop-drop (suc (before 9 (drop a line))) a line ∙ ap (λ (j : ℕ). drop j line) n)
      ∙ ap (λ (j : ℕ). take j (drop a line) ∷ fields (drop (e + 1) line)) (sym g)

  pub field_last : a ≤ length line → e ≡ length line → fields (drop a line) ≡ part a (length line) line ∷ []
  field_last b f =
      split_last 9 (drop a line) (omega (arith, length-drop a line))
      ∙ ap (λ (x : List ℕ). x ∷ []) (sym (take_all (length line - a) (drop a line) (omega (arith, length-drop a line))))

  -- the same as a text that is parted
  pub field_parted : a ≤ length line → (e ≡ length line → ⊥) → PartedAt (drop a line) (part a e line) (drop (e + 1) line)
  field_parted b f = record {
    are = field_more b f;
    size = omega (
      arith,
      f,
      field_within b,
      length-take-le (e - a) (drop a line) (omega (arith, field_within b, length-drop a line)),
      length-drop a line,
      length-drop (e + 1) line,
    );
  }

-- ---- four fields

module _ (line : List ℕ) (b c d e : ℕ) (h : 2 ≤ length line) (hb : b ≡ 2 + before 9 (drop 2 line)) where
  pub one_field_law : b ≡ length line → NotFour (drop 2 line)
  unfolding four_fields
  one_field_law z = λ f. ap (four_fields f) (field_last line 2 b hb h z)

  module _ (nb : b ≡ length line → ⊥) (hc : c ≡ b + 1 + before 9 (drop (b + 1) line)) where
    c_room : b + 1 ≤ length line
    c_room = field_room line 2 b hb h nb

    pub two_fields : c ≡ length line → NotFour (drop 2 line)
    unfolding four_fields
    two_fields z =
        λ f. ap (four_fields f) (field_more line 2 b hb h nb
        ∙ ap (λ (x : List (List ℕ)). part 2 b line ∷ x) (field_last line (b + 1) c hc c_room z))

    module _ (nc : c ≡ length line → ⊥) (hd : d ≡ c + 1 + before 9 (drop (c + 1) line)) where
      d_room : c + 1 ≤ length line
      d_room = field_room line (b + 1) c hc c_room nc

      front_two : {rest : List (List ℕ)} → fields (drop (c + 1) line) ≡ rest → fields (drop 2 line) ≡ part 2 b line ∷ part (b + 1) c line ∷ rest
      front_two q =
          field_more line 2 b hb h nb
          ∙ ap (λ (x : List (List ℕ)). part 2 b line ∷ x)
          (field_more line (b + 1) c hc c_room nc ∙ ap (λ (x : List (List ℕ)). part (b + 1) c line ∷ x) q)

      pub three_fields : d ≡ length line → NotFour (drop 2 line)
      unfolding four_fields
      three_fields z = λ f. ap (four_fields f) (front_two (field_last line (c + 1) d hd d_room z))

      module _ (nd : d ≡ length line → ⊥) (he : e ≡ d + 1 + before 9 (drop (d + 1) line)) where
        e_room : d + 1 ≤ length line
        e_room = field_room line (c + 1) d hd d_room nd

        front : {rest : List (List ℕ)} → fields (drop (d + 1) line) ≡ rest
            → fields (drop 2 line) ≡ part 2 b line ∷ part (b + 1) c line ∷ part (c + 1) d line ∷ rest
        front q = front_two (field_more line (c + 1) d hd d_room nd ∙ ap (λ (x : List (List ℕ)). part (c + 1) d line ∷ x) q)

        pub more_fields : (e ≡ length line → ⊥) → NotFour (drop 2 line)
        unfolding four_fields
        more_fields ne = λ f.
            let q = some_part 9 (drop (e + 1) line) in
            ap (four_fields f) (front (field_more line (d + 1) e he e_room ne ∙ ap (λ (x : List (List ℕ)). part (d + 1) e line ∷ x) q.2))

        pub four_fields_law : e ≡ length line → Four line b c d
        four_fields_law z = record {
          two_b = (field_within line 2 b hb h).0;
          b_c = omega (arith, field_within line (b + 1) c hc c_room);
          c_d = omega (arith, field_within line (c + 1) d hd d_room);
          d_end = omega (arith, e_room);
          are = front (field_last line (d + 1) e he e_room z);
        }

-- what is said of four fields holds of these
pub four_parts : {line : List ℕ} {b c d : ℕ} → Four line b c d
    → FourOf (drop 2 line) (part 2 b line) (part (b + 1) c line) (part (c + 1) d line) (part (d + 1) (length line) line)
four_parts {line} {b} {c} {d} f = record {
  are = f.are;
  third_size = omega (
    arith,
    f.two_b,
    f.b_c,
    f.c_d,
    f.d_end,
    length-take (d - (c + 1)) (drop (c + 1) line),
    length-drop (c + 1) line,
    length-drop 2 line,
  );
  fourth_size = omega (
    arith,
    f.two_b,
    f.b_c,
    f.c_d,
    f.d_end,
    length-take (length line - (d + 1)) (drop (d + 1) line),
    length-drop (d + 1) line,
    length-drop 2 line,
  );
}

-- ---- K

module _ (line : List ℕ) (b : ℕ) (h : 2 ≤ length line) (hb : b ≡ 2 + before 9 (drop 2 line)) where
  pub row_more : (b ≡ length line → ⊥) → no_form ≡ bounded (one_field row_of (fields (drop 2 line)))
  unfolding one_field bounded
  row_more nb =
      let q = some_part 9 (drop (b + 1) line) in
      sym (ap (λ (x : List (List ℕ)). bounded (one_field row_of x))
      (field_more line 2 b hb h nb ∙ ap (λ (x : List (List ℕ)). part 2 b line ∷ x) q.2))

-- ---- the letter

module _ (most : ℕ) (line : List ℕ) (e : ℕ) (he : e ≡ 0 + before 9 (drop 0 line)) where
  within : (0 ≤ e) × (e ≤ length line)
  within = field_within line 0 e he (omega arith)

  pub form_length : (e ≡ 1 → ⊥) → no_form ≡ bounded (form_of most (fields line))
  form_length h = by (ℕ_discrete e (length line))
    where
      other : length (part 0 e line) ≡ 1 → ⊥
      other q = h (omega (arith, q, length-take-le (e - 0) line (omega (arith, within))))

      by : Dec (e ≡ length line) → no_form ≡ bounded (form_of most (fields line))
      by (yes z) =
          let g : before 9 (drop 0 line) ≡ before 9 line = refl in
          form_alone most line (split_last 9 line (omega (arith, he, g, z)))
      by (no z) = form_none most (field_parted line 0 e he (omega arith) z) (λ l q. other l) (λ l q. other l) (λ l q. other l)

  module _ (one : e ≡ 1) (h : length line ≡ 1 → ⊥) where
    pub long : 2 ≤ length line
    long = omega (arith, within, h)
