-- The lengths of a draw, tested one after another as the code does. Assumes nothing.
use mathlib.Core.Path.{◌≡◌, ◌∙◌}
use mathlib.Core.Bool.{Bool, true, false, not, ◌||◌, or_assoc}
use Prim.Native.Nat.{ℕ}
use lib.Dec.{eqb}
use Rattle.trits.specs.Planes.{words_for}
use Rattle.scheme.specs.declared.sizes.Sizes.{Sizes}
use Rattle.scheme.specs.Sizes.{half, places, dim, codim}
use Rattle.calls.specs.Lent.{pair_differs}
use Rattle.calls.specs.DrawCall.{draw_work_words, choices_differ}

-- an answer that is there already stays, and else the next test decides
pub stays : {a v : Bool} (b : Bool) → a ≡ true → v ≡ true → v ≡ (a || b)
stays b e f = rw (e, f)

pub decides : {a v : Bool} {b : Bool} → a ≡ false → v ≡ b → v ≡ (a || b)
decides e f = rw (e, f)

-- the tests up to those of s, and all of them
module _ (z : Sizes) (p y1 y2 ov v1 v2 ou u1 u2 e1 e2 s1 s2 : ℕ) where
  abbrev pub before_work : Bool
  before_work =
      ((((((not (eqb p (places z)) || pair_differs (words_for (codim z)) y1 y2) || pair_differs (half z) ov ou) || pair_differs (words_for z.kv) v1 v2)
      || pair_differs (words_for z.ku) u1 u2) || pair_differs (words_for (places z)) e1 e2) || pair_differs (words_for (dim z)) s1 s2)

  pub with_work : (w1 w2 : ℕ) → (before_work || pair_differs (draw_work_words z) w1 w2) ≡ choices_differ z p y1 y2 ov v1 v2 ou u1 u2 e1 e2 s1 s2 w1 w2
  unfolding choices_differ
  with_work w1 w2 =
      let P = not (eqb p (places z)) in
      let Y = pair_differs (words_for (codim z)) y1 y2 in
      let O = pair_differs (half z) ov ou in
      let V = pair_differs (words_for z.kv) v1 v2 in
      let U = pair_differs (words_for z.ku) u1 u2 in
      let E = pair_differs (words_for (places z)) e1 e2 in
      let S = pair_differs (words_for (dim z)) s1 s2 in
      let W = pair_differs (draw_work_words z) w1 w2 in
      or_assoc (((((P || Y) || O) || V) || U) || E) S W ∙ or_assoc ((((P || Y) || O) || V) || U) E (S || W)
      ∙ or_assoc (((P || Y) || O) || V) U (E || (S || W)) ∙ or_assoc ((P || Y) || O) V (U || (E || (S || W)))
      ∙ or_assoc (P || Y) O (V || (U || (E || (S || W)))) ∙ or_assoc P Y (O || (V || (U || (E || (S || W)))))
