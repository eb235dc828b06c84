-- A packed row in the planes of the key, when the parts that were lent are back. Assumes nothing.
use mathlib.Core.Path.{◌≡◌, ap, ap₂, ◌∙◌}
use mathlib.Core.List.{List, ◌++◌}
use Prim.Native.Nat.{ℕ, ◌+◌, ◌*◌}
use lib.ListN.{length, take, drop}
use lib.Seq.{drop-drop}
use borrow.Rule.Slice.PartMut.{put_mid}
use Rattle.trits.specs.Rows.{put_words}
use Rattle.trits.proofs.Refusals.{exit_kept, exit_new}
use Rattle.held_key.specs.declared.state.Held.{Held}
use Rattle.held_key.specs.Held.{row_words}
use Rattle.held_key.specs.Store.{stored_plane}
use Prim.Native.Nat.{◌<◌}

-- a part that came back with other words
pub mid_words : (a k : ℕ) (xs ys new : List ℕ) → k ≡ length new → ys ≡ new → put_mid a k xs ys ≡ put_words a xs new
unfolding put_words
mid_words a k xs ys new e f = ap₂ (λ (z w : List ℕ). take a xs ++ (z ++ w)) f (drop-drop k a xs ∙ ap (λ (n : ℕ). drop (a + n) xs) e)

module _ (h : Held) (plane row : List ℕ) {r : ℕ} where
  pub plane_kept : {k : ℕ} → k ≡ r → 0 < k → plane ≡ stored_plane r h plane row
  unfolding stored_plane
  plane_kept e l = exit_kept _ _ e l

  pub plane_put : r ≡ 0 → put_words (h.rows * row_words h) plane row ≡ stored_plane r h plane row
  unfolding stored_plane
  plane_put z = exit_new _ _ z

  pub plane_lent : {a k : ℕ} {ys : List ℕ} → r ≡ 0 → a ≡ h.rows * row_words h → k ≡ length row → ys ≡ row → put_mid a k plane ys ≡ stored_plane r h plane row
  plane_lent {a} {k} {ys} z q e f = mid_words a k plane ys row e f ∙ ap (λ (x : ℕ). put_words x plane row) q ∙ plane_put z
