-- As many independent columns as rows: one solution for each right-hand side, whatever stands at the other places. Assumes nothing.
use mathlib.Core.Path.{◌≡◌, sym, ap, ap₂, ◌∙◌, fun_ext}
use mathlib.Core.List.{List}
use mathlib.Core.Option.{Option, some}
use Prim.Native.Nat.{ℕ, ◌<◌}
use lib.ListN.{length}
use Rattle.trits.specs.Trit.{t2, add_t, sub_t, mul_t}
use Rattle.trits.proofs.Arithmetic.{add_zero_r, add_neg}
use Rattle.matrix.specs.Linear.{Vector, Matrix, times, solve}
use Rattle.matrix.proofs.Field.{sub_zero_eq, add_sub}
use Rattle.matrix.proofs.Dots.{dot_add, dot_mul}
use Rattle.matrix.proofs.Search.{Off, solve_sound, solve_complete}
use Rattle.matrix.proofs.Greedy.{Kept, kept_spans}

module _ (r n : ℕ) (H : Matrix) (ps : List ℕ) (k : Kept r n H ps) where
  pub solve_unique : (u v w : Vector) → Off ps u w → Off ps v w → ((i : ℕ) → i < r → times n H u i ≡ times n H v i) → (q : ℕ) → u q ≡ v q
  solve_unique u v w a b e q =
      sub_zero_eq (u q) (v q)
      (k.independent (λ q. add_t (u q) (mul_t t2 (v q))) (λ q m. ap₂ sub_t (a q m) (b q m) ∙ add_neg (w q))
      (λ i h. dot_add n (H i) u (λ q. mul_t t2 (v q)) ∙ ap₂ add_t (e i h) (dot_mul n t2 (H i) v) ∙ add_neg (times n H v i)) q)

  pub solve_is : (s u w : Vector) → Off ps u w → ((i : ℕ) → i < r → times n H u i ≡ s i) → solve r n H s ps w ≡ some u
  solve_is s u w a e =
      let c = solve_complete r n H s ps w u a e in
      let d = solve_sound r n H s ps w c.0 c.1 in
      c.1 ∙ ap {B = Option Vector} some (fun_ext (solve_unique c.0 u w d.0 a (λ i h. d.1 i h ∙ sym (e i h))))

  pub solve_exists : length ps ≡ r → (s w : Vector) → (u : Vector) × (solve r n H s ps w ≡ some u) × Off ps u w × ((i : ℕ) → i < r → times n H u i ≡ s i)
  solve_exists full s w =
      let z = kept_spans r n H ps k full (λ i. sub_t (s i) (times n H w i)) in
      let u : Vector = λ q. add_t (w q) (z.0 q) in
      let off : Off ps u w = λ q m. ap (add_t (w q)) (z.1 q m) ∙ add_zero_r (w q) in
      let fits : (i : ℕ) → i < r → times n H u i ≡ s i = λ i h. dot_add n (H i) w z.0 ∙ ap (add_t (times n H w i)) (z.2 i h)
      ∙ add_sub (s i) (times n H w i) in
      (u, solve_is s u w off fits, off, fits)
