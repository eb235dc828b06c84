-- Each field is computed as the definition says, and neither k is above N.
-- Assumes nothing.
use native.Mathlib.Omega.{arith}
use Rattle.scheme.proofs.Ranges.{sizes_fit_law}
use Rattle.scheme.proofs.sizes.FittingSizes.shape.Goals as goal

pub overflow_sub-result : goal.overflow_sub-result
overflow_sub-result c = omega (arith, (sizes_fit_law c.args.self.sizes c.args.self.fit).ku_low)

pub overflow_sub-result-2 : goal.overflow_sub-result-2
overflow_sub-result-2 c = omega (arith, (sizes_fit_law c.args.self.sizes c.args.self.fit).kv_low)
