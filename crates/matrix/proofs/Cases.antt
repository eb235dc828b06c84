-- The worked cases, computed from the definitions. Assumes nothing.
use mathlib.Core.Path.{refl}
use Rattle.trits.specs.Trit.{any_to, dot_v}
use Rattle.trits.specs.Planes.{tabulate}
use Rattle.trits.specs.InDigits.{digit_rows}
use Rattle.matrix.specs.Linear.{agree, find, solve, in_span, keep, pivots, rank}
use Rattle.matrix.specs.Steps.{first_row, has_pivot, step_of, tried, eliminate, eliminated, raised, backed}
use Rattle.matrix.specs.Cases.{Cases}

pub cases : Cases
unfolding any_to dot_v tabulate digit_rows agree find solve in_span keep pivots rank first_row has_pivot step_of tried eliminate eliminated raised backed
cases = record {
  pivots_0123 = refl;
  pivots_3210 = refl;
  rank_01 = refl;
  solve_2 = refl;
  lowered_0110 = refl;
  lowered_2111 = refl;
  raised_2111 = refl;
  backed_11 = refl;
}
