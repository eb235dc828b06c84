-- Where the first columns have full rank, all have it (`full_more`); else all are tried.
-- Assumes nothing.
use mathlib.Core.Path.{◌≡◌, sym, ◌∙◌}
use native.Mathlib.Omega.{arith}
use Rattle.matrix.proofs.FirstPart.{full_more}
use Rattle.build_ranks.proofs.ranks.rank_of.Goals as goal

pub returns-then-r-rows : goal.returns-then-r-rows
returns-then-r-rows c =
    let a = c.args in
    let full : c.front_rank-r.result ≡ a.rows = omega arith in
    full ∙ sym (full_more a.rows c.min.result a.n _ (omega arith) (sym c.front_rank-r.ensures ∙ full))
