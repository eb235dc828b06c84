-- Both planes of the row are copied into a part that begins at its first word.
-- Assumes nothing.
use Prim.Native.Nat.{◌+◌, ◌-◌, ◌*◌}
use mathlib.Core.Path.{sym, ap, ap₂, ◌∙◌}
use native.Mathlib.Omega.{arith}
use lib.ListN.{length}
use Rattle.trits.specs.Planes.{trit_at}
use Rattle.grid.proofs.RowParts.{put_grid, past_words, copied_row}
use Rattle.grid.proofs.one_row.put_copy.Goals as goal

pub returns : goal.returns
returns c =
    let a = c.args in
    let k = a.j * a.w + a.w - a.j * a.w in
    put_grid a.w a.j c.requires.grid c.requires.j_in k (omega arith) (c.requires.size ∙ omega arith)
    (record {
      row = copied_row c.copy_words.ensures c.copy_words-2.ensures c.requires.source;
      size = ap length c.copy_words.ensures;
      trits = ap₂ trit_at c.copy_words.ensures c.copy_words-2.ensures;
    })
    (λ q l. sym (past_words a.w c.requires.source c.requires.size q l))
