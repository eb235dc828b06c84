-- The arranged matrix has R in its last columns (`Keyed`), and the key is read down them (`made_ones`, `made_twos`).
-- Assumes nothing.
use mathlib.Core.Path.{◌∙◌}
use Rattle.build_release.proofs.Released.{made_ones, made_twos}
use Rattle.build_release.proofs.make.make_key.Goals as goal

pub returns-clause-ko_after : goal.returns-clause-ko_after
returns-clause-ko_after c =
    c.write_key.ensures.ko_after ∙ made_ones c.arrange.ensures.keyed c.args.k c.args.kw c.requires.columns

pub returns-clause-kt_after : goal.returns-clause-kt_after
returns-clause-kt_after c =
    c.write_key.ensures.kt_after ∙ made_twos c.arrange.ensures.keyed c.args.k c.args.kw c.requires.columns
