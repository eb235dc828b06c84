-- Each plane has the place's word with one bit changed, to the bits of t (`put_words_law`).
-- Assumes nothing.
use Rattle.trits.proofs.Put.{put_words_law}
use Rattle.planes.proofs.places.put_trit.Goals as goal

pub returns : goal.returns
returns c =
    let a = c.args in
    put_words_law a.i a.t c.requires.row c.requires.place c.requires.trit c.with_bit.ensures c.with_bit-2.ensures
