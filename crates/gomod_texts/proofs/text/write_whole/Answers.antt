use Rattle.gomod_texts.proofs.Takings.{took_piece}
use Rattle.gomod_texts.proofs.text.write_whole.Goals as goal

pub returns : goal.returns
returns g c =
    let wrote = c.write_all.ensures in
    rw c.as_bytes.ensures.value at (took_piece _ _ c.as_bytes.result.now c.write_all.result wrote.whole wrote.part wrote.fits wrote.cause)
