use Rattle.gm_syntax.proofs.OneText.{parsed_reading, reading_parsed}
use Rattle.gm_syntax.proofs.laws.results_are_readings.Goals as goal

pub returns : goal.returns
returns c = λ bytes answer. (parsed_reading bytes answer, reading_parsed bytes answer)
