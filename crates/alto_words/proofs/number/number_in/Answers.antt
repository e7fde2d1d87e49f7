use Rattle.alto_words.proofs.NumberLemmas.{none_past_word}
use Rattle.alto_words.proofs.number.number_in.Goals as goal

pub returns-in_default-clause-number : goal.returns-in_default-clause-number
returns-in_default-clause-number c = none_past_word c.args.least c.args.most c.args.word.now c.parse.result
    c.ranges.most.fits (cc) c.parse.ensures.value.0 c.in_default.not-Ok
