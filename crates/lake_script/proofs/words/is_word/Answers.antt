use Rattle.lake_script.proofs.OneWord.{one_word}
use Rattle.lake_script.proofs.words.is_word.Goals as goal

pub returns-in-len1 : goal.returns-in-len1
returns-in-len1 c =
    rw (← c.as_slice.ensures.value)
    (one_word _ c.as_slice.result.now c.word-item.result c.eq.result _ c.in-len1.len_at_least c.in-len1.len_below c.word-item.is (rw (← c.as_str.ensures.value) c.eq.ensures))
