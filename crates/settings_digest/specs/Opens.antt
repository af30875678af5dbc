-- Opens each word by which settings come into their normal form, for computations.
use Rattle.value_words.specs.Words.{push_head, split_on, words_in}
use Rattle.world_model.specs.Reading.{is_comment}
use Rattle.settings_digest.specs.Digest.{words_of, is_begin, normal_line, before_begin, normal_settings}

unfoldable pub normal_opens : Unit {0}
unfolding push_head split_on words_in is_comment words_of is_begin normal_line before_begin normal_settings
normal_opens = tt
