use Rattle.value_words.proofs.FourLaws.{one_part, two_parts, three_parts, more_some, none_gives}
use Rattle.value_words.proofs.ids.four_parts.Goals as goal

pub returns-in_err-first-clause-missing : goal.returns-in_err-first-clause-missing
returns-in_err-first-clause-missing c = none_gives _ (one_part _ _ c.in_err-first.ensures.missing)

pub returns-in_err-second-clause-missing : goal.returns-in_err-second-clause-missing
returns-in_err-second-clause-missing c = none_gives _ (two_parts _ _ _ _ c.in_ok-first.ensures.found c.in_err-second.ensures.missing)

pub returns-in_err-third-clause-missing : goal.returns-in_err-third-clause-missing
returns-in_err-third-clause-missing c = none_gives _ (three_parts _ _ _ _ _ _ c.in_ok-first.ensures.found c.in_ok-second.ensures.found c.in_err-third.ensures.missing)

pub returns-then-is_some-clause-missing : goal.returns-then-is_some-clause-missing
returns-then-is_some-clause-missing c =
    more_some c.cut_at-4.result _ _ _ _ _ _ _ c.in_ok-first.ensures.found c.in_ok-second.ensures.found c.in_ok-third.ensures.found c.cut_at-4.ensures.found c.cut_at-4.ensures.more (cc)
