use Rattle.std.proofs.Common.{append_assoc, arith}
use Rattle.proposal_core.specs.ProposalCodec.{proposal_text, fallen_text}
use Rattle.group_codec.proofs.proposals.put_parts.Goals as goal

pub returns-in_ok-put_attrs-in-Join : goal.returns-in_ok-put_attrs-in-Join
unfolding proposal_text
returns-in_ok-put_attrs-in-Join c = grind (arith, append_assoc)

pub returns-in_ok-put_u8-in-Fail : goal.returns-in_ok-put_u8-in-Fail
unfolding proposal_text fallen_text
returns-in_ok-put_u8-in-Fail c = grind (arith, append_assoc)

pub returns-in_ok-put_request-in-Expel : goal.returns-in_ok-put_request-in-Expel
unfolding proposal_text
returns-in_ok-put_request-in-Expel c = grind (arith, append_assoc)

pub returns-in_ok-put_request-in-State : goal.returns-in_ok-put_request-in-State
unfolding proposal_text
returns-in_ok-put_request-in-State c = grind (arith, append_assoc)

pub returns-in_ok-put_request-in-Message : goal.returns-in_ok-put_request-in-Message
unfolding proposal_text
returns-in_ok-put_request-in-Message c = grind (arith, append_assoc)

pub returns-in_ok-put_request-in-Attributes : goal.returns-in_ok-put_request-in-Attributes
unfolding proposal_text
returns-in_ok-put_request-in-Attributes c = grind (arith, append_assoc)

pub returns-in_ok-put_u32-in-Reflect : goal.returns-in_ok-put_u32-in-Reflect
unfolding proposal_text
returns-in_ok-put_u32-in-Reflect c = grind (arith, append_assoc)
