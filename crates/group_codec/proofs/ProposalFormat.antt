-- What is read as a proposal is spelled so, and what is spelled so is read.
use Rattle.std.proofs.Common.{◌≡◌, ℕ, ◌<◌, ◌≤◌, List, [], ◌∷◌, ◌++◌, length, Option, Some, refl, arith}
use Rattle.std.specs.Prelude.{IsTrue, ◌&&◌, nat_le}
use Rattle.std.specs.Int.{w8}
use Rattle.std.specs.Option.{option_map}
use Rattle.std.specs.Borrow.{Bor}
use Rattle.std.proofs.lemmas.Bool.{leb-true}
use Rattle.rsct_packet.specs.Format.{IsFormat, IsVariant, EachFits}
use Rattle.rsct_packet.specs.Reading.{Gives}
use Rattle.rsct_packet.specs.declared.ids.ProviderId.{ProviderId}
use Rattle.rsct_packet.specs.Fields.{IsNode, IsProvider, IsProviders, IsSomeProviders}
use Rattle.rsct_packet.proofs.FormatLaws.{both_format, guarded_format, fits_format, counted_format, optional_format, keyed_of, choice_format, or_variant, no_variant, made_variant, wide8, u32_format}
use Rattle.rsct_packet.proofs.FieldLaws.{and_true, bytes_format, view_format, provider_format, some_providers_format}
use Rattle.proposal_core.proofs.FailureFormat.{failure_format}
use Rattle.group_codec.proofs.AttrFormat.{attrs_format, stands_gives}
use Rattle.proposal_core.specs.declared.proposal.Failure.{Failure}
use Rattle.proposal_core.specs.declared.proposal.Proposal.{Proposal}
use Rattle.proposal_core.specs.declared.proposal.Proposal.TheVariants.{Join, Leave, Fail, Expel, State, Message, Attributes, Reflect}
use Rattle.group_codec.specs.declared.proposals.ProposalRef.{ProposalRef}
use Rattle.proposal_core.specs.ProposalCodec.{IsFailure, are_failures, failures_differ, fallen_at, fallen_text, IsFallen, join_at, leave_at, fail_at, expel_at, state_change_at, message_at, attributes_at, reflect_at, proposal_body_at, proposal_at, proposal_kind, proposal_body, proposal_text, IsProposal}
use Rattle.group_codec.specs.InPlace.{proposal_in, proposal_of}

few_failures : (fs : List Failure) → IsTrue (are_failures fs) → length fs ≤ 64
few_failures fs h = leb-true (length fs) 64 (and_true (nat_le 1 (length fs)) (nat_le (length fs) 64) (and_true (nat_le 1 (length fs) && nat_le (length fs) 64) (failures_differ fs) h).0).1

fallen_format : IsFormat fallen_at fallen_text IsFallen
unfolding fallen_at fallen_text
fallen_format =
    fits_format IsFallen (λ fs h. record { few = few_failures fs h.1; are = h.1; each = h.0.1 }) (λ fs h. let few = h.few in ((omega arith, h.each), h.are))
    (guarded_format are_failures (counted_format w8 256 wide8 failure_format))

join_variant : IsVariant proposal_kind proposal_body IsProposal 1 join_at
unfolding join_at
join_variant = made_variant (λ x. Join x.0 x.1.0 x.1.1) (λ b. refl) (λ b h. h) (λ b. refl) (both_format some_providers_format (both_format attrs_format (optional_format u32_format)))

leave_variant : IsVariant proposal_kind proposal_body IsProposal 2 leave_at
unfolding leave_at
leave_variant = made_variant (λ x. Leave x.0 x.1) (λ b. refl) (λ b h. h) (λ b. refl) (both_format provider_format u32_format)

fail_variant : IsVariant proposal_kind proposal_body IsProposal 3 fail_at
unfolding fail_at
fail_variant = made_variant Fail (λ b. refl) (λ b h. h) (λ b. refl) fallen_format

expel_variant : IsVariant proposal_kind proposal_body IsProposal 4 expel_at
unfolding expel_at
expel_variant = made_variant (λ x. Expel x.0 x.1.0 x.1.1) (λ b. refl) (λ b h. h) (λ b. refl) (both_format provider_format (both_format u32_format some_providers_format))

state_change_variant : IsVariant proposal_kind proposal_body IsProposal 5 state_change_at
unfolding state_change_at
state_change_variant = made_variant (λ x. State x.0 x.1.0 x.1.1) (λ b. refl) (λ b h. h) (λ b. refl) (both_format provider_format (both_format u32_format bytes_format))

message_variant : IsVariant proposal_kind proposal_body IsProposal 6 message_at
unfolding message_at
message_variant = made_variant (λ x. Message x.0 x.1.0 x.1.1) (λ b. refl) (λ b h. h) (λ b. refl) (both_format provider_format (both_format u32_format bytes_format))

attributes_variant : IsVariant proposal_kind proposal_body IsProposal 7 attributes_at
unfolding attributes_at
attributes_variant = made_variant (λ x. Attributes x.0 x.1.0 x.1.1) (λ b. refl) (λ b h. h) (λ b. refl) (both_format provider_format (both_format u32_format attrs_format))

reflect_variant : IsVariant proposal_kind proposal_body IsProposal 8 reflect_at
unfolding reflect_at
reflect_variant = made_variant (λ x. Reflect x.0 x.1.0 x.1.1) (λ b. refl) (λ b h. h) (λ b. refl) (both_format view_format (both_format u32_format bytes_format))

proposal_variant : (k : ℕ) → IsVariant proposal_kind proposal_body IsProposal k (proposal_body_at k)
proposal_variant k =
    or_variant 1 k join_variant
    (or_variant 2 k leave_variant
    (or_variant 3 k fail_variant
    (or_variant 4 k expel_variant
    (or_variant 5 k state_change_variant (or_variant 6 k message_variant (or_variant 7 k attributes_variant (or_variant 8 k reflect_variant no_variant)))))))

proposal_again : (x : Proposal) (rest : List ℕ) → IsProposal x → proposal_body_at (proposal_kind x) (proposal_body x ++ rest) ≡ Some (x, rest)
unfolding join_at leave_at fail_at expel_at state_change_at message_at attributes_at reflect_at
proposal_again (Join ps attrs n) rest h = rw ((both_format some_providers_format (both_format attrs_format (optional_format u32_format))).again (ps, (attrs, n)) rest h) refl
proposal_again (Leave p r) rest h = rw ((both_format provider_format u32_format).again (p, r) rest h) refl
proposal_again (Fail out) rest h = rw (fallen_format.again out rest h) refl
proposal_again (Expel p r out) rest h = rw ((both_format provider_format (both_format u32_format some_providers_format)).again (p, (r, out)) rest h) refl
proposal_again (State p r value) rest h = rw ((both_format provider_format (both_format u32_format bytes_format)).again (p, (r, value)) rest h) refl
proposal_again (Message p r bytes) rest h = rw ((both_format provider_format (both_format u32_format bytes_format)).again (p, (r, bytes)) rest h) refl
proposal_again (Attributes p r attrs) rest h = rw ((both_format provider_format (both_format u32_format attrs_format)).again (p, (r, attrs)) rest h) refl
proposal_again (Reflect view place value) rest h = rw ((both_format view_format (both_format u32_format bytes_format)).again (view, (place, value)) rest h) refl

kind_small : (x : Proposal) → proposal_kind x < 256
kind_small (Join ps attrs n) = omega arith
kind_small (Leave p r) = omega arith
kind_small (Fail out) = omega arith
kind_small (Expel p r out) = omega arith
kind_small (State p r value) = omega arith
kind_small (Message p r bytes) = omega arith
kind_small (Attributes p r attrs) = omega arith
kind_small (Reflect view place value) = omega arith

pub proposal_format : IsFormat proposal_at proposal_text IsProposal
unfolding proposal_at proposal_text
proposal_format = choice_format kind_small (keyed_of proposal_variant proposal_again)

-- The nodes that a spelling names are from 1 to 32.
nodes_in : (ps : List ProviderId) → EachFits IsProvider ps → EachFits (λ p. IsNode p.node) ps
nodes_in [] h = tt
nodes_in (p ∷ ps) h = (h.0.node, nodes_in ps h.1)

pub some_nodes : (ps : List ProviderId) → IsSomeProviders ps → EachFits (λ p. IsNode p.node) ps
some_nodes ps h = nodes_in ps h.are.each

pub members_nodes : (ps : List ProviderId) → IsProviders ps → EachFits (λ p. IsNode p.node) ps
members_nodes ps h = nodes_in ps h.each

fallen_nodes_in : (fs : List Failure) → EachFits IsFailure fs → EachFits (λ f. IsNode f.provider.node) fs
fallen_nodes_in [] h = tt
fallen_nodes_in (f ∷ fs) h = (h.0.node, fallen_nodes_in fs h.1)

pub fallen_nodes : (fs : List Failure) → IsFallen fs → EachFits (λ f. IsNode f.provider.node) fs
fallen_nodes fs h = fallen_nodes_in fs h.each

pub proposal_gives : (result : Option (ProposalRef × Bor (List ℕ))) (read : Option (Proposal × List ℕ)) → option_map (λ x. (proposal_in x.0, x.1.now)) result ≡ read → Gives (proposal_of result) read
proposal_gives result read e = stands_gives proposal_in result read e
