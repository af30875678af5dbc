-- How proposals are spelled.
use Rattle.std.specs.Prelude.{ℕ, ◌≤◌, Bool, true, not, ◌==◌, ◌&&◌, nat_le, IsTrue, List, [], ◌∷◌, ◌++◌, length, Option, Some, None, if◌then◌else◌}
use Rattle.std.specs.Int.{w8, w32}
use Rattle.std.specs.List.{list_any}
use Rattle.rsct_packet.specs.declared.ids.ProviderId.{ProviderId}
use Rattle.rsct_packet.specs.Providers.{same_provider}
use Rattle.rsct_packet.specs.Reading.{number_at, both_at, made_at, decoded_at, guarded_at, keyed_at, counted_at, optional_at}
use Rattle.rsct_packet.specs.Format.{EachFits, OptionFits, counted_text, optional_text}
use Rattle.rsct_packet.specs.Fields.{u8_text, u32_text, bytes_at, bytes_text, AreShort, IsU32, view_at, view_text, IsView, provider_at, provider_text, IsProvider, some_providers_at, providers_text, IsSomeProviders}
use Rattle.group_attr.specs.Codec.{attrs_at, attrs_text, IsAttrs}
use Rattle.proposal_core.specs.declared.proposal.Cause.{Cause}
use Rattle.proposal_core.specs.declared.proposal.Cause.TheVariants.{Died, Gone, Cast}
use Rattle.proposal_core.specs.declared.proposal.Failure.{Failure}
use Rattle.proposal_core.specs.declared.proposal.Proposal.{Proposal}
use Rattle.proposal_core.specs.declared.proposal.Proposal.TheVariants.{Join, Leave, Fail, Expel, State, Message, Attributes, Reflect}

-- causes: 1 died, 2 gone, 3 cast

abbrev pub cause_number : Cause → ℕ
cause_number Died = 1
cause_number Gone = 2
cause_number Cast = 3

abbrev pub cause_of : ℕ → Option Cause
cause_of n = if n == 1 then Some Died else if n == 2 then Some Gone else if n == 3 then Some Cast else None

unfoldable pub cause_at : List ℕ → Option (Cause × List ℕ)
cause_at bytes = decoded_at cause_of (number_at w8) bytes

-- whom a failure leave removes: 1 to 64 pairs of provider and cause that differ

abbrev pub failure_of_parts : ProviderId × Cause → Failure
failure_of_parts p = record { provider = p.0; cause = p.1 }

abbrev pub failure_at : List ℕ → Option (Failure × List ℕ)
failure_at bytes = made_at failure_of_parts (both_at provider_at cause_at) bytes

abbrev pub failure_text : Failure → List ℕ
failure_text f = provider_text f.provider ++ u8_text (cause_number f.cause)

abbrev pub IsFailure : Failure → Type 0
IsFailure f = IsProvider f.provider

abbrev pub same_failure : Failure → Failure → Bool
same_failure a b = same_provider a.provider b.provider && (cause_number a.cause == cause_number b.cause)

abbrev pub failures_differ : List Failure → Bool
failures_differ [] = true
failures_differ (f ∷ fs) = not (list_any (λ g. same_failure g f) fs) && failures_differ fs

abbrev pub are_failures : List Failure → Bool
are_failures fs = nat_le 1 (length fs) && nat_le (length fs) 64 && failures_differ fs

unfoldable pub fallen_at : List ℕ → Option (List Failure × List ℕ)
fallen_at bytes = guarded_at are_failures (counted_at w8 failure_at) bytes

unfoldable pub fallen_text : List Failure → List ℕ
fallen_text fs = counted_text w8 failure_text fs

pub record IsFallen (fs : List Failure) : Type 0 where
  pub few : length fs ≤ 64
  pub are : IsTrue (are_failures fs)
  pub each : EachFits IsFailure fs

-- what each kind has behind its byte

unfoldable pub join_at : List ℕ → Option (Proposal × List ℕ)
join_at bytes = made_at (λ x. Join x.0 x.1.0 x.1.1) (both_at some_providers_at (both_at attrs_at (optional_at (number_at w32)))) bytes

unfoldable pub leave_at : List ℕ → Option (Proposal × List ℕ)
leave_at bytes = made_at (λ x. Leave x.0 x.1) (both_at provider_at (number_at w32)) bytes

unfoldable pub fail_at : List ℕ → Option (Proposal × List ℕ)
fail_at bytes = made_at Fail fallen_at bytes

unfoldable pub expel_at : List ℕ → Option (Proposal × List ℕ)
expel_at bytes = made_at (λ x. Expel x.0 x.1.0 x.1.1) (both_at provider_at (both_at (number_at w32) some_providers_at)) bytes

unfoldable pub state_change_at : List ℕ → Option (Proposal × List ℕ)
state_change_at bytes = made_at (λ x. State x.0 x.1.0 x.1.1) (both_at provider_at (both_at (number_at w32) bytes_at)) bytes

unfoldable pub message_at : List ℕ → Option (Proposal × List ℕ)
message_at bytes = made_at (λ x. Message x.0 x.1.0 x.1.1) (both_at provider_at (both_at (number_at w32) bytes_at)) bytes

unfoldable pub attributes_at : List ℕ → Option (Proposal × List ℕ)
attributes_at bytes = made_at (λ x. Attributes x.0 x.1.0 x.1.1) (both_at provider_at (both_at (number_at w32) attrs_at)) bytes

unfoldable pub reflect_at : List ℕ → Option (Proposal × List ℕ)
reflect_at bytes = made_at (λ x. Reflect x.0 x.1.0 x.1.1) (both_at view_at (both_at (number_at w32) bytes_at)) bytes

abbrev pub proposal_body_at : ℕ → List ℕ → Option (Proposal × List ℕ)
proposal_body_at k bytes =
    if k == 1 then join_at bytes
    else if k == 2 then leave_at bytes
    else if k == 3 then fail_at bytes
    else if k == 4 then expel_at bytes
    else if k == 5 then state_change_at bytes
    else if k == 6 then message_at bytes
    else if k == 7 then attributes_at bytes
    else if k == 8 then reflect_at bytes
    else None

unfoldable pub proposal_at : List ℕ → Option (Proposal × List ℕ)
proposal_at bytes = keyed_at (number_at w8) proposal_body_at bytes

abbrev pub proposal_kind : Proposal → ℕ
proposal_kind (Join ps attrs n) = 1
proposal_kind (Leave p r) = 2
proposal_kind (Fail out) = 3
proposal_kind (Expel p r out) = 4
proposal_kind (State p r value) = 5
proposal_kind (Message p r bytes) = 6
proposal_kind (Attributes p r attrs) = 7
proposal_kind (Reflect view place value) = 8

abbrev pub proposal_body : Proposal → List ℕ
proposal_body (Join ps attrs n) = providers_text ps ++ (attrs_text attrs ++ optional_text u32_text n)
proposal_body (Leave p r) = provider_text p ++ u32_text r
proposal_body (Fail out) = fallen_text out
proposal_body (Expel p r out) = provider_text p ++ (u32_text r ++ providers_text out)
proposal_body (State p r value) = provider_text p ++ (u32_text r ++ bytes_text value)
proposal_body (Message p r bytes) = provider_text p ++ (u32_text r ++ bytes_text bytes)
proposal_body (Attributes p r attrs) = provider_text p ++ (u32_text r ++ attrs_text attrs)
proposal_body (Reflect view place value) = view_text view ++ (u32_text place ++ bytes_text value)

unfoldable pub proposal_text : Proposal → List ℕ
proposal_text x = u8_text (proposal_kind x) ++ proposal_body x

-- proposals that have a spelling
abbrev pub IsProposal : Proposal → Type 0
IsProposal (Join ps attrs n) = IsSomeProviders ps × (IsAttrs attrs × OptionFits IsU32 n)
IsProposal (Leave p r) = IsProvider p × IsU32 r
IsProposal (Fail out) = IsFallen out
IsProposal (Expel p r out) = IsProvider p × (IsU32 r × IsSomeProviders out)
IsProposal (State p r value) = IsProvider p × (IsU32 r × AreShort value)
IsProposal (Message p r bytes) = IsProvider p × (IsU32 r × AreShort bytes)
IsProposal (Attributes p r attrs) = IsProvider p × (IsU32 r × IsAttrs attrs)
IsProposal (Reflect view place value) = IsView view × (IsU32 place × AreShort value)
