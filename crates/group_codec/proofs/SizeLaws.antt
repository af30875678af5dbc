-- The length of a spelling.
use Rattle.std.proofs.Common.{◌≡◌, ℕ, ◌+◌, ◌*◌, List, [], ◌∷◌, length, Option, Some, None, refl, arith, length-append}
use Rattle.std.specs.Prelude.{flat_map}
use Rattle.std.specs.Int.{w8}
use Rattle.rsct_packet.specs.declared.ids.ProviderId.{ProviderId}
use Rattle.rsct_packet.specs.declared.ids.ViewId.{ViewId}
use Rattle.rsct_packet.specs.declared.ids.ProtoId.{ProtoId}
use Rattle.rsct_packet.specs.Format.{counted_text, optional_text}
use Rattle.rsct_packet.specs.Fields.{u8_text, u16_text, u32_text, bytes_text, view_text, provider_text, proto_text, providers_text}
use Rattle.group_attr.specs.declared.attrs.Attrs.{Attrs}
use Rattle.group_attr.specs.Codec.{attrs_text, source_text}
use Rattle.proposal_core.specs.declared.proposal.Failure.{Failure}
use Rattle.proposal_core.specs.declared.proposal.Proposal.{Proposal}
use Rattle.proposal_core.specs.declared.proposal.Proposal.TheVariants.{Join, Leave, Fail, Expel, State, Message, Attributes, Reflect}
use Rattle.proposal_core.specs.declared.entry.Row.{Row}
use Rattle.proposal_core.specs.declared.entry.Closed.{Closed}
use Rattle.proposal_core.specs.declared.entry.Entry.{Entry}
use Rattle.proposal_core.specs.declared.entry.Entry.TheVariants.{Once, Begin, Phase, Approve, Reject, Late}
use Rattle.proposal_core.specs.ProposalCodec.{failure_text, fallen_text, proposal_text, cause_number}
use Rattle.proposal_core.specs.EntryCodec.{row_text, row_vote_number, closed_text, entry_text}
use Rattle.proposal_core.specs.Sizes.{name_option_len, text_option_len, number_option_len, attrs_len, proposal_len, closed_len, entry_len}

u16_len : (n : ℕ) → length (u16_text n) ≡ 2
unfolding u16_text
u16_len n = refl

u32_len : (n : ℕ) → length (u32_text n) ≡ 4
unfolding u32_text
u32_len n = refl

bytes_len : (b : List ℕ) → length (bytes_text b) ≡ 2 + length b
unfolding bytes_text
bytes_len b = omega (arith, length-append (u16_text (length b)) b, u16_len (length b))

view_len : (v : ViewId) → length (view_text v) ≡ 9
unfolding view_text
view_len v = simp length-append (omega (arith, u32_len v.number, u32_len v.inc))

provider_len : (p : ProviderId) → length (provider_text p) ≡ 11
unfolding provider_text
provider_len p = simp length-append (omega (arith, u32_len p.inc, u16_len p.instance, u32_len p.join))

proto_len : (p : ProtoId) → length (proto_text p) ≡ 13
unfolding proto_text
proto_len p = simp length-append (omega (arith, view_len p.view, u32_len p.place))

-- items of one length
many_len : {A : Type 0} (text : A → List ℕ) (n : ℕ) → ((x : A) → length (text x) ≡ n) → (xs : List A) → length (flat_map text xs) ≡ n * length xs
many_len text n one [] = omega arith
many_len text n one (x ∷ xs) = let h = many_len text n one xs in let k = one x in simp length-append (omega (arith, h, k))

providers_len : (ps : List ProviderId) → length (providers_text ps) ≡ 1 + 11 * length ps
unfolding providers_text
providers_len ps = let h = many_len provider_text 11 provider_len ps in omega arith

failure_len : (f : Failure) → length (failure_text f) ≡ 12
failure_len f = omega (arith, length-append (provider_text f.provider) (u8_text (cause_number f.cause)), provider_len f.provider)

fallen_len : (fs : List Failure) → length (fallen_text fs) ≡ 1 + 12 * length fs
unfolding fallen_text
fallen_len fs = let h = many_len failure_text 12 failure_len fs in omega arith

row_len : (r : Row) → length (row_text r) ≡ 12
row_len r = omega (arith, length-append (provider_text r.provider) (u8_text (row_vote_number r.vote)), provider_len r.provider)

rows_len : (rs : List Row) → length (counted_text w8 row_text rs) ≡ 1 + 12 * length rs
rows_len rs = let h = many_len row_text 12 row_len rs in omega arith

number_option_length : (n : Option ℕ) → length (optional_text u32_text n) ≡ number_option_len n
unfolding number_option_len
number_option_length None = refl
number_option_length (Some n) = omega (arith, u32_len n)

text_option_length : (t : Option (List ℕ)) → length (optional_text bytes_text t) ≡ text_option_len t
unfolding text_option_len
text_option_length None = refl
text_option_length (Some b) = omega (arith, bytes_len b)

source_length : (s : Option (List ℕ)) → length (source_text s) ≡ name_option_len s
unfolding source_text name_option_len
source_length None = refl
source_length (Some name) = omega arith

attrs_length : (a : Attrs) → length (attrs_text a) ≡ attrs_len a
unfolding attrs_text attrs_len
attrs_length a = simp length-append (omega (arith, u16_len a.limit, u16_len a.source_limit, source_length a.source))

proposal_length : (x : Proposal) → length (proposal_text x) ≡ proposal_len x
unfolding proposal_text proposal_len
proposal_length (Join ps attrs n) = simp length-append (omega (arith, providers_len ps, attrs_length attrs, number_option_length n))
proposal_length (Leave p r) = simp length-append (omega (arith, provider_len p, u32_len r))
proposal_length (Fail out) = simp length-append (omega (arith, fallen_len out))
proposal_length (Expel p r out) = simp length-append (omega (arith, provider_len p, u32_len r, providers_len out))
proposal_length (State p r value) = simp length-append (omega (arith, provider_len p, u32_len r, bytes_len value))
proposal_length (Message p r bytes) = simp length-append (omega (arith, provider_len p, u32_len r, bytes_len bytes))
proposal_length (Attributes p r attrs) = simp length-append (omega (arith, provider_len p, u32_len r, attrs_length attrs))
proposal_length (Reflect view place value) = simp length-append (omega (arith, view_len view, u32_len place, bytes_len value))

closed_length : (c : Closed) → length (closed_text c) + 1 ≡ closed_len c
unfolding closed_text closed_len
closed_length c = simp length-append (omega (arith, proto_len c.proto, u16_len c.phase, rows_len c.rows, text_option_length c.value, text_option_length c.message))

pub entry_length : (e : Entry) → length (entry_text e) ≡ entry_len e
unfolding entry_text entry_len
entry_length (Once x) = simp length-append (omega (arith, proposal_length x))
entry_length (Begin x) = simp length-append (omega (arith, proposal_length x))
entry_length (Phase c) = simp length-append (omega (arith, closed_length c))
entry_length (Approve c) = simp length-append (omega (arith, closed_length c))
entry_length (Reject c) = simp length-append (omega (arith, closed_length c))
entry_length (Late proto phase ps) = simp length-append (omega (arith, proto_len proto, u16_len phase, providers_len ps))
