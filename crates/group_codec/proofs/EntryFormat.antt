-- What is read as an entry is spelled so, and what is spelled so is read.
use Rattle.std.proofs.Common.{◌≡◌, ℕ, ◌<◌, List, [], ◌∷◌, ◌++◌, Option, Some, None, refl, sym, ap, ◌∙◌, arith}
use Rattle.std.specs.Prelude.{is_none, IfSome}
use Rattle.std.specs.Int.{w8}
use Rattle.std.proofs.lemmas.List.{append-nil}
use Rattle.rsct_packet.specs.Format.{IsFormat, IsVariant, IsBytes, EachFits}
use Rattle.rsct_packet.specs.Fields.{IsNode}
use Rattle.rsct_packet.proofs.FormatLaws.{both_format, made_format, guarded_format, fits_format, counted_format, optional_format, keyed_of, choice_format, or_variant, no_variant, made_variant, wide8, u16_format}
use Rattle.rsct_packet.proofs.FieldLaws.{bytes_format, proto_format, some_providers_format}
use Rattle.proposal_core.proofs.RowFormat.{row_format}
use Rattle.proposal_core.specs.declared.entry.Row.{Row}
use Rattle.proposal_core.specs.declared.entry.Closed.{Closed}
use Rattle.proposal_core.specs.declared.entry.Entry.{Entry}
use Rattle.proposal_core.specs.declared.entry.Entry.TheVariants.{Once, Begin, Phase, Approve, Reject, Late}
use Rattle.group_codec.proofs.ProposalFormat.{proposal_format}
use Rattle.proposal_core.specs.EntryCodec.{IsRow, closed_of_parts, closed_at, closed_text, IsClosed, once_at, begin_at, phase_at, approve_at, reject_at, late_at, entry_body_at, entry_front_at, entry_kind, entry_body, entry_text, IsEntry, whole}

closed_format : IsFormat closed_at closed_text IsClosed
unfolding closed_at closed_text
closed_format =
    fits_format IsClosed (λ c h. record { proto = h.0; phase = h.1.0; few = h.1.1.0.0; rows = h.1.1.0.1; value = h.1.1.1.0; message = h.1.1.1.1 }) (λ c h. (h.proto, (h.phase, ((h.few, h.rows), (h.value, h.message)))))
    (made_format closed_of_parts (λ c. (c.proto, (c.phase, (c.rows, (c.value, c.message)))))
    (λ a. refl)
    (λ b. refl)
    (both_format proto_format (both_format u16_format (both_format (counted_format w8 256 wide8 row_format) (both_format (optional_format bytes_format) (optional_format bytes_format))))))

once_variant : IsVariant entry_kind entry_body IsEntry 1 once_at
unfolding once_at
once_variant = made_variant Once (λ b. refl) (λ b h. h) (λ b. refl) proposal_format

begin_variant : IsVariant entry_kind entry_body IsEntry 2 begin_at
unfolding begin_at
begin_variant = made_variant Begin (λ b. refl) (λ b h. h) (λ b. refl) proposal_format

phase_variant : IsVariant entry_kind entry_body IsEntry 3 phase_at
unfolding phase_at
phase_variant = made_variant Phase (λ b. refl) (λ b h. h) (λ b. refl) closed_format

approve_variant : IsVariant entry_kind entry_body IsEntry 4 approve_at
unfolding approve_at
approve_variant = made_variant Approve (λ b. refl) (λ b h. h) (λ b. refl) closed_format

reject_variant : IsVariant entry_kind entry_body IsEntry 5 reject_at
unfolding reject_at
reject_variant = made_variant Reject (λ b. refl) (λ b h. h) (λ b. refl) (guarded_format (λ c. is_none c.value) closed_format)

late_variant : IsVariant entry_kind entry_body IsEntry 6 late_at
unfolding late_at
late_variant = made_variant (λ x. Late x.0 x.1.0 x.1.1) (λ b. refl) (λ b h. h) (λ b. refl) (both_format proto_format (both_format u16_format some_providers_format))

entry_variant : (k : ℕ) → IsVariant entry_kind entry_body IsEntry k (entry_body_at k)
entry_variant k =
    or_variant 1 k once_variant
    (or_variant 2 k begin_variant (or_variant 3 k phase_variant (or_variant 4 k approve_variant (or_variant 5 k reject_variant (or_variant 6 k late_variant no_variant)))))

entry_again : (x : Entry) (rest : List ℕ) → IsEntry x → entry_body_at (entry_kind x) (entry_body x ++ rest) ≡ Some (x, rest)
unfolding once_at begin_at phase_at approve_at reject_at late_at
entry_again (Once x) rest h = rw (proposal_format.again x rest h) refl
entry_again (Begin x) rest h = rw (proposal_format.again x rest h) refl
entry_again (Phase c) rest h = rw (closed_format.again c rest h) refl
entry_again (Approve c) rest h = rw (closed_format.again c rest h) refl
entry_again (Reject c) rest h = rw ((guarded_format (λ (c : Closed). is_none c.value) closed_format).again c rest h) refl
entry_again (Late proto phase ps) rest h = rw ((both_format proto_format (both_format u16_format some_providers_format)).again (proto, (phase, ps)) rest h) refl

kind_small : (x : Entry) → entry_kind x < 256
kind_small (Once x) = omega arith
kind_small (Begin x) = omega arith
kind_small (Phase c) = omega arith
kind_small (Approve c) = omega arith
kind_small (Reject c) = omega arith
kind_small (Late proto phase ps) = omega arith

pub entry_format : IsFormat entry_front_at entry_text IsEntry
unfolding entry_front_at entry_text
entry_format = choice_format kind_small (keyed_of entry_variant entry_again)

-- a reader of all of the bytes
whole_some : {A : Type 0} (r : Option (A × List ℕ)) (x : A) → whole r ≡ Some x → r ≡ Some (x, [])
whole_some None x e = absurd cc
whole_some (Some (y, [])) x e = let h : y ≡ x = cc in ap (λ z. Some (z, [])) h
whole_some (Some (y, b ∷ rest)) x e = absurd cc

found_whole : (bytes : List ℕ) (result : Option Entry) → IsBytes bytes → result ≡ whole (entry_front_at bytes) → IfSome result (λ e. IsEntry e × (bytes ≡ entry_text e))
found_whole bytes None h e = tt
found_whole bytes (Some x) h e =
    let p = entry_format.found bytes (x, []) h (whole_some _ x (sym e)) in
    (p.1, p.0.parts ∙ append-nil (entry_text x))

pub entry_found : (bytes : List ℕ) (result : Option Entry) → IsBytes bytes → result ≡ whole (entry_front_at bytes) → IfSome result (λ e. IsEntry e × (bytes ≡ entry_text e))
entry_found bytes result h e = found_whole bytes result h e

pub entry_only : (bytes : List ℕ) (result : Option Entry) (x : Entry) → result ≡ whole (entry_front_at bytes) → IsEntry x → bytes ≡ entry_text x → result ≡ Some x
entry_only bytes result x e h is =
    e
    ∙ ap (λ (b : List ℕ). whole (entry_front_at b)) (is ∙ sym (append-nil (entry_text x)))
    ∙ ap whole (entry_format.again x [] h)

row_nodes_in : (rows : List Row) → EachFits IsRow rows → EachFits (λ r. IsNode r.provider.node) rows
row_nodes_in [] h = tt
row_nodes_in (r ∷ rows) h = (h.0.node, row_nodes_in rows h.1)

pub row_nodes : (c : Closed) → IsClosed c → EachFits (λ r. IsNode r.provider.node) c.rows
row_nodes c h = row_nodes_in c.rows h.rows
