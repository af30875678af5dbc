-- What is read of a packet has the parts of one.
use Rattle.std.proofs.Common.{◌≡◌, ℕ, Bool, true, false, cond, List, [], length, Option, Some, None, refl, sym, subst}
use Rattle.std.specs.Prelude.{IfSome, if◌then◌else◌, ◌==◌}
use Rattle.std.specs.Option.{option_map}
use Rattle.rsct_packet.specs.Lists.{is_empty}
use Rattle.rsct_packet.specs.Reading.{◌>>=◌, both_at, made_at, decoded_at, guarded_at}
use Rattle.rsct_packet.specs.Format.{IsBytes, IsFormat}
use Rattle.rsct_packet.specs.Packet.{PacketView, head_at, packet_at}
use Rattle.rsct_packet.proofs.FormatLaws.{bind_some, then_some, both_format, optional_format, u8_format, u16_format, u32_format}
use Rattle.rsct_packet.proofs.FieldLaws.{bytes_format, provider_format, proto_format}
use Rattle.rsct_packet.proofs.PacketLaws.{head_format}
use Rattle.packet_bodies.specs.declared.body.Death.{Death}
use Rattle.packet_bodies.specs.declared.body.Prepare.{Prepare}
use Rattle.packet_bodies.specs.declared.body.Refuse.{Refuse}
use Rattle.packet_bodies.specs.declared.body.Leader.{Leader}
use Rattle.packet_bodies.specs.declared.body.Ack.{Ack}
use Rattle.packet_bodies.specs.declared.body.Gone.{Gone}
use Rattle.packet_bodies.specs.declared.body.Query.{Query}
use Rattle.packet_bodies.specs.Group.{GroupIn, ReplyIn, reply_at}
use Rattle.packet_bodies.specs.Body.{whole_of}
use Rattle.packet_bodies.proofs.BodyLaws.{group_format, leader_format, ack_format, gone_format}
use Rattle.group_codec.proofs.AttrFormat.{phases_format}
use Rattle.group_codec.proofs.ProposalFormat.{proposal_format}
use Rattle.group_codec.proofs.EntryFormat.{entry_format}
use Rattle.adapter_ring.specs.declared.packet.RingPacket.TheVariants as ring
use Rattle.view_state.specs.declared.packet.ViewPacket.TheVariants as view
use Rattle.node_state.specs.declared.packet.Body.{Body}
use Rattle.node_state.specs.declared.packet.Body.TheVariants as body
use Rattle.node_state.specs.declared.packet.Packet.{Packet}
use Rattle.node_state.specs.Bodies.{is_request, request_of_parts, request_at, tell_of_parts, tell_at, entry_of_parts, entry_at, vote_of, vote_of_parts, vote_at, ring_body, ring_mask_body, body_front_at, body_at}
use Rattle.node_state.specs.Bytes.{with_body, packet_of}
use Rattle.node_state.specs.Bytes as spelling
use Rattle.packet_codec.specs.declared.packet.PacketRef.{PacketRef}
use Rattle.packet_codec.specs.InPlace.{packet_in}
use Rattle.node_core.specs.Parts.{HasParts}

-- what a reader reads fits, and what it leaves are bytes
record Finds {A : Type 0} (fits : A → Type 0) (read : List ℕ → Option (A × List ℕ)) : Type 0 where
  found : (bytes : List ℕ) (x : A × List ℕ) → IsBytes bytes → read bytes ≡ Some x → fits x.0 × IsBytes x.1

-- what it reads fits
record Reads {A : Type 0} (fits : A → Type 0) (read : List ℕ → Option (A × List ℕ)) : Type 0 where
  read_fits : (bytes : List ℕ) (x : A × List ℕ) → IsBytes bytes → read bytes ≡ Some x → fits x.0

of_format : {A : Type 0} {f : List ℕ → Option (A × List ℕ)} {tf : A → List ℕ} {ff : A → Type 0} → IsFormat f tf ff → Finds ff f
of_format format = record { found = λ bytes x h e. let p = format.found bytes x h e in (p.1, p.0.rest_fits) }

both_find : {A B : Type 0} {f : List ℕ → Option (A × List ℕ)} {ff : A → Type 0} {g : List ℕ → Option (B × List ℕ)} {fg : B → Type 0} → Finds ff f → Finds fg g → Finds (λ x. ff x.0 × fg x.1) (both_at f g)
both_find {A = A} {B = B} {f = f} {ff = ff} {g = g} {fg = fg} first second = record {
  found = λ bytes x h e.
      let a = bind_some (f bytes) (λ a. g a.1 >>= λ b. Some ((a.0, b.0), b.1)) x e in
      let b = bind_some (g a.0.1) (λ b. Some ((a.0.0, b.0), b.1)) x a.2 in
      let p = first.found bytes a.0 h a.1 in
      let q = second.found a.0.1 b.0 p.1 b.1 in
      let is : ◌≡◌ {A = (A × B) × List ℕ} ((a.0.0, b.0.0), b.0.1) x = cc in
      subst (λ (y : (A × B) × List ℕ). (ff y.0.0 × fg y.0.1) × IsBytes y.1) is ((p.0, q.0), q.1);
}

decoded_find : {A B : Type 0} {f : List ℕ → Option (A × List ℕ)} {ff : A → Type 0} (decode : A → Option B) → Finds ff f → Finds (λ b. Unit {0}) (decoded_at decode f)
decoded_find {B = B} {f = f} decode first = record {
  found = λ bytes x h e.
      let a = bind_some (f bytes) (λ a. decode a.0 >>= λ b. Some (b, a.1)) x e in
      let b = bind_some (decode a.0.0) (λ b. Some (b, a.0.1)) x a.2 in
      let p = first.found bytes a.0 h a.1 in
      let is : ◌≡◌ {A = B × List ℕ} (b.0, a.0.1) x = cc in (tt, subst (λ (y : B × List ℕ). IsBytes y.1) is p.1);
}

made_reads : {A B : Type 0} {f : List ℕ → Option (A × List ℕ)} {ff : A → Type 0} {fits : B → Type 0} (make : A → B) → ((a : A) → ff a → fits (make a)) → Finds ff f → Reads fits (made_at make f)
made_reads {B = B} {f = f} {fits = fits} make fit first = record {
  read_fits = λ bytes x h e.
      let a = bind_some (f bytes) (λ a. Some (make a.0, a.1)) x e in
      let p = first.found bytes a.0 h a.1 in
      let is : ◌≡◌ {A = B × List ℕ} (make a.0.0, a.0.1) x = cc in subst (λ (y : B × List ℕ). fits y.0) is (fit a.0.0 p.0);
}

plain_reads : {A B : Type 0} {fits : B → Type 0} (f : List ℕ → Option (A × List ℕ)) (make : A → B) → ((a : A) → fits (make a)) → Reads fits (made_at make f)
plain_reads {B = B} {fits = fits} f make fit = record {
  read_fits = λ bytes x h e.
      let a = bind_some (f bytes) (λ a. Some (make a.0, a.1)) x e in
      let is : ◌≡◌ {A = B × List ℕ} (make a.0.0, a.0.1) x = cc in subst (λ (y : B × List ℕ). fits y.0) is (fit a.0.0);
}

guarded_reads : {A : Type 0} {f : List ℕ → Option (A × List ℕ)} {fits : A → Type 0} (test : A → Bool) → Reads fits f → Reads fits (guarded_at test f)
guarded_reads {A = A} {f = f} {fits = fits} test first = record {
  read_fits = λ bytes x h e.
      let a = bind_some (f bytes) (λ a. if test a.0 then Some a else None) x e in
      let b = then_some (test a.0.0) a.0 x a.2 in subst (λ (y : A × List ℕ). fits y.0) b.1 (first.read_fits bytes a.0 h a.1);
}

or_reads : {A : Type 0} {fits : A → Type 0} {f g : List ℕ → Option (A × List ℕ)} (b : Bool) → Reads fits f → Reads fits g → Reads fits (λ bytes. if b then f bytes else g bytes)
or_reads true one others = one
or_reads false one others = others

none_reads : {A : Type 0} {fits : A → Type 0} → Reads fits (λ bytes. None)
none_reads = record { read_fits = λ bytes x h e. absurd cc }

body_reads : (k : ℕ) → Reads HasParts (body_front_at k)
unfolding request_at tell_at entry_at vote_at
body_reads k =
    or_reads (k == 1) (plain_reads _ (ring_body ring.Heartbeat) (λ a. tt))
    (or_reads (k == 2) (plain_reads _ (ring_body ring.Proclaim) (λ a. tt))
    (or_reads (k == 3) (plain_reads _ (λ m. body.Ring (ring.Join m)) (λ a. tt))
    (or_reads (k == 4) (plain_reads _ (ring_mask_body ring.Ptc) (λ a. tt))
    (or_reads (k == 5) (plain_reads _ (ring_body ring.PtcAck) (λ a. tt))
    (or_reads (k == 6) (plain_reads _ (ring_mask_body ring.Commit) (λ a. tt))
    (or_reads (k == 7) (plain_reads _ (λ (x : Death). body.Ring (ring.Death x.ring x.node)) (λ a. tt))
    (or_reads (k == 8) (plain_reads _ body.Report (λ a. tt))
    (or_reads (k == 9) (plain_reads _ (λ (x : Prepare). body.View (view.Prepare x.view x.mask)) (λ a. tt))
    (or_reads (k == 10) (plain_reads _ (λ x. body.View (view.Answer x.0 x.1.view x.1.parts)) (λ a. tt))
    (or_reads (k == 11) (plain_reads _ (λ (x : Refuse). body.View (view.Refuse x.view x.number)) (λ a. tt))
    (or_reads (k == 12) (plain_reads _ (λ i. body.View (view.Install i)) (λ a. tt))
    (or_reads (k == 13) (plain_reads _ (λ v. body.View (view.Taken v)) (λ a. tt))
    (or_reads (k == 14) (made_reads (λ (x : GroupIn). body.Lookup x.view x.name) (λ a h. h.name) (of_format group_format))
    (or_reads (k == 15) (made_reads (λ (x : Leader). body.Name x.group.view x.group.name x.leader) (λ a h. h.group.name) (of_format leader_format))
    (or_reads (k == 16) (guarded_reads is_request (made_reads request_of_parts (λ a h. (h.0.name, h.1.1.1.1)) (of_format (both_format group_format (both_format provider_format (both_format u32_format (both_format phases_format proposal_format)))))))
    (or_reads (k == 17) (plain_reads _ tell_of_parts (λ a. tt))
    (or_reads (k == 18) (made_reads entry_of_parts (λ a h. (h.0.name, h.1.1.1)) (of_format (both_format group_format (both_format u32_format (both_format u32_format entry_format)))))
    (or_reads (k == 19) (made_reads (λ (x : Ack). body.Ack x.group.view x.group.name x.len) (λ a h. h.group.name) (of_format ack_format))
    (or_reads (k == 20)
    (made_reads vote_of_parts (λ a h. (h.0.name, h.1.1.1.1.1.0, h.1.1.1.1.1.1))
    (both_find (of_format group_format) (both_find (of_format proto_format) (both_find (of_format u16_format) (both_find (of_format provider_format) (both_find (decoded_find vote_of (of_format u8_format)) (of_format (both_format (optional_format bytes_format) (optional_format bytes_format)))))))))
    (or_reads (k == 21) (made_reads (λ (x : Gone). body.Gone x.group.view x.group.name x.provider) (λ a h. h.group.name) (of_format gone_format))
    (or_reads (k == 22) (plain_reads _ (λ (x : Query). body.Query x.question x.what) (λ a. tt)) none_reads)))))))))))))))))))))

reply_parts : (r : Option ReplyIn) (b : Body) → option_map (λ (x : ReplyIn). body.Reply x.question x.text) r ≡ Some b → HasParts b
reply_parts None b e = absurd cc
reply_parts (Some x) b e = let is : body.Reply x.question x.text ≡ b = cc in subst HasParts is tt

body_parts_if : (t : Bool) (k : ℕ) (bytes : List ℕ) (b : Body) → IsBytes bytes → cond t (option_map (λ (x : ReplyIn). body.Reply x.question x.text) (reply_at bytes)) (whole_of (body_front_at k bytes)) ≡ Some b → HasParts b
body_parts_if true k bytes b h e = reply_parts (reply_at bytes) b e
body_parts_if false k bytes b h e =
    let a = bind_some (body_front_at k bytes) (λ x. if is_empty x.1 then Some x.0 else None) b e in
    let t = then_some (is_empty a.0.1) a.0.0 b a.2 in subst HasParts t.1 ((body_reads k).read_fits bytes a.0 h a.1)

body_parts : (k : ℕ) (bytes : List ℕ) (b : Body) → IsBytes bytes → body_at k bytes ≡ Some b → HasParts b
unfolding body_at
body_parts k bytes b h e = body_parts_if (k == 23) k bytes b h e

-- the body of a packet are bytes, where all of it are
body_bytes : (bytes : List ℕ) (v : PacketView) → IsBytes bytes → packet_at bytes ≡ Some v → IsBytes v.body
unfolding packet_at
body_bytes bytes v h e =
    let a = bind_some (head_at bytes) (λ x. if x.0.0.body_len == length x.1 then Some (record { head = x.0.0.head; level = x.0.0.level; domain = x.0.1; body = x.1 }) else None) v e in
    let w : PacketView = record { head = a.0.0.0.head; level = a.0.0.0.level; domain = a.0.0.1; body = a.0.1 } in
    let t = then_some (a.0.0.0.body_len == length a.0.1) w v a.2 in
    let k = head_format.found bytes a.0 h a.1 in subst (λ (q : PacketView). IsBytes q.body) t.1 k.0.rest_fits

parts_of_body : (v : PacketView) (p : PacketRef) (b : Option Body) → body_at v.head.kind v.body ≡ b → IsBytes v.body → Some (packet_in p) ≡ option_map (with_body v) b → HasParts (packet_in p).body
parts_of_body v p None read h e = absurd cc
parts_of_body v p (Some b) read h e =
    let is : packet_in p ≡ with_body v b = cc in subst (λ (q : Packet). HasParts q.body) (sym is) (body_parts v.head.kind v.body b h read)

parts_by : (bytes : List ℕ) (v : Option PacketView) (r : Option PacketRef) → packet_at bytes ≡ v → IsBytes bytes → option_map packet_in r ≡ spelling.packet_in v → IfSome r (λ p. HasParts (packet_in p).body)
parts_by bytes v None read h e = tt
parts_by bytes None (Some p) read h e = absurd cc
parts_by bytes (Some v) (Some p) read h e = parts_of_body v p (body_at v.head.kind v.body) refl (body_bytes bytes v h read) e

-- a packet that was read off bytes has the parts of one
pub read_parts : (bytes : List ℕ) (r : Option PacketRef) → IsBytes bytes → option_map packet_in r ≡ packet_of bytes → IfSome r (λ p. HasParts (packet_in p).body)
unfolding packet_of
read_parts bytes r h e = parts_by bytes (packet_at bytes) r refl h e
