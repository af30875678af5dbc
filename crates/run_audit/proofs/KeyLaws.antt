-- Keys are the same where they say the same.
use Rattle.std.proofs.Common.{◌≡◌, ℕ, Bool, true, false, refl, ◌∙◌, ap, arith}
use Rattle.std.specs.Prelude.{◌==◌, ◌&&◌}
use Rattle.std.proofs.lemmas.Bool.Decides.{nat_tests}
use Rattle.rsct_packet.specs.declared.ids.ProtoId.{ProtoId}
use Rattle.rsct_packet.specs.declared.ids.ProviderId.{ProviderId}
use Rattle.rsct_packet.specs.declared.ids.ViewId.{ViewId}
use Rattle.rsct_packet.specs.Ids.{same_view, same_proto}
use Rattle.rsct_packet.specs.Providers.{same_provider}
use Rattle.word_laws.proofs.ValueLaws.{and_parts}
use Rattle.run_audit.specs.declared.keys.CastKey.{CastKey}
use Rattle.run_audit.specs.declared.keys.ProviderKey.{ProviderKey}
use Rattle.run_audit.specs.declared.keys.ViewKey.{ViewKey}
use Rattle.run_audit.specs.Keys.{view_key, same_view_key, provider_key, same_provider_key, cast_key, same_cast_key}

pub equal : (a b : ℕ) → (a == b) ≡ true → a ≡ b
equal a b e = grind (arith, nat_tests)

pub and_moved : (a b c : Bool) → (a && (b && c)) ≡ (a && b && c)
and_moved true b c = refl
and_moved false b c = refl

-- ---- the same as the ids

pub view_words : (u v : ViewId) → same_view_key (view_key u) (view_key v) ≡ same_view u v
view_words u v = and_moved (u.number == v.number) (u.coord == v.coord) (u.inc == v.inc)

four : (a b c d : Bool) → (a && (b && (c && d))) ≡ (a && b && c && d)
four true true c d = refl
four true false c d = refl
four false b c d = refl

pub provider_words : (p q : ProviderId) → same_provider_key (provider_key p) (provider_key q) ≡ same_provider p q
provider_words p q = four (p.node == q.node) (p.inc == q.inc) (p.instance == q.instance) (p.join == q.join)

pub cast_words : (p q : ProviderId) (o r : ProtoId) (j k : ℕ) → same_cast_key (cast_key p o j) (cast_key q r k) ≡ (same_provider p q && (same_proto o r && j == k))
cast_words p q o r j k =
    (λ i. provider_words p q i && (view_words o.view r.view i && ((o.place == r.place) && (j == k))))
    ∙ ap (λ z. same_provider p q && z) (and_moved (same_view o.view r.view) (o.place == r.place) (j == k))

-- ---- the same are equal

pub view_key_same : (a b : ViewKey) → same_view_key a b ≡ true → a ≡ b
view_key_same a b e =
    let p = and_parts (a.number == b.number) ((a.coord == b.coord) && (a.inc == b.inc)) e in
    let q = and_parts (a.coord == b.coord) (a.inc == b.inc) p.1 in
    λ i. record { number = equal a.number b.number p.0 i; coord = equal a.coord b.coord q.0 i; inc = equal a.inc b.inc q.1 i }

pub provider_key_same : (a b : ProviderKey) → same_provider_key a b ≡ true → a ≡ b
provider_key_same a b e =
    let p = and_parts (a.node == b.node) ((a.inc == b.inc) && ((a.instance == b.instance) && (a.join == b.join))) e in
    let q = and_parts (a.inc == b.inc) ((a.instance == b.instance) && (a.join == b.join)) p.1 in
    let r = and_parts (a.instance == b.instance) (a.join == b.join) q.1 in
    λ i. record { node = equal a.node b.node p.0 i; inc = equal a.inc b.inc q.0 i; instance = equal a.instance b.instance r.0 i; join = equal a.join b.join r.1 i }

pub cast_key_same : (a b : CastKey) → same_cast_key a b ≡ true → a ≡ b
cast_key_same a b e =
    let p = and_parts (same_provider_key a.provider b.provider) (same_view_key a.view b.view && ((a.place == b.place) && (a.phase == b.phase))) e in
    let q = and_parts (same_view_key a.view b.view) ((a.place == b.place) && (a.phase == b.phase)) p.1 in
    let r = and_parts (a.place == b.place) (a.phase == b.phase) q.1 in
    λ i. record { provider = provider_key_same a.provider b.provider p.0 i; view = view_key_same a.view b.view q.0 i; place = equal a.place b.place r.0 i; phase = equal a.phase b.phase r.1 i }

-- ---- ids

pub view_same : (u v : ViewId) → same_view u v ≡ true → u ≡ v
view_same u v e =
    let p = and_parts (u.number == v.number && u.coord == v.coord) (u.inc == v.inc) e in
    let q = and_parts (u.number == v.number) (u.coord == v.coord) p.0 in
    λ i. record { number = equal u.number v.number q.0 i; coord = equal u.coord v.coord q.1 i; inc = equal u.inc v.inc p.1 i }

pub provider_same : (p q : ProviderId) → same_provider p q ≡ true → p ≡ q
provider_same p q e =
    let a = and_parts (p.node == q.node && p.inc == q.inc && p.instance == q.instance) (p.join == q.join) e in
    let b = and_parts (p.node == q.node && p.inc == q.inc) (p.instance == q.instance) a.0 in
    let c = and_parts (p.node == q.node) (p.inc == q.inc) b.0 in
    λ i. record { node = equal p.node q.node c.0 i; inc = equal p.inc q.inc c.1 i; instance = equal p.instance q.instance b.1 i; join = equal p.join q.join a.1 i }

pub proto_same : (o r : ProtoId) → same_proto o r ≡ true → o ≡ r
proto_same o r e =
    let p = and_parts (same_view o.view r.view) (o.place == r.place) e in
    λ i. record { view = view_same o.view r.view p.0 i; place = equal o.place r.place p.1 i }
