-- The bodies of packets, but for those that carry a group's proposals and entries. A body is used up to its end.
use Rattle.std.specs.Prelude.{◌≡◌, ℕ, ◌≤◌, Bool, ◌==◌, List, ◌++◌, length, map, Option, Some, None, if◌then◌else◌, IsTrue}
use Rattle.std.specs.Int.{w8, w32}
use Rattle.rsct_packet.specs.declared.ids.ProviderId.{ProviderId}
use Rattle.rsct_packet.specs.declared.ids.ViewId.{ViewId}
use Rattle.rsct_packet.specs.declared.ids.RingId.{RingId}
use Rattle.rsct_packet.specs.declared.mask.Mask.{Mask}
use Rattle.packet_bodies.specs.declared.body.RingMask.{RingMask}
use Rattle.packet_bodies.specs.declared.body.Death.{Death}
use Rattle.packet_bodies.specs.declared.body.ReportRow.{ReportRow}
use Rattle.packet_bodies.specs.declared.body.Prepare.{Prepare}
use Rattle.packet_bodies.specs.declared.body.Refuse.{Refuse}
use Rattle.packet_bodies.specs.declared.body.Leader.{Leader}
use Rattle.packet_bodies.specs.declared.body.Ack.{Ack}
use Rattle.packet_bodies.specs.declared.body.Gone.{Gone}
use Rattle.packet_bodies.specs.declared.body.What.{What}
use Rattle.packet_bodies.specs.declared.body.What.TheVariants.{Hats, Hagsns, Hagsgr, Hagsvote}
use Rattle.packet_bodies.specs.declared.body.Query.{Query}
use Rattle.rsct_packet.specs.Lists.{is_empty}
use Rattle.rsct_packet.specs.Listed.{ascending}
use Rattle.packet_bodies.specs.Group.{GroupIn, IsGroup, group_at, group_text}
use Rattle.rsct_packet.specs.Reading.{◌>>=◌, number_at, both_at, made_at, decoded_at, guarded_at, counted_at}
use Rattle.rsct_packet.specs.Format.{EachFits, counted_text}
use Rattle.rsct_packet.specs.Fields.{IsU32, IsNode, IsNodeOrNone, IsMask, IsRing, IsView, IsProvider, node_at, node_or_none_at, mask_at, ring_at, view_at, provider_at, u8_text, u32_text, mask_text, ring_text, view_text, provider_text}

-- a value and nothing after it
abbrev pub whole_of : {A : Type 0} → Option (A × List ℕ) → Option A
whole_of read = do
  x ← read
  if is_empty x.1 then Some x.0 else None

abbrev pub whole_at : {A : Type 0} → (List ℕ → Option (A × List ℕ)) → List ℕ → Option A
whole_at f bytes = whole_of (f bytes)

-- What a reader of a whole body says: its answer is spelled so, and whatever is spelled so is its answer.
abbrev pub IsWhole : {A : Type 0} → (A → List ℕ) → (A → Type 0) → Option A → List ℕ → Type 0
IsWhole text fits None bytes = Unit {0}
IsWhole text fits (Some x) bytes = fits x × (bytes ≡ text x)

pub record IsOnlyWhole {A : Type 0} (text : A → List ℕ) (fits : A → Type 0) (result : Option A) (bytes : List ℕ) : Type 0 where
  pub only : (x : A) → fits x → bytes ≡ text x → result ≡ Some x

-- a ring and a set of nodes

pub record IsRingMask (b : RingMask) : Type 0 where
  pub ring : IsRing b.ring
  pub mask : IsMask b.mask

abbrev pub ring_mask_of_parts : RingId × Mask → RingMask
ring_mask_of_parts p = record { ring = p.0; mask = p.1 }

unfoldable pub ring_mask_text : RingMask → List ℕ
ring_mask_text b = ring_text b.ring ++ mask_text b.mask

unfoldable pub ring_mask_at : List ℕ → Option (RingMask × List ℕ)
ring_mask_at bytes = made_at ring_mask_of_parts (both_at ring_at mask_at) bytes

-- a ring and a silent node

pub record IsDeath (b : Death) : Type 0 where
  pub ring : IsRing b.ring
  pub node : IsNode b.node

abbrev pub death_of_parts : RingId × ℕ → Death
death_of_parts p = record { ring = p.0; node = p.1 }

unfoldable pub death_text : Death → List ℕ
death_text b = ring_text b.ring ++ u8_text b.node

unfoldable pub death_at : List ℕ → Option (Death × List ℕ)
death_at bytes = made_at death_of_parts (both_at ring_at node_at) bytes

-- rows of a report, nodes ascending

pub record IsReportRow (r : ReportRow) : Type 0 where
  pub node : IsNode r.node
  pub inc : IsU32 r.inc
  pub seq : IsU32 r.seq
  pub mask : IsMask r.mask

abbrev pub report_row_of_parts : ℕ × (ℕ × (ℕ × Mask)) → ReportRow
report_row_of_parts p = record { node = p.0; inc = p.1.0; seq = p.1.1.0; mask = p.1.1.1 }

unfoldable pub report_row_text : ReportRow → List ℕ
report_row_text r = u8_text r.node ++ (u32_text r.inc ++ (u32_text r.seq ++ mask_text r.mask))

unfoldable pub report_row_at : List ℕ → Option (ReportRow × List ℕ)
report_row_at bytes = made_at report_row_of_parts (both_at node_at (both_at (number_at w32) (both_at (number_at w32) mask_at))) bytes

abbrev pub are_report_rows : List ReportRow → Bool
are_report_rows rs = ascending (map (λ r. r.node) rs)

pub record IsReport (rs : List ReportRow) : Type 0 where
  pub ascending : IsTrue (are_report_rows rs)
  pub few : length rs ≤ 255
  pub each : EachFits IsReportRow rs

unfoldable pub report_text : List ReportRow → List ℕ
report_text rs = counted_text w8 report_row_text rs

unfoldable pub report_at : List ℕ → Option (List ReportRow × List ℕ)
report_at bytes = guarded_at are_report_rows (counted_at w8 report_row_at) bytes

-- a view and the nodes asked for it

pub record IsPrepare (b : Prepare) : Type 0 where
  pub view : IsView b.view
  pub mask : IsMask b.mask

abbrev pub prepare_of_parts : ViewId × Mask → Prepare
prepare_of_parts p = record { view = p.0; mask = p.1 }

unfoldable pub prepare_text : Prepare → List ℕ
prepare_text b = view_text b.view ++ mask_text b.mask

unfoldable pub prepare_at : List ℕ → Option (Prepare × List ℕ)
prepare_at bytes = made_at prepare_of_parts (both_at view_at mask_at) bytes

-- a view and the number promised in its place

pub record IsRefuse (b : Refuse) : Type 0 where
  pub view : IsView b.view
  pub number : IsU32 b.number

abbrev pub refuse_of_parts : ViewId × ℕ → Refuse
refuse_of_parts p = record { view = p.0; number = p.1 }

unfoldable pub refuse_text : Refuse → List ℕ
refuse_text b = view_text b.view ++ u32_text b.number

unfoldable pub refuse_at : List ℕ → Option (Refuse × List ℕ)
refuse_at bytes = made_at refuse_of_parts (both_at view_at (number_at w32)) bytes

-- a group's leader, or nobody where no group more can be had

pub record IsLeader (b : Leader) : Type 0 where
  pub group : IsGroup b.group
  pub leader : IsNodeOrNone b.leader

abbrev pub leader_of_parts : GroupIn × ℕ → Leader
leader_of_parts p = record { group = p.0; leader = p.1 }

unfoldable pub leader_text : Leader → List ℕ
leader_text b = group_text b.group ++ u8_text b.leader

unfoldable pub leader_at : List ℕ → Option (Leader × List ℕ)
leader_at bytes = made_at leader_of_parts (both_at group_at node_or_none_at) bytes

-- how much of a group's list a member holds

pub record IsAck (b : Ack) : Type 0 where
  pub group : IsGroup b.group
  pub len : IsU32 b.len

abbrev pub ack_of_parts : GroupIn × ℕ → Ack
ack_of_parts p = record { group = p.0; len = p.1 }

unfoldable pub ack_text : Ack → List ℕ
ack_text b = group_text b.group ++ u32_text b.len

unfoldable pub ack_at : List ℕ → Option (Ack × List ℕ)
ack_at bytes = made_at ack_of_parts (both_at group_at (number_at w32)) bytes

-- a provider whose client said goodbye

pub record IsGone (b : Gone) : Type 0 where
  pub group : IsGroup b.group
  pub provider : IsProvider b.provider

abbrev pub gone_of_parts : GroupIn × ProviderId → Gone
gone_of_parts x = record { group = x.0; provider = x.1 }

unfoldable pub gone_text : Gone → List ℕ
gone_text b = group_text b.group ++ provider_text b.provider

unfoldable pub gone_at : List ℕ → Option (Gone × List ℕ)
gone_at bytes = made_at gone_of_parts (both_at group_at provider_at) bytes

-- what a status asks for

abbrev pub what_code : What → ℕ
what_code Hats = 1
what_code Hagsns = 2
what_code Hagsgr = 3
what_code Hagsvote = 4

abbrev pub what_of : ℕ → Option What
what_of n = if n == 1 then Some Hats else if n == 2 then Some Hagsns else if n == 3 then Some Hagsgr else if n == 4 then Some Hagsvote else None

abbrev pub IsQuery : Query → Type 0
IsQuery q = IsU32 q.question

abbrev pub query_of_parts : ℕ × What → Query
query_of_parts p = record { question = p.0; what = p.1 }

unfoldable pub what_at : List ℕ → Option (What × List ℕ)
what_at bytes = decoded_at what_of (number_at w8) bytes

unfoldable pub query_text : Query → List ℕ
query_text q = u32_text q.question ++ u8_text (what_code q.what)

unfoldable pub query_at : List ℕ → Option (Query × List ℕ)
query_at bytes = made_at query_of_parts (both_at (number_at w32) what_at) bytes
