-- The rules, computed on worked rows: what two clients of one node are handed, and the maps that they keep.
use Rattle.std.proofs.Common.{◌≡◌, ℕ, ◌+◌, Bool, true, false, List, [], ◌∷◌, ◌++◌, map, length, Option, Some, None, refl, codes}
use Rattle.std.specs.Prelude.{replicate}
use Rattle.std.specs.List.{fold}
use Rattle.std.specs.Option.{option_map, option_and_then}
use Rattle.rsct_packet.specs.declared.ids.ProviderId.{ProviderId}
use Rattle.rsct_packet.specs.declared.ids.ViewId.{ViewId}
use Rattle.rsct_packet.specs.Providers.{among}
use Rattle.rsct_packet.specs.Fields.{bytes_text, u16_text, bytes_at}
use Rattle.group_attr.specs.Attrs.{empty_attrs}
use Rattle.proposal_core.specs.declared.proposal.Proposal.{Proposal}
use Rattle.proposal_core.specs.declared.proposal.Proposal.TheVariants.{Join, Message}
use Rattle.proposal_core.specs.declared.entry.Closed.{Closed}
use Rattle.proposal_core.specs.declared.entry.Entry.{Entry}
use Rattle.proposal_core.specs.declared.entry.Entry.TheVariants.{Once, Begin, Phase, Approve}
use Rattle.proposal_core.specs.declared.group_state.GroupState.{GroupState}
use Rattle.proposal_core.specs.Fold.{empty_state, after, voters, present, fold_opens}
use Rattle.client_callbacks.specs.Handed.{NoticeView}
use Rattle.agreed_table.specs.Pairs.{Pairs, encoding, pairs_at, decoded, written}
use Rattle.agreed_table.specs.Chunks.{chunk_count, chunk_text, chunk_in, piece}
use Rattle.table_client.specs.Rules.{Copied, filled_for, noticed, rules_open}

abbrev first : ProviderId
first = record { node = 1; inc = 1; instance = 1; join = 1 }

abbrev second : ProviderId
second = record { node = 1; inc = 1; instance = 2; join = 3 }

abbrev v1 : ViewId
v1 = record { number = 1; coord = 1; inc = 1 }

-- a provider is handed an entry
abbrev asked : Entry → GroupState → ProviderId → Bool
asked (Begin x) st p = among (voters st) p
asked (Phase c) st p = among (voters st) p
asked _ st p = false

abbrev notice : ProviderId → ℕ → Entry → GroupState → NoticeView
notice p i e st = record { provider = p; view = v1; group = codes "db"; place = i; entry = e; after = st; votes = asked e st p }

-- the copies of the first and of the second client, with the state, along entries; the second hears from a place on
record Both : Type 0 where
  one : List Copied
  two : List Copied
  state : GroupState
  place : ℕ
  sent : Option (List ℕ)

abbrev message_of : NoticeView → List Copied → Option (List ℕ)
message_of n copies = option_and_then (λ f. f.message) (filled_for n copies)

abbrev heard_by : Bool → NoticeView → List Copied → List Copied
heard_by true n copies = noticed n copies
heard_by false n copies = copies

abbrev goes : Both → Entry → GroupState → Both
goes b e st =
    let n = notice first b.place e st in
    record {
      one = noticed n b.one;
      two = heard_by (among (present st) second) (notice second b.place e st) b.two;
      state = st;
      place = b.place + 1;
      sent = message_of n b.one;
    }

-- one more entry, which may carry what the first client sent with its vote
abbrev step : Both → (Option (List ℕ) → Entry) → Both
step b make = goes b (make b.sent) (after b.state v1 b.place (make b.sent))

abbrev start : Both
start = record { one = []; two = []; state = empty_state; place = 0; sent = None }

abbrev joins : ProviderId → Proposal
joins p = Join (p ∷ []) empty_attrs None

abbrev says : ProviderId → ℕ → List ℕ → Option (List ℕ) → Entry
says p r bytes sent = Once (Message p r bytes)

abbrev closed : ℕ → ℕ → Option (List ℕ) → Closed
closed place phase sent = record { proto = record { view = v1; place = place }; phase = phase; rows = []; value = None; message = sent }

abbrev Shown : Type 0
Shown = List (ProviderId × ℕ × Option Pairs)

abbrev shown : List Copied → Shown
shown copies = map (λ (c : Copied). (c.provider, c.len, c.map)) copies

abbrev run : List (Option (List ℕ) → Entry) → Both
run makes = fold step start makes

-- two members that joined by votes: the joiner gets the map
voted : Both
voted = run (
    (λ sent. Begin (joins first)) ∷ (λ sent. Approve (closed 0 1 sent)) ∷ says first 2 (codes "x=1")
    ∷ (λ sent. Begin (joins second)) ∷ (λ sent. Approve (closed 3 1 sent)) ∷ says second 4 (codes "y=2") ∷ [])

abbrev both_pairs : Pairs
both_pairs = (codes "x", codes "1") ∷ (codes "y", codes "2") ∷ []

row_by_votes : ◌≡◌ {A = Shown × Shown} (shown voted.one, shown voted.two) ((first, 6, Some both_pairs) ∷ [], (second, 6, Some both_pairs) ∷ [])
unfolding voted rules_open fold_opens encoding bytes_text u16_text bytes_at pairs_at decoded written chunk_count chunk_text chunk_in piece
row_by_votes = refl

-- without votes on joins the joiner has a part of it
at_once : Both
at_once = run ((λ sent. Once (joins first)) ∷ says first 2 (codes "x=1") ∷ (λ sent. Once (joins second)) ∷ says second 4 (codes "y=2") ∷ [])

row_at_once : ◌≡◌ {A = Shown × Shown} (shown at_once.one, shown at_once.two) ((first, 4, Some both_pairs) ∷ [], (second, 4, None) ∷ [])
unfolding at_once rules_open fold_opens encoding bytes_text u16_text bytes_at pairs_at decoded written chunk_count chunk_text chunk_in piece
row_at_once = refl

-- three pairs of 1,000 bytes: four chunks, four phases
long : List ℕ → List ℕ
long key = key ++ 61 ∷ replicate 996 120

three : Both
three = run (
    (λ sent. Begin (joins first)) ∷ (λ sent. Approve (closed 0 1 sent)) ∷ says first 2 (long (codes "aaaa")) ∷ says first 3 (long (codes "bbbb")) ∷ says first 4 (long (codes "cccc"))
    ∷ (λ sent. Begin (joins second)) ∷ (λ sent. Phase (closed 5 1 sent)) ∷ (λ sent. Phase (closed 5 2 sent)) ∷ (λ sent. Phase (closed 5 3 sent)) ∷ (λ sent. Approve (closed 5 4 sent)) ∷ [])

abbrev Lens : Type 0
Lens = List (ProviderId × ℕ × Option ℕ)

abbrev lens : List Copied → Lens
lens copies = map (λ (c : Copied). (c.provider, c.len, option_map length c.map)) copies

row_of_four_phases : ◌≡◌ {A = Lens × Lens} (lens three.one, lens three.two) ((first, 10, Some 3) ∷ [], (second, 10, Some 3) ∷ [])
unfolding three long rules_open fold_opens encoding bytes_text u16_text bytes_at pairs_at decoded written chunk_count chunk_text chunk_in piece
row_of_four_phases = refl
