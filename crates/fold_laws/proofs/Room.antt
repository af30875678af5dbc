-- A list that a leader made is short.
use Rattle.std.proofs.Common.{◌≡◌, ◌==◌, ℕ, ◌+◌, ◌-◌, ◌*◌, ◌≤◌, ◌<◌, ◌||◌, max, drop, Bool, true, false, List, [], ◌∷◌, Option, Some, None, refl, sym, subst, arith}
use Rattle.std.specs.Prelude.{IsTrue, nat_le, nat_lt, ◌&&◌, option_map, if◌then◌else◌}
use Rattle.std.specs.Option.{option_or}
use Rattle.std.proofs.lemmas.Bool.Decides.{nat_tests}
use Rattle.rsct_packet.specs.declared.ids.ProtoId.{ProtoId}
use Rattle.rsct_packet.specs.declared.ids.ViewId.{ViewId}
use Rattle.rsct_packet.specs.Ids.{last_u32, same_proto}
use Rattle.rsct_packet.specs.Fields.{AreShort}
use Rattle.rsct_packet.specs.Format.{OptionFits}
use Rattle.rsct_packet.specs.Text.{IsName}
use Rattle.group_attr.specs.declared.attrs.Attrs.{Attrs}
use Rattle.group_attr.specs.Codec.{IsAttrs}
use Rattle.proposal_core.specs.declared.proposal.Proposal.{Proposal}
use Rattle.proposal_core.specs.declared.proposal.Proposal.TheVariants.{Join, Leave, Fail, Expel, State, Message, Attributes, Reflect}
use Rattle.proposal_core.specs.declared.entry.Closed.{Closed}
use Rattle.proposal_core.specs.declared.entry.Entry.{Entry}
use Rattle.proposal_core.specs.declared.entry.Entry.TheVariants.{Once, Begin, Phase, Approve, Reject, Late}
use Rattle.proposal_core.specs.declared.group_state.GroupState.{GroupState}
use Rattle.proposal_core.specs.declared.group_state.Running.{Running}
use Rattle.proposal_core.specs.ProposalCodec.{IsProposal}
use Rattle.proposal_core.specs.EntryCodec.{IsClosed, IsEntry}
use Rattle.proposal_core.specs.Fold.{fits, runs, after, max_phases}
use Rattle.proposal_core.specs.GroupView.{GroupView, new_list}
use Rattle.proposal_core.specs.ListLaw.{ListCall, Put, Forget, all_called, AllTaken}
use Rattle.proposal_core.specs.Lists.{max_places, max_bytes, is_at_limit, has_room, with_entry, forgotten}
use Rattle.proposal_core.specs.Sizes.{name_option_len, text_option_len, number_option_len, attrs_len, proposal_len, closed_len, entry_len}
use Rattle.fold_laws.specs.Changes.{runs_after}
use Rattle.fold_laws.specs.Room.{IsInPhase, MayCome, IsLed, said_after, AllLed, longest_entry, IsShort, ListsHaveRoom}
use Rattle.fold_laws.proofs.Changes.{entries_change_as_said}

-- ---- how long an entry is

name_short : (o : Option (List ℕ)) → OptionFits IsName o → name_option_len o ≤ 33
unfolding name_option_len
name_short None h = omega arith
name_short (Some name) h = grind (arith, nat_tests)

text_short : (o : Option (List ℕ)) → OptionFits AreShort o → text_option_len o ≤ 65538
unfolding text_option_len
text_short None h = omega arith
text_short (Some text) h = omega arith

number_short : (o : Option ℕ) → number_option_len o ≤ 5
unfolding number_option_len
number_short None = omega arith
number_short (Some n) = omega arith

attrs_short : (a : Attrs) → IsAttrs a → attrs_len a ≤ 42
unfolding attrs_len
attrs_short a h = omega (arith, name_short a.source h.source)

proposal_short : (x : Proposal) → IsProposal x → proposal_len x ≤ 65553
unfolding proposal_len
proposal_short (Join ps attrs n) h = omega (arith, h.0.are.are.few, attrs_short attrs h.1.0, number_short n)
proposal_short (Leave p r) h = omega arith
proposal_short (Fail out) h = omega (arith, h.few)
proposal_short (Expel p r out) h = omega (arith, h.1.1.are.are.few)
proposal_short (State p r value) h = omega (arith, h.1.1)
proposal_short (Message p r bytes) h = omega (arith, h.1.1)
proposal_short (Attributes p r attrs) h = omega (arith, attrs_short attrs h.1.1)
proposal_short (Reflect view place value) h = omega (arith, h.1.1)

closed_short : (c : Closed) → IsClosed c → closed_len c ≤ longest_entry
unfolding closed_len
closed_short c h = omega (arith, h.few, text_short c.value h.value, text_short c.message h.message)

entry_short : (e : Entry) → IsEntry e → entry_len e ≤ longest_entry
unfolding entry_len
entry_short (Once x) h = omega (arith, proposal_short x h)
entry_short (Begin x) h = omega (arith, proposal_short x h)
entry_short (Phase c) h = closed_short c h
entry_short (Approve c) h = closed_short c h
entry_short (Reject c) h = closed_short c h.0
entry_short (Late proto phase ps) h = omega (arith, h.1.1.are.are.few)

-- ---- how many entries stand behind a list that is below its limits

abbrev one_if : Bool → ℕ
one_if true = 1
one_if false = 0

-- in phase k at most 2 k, with one more where it is said who is late; and 402 where nothing runs
abbrev entries_past : Option Running → Bool → ℕ
entries_past None said = 402
entries_past (Some run) said = 2 * run.phase + one_if said

record Within (len bytes : ℕ) (o : Option Running) (said : Bool) : Type 0 where
  phases : IsInPhase o
  places : len ≤ 4094 + entries_past o said
  sizes : bytes + longest_entry ≤ 262143 + longest_entry * entries_past o said

at_most_one : (said : Bool) → one_if said ≤ 1
at_most_one true = omega arith
at_most_one false = omega arith

-- below the limits
below : (len bytes : ℕ) → (nat_le max_places len || nat_le max_bytes bytes) ≡ false → (len < 4096) × (bytes < 262144)
below len bytes e = (grind (arith, nat_tests), grind (arith, nat_tests))

-- what runs, where an entry asks for its protocol and phase
first_of_both : (x c : Bool) → (x && c) ≡ true → x ≡ true
first_of_both true c e = refl
first_of_both false c e = e

-- the phase that an entry closes is below the last one
not_last : (x : Bool) (k : ℕ) → (x && nat_lt k max_phases) ≡ true → k < 200
not_last true k e = grind (arith, nat_tests)
not_last false k e = absurd cc

same_phase : (k n : ℕ) (b : Bool) → ((k == n) && b) ≡ true → k ≡ n
same_phase k n b e = grind (arith, nat_tests)

-- what a list may have as an entry comes
abbrev MayStand : ℕ → ℕ → Bool → Entry → Type 0
MayStand len bytes said (Once x) = (nat_le max_places len || nat_le max_bytes bytes) ≡ false
MayStand len bytes said (Begin x) = (nat_le max_places len || nat_le max_bytes bytes) ≡ false
MayStand len bytes said (Late proto phase ps) = said ≡ false
MayStand len bytes said _ = Unit {0}

may_stand : (g : GroupView) (said : Bool) (e : Entry) → MayCome g said e → MayStand g.len g.bytes said e
unfolding is_at_limit
may_stand g said (Once x) h = h
may_stand g said (Begin x) h = h
may_stand g said (Phase c) h = tt
may_stand g said (Approve c) h = tt
may_stand g said (Reject c) h = tt
may_stand g said (Late proto phase ps) h = h

module _ (len bytes n : ℕ) (small : n ≤ longest_entry) where
  begins : (proto : ProtoId) (x : Proposal) (value : Option (List ℕ)) → (nat_le max_places len || nat_le max_bytes bytes) ≡ false → Within (len + 1) (bytes + n) (Some (record { proto = proto; proposal = x; phase = 1; proposed = value })) false
  begins proto x value e =
      let b : (len < 4096) × (bytes < 262144) = below len bytes e in
      record { phases = (omega arith, omega arith); places = omega arith; sizes = omega arith }

  begins_whole : (nat_le max_places len || nat_le max_bytes bytes) ≡ false → Within (len + 1) (bytes + n) None false
  begins_whole e =
      let b : (len < 4096) × (bytes < 262144) = below len bytes e in
      record { phases = tt; places = omega arith; sizes = omega arith }

  -- a phase closes, and the next one opens
  turns : (run next : Running) (said : Bool) → next.phase ≡ run.phase + 1 → run.phase < 200 → Within len bytes (Some run) said → Within (len + 1) (bytes + n) (Some next) false
  turns run next said e last w =
      let one : one_if said ≤ 1 = at_most_one said in
      let k : 1 ≤ run.phase = w.phases.0 in
      let places : len ≤ 4094 + (2 * run.phase + one_if said) = w.places in
      let sizes : bytes + 134153 ≤ 262143 + 134153 * (2 * run.phase + one_if said) = w.sizes in
      record { phases = (omega arith, omega arith); places = omega arith; sizes = omega arith }

  ends : (run : Running) (said : Bool) → Within len bytes (Some run) said → Within (len + 1) (bytes + n) None false
  ends run said w =
      let one : one_if said ≤ 1 = at_most_one said in
      let k : run.phase ≤ 200 = w.phases.1 in
      let places : len ≤ 4094 + (2 * run.phase + one_if said) = w.places in
      let sizes : bytes + 134153 ≤ 262143 + 134153 * (2 * run.phase + one_if said) = w.sizes in
      record { phases = tt; places = omega arith; sizes = omega arith }

  says : (run : Running) → Within len bytes (Some run) false → Within (len + 1) (bytes + n) (Some run) true
  says run w =
      let places : len ≤ 4094 + (2 * run.phase + 0) = w.places in
      let sizes : bytes + 134153 ≤ 262143 + 134153 * (2 * run.phase + 0) = w.sizes in
      record { phases = w.phases; places = omega arith; sizes = omega arith }

  -- what an entry that fits makes of what runs
  moved : (s : GroupState) (o : Option Running) → s.running ≡ o → (said : Bool) (at : ProtoId) (e : Entry) → IsTrue (fits s e) → MayStand len bytes said e → Within len bytes o said → Within (len + 1) (bytes + n) (runs_after s at e) (said_after e)
  unfolding fits runs
  moved s o same said at (Once x) f may w = begins_whole may
  moved s o same said at (Begin x) f may w = begins at x _ may
  moved s o same said at (Phase c) f may w = by s.running same f
    where
      by : (r : Option Running) → r ≡ o → (runs c.proto c.phase r && nat_lt c.phase max_phases) ≡ true → Within (len + 1) (bytes + n) (option_map (λ (run : Running). record run { phase = run.phase + 1; proposed = option_or c.value run.proposed }) r) false
      by None e h = absurd cc
      by (Some run) e h =
          let t : (c.phase == run.phase && same_proto c.proto run.proto) ≡ true = first_of_both _ _ h in
          let k : c.phase ≡ run.phase = same_phase c.phase run.phase (same_proto c.proto run.proto) t in
          let last : c.phase < 200 = not_last (runs c.proto c.phase (Some run)) c.phase h in
          turns run _ said refl (omega arith) (subst (λ z. Within len bytes z said) (sym e) w)
  moved s o same said at (Approve c) f may w = by s.running same f
    where
      by : (r : Option Running) → r ≡ o → runs c.proto c.phase r ≡ true → Within (len + 1) (bytes + n) None false
      by None e h = absurd cc
      by (Some run) e h = ends run said (subst (λ z. Within len bytes z said) (sym e) w)
  moved s o same said at (Reject c) f may w = by s.running same f
    where
      by : (r : Option Running) → r ≡ o → runs c.proto c.phase r ≡ true → Within (len + 1) (bytes + n) None false
      by None e h = absurd cc
      by (Some run) e h = ends run said (subst (λ z. Within len bytes z said) (sym e) w)
  moved s o same said at (Late proto phase ps) f may w = by s.running same f
    where
      by : (r : Option Running) → r ≡ o → runs proto phase r ≡ true → Within (len + 1) (bytes + n) r true
      by None e h = absurd cc
      by (Some run) e h = says run (subst (λ z. Within len bytes (Some run) z) may (subst (λ z. Within len bytes z said) (sym e) w))

-- ---- a list

abbrev Short : GroupView → Bool → Type 0
Short g said = Within g.len g.bytes g.state.running said

put_short : (g : GroupView) (said : Bool) (v : ViewId) (e : Entry) → IsLed g said e → Short g said → Short (with_entry g v e) (said_after e)
unfolding with_entry
put_short g said v e l w =
    let to : (after g.state v g.len e).running ≡ runs_after g.state (record { view = v; place = g.len }) e = ((entries_change_as_said g.state v g.len e).fitting l.fitting).running in
    subst (λ z. Within (g.len + 1) (g.bytes + entry_len e) z (said_after e)) (sym to) (moved g.len g.bytes (entry_len e) (entry_short e l.spelled) g.state g.state.running refl said (record { view = v; place = g.len }) e l.fitting (may_stand g said e l.may) w)

forget_short : (g : GroupView) (said : Bool) (place : ℕ) → Short g said → Short (forgotten g place) said
unfolding forgotten
forget_short g said place w = by (nat_le place g.len)
  where
    by : (b : Bool) → Short (if b then record g { start = max g.start place; entries = drop (place - g.start) g.entries } else g) said
    by true = w
    by false = w

-- so it is far from the limits of its counts
few : (len bytes : ℕ) (o : Option Running) (said : Bool) → Within len bytes o said → (len ≤ 4496) × (bytes ≤ 54057496)
few len bytes None said w =
    let sizes : bytes + 134153 ≤ 262143 + 134153 * 402 = w.sizes in
    (w.places, omega arith)
few len bytes (Some run) said w =
    let one : one_if said ≤ 1 = at_most_one said in
    let k : run.phase ≤ 200 = w.phases.1 in
    let places : len ≤ 4094 + (2 * run.phase + one_if said) = w.places in
    let sizes : bytes + 134153 ≤ 262143 + 134153 * (2 * run.phase + one_if said) = w.sizes in
    (omega arith, omega arith)

roomy : (g : GroupView) (said : Bool) → Short g said → (e : Entry) → IsEntry e → has_room g e ≡ true
unfolding has_room
roomy g said w e h = fit g.len (g.bytes + entry_len e) (omega (arith, k.0)) (omega (arith, k.1, entry_short e h))
  where
    k : (g.len ≤ 4496) × (g.bytes ≤ 54057496)
    k = few g.len g.bytes g.state.running said w

    fit : (a b : ℕ) → a < 4294967295 → b ≤ 4294967295 → (nat_lt a last_u32 && nat_le b last_u32) ≡ true
    fit a b x y = grind (arith, nat_tests)

calls_short : (g : GroupView) (said : Bool) (cs : List ListCall) → AllLed g said cs → Short g said → AllTaken g cs × IsShort (all_called g cs)
calls_short g said [] l w =
    let k : (g.len ≤ 4496) × (g.bytes ≤ 54057496) = few g.len g.bytes g.state.running said w in
    (tt, record { places = k.0; bytes = omega (arith, k.1); room = roomy g said w })
calls_short g said (Put v e ∷ cs) l w =
    let rest = calls_short (with_entry g v e) (said_after e) cs l.1 (put_short g said v e l.0 w) in
    (((l.0.fitting, roomy g said w e l.0.spelled), rest.0), rest.1)
calls_short g said (Forget place ∷ cs) l w =
    let rest = calls_short (forgotten g place) said cs l.1 (forget_short g said place w) in
    ((l.0, rest.0), rest.1)

-- a base stands before the first place
at_base : (o : Option Running) → IsInPhase o → Within 0 0 o false
at_base None h = record { phases = tt; places = omega arith; sizes = omega arith }
at_base (Some run) h = let k : 1 ≤ run.phase = h.0 in record { phases = h; places = omega arith; sizes = omega arith }

pub lists_have_room : ListsHaveRoom
lists_have_room base h cs l = calls_short (new_list base) false cs l (at_base base.running h)
