-- Who takes part at one place of a view's list hears the same there: the list is one, and so is its fold.
use Rattle.std.proofs.Common.{◌≡◌, ◌<◌, ℕ, ◌+◌, List, [], ◌∷◌, ◌++◌, Some, refl, sym, ◌∙◌, subst, inl, length}
use Rattle.std.specs.Prelude.{take, slice_get}
use Rattle.rsct_packet.specs.declared.ids.ViewId.{ViewId}
use Rattle.rsct_packet.specs.declared.ids.ProviderId.{ProviderId}
use Rattle.rsct_packet.specs.Search.{Has}
use Rattle.rsct_packet.proofs.HasLaws.{append_has_left, append_has_right}
use Rattle.proposal_core.specs.declared.entry.Entry.{Entry}
use Rattle.proposal_core.specs.declared.group_state.GroupState.{GroupState}
use Rattle.node_state.specs.declared.happened.Happened.{Happened}
use Rattle.node_state.specs.declared.happened.Happened.TheVariants as happened
use Rattle.world_model.specs.Run.{Happening}
use Rattle.run_safety.specs.Past.{History, EachEvent, Within, records_of}
use Rattle.run_safety.specs.Group.{Heard, Put, Line, Noted, kept}
use Rattle.run_safety.specs.GroupLists as lists
use Rattle.run_safety.specs.Bases.{state_of_list}
use Rattle.run_safety.specs.Moves.{Opening}
use Rattle.run_safety.specs.Sight.{lines_of}
use Rattle.run_safety.specs.SafeGroups.{SafeGroups, SafeLines}
use Rattle.run_safety.specs.SafeHeard.{AllHear}
use Rattle.run_safety.proofs.SightLaws.{put_seen, line_seen, own_line}
use Rattle.run_safety.proofs.HeardLaw.{get_within}
use Rattle.run_laws.proofs.seen_runs.LineFacts.{put_at}
use Rattle.run_laws.specs.gapless.Alike.{Attends, HeardBoth, TakersHearAlike}

-- what holds of each event holds of one
each_at : (P : Happening → History → Type 0) (newer : History) (e : Happening) (before : History) → EachEvent P (newer ++ e ∷ before) → P e before
each_at P [] e before k = k.0
each_at P (x ∷ newer) e before k = each_at P newer e before k.1

within_at : (P : List Happened → History → Happened → Type 0) (later : List Happened) (r : Happened) (now : List Happened) (before : History) → Within P (later ++ r ∷ now) before → P now before r
within_at P [] r now before k = k.0
within_at P (x ∷ later) r now before k = within_at P later r now before k.1

event_has : (r : Happened) (newer : History) (e : Happening) (before : History) → Has r e.records → Has r (records_of (newer ++ e ∷ before))
event_has r [] e before i = append_has_left r e.records (records_of before) i
event_has r (x ∷ newer) e before i = append_has_right r x.records (records_of (newer ++ e ∷ before)) (event_has r newer e before i)

among_has : (r : Happened) (later now : List Happened) → Has r (later ++ r ∷ now)
among_has r later now = append_has_right r later (r ∷ now) (inl refl)

module _ (o : Opening) (h : History) (safe : SafeGroups o h) (all : EachEvent (λ event before. Within (AllHear event) event.records before) h) (v : ViewId) (g : List ℕ) (i : ℕ) where
  abbrev L : List Line
  L = lines_of g h

  -- what a provider that takes part heard, and that its node put it
  record Hearing (p : ProviderId) : Type 0 where
    entry : Entry
    members : List ProviderId
    value : List ℕ
    heard : Has (happened.Heard p v g i entry members value) (records_of h)
    put : Has (Put p.node v i entry) (kept L)

  hearing : (p : ProviderId) → Attends p v g i h → Hearing p
  hearing p a =
      let r : Happened = happened.Put p.node v g i a.entry in
      let e = each_at (λ event before. Within (AllHear event) event.records before) a.newer a.event a.before (subst (EachEvent (λ event before. Within (AllHear event) event.records before)) a.whole all) in
      let at : AllHear a.event a.now a.before r = within_at (AllHear a.event) a.later r a.now a.before (subst (λ rs. Within (AllHear a.event) rs a.before) a.put e) in
      let k = at p refl a.takes a.lives in
      record {
        entry = a.entry;
        members = k.0;
        value = k.1;
        heard = there (happened.Heard p v g i a.entry k.0 k.1) k.2;
        put = put_seen p.node v g i a.entry h (there r (subst (Has r) (sym a.put) (among_has r a.later a.now)));
      }
    where
      there : (r : Happened) → Has r (a.event).records → Has r (records_of h)
      there r k = subst (λ z. Has r (records_of z)) (sym a.whole) (event_has r a.newer a.event a.before k)

  heard_line : (p : ProviderId) (e : Entry) (ms : List ProviderId) (value : List ℕ) → Has (happened.Heard p v g i e ms value) (records_of h) → Has (Noted (Heard p v i e ms value)) L
  heard_line p e ms value k =
      line_seen (Noted (Heard p v i e ms value)) g (happened.Heard p v g i e ms value) (λ rs. own_line g (Noted (Heard p v i e ms value))) h k

  both : (p q : ProviderId) → Hearing p → Hearing q → HeardBoth p q v g i h
  both p q a b =
      record {
        entry = a.entry;
        members = a.members;
        value = a.value;
        one = a.heard;
        other = subst (λ (z : Entry × List ProviderId × List ℕ). Has (happened.Heard q v g i z.0 z.1 z.2) (records_of h)) (λ k. (entry k, members k, value k)) b.heard;
      }
    where
      s : SafeLines o L
      s = safe g

      puts : List Entry
      puts = lists.puts_of p.node v (kept L)

      reaches : i < length puts
      reaches = get_within i a.entry puts (put_at p.node v i a.entry (kept L) s.in_order a.put)

      state : GroupState
      state = state_of_list s.bases v (take (i + 1) puts)

      mine : (slice_get puts i ≡ Some a.entry) × (a.members ≡ state.members) × (a.value ≡ state.value)
      mine = s.heard_fold p v i a.entry a.members a.value (heard_line p a.entry a.members a.value a.heard) p.node reaches

      its : (slice_get puts i ≡ Some b.entry) × (b.members ≡ state.members) × (b.value ≡ state.value)
      its = s.heard_fold q v i b.entry b.members b.value (heard_line q b.entry b.members b.value b.heard) p.node reaches

      entry : b.entry ≡ a.entry
      entry = s.one_list q.node p.node v i b.entry a.entry b.put a.put

      members : b.members ≡ a.members
      members = its.1 ∙ sym mine.1

      value : b.value ≡ a.value
      value = its.2 ∙ sym mine.2

pub takers_hear_alike : TakersHearAlike
takers_hear_alike o h safe all p q v g i a b = both o h safe all v g i p q (hearing o h safe all v g i p a) (hearing o h safe all v g i q b)
