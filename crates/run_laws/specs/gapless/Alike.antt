-- Who takes part at one place of a view's list hears the same there.
use Rattle.std.specs.Prelude.{ℕ, ◌≡◌, false, List, ◌∷◌, ◌++◌, IsTrue}
use Rattle.rsct_packet.specs.declared.ids.ViewId.{ViewId}
use Rattle.rsct_packet.specs.declared.ids.ProviderId.{ProviderId}
use Rattle.rsct_packet.specs.Search.{Has}
use Rattle.proposal_core.specs.declared.entry.Entry.{Entry}
use Rattle.node_state.specs.declared.happened.Happened.{Happened}
use Rattle.node_state.specs.declared.happened.Happened.TheVariants.{Put, Heard}
use Rattle.world_model.specs.Run.{Happening}
use Rattle.run_safety.specs.Past.{History, EachEvent, Within, earlier, records_of}
use Rattle.run_safety.specs.Stays.{stays, part, takes_part, was_let_go}
use Rattle.run_safety.specs.Moves.{Opening}
use Rattle.run_safety.specs.SafeGroups.{SafeGroups}
use Rattle.run_safety.specs.SafeHeard.{AllHear}

-- where its node put the place, the provider takes part: the place is none before its first and none behind its last; and no earlier
-- event let it go
pub record Attends (p : ProviderId) (v : ViewId) (g : List ℕ) (i : ℕ) (h : History) : Type 0 where
  pub newer : History
  pub event : Happening
  pub before : History
  pub whole : h ≡ newer ++ event ∷ before
  pub later : List Happened
  pub now : List Happened
  pub entry : Entry
  pub put : event.records ≡ later ++ Put p.node v g i entry ∷ now
  pub takes : IsTrue (takes_part i (part p (stays p.node g (Put p.node v g i entry ∷ earlier now before))))
  pub lives : was_let_go p before ≡ false

-- both heard this of the place
pub record HeardBoth (p q : ProviderId) (v : ViewId) (g : List ℕ) (i : ℕ) (h : History) : Type 0 where
  pub entry : Entry
  pub members : List ProviderId
  pub value : List ℕ
  pub one : Has (Heard p v g i entry members value) (records_of h)
  pub other : Has (Heard q v g i entry members value) (records_of h)

-- Two providers that take part at a place both heard it, with the same entry, members and value. Where their nodes go from that view
-- into the same next one, their lists are equal, so they heard the same from the greater of their first places on.
abbrev pub HeardAlike : History → Type 0
HeardAlike h = (p q : ProviderId) (v : ViewId) (g : List ℕ) (i : ℕ) → Attends p v g i h → Attends q v g i h → HeardBoth p q v g i h

-- of every run whose groups are safe, and in which each put is heard
abbrev pub TakersHearAlike : Type 0
TakersHearAlike =
    (o : Opening) (h : History) → SafeGroups o h → EachEvent (λ event before. Within (AllHear event) event.records before) h → HeardAlike h
