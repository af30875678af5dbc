-- What a key is told in a step, with the lines of entries: each hearing of an entry has that entry's line before it.
use Rattle.std.specs.Prelude.{◌≡◌, ◌⊎◌, ℕ, ◌==◌, true, List, [], ◌∷◌, ◌++◌, fold, Option, Some, None, option_map, if◌then◌else◌}
use Rattle.rsct_packet.specs.Search.{Has}
use Rattle.node_state.specs.declared.happened.Happened.{Happened}
use Rattle.world_model.specs.Text.{record_text}
use Rattle.remote_session.specs.declared.session.Session.{Session}
use Rattle.remote_session.specs.Daemon.{session_of, session_event}
use Rattle.remote_clients.specs.declared.sessions.Sessions.{Sessions}
use Rattle.remote_clients.specs.Clients.{ClientsState, hearer_of, with_record}
use Rattle.remote_clients.specs.Entries.{Showing, nothing_shown, same_entry, put_of, put_due, shown_to, noted_with}

-- ---- the records whose lines a key is told

-- whose the clients and providers are, and what was shown so far
pub record Deciding : Type 0 where
  pub clients : ClientsState
  pub shown : Showing

abbrev pub shown_by : Option Happened → ℕ → Happened → Showing → Showing
shown_by None key r s = s
shown_by (Some put) key r s = shown_to key r s

abbrev pub decided_for : Option ℕ → Happened → Deciding → Deciding
decided_for None r n = n
decided_for (Some key) r n = record n { shown = shown_by (put_due n.shown key r) key r n.shown }

abbrev pub clients_by : Option ℕ → Happened → Deciding → Deciding
clients_by calling r n = record n { clients = with_record calling r n.clients }

abbrev pub hearer_in : Option ℕ → Happened → Deciding → Option ℕ
hearer_in calling r n = hearer_of (with_record calling r n.clients) calling r

-- once a record came
abbrev pub decided : Option ℕ → Deciding → Happened → Deciding
decided calling n r = decided_for (hearer_in calling r n) r (clients_by calling r n)

abbrev pub put_list : Option Happened → List Happened
put_list None = []
put_list (Some put) = put ∷ []

-- of one record that this key is to hear, or none
abbrev pub lines_for : ℕ → Option ℕ → Showing → Happened → List Happened
lines_for key None s r = []
lines_for key (Some k) s r = if k == key then put_list (put_due s k r) ++ r ∷ [] else []

unfoldable pub told_to : ℕ → Option ℕ → Deciding → List Happened → List Happened
told_to key calling n [] = []
told_to key calling n (r ∷ rs) = lines_for key (hearer_in calling r n) n.shown r ++ told_to key calling (decided calling n r) rs

-- as a step begins
abbrev pub deciding : ClientsState → Deciding
deciding c = record { clients = c; shown = nothing_shown }

-- ---- laws

-- these lines are the next events of a session
abbrev pub hears_all : List Happened → Session → Session
hears_all rs s = fold (λ t r. session_event (record_text r) t) s rs

-- With the lines of entries, the events that a step adds for a key are the lines that it is told, in their order.
abbrev pub StepTellsKeys : Type 0
StepTellsKeys =
    (calling : Option ℕ) (rs : List Happened) (s : Sessions) (key : ℕ)
    → session_of key (noted_with true calling rs s).remote.sessions ≡ option_map (hears_all (told_to key calling (deciding s.clients) rs)) (session_of key s.remote.sessions)

-- the last of these lines is this
pub record IsLast (r : Happened) (lines : List Happened) : Type 0 where
  pub front : List Happened
  pub is : front ++ r ∷ [] ≡ lines

-- among these lines is a hearing of the same entry
pub record WasHeard (r : Happened) (lines : List Happened) : Type 0 where
  pub earlier : Happened
  pub there : Has earlier lines
  pub same : same_entry earlier r ≡ true

abbrev pub IsIntroduced : List Happened → Happened → Option Happened → Type 0
IsIntroduced before r None = Unit {0}
IsIntroduced before r (Some put) = IsLast put before ⊎ WasHeard r before

-- behind earlier lines, each hearing of an entry stands directly behind that entry's line, or behind an earlier hearing of it
abbrev pub AreIntroduced : List Happened → List Happened → Type 0
AreIntroduced before [] = Unit {0}
AreIntroduced before (r ∷ rs) = IsIntroduced before r (put_of r) × AreIntroduced (before ++ r ∷ []) rs

-- Where a key hears of an entry, it has that entry's line, in the line before the first hearing of it in the step.
abbrev pub EntriesComeFirst : Type 0
EntriesComeFirst = (earlier : List Happened) (key : ℕ) (calling : Option ℕ) (c : ClientsState) (rs : List Happened) → AreIntroduced earlier (told_to key calling (deciding c) rs)

-- opens each word of this file, for a computation
unfoldable pub told_opens : Unit {0}
unfolding told_to
told_opens = tt
