-- The events that a step adds for a key are the lines that it is told.
use Rattle.std.proofs.Common.{◌≡◌, ℕ, Bool, true, false, cond, List, [], ◌∷◌, ◌++◌, Option, Some, None, refl, sym, ap, ◌∙◌}
use Rattle.std.specs.Prelude.{◌==◌, fold, option_map}
use Rattle.std.proofs.lemmas.Bool.{eqb-true, eqb-false}
use Rattle.std.proofs.lemmas.List.Sums.{fold-append}
use Rattle.node_state.specs.declared.happened.Happened.{Happened}
use Rattle.world_model.specs.Text.{record_text}
use Rattle.remote_session.specs.declared.session.Session.{Session}
use Rattle.remote_session.specs.Daemon.{RemoteState, session_of, session_event, edited, edited_as, event_added}
use Rattle.remote_session.proofs.SessionLaws.{edited_same, edited_other}
use Rattle.remote_clients.specs.Entries.{Noting, noting_of, nothing_shown, put_due, event_noted, put_noted, heard_by, entry_noted, noted_with}
use Rattle.remote_clients.specs.Clients.{with_record}
use Rattle.remote_clients.specs.Told.{Deciding, shown_by, decided_for, decided, hearer_in, put_list, lines_for, told_to, hears_all, StepTellsKeys}

-- nothing more is heard
hears_none : (o : Option Session) → o ≡ option_map (hears_all []) o
hears_none None = refl
hears_none (Some s) = refl

-- lines that are heard one after another
hears_both : (xs ys : List Happened) (o : Option Session) → option_map (hears_all ys) (option_map (hears_all xs) o) ≡ option_map (hears_all (xs ++ ys)) o
hears_both xs ys None = refl
hears_both xs ys (Some s) = ap (λ (t : Session). Some t) (sym (fold-append (λ (t : Session) (r : Happened). session_event (record_text r) t) s xs ys))

-- ---- one line

event_same : (key : ℕ) (r : Happened) (remote : RemoteState) → session_of key (event_added key (record_text r) remote).sessions ≡ option_map (hears_all (r ∷ [])) (session_of key remote.sessions)
unfolding event_added edited
event_same key r remote = by (session_of key remote.sessions) refl
  where
    by : (o : Option Session) → session_of key remote.sessions ≡ o → session_of key (edited key (session_event (record_text r)) remote.sessions) ≡ option_map (hears_all (r ∷ [])) o
    by None e = ap (λ (p : Option Session). session_of key (edited_as key (session_event (record_text r)) remote.sessions p)) e ∙ e
    by (Some s) e = edited_same key (session_event (record_text r)) remote.sessions s e

event_other : (key k : ℕ) (r : Happened) (remote : RemoteState) → (key ≡ k → ⊥) → session_of key (event_added k (record_text r) remote).sessions ≡ session_of key remote.sessions
unfolding event_added
event_other key k r remote ne = edited_other key k (session_event (record_text r)) remote.sessions ne

-- ---- one record

-- the key hears it, and the line of its entry before it
own_told : (key : ℕ) (r : Happened) (n : Noting) (o : Option Happened) → session_of key (event_noted key r (put_noted key r o n)).sessions.remote.sessions ≡ option_map (hears_all (put_list o ++ r ∷ [])) (session_of key n.sessions.remote.sessions)
own_told key r n None = event_same key r n.sessions.remote
own_told key r n (Some put) =
    event_same key r (event_added key (record_text put) n.sessions.remote)
    ∙ (ap (λ (o : Option Session). option_map (hears_all (r ∷ [])) o) (event_same key put n.sessions.remote) ∙ hears_both (put ∷ []) (r ∷ []) (session_of key n.sessions.remote.sessions))

-- another one does
other_told : (key k : ℕ) (r : Happened) (n : Noting) (o : Option Happened) → (key ≡ k → ⊥) → session_of key (event_noted k r (put_noted k r o n)).sessions.remote.sessions ≡ session_of key n.sessions.remote.sessions
other_told key k r n None ne = event_other key k r n.sessions.remote ne
other_told key k r n (Some put) ne = event_other key k r (event_added k (record_text put) n.sessions.remote) ne ∙ event_other key k put n.sessions.remote ne

hearer_told : (key : ℕ) (hearer : Option ℕ) (r : Happened) (n : Noting) → session_of key (heard_by hearer r n).sessions.remote.sessions ≡ option_map (hears_all (lines_for key hearer n.shown r)) (session_of key n.sessions.remote.sessions)
hearer_told key None r n = hears_none (session_of key n.sessions.remote.sessions)
hearer_told key (Some k) r n = by (k == key) refl
  where
    by : (b : Bool) → k == key ≡ b → session_of key (event_noted k r (put_noted k r (put_due n.shown k r) n)).sessions.remote.sessions ≡ option_map (hears_all (cond b (put_list (put_due n.shown k r) ++ r ∷ []) [])) (session_of key n.sessions.remote.sessions)
    by true e = ap (λ (j : ℕ). session_of key (event_noted j r (put_noted j r (put_due n.shown k r) n)).sessions.remote.sessions) (eqb-true k key e) ∙ own_told key r n (put_due n.shown k r)
    by false e = other_told key k r n (put_due n.shown k r) (λ (h : key ≡ k). eqb-false k key e (sym h)) ∙ hears_none (session_of key n.sessions.remote.sessions)

abbrev deciding_of : Noting → Deciding
deciding_of n = record { clients = n.sessions.clients; shown = n.shown }

-- what is decided is what the sessions keep

put_decides : (key : ℕ) (r : Happened) (n : Noting) (o : Option Happened) → deciding_of (event_noted key r (put_noted key r o n)) ≡ record (deciding_of n) { shown = shown_by o key r n.shown }
put_decides key r n None = refl
put_decides key r n (Some put) = refl

hearer_decides : (hearer : Option ℕ) (r : Happened) (n : Noting) → deciding_of (heard_by hearer r n) ≡ decided_for hearer r (deciding_of n)
hearer_decides None r n = refl
hearer_decides (Some key) r n = put_decides key r n (put_due n.shown key r)

abbrev with_clients : Option ℕ → Happened → Noting → Noting
with_clients calling r n = record n { sessions = record n.sessions { clients = with_record calling r n.sessions.clients } }

record_told : (key : ℕ) (calling : Option ℕ) (r : Happened) (n : Noting) → session_of key (entry_noted calling n r).sessions.remote.sessions ≡ option_map (hears_all (lines_for key (hearer_in calling r (deciding_of n)) n.shown r)) (session_of key n.sessions.remote.sessions)
unfolding entry_noted
record_told key calling r n = hearer_told key (hearer_in calling r (deciding_of n)) r (with_clients calling r n)

record_decides : (calling : Option ℕ) (r : Happened) (n : Noting) → deciding_of (entry_noted calling n r) ≡ decided calling (deciding_of n) r
unfolding entry_noted
record_decides calling r n = hearer_decides (hearer_in calling r (deciding_of n)) r (with_clients calling r n)

-- ---- the records of a step

records_told : (key : ℕ) (calling : Option ℕ) (rs : List Happened) (n : Noting) → session_of key (fold (entry_noted calling) n rs).sessions.remote.sessions ≡ option_map (hears_all (told_to key calling (deciding_of n) rs)) (session_of key n.sessions.remote.sessions)
unfolding told_to
records_told key calling [] n = hears_none (session_of key n.sessions.remote.sessions)
records_told key calling (r ∷ rs) n =
    records_told key calling rs (entry_noted calling n r)
    ∙ (ap (λ (d : Deciding). option_map (hears_all (told_to key calling d rs)) (session_of key (entry_noted calling n r).sessions.remote.sessions)) (record_decides calling r n)
    ∙ (ap (λ (o : Option Session). option_map (hears_all (told_to key calling (decided calling (deciding_of n) r) rs)) o) (record_told key calling r n)
    ∙ hears_both (lines_for key (hearer_in calling r (deciding_of n)) n.shown r) (told_to key calling (decided calling (deciding_of n) r) rs) (session_of key n.sessions.remote.sessions)))

pub step_tells : StepTellsKeys
unfolding noted_with
step_tells calling rs s key = records_told key calling rs (noting_of s nothing_shown)
