-- A key that was silent for too long is over.
use Rattle.std.proofs.Common.{◌≡◌, ℕ, ◌+◌, ◌<◌, ◌≤◌, ◌⊎◌, Bool, true, false, cond, List, [], ◌∷◌, ◌++◌, length, Option, Some, None, refl, sym, ap, subst, ◌∙◌, inl, inr, arith}
use Rattle.std.specs.Prelude.{not, find, filter, map, fold, option_map}
use Rattle.std.proofs.lemmas.Bool.{lt-ltb, cases_eq}
use Rattle.std.proofs.lemmas.List.{length_push}
use Rattle.rsct_packet.specs.Search.{Has}
use Rattle.node_state.specs.declared.call.CallLine.TheVariants as call
use Rattle.node_state.specs.declared.happened.Happened.{Happened}
use Rattle.node_state.specs.declared.state.Core.{Core}
use Rattle.node_state.specs.HandOn.{Answering}
use Rattle.node_state.specs.Step.{Calls, stepped}
use Rattle.rsct_packet.specs.declared.ids.ProviderId.{ProviderId}
use Rattle.remote_session.specs.declared.session.Session.{Session}
use Rattle.remote_session.specs.Daemon as daemon
use Rattle.remote_session.specs.Daemon.{session_of, is_ended, edited, edited_as, event_added, done_told}
use Rattle.remote_session.specs.Ending.{max_ended, silent_keys, may_end, without, with_ended, key_ended}
use Rattle.remote_session.proofs.SessionLaws.{edited_other}
use Rattle.remote_session.proofs.EndLaws.{without_same, without_other, ended_same, ended_other}
use Rattle.remote_clients.specs.declared.clients.RemoteClient.{RemoteClient}
use Rattle.remote_clients.specs.declared.sessions.Sessions.{Sessions}
use Rattle.remote_clients.specs.Clients.{ClientsState, is_of_key, is_gone, join_of, owned_by, with_record, with_call, hearer_of, goodbye_if, goodbye_owed, with_end}
use Rattle.remote_clients.specs.Sessions.{event_for, noted, noted_all, is_refused, finished}
use Rattle.remote_clients.specs.Entries.{Noting, noting_of, nothing_shown, event_noted, put_noted, put_due, heard_by, entry_noted, noted_with}
use Rattle.remote_clients.specs.Ending.{clients_left, session_ended}
use Rattle.daemon_model.specs.Daemon.{Daemon, KeyEnd, left_for, ticked, key_called, goodbye_in, goodbye_said, key_over, key_ends, keys_over}
use Rattle.daemon_model.specs.Options.{keys_due}
use Rattle.daemon_model.specs.Silence.{IsOver, SilentKeysEnd}

-- ---- what a goodbye leaves

-- the same keys have ended, no key has a session that had none, and the clients are the same
record Keeps (s t : Sessions) : Type 0 where
  ended : t.remote.ended ≡ s.remote.ended
  none : (k : ℕ) → session_of k s.remote.sessions ≡ None → session_of k t.remote.sessions ≡ None
  made : t.clients.made ≡ s.clients.made

keeps_self : (s : Sessions) → Keeps s s
keeps_self s = record { ended = refl; none = λ k e. e; made = refl }

keeps_then : (s t u : Sessions) → Keeps s t → Keeps t u → Keeps s u
keeps_then s t u a b = record { ended = b.ended ∙ a.ended; none = λ k e. b.none k (a.none k e); made = b.made ∙ a.made }

none_edited : (k key : ℕ) (f : Session → Session) (sessions : daemon.Sessions) → session_of k sessions ≡ None → session_of k (edited key f sessions) ≡ None
unfolding edited
none_edited k key f sessions e = by (cases_eq k key)
  where
    by : (k ≡ key) ⊎ (k ≡ key → ⊥) → session_of k (edited key f sessions) ≡ None
    by (inl same) =
        let own : session_of key sessions ≡ None = subst (λ (j : ℕ). session_of j sessions ≡ None) same e in
        ap (λ (o : Option Session). session_of k (edited_as key f sessions o)) own ∙ e
    by (inr ne) = edited_other k key f sessions ne ∙ e

-- a record makes no client
record_made : (calling : Option ℕ) (r : Happened) (c : ClientsState) → (with_record calling r c).made ≡ c.made
unfolding with_record
record_made None r c = refl
record_made (Some key) r c = owns (join_of r)
  where
    owns : (o : Option ProviderId) → (owned_by c o key).made ≡ c.made
    owns None = refl
    owns (Some p) = refl

record_keeps : (calling : Option ℕ) (s : Sessions) (r : Happened) → Keeps s (noted calling s r)
unfolding noted event_added
record_keeps calling s r = record { ended = ended (hearer_of (with_record calling r s.clients) calling r); none = λ k e. none k (hearer_of (with_record calling r s.clients) calling r) e; made = record_made calling r s.clients }
  where
    ended : (o : Option ℕ) → (event_for o r s.remote).ended ≡ s.remote.ended
    ended None = refl
    ended (Some key) = refl

    none : (k : ℕ) (o : Option ℕ) → session_of k s.remote.sessions ≡ None → session_of k (event_for o r s.remote).sessions ≡ None
    none k None e = e
    none k (Some key) e = none_edited k key _ s.remote.sessions e

records_keep : (calling : Option ℕ) (rs : List Happened) (s : Sessions) → Keeps s (noted_all calling rs s)
unfolding noted_all
records_keep calling [] s = keeps_self s
records_keep calling (r ∷ rs) s = keeps_then s (noted calling s r) (noted_all calling rs (noted calling s r)) (record_keeps calling s r) (records_keep calling rs (noted calling s r))

-- with the lines of entries

told_keeps : (key : ℕ) (r : Happened) (n : Noting) → Keeps n.sessions (event_noted key r n).sessions
unfolding event_added
told_keeps key r n = record { ended = refl; none = λ k e. none_edited k key _ n.sessions.remote.sessions e; made = refl }

put_keeps : (key : ℕ) (r : Happened) (o : Option Happened) (n : Noting) → Keeps n.sessions (put_noted key r o n).sessions
put_keeps key r None n = keeps_self n.sessions
put_keeps key r (Some put) n = told_keeps key put n

entry_keeps : (calling : Option ℕ) (n : Noting) (r : Happened) → Keeps n.sessions (entry_noted calling n r).sessions
unfolding entry_noted with_record
entry_keeps calling n r = keeps_then n.sessions known.sessions (entry_noted calling n r).sessions first (heard (hearer_of (with_record calling r n.sessions.clients) calling r))
  where
    known : Noting
    known = record n { sessions = record n.sessions { clients = with_record calling r n.sessions.clients } }

    first : Keeps n.sessions known.sessions
    first = record { ended = refl; none = λ k e. e; made = record_made calling r n.sessions.clients }

    heard : (o : Option ℕ) → Keeps known.sessions (heard_by o r known).sessions
    heard None = keeps_self known.sessions
    heard (Some key) =
        let put : Noting = put_noted key r (put_due known.shown key r) known in
        keeps_then known.sessions put.sessions (event_noted key r put).sessions (put_keeps key r (put_due known.shown key r) known) (told_keeps key r put)

entries_keep : (calling : Option ℕ) (rs : List Happened) (n : Noting) → Keeps n.sessions (fold (entry_noted calling) n rs).sessions
entries_keep calling [] n = keeps_self n.sessions
entries_keep calling (r ∷ rs) n =
    keeps_then n.sessions (entry_noted calling n r).sessions (fold (entry_noted calling) (entry_noted calling n r) rs).sessions (entry_keeps calling n r) (entries_keep calling rs (entry_noted calling n r))

noted_keep : (entries : Bool) (calling : Option ℕ) (rs : List Happened) (s : Sessions) → Keeps s (noted_with entries calling rs s)
unfolding noted_with
noted_keep true calling rs s = entries_keep calling rs (noting_of s nothing_shown)
noted_keep false calling rs s = records_keep calling rs s

goodbye_keeps : (key : ℕ) (name : List ℕ) (taken : Bool) (s : Sessions) → Keeps s (finished key (call.Goodbye name) taken s)
unfolding finished done_told with_call
goodbye_keeps key name true s = record { ended = refl; none = λ k e. none_edited k key _ s.remote.sessions e; made = refl }
goodbye_keeps key name false s = record { ended = refl; none = λ k e. none_edited k key _ s.remote.sessions e; made = refl }

-- the sessions of a daemon, which kept what it had
record Kept (s : Sessions) (d : Daemon) : Type 0 where
  sessions : Sessions
  are : d.sessions ≡ Some sessions
  keeps : Keeps s sessions

called_keeps : (key : ℕ) (name : List ℕ) (c : Core) (d : Daemon) (s : Sessions) → d.sessions ≡ Some s → Kept s (key_called key (call.Goodbye name) c d)
unfolding left_for
called_keeps key name c d s is =
    let noted = noted_with d.entries (Some key) c.records s in
    record {
      sessions = finished key (call.Goodbye name) (not (is_refused c.records)) noted;
      are = ap (λ (o : Option Sessions). option_map (finished key (call.Goodbye name) (not (is_refused c.records))) (option_map (noted_with d.entries (Some key) c.records) o)) is;
      keeps = keeps_then s noted (finished key (call.Goodbye name) (not (is_refused c.records)) noted) (noted_keep d.entries (Some key) c.records s) (goodbye_keeps key name (not (is_refused c.records)) noted);
    }

said_keeps : (key : ℕ) (f : Answering) (d : Daemon) (s : Sessions) → d.sessions ≡ Some s → Kept s (goodbye_said key (goodbye_in d.sessions key) f d)
unfolding goodbye_owed
said_keeps key f d s is = subst (λ (o : Option Sessions). Kept s (goodbye_said key (goodbye_in o key) f d)) (sym is) (by (find (is_of_key key) s.clients.made))
  where
    gone : (b : Bool) (name : List ℕ) → Kept s (goodbye_said key (cond b None (Some (call.Goodbye name))) f d)
    gone true name = record { sessions = s; are = is; keeps = keeps_self s }
    gone false name = called_keeps key name (stepped f d.core (Calls (call.Goodbye name))) d s is

    by : (o : Option RemoteClient) → Kept s (goodbye_said key (goodbye_if s.clients.gone key o) f d)
    by None = record { sessions = s; are = is; keeps = keeps_self s }
    by (Some client) = gone (is_gone s.clients.gone key) client.name

-- ---- the end of a key

client_gone : (key : ℕ) (made : List RemoteClient) → find (is_of_key key) (filter (λ (r : RemoteClient). not (is_of_key key r)) made) ≡ None
client_gone key [] = refl
client_gone key (c ∷ cs) = by (client_gone key cs) (is_of_key key c) refl
  where
    by : find (is_of_key key) (filter (λ (r : RemoteClient). not (is_of_key key r)) cs) ≡ None → (b : Bool) → is_of_key key c ≡ b
        → find (is_of_key key) (cond (not b) (c ∷ filter (λ (r : RemoteClient). not (is_of_key key r)) cs) (filter (λ (r : RemoteClient). not (is_of_key key r)) cs)) ≡ None
    by rest true is = rest
    by rest false is = ap (λ (b : Bool). cond b (Some c) (find (is_of_key key) (filter (λ (r : RemoteClient). not (is_of_key key r)) cs))) is ∙ rest

none_left : (k key : ℕ) (made : List RemoteClient) → find (is_of_key k) made ≡ None → find (is_of_key k) (filter (λ (r : RemoteClient). not (is_of_key key r)) made) ≡ None
none_left k key [] e = refl
none_left k key (c ∷ cs) e = by (none_left k key cs) (is_of_key k c) refl (is_of_key key c) e
  where
    by : (find (is_of_key k) cs ≡ None → find (is_of_key k) (filter (λ (r : RemoteClient). not (is_of_key key r)) cs) ≡ None) → (a : Bool) → is_of_key k c ≡ a → (b : Bool) → cond a (Some c) (find (is_of_key k) cs) ≡ None
        → find (is_of_key k) (cond (not b) (c ∷ filter (λ (r : RemoteClient). not (is_of_key key r)) cs) (filter (λ (r : RemoteClient). not (is_of_key key r)) cs)) ≡ None
    by rest true is b h = absurd cc
    by rest false is true h = rest h
    by rest false is false h = ap (λ (a : Bool). cond a (Some c) (find (is_of_key k) (filter (λ (r : RemoteClient). not (is_of_key key r)) cs))) is ∙ rest h

-- a key is over, and what was over stays so
record Ended (key : ℕ) (s t : Sessions) : Type 0 where
  own : IsOver key t
  others : (k : ℕ) → IsOver k s → IsOver k t
  few : length t.remote.ended ≤ length s.remote.ended + 1

ends : (key : ℕ) (s : Sessions) → may_end s.remote ≡ true → Ended key s (session_ended key s)
unfolding session_ended key_ended with_end
ends key s may = subst (λ (b : Bool). Ended key s (record { remote = cond b (record s.remote { sessions = without key s.remote.sessions; ended = with_ended key s.remote.ended }) s.remote; clients = clients_left b key s.clients })) (sym may)
    (record {
      own = record { ended = ended_same key s.remote.ended; session = without_same key s.remote.sessions; client = client_gone key s.clients.made };
      others = λ k over. other k over (cases_eq k key);
      few = few (is_ended key s.remote.ended);
    })
  where
    after : Sessions
    after = record { remote = record s.remote { sessions = without key s.remote.sessions; ended = with_ended key s.remote.ended }; clients = with_end key s.clients }

    other : (k : ℕ) → IsOver k s → (k ≡ key) ⊎ (k ≡ key → ⊥) → IsOver k after
    other k over (inl e) = subst (λ (j : ℕ). IsOver j after) (sym e) (record { ended = ended_same key s.remote.ended; session = without_same key s.remote.sessions; client = client_gone key s.clients.made })
    other k over (inr ne) =
        record {
          ended = ended_other k key s.remote.ended ne ∙ over.ended;
          session = without_other k key s.remote.sessions ne ∙ over.session;
          client = none_left k key s.clients.made over.client;
        }

    few : (b : Bool) → length (cond b s.remote.ended (s.remote.ended ++ key ∷ [])) ≤ length s.remote.ended + 1
    few true = omega arith
    few false = let len = length_push s.remote.ended key in omega (arith, len)

-- ---- keys one after another

abbrev key_of : KeyEnd → ℕ
key_of e = e.key

kept_over : (s t : Sessions) → Keeps s t → (k : ℕ) → IsOver k s → IsOver k t
kept_over s t keeps k over =
    record {
      ended = ap (is_ended k) keeps.ended ∙ over.ended;
      session = keeps.none k over.session;
      client = ap (find (is_of_key k)) keeps.made ∙ over.client;
    }

record OverTo (P : ℕ → Type 0) (o : Option Sessions) : Type 0 where
  sessions : Sessions
  are : o ≡ Some sessions
  over : (k : ℕ) → P k → IsOver k sessions

record Key (key : ℕ) (s : Sessions) (d : Daemon) : Type 0 where
  sessions : Sessions
  are : d.sessions ≡ Some sessions
  ended : Ended key s sessions

one_over : (key : ℕ) (f : Answering) (d : Daemon) (s : Sessions) → d.sessions ≡ Some s → length s.remote.ended < max_ended → Key key s (key_over key f d)
unfolding key_over may_end
one_over key f d s is lt =
    let kept = said_keeps key f d s is in
    let same : length kept.sessions.remote.ended ≡ length s.remote.ended = ap length kept.keeps.ended in
    let done = ends key kept.sessions (lt-ltb (length kept.sessions.remote.ended) max_ended (omega (arith, same, lt))) in
    let few = done.few in
    record {
      sessions = session_ended key kept.sessions;
      are = ap (λ (o : Option Sessions). option_map (session_ended key) o) kept.are;
      ended = record {
        own = done.own;
        others = λ k over. done.others k (kept_over s kept.sessions kept.keeps k over);
        few = omega (arith, few, same);
      };
    }

all_over : (es : List KeyEnd) (d : Daemon) (s : Sessions) → d.sessions ≡ Some s → length s.remote.ended + length (map key_of es) ≤ max_ended → OverTo (λ k. IsOver k s ⊎ Has k (map key_of es)) (keys_over es d).sessions
all_over [] d s is le = record { sessions = s; are = is; over = λ k h. elim h [ inl over ↦ over | inr none ↦ absurd none ] }
all_over (e ∷ es) d s is le =
    let one = one_over e.key e.answers d s is (omega (arith, le)) in
    let few = one.ended.few in
    let rest = all_over es (key_ends d e) one.sessions one.are (omega (arith, le, few)) in
    record {
      sessions = rest.sessions;
      are = rest.are;
      over = λ k h.
          elim h [
            | inl over ↦ rest.over k (inl (one.ended.others k over))
            | inr there ↦ elim there [ inl same ↦ rest.over k (inl (subst (λ (j : ℕ). IsOver j one.sessions) (sym same) one.ended.own)) | inr more ↦ rest.over k (inr more) ]
          ];
    }

pub silent_end : SilentKeysEnd
silent_end o least ticks d t s key asked keeps is there le =
    let due : map key_of t.ends ≡ silent_keys least s.remote = keeps.ends ∙ (ap (λ (l : Option ℕ). keys_due l (ticked t.moment t.tick d).sessions) asked ∙ ap (keys_due (Some least)) is) in
    let all = all_over t.ends (ticked t.moment t.tick d) s is (subst (λ (keys : List ℕ). length s.remote.ended + length keys ≤ max_ended) (sym due) le) in
    record { sessions = all.sessions; are = all.are; over = all.over key (inr (subst (Has key) (sym due) there)) }
