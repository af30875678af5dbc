-- In the middle of a step: the ballots that the node keeps, sends and has counted were recorded, and what it put carries them.
use Rattle.std.proofs.Common.{◌≡◌, ◌⊎◌, ℕ, List, [], ◌∷◌, ◌++◌, Option, Some, None, Bool, true, sym, subst, inl, inr, ⊎_elim}
use Rattle.std.specs.Prelude.{reverse}
use Rattle.std.proofs.lemmas.List.{reverse-append}
use Rattle.rsct_packet.specs.declared.ids.ViewId.{ViewId}
use Rattle.rsct_packet.specs.declared.ids.ProviderId.{ProviderId}
use Rattle.rsct_packet.specs.declared.ids.ProtoId.{ProtoId}
use Rattle.rsct_packet.specs.Search.{Has}
use Rattle.rsct_packet.proofs.HasLaws.{has_append, append_has_left, append_has_right}
use Rattle.proposal_core.specs.declared.entry.Entry.{Entry}
use Rattle.proposal_core.specs.Lists.{state_in}
use Rattle.client_callbacks.specs.declared.ballot.Filled.{Filled}
use Rattle.session_state.specs.declared.state.KeptBallot.{KeptBallot}
use Rattle.session_state.specs.declared.state.SessionState.{SessionState}
use Rattle.view_state.specs.declared.views.Views.{Views}
use Rattle.node_state.specs.declared.group.GroupRow.{GroupRow}
use Rattle.node_state.specs.declared.happened.Happened.{Happened}
use Rattle.node_state.specs.declared.happened.Happened.TheVariants as happened
use Rattle.node_state.specs.declared.packet.Body.{Body}
use Rattle.node_state.specs.declared.packet.Body.TheVariants as body
use Rattle.node_state.specs.declared.packet.Packet.{Packet}
use Rattle.node_state.specs.declared.state.Core.{Core}
use Rattle.node_state.specs.State.{InNameOrder, with_row, row_of, is_this, leader_by, recorded, with_sessions}
use Rattle.node_state.specs.Sending.{packet_on, send_on}
use Rattle.run_safety.specs.Past.{History, records_of, earlier}
use Rattle.node_state.proofs.NameOrder.{KeepsName, rows_ordered}
use Rattle.entry_laws.proofs.closing_rows.Calms.{Silent}
use Rattle.entry_laws.proofs.closing_rows.Entered.{Since}
use Rattle.entry_laws.proofs.closing_rows.At.{leads_row, found, row_with}
use Rattle.entry_laws.specs.carried_values.Carried.{EntryCarries, BallotTold, KeptTold, BodyTold}
use Rattle.entry_laws.proofs.carried_values.Slots.{TallyIs, tally_on}

-- a row has no tally, or the node leads the group and each vote of the tally is that of a counted ballot
abbrev pub RowIs : List Happened → Bool → GroupRow → Type 0
RowIs rs led row = (row.led.tally ≡ None) ⊎ ((led ≡ true) × TallyIs rs row.led.tally row.led.given (state_in row.list).running)

-- what is put carries recorded ballots, or someone put it there before
abbrev pub PutFact : List Happened → History → ViewId → List ℕ → ℕ → Entry → Type 0
PutFact now h v g i e = EntryCarries (earlier now h) e ⊎ ((m : ℕ) × Has (happened.Put m v g i e) (earlier now h))

abbrev pub RecordFact : List Happened → History → Happened → Type 0
RecordFact now h (happened.Put n v g i e) = PutFact now h v g i e
RecordFact now h _ = Unit {0}

-- of each put since the node entered a view
abbrev pub Facts : History → List Happened → Type 0
Facts h now = Since RecordFact now h

-- the events before, and whether what is put now counts: not what is put as a view is entered
pub record Course : Type 0 where
  pub before : History
  pub counts : Bool

-- T: the groups whose tally is of the phase that runs
pub record At (h : Course) (T : List ℕ → Type 0) (s : Core) : Type 0 where
  pub sends : (p : Packet) → Has p s.sends → BodyTold (s.records ++ records_of h.before) p.body
  pub kept : (k : KeptBallot) → Has k s.sessions.kept → KeptTold (s.records ++ records_of h.before) k
  pub facts : h.counts ≡ true → Facts h.before (reverse s.records)
  pub order : InNameOrder s.groups
  pub tallies : (g : List ℕ) → T g → RowIs (s.records ++ records_of h.before) (leads_row s (found s g)) (found s g)

-- ---- more is recorded

module _ (rs ts : List Happened) (more : (r : Happened) → Has r rs → Has r ts) where
  pub ballot_on : (p : ProviderId) (proto : ProtoId) (phase : ℕ) (b : Option Filled) → BallotTold rs p proto phase b → BallotTold ts p proto phase b
  ballot_on p proto phase None k = tt
  ballot_on p proto phase (Some b) k = more _ k

  pub body_on : (b : Body) → BodyTold rs b → BodyTold ts b
  body_on (body.Vote v g proto phase p vote value message) k = more _ k
  body_on _ k = tt

  pub row_is_on : (b : Bool) (row : GroupRow) → RowIs rs b row → RowIs ts b row
  row_is_on b row (inl e) = inl e
  row_is_on b row (inr k) = inr (k.0, tally_on rs ts more row.led.tally row.led.given (state_in row.list).running k.1)

silent_fact : (h : History) (now : List Happened) (r : Happened) → Silent r → Facts h now → Facts h (r ∷ now)
silent_fact h now (happened.Put n v g i e) z k = absurd z
silent_fact h now (happened.In n v ms) z k = absurd z
silent_fact h now _ z k = (tt, k)

module _ (h : Course) where
  -- of fewer groups
  pub at_fewer : (T U : List ℕ → Type 0) (s : Core) → ((g : List ℕ) → U g → T g) → At h T s → At h U s
  at_fewer T U s less a = record { sends = a.sends; kept = a.kept; facts = a.facts; order = a.order; tallies = λ g t. a.tallies g (less g t) }

  module _ (T : List ℕ → Type 0) where
    pub at_sent_on : (s : Core) (network to : ℕ) (b : Body) → BodyTold (s.records ++ records_of h.before) b → At h T s → At h T (send_on s network to b)
    unfolding send_on packet_on
    at_sent_on s network to b ok a =
        record { sends = λ p i. by p (has_append p s.sends (packet_on s network to b ∷ []) i); kept = a.kept; facts = a.facts; order = a.order; tallies = a.tallies }
      where
        by : (p : Packet) → Has p s.sends ⊎ Has p (packet_on s network to b ∷ []) → BodyTold (s.records ++ records_of h.before) p.body
        by p (inl i) = a.sends p i
        by p (inr (inl e)) = subst (λ (q : Packet). BodyTold (s.records ++ records_of h.before) q.body) (sym e) ok
        by p (inr (inr z)) = absurd z

    pub more_pushed : (rs : List Happened) (r x : Happened) → Has x (rs ++ records_of h.before) → Has x ((rs ++ r ∷ []) ++ records_of h.before)
    more_pushed rs r x i =
        ⊎_elim (λ (j : Has x rs). append_has_left x (rs ++ r ∷ []) (records_of h.before) (append_has_left x rs (r ∷ []) j)) (λ (j : Has x (records_of h.before)). append_has_right x (rs ++ r ∷ []) (records_of h.before) j) (has_append x rs (records_of h.before) i)

    -- with what follows from the record
    pub at_pushed : (s : Core) (r : Happened) → (h.counts ≡ true → Facts h.before (reverse s.records) → Facts h.before (r ∷ reverse s.records)) → At h T s → At h T (recorded s r)
    unfolding recorded
    at_pushed s r fact a =
        let more : (x : Happened) → Has x (s.records ++ records_of h.before) → Has x ((s.records ++ r ∷ []) ++ records_of h.before) = λ x i. more_pushed s.records r x i in
        let rs : List Happened = s.records ++ records_of h.before in
        let ts : List Happened = (s.records ++ r ∷ []) ++ records_of h.before in
        record {
          sends = λ p i. body_on rs ts more p.body (a.sends p i);
          kept = λ k i. ballot_on rs ts more k.provider k.proto k.phase k.ballot.filled (a.kept k i);
          facts = λ c. subst (Facts h.before) (sym (reverse-append s.records (r ∷ []))) (fact c (a.facts c));
          order = a.order;
          tallies = λ g t. row_is_on rs ts more (leads_row s (found s g)) (found s g) (a.tallies g t);
        }

    pub at_recorded : (s : Core) (r : Happened) → Silent r → At h T s → At h T (recorded s r)
    at_recorded s r silent a = at_pushed s r (λ c k. silent_fact h.before (reverse s.records) r silent k) a

    pub at_sessions : (s : Core) (t : SessionState) → ((k : KeptBallot) → Has k t.kept → KeptTold (s.records ++ records_of h.before) k) → At h T s → At h T (with_sessions s t)
    unfolding with_sessions
    at_sessions s t ok a = record { sends = a.sends; kept = ok; facts = a.facts; order = a.order; tallies = a.tallies }

    pub at_views : (s : Core) (v : Views) → v.me ≡ s.views.me → v.view ≡ s.views.view → At h T s → At h T (record s { views = v })
    at_views s v me at a =
        record {
          sends = a.sends;
          kept = a.kept;
          facts = a.facts;
          order = a.order;
          tallies = λ g t. subst (λ b. RowIs (s.records ++ records_of h.before) b (found s g)) (same g) (a.tallies g t);
        }
      where
        same : (g : List ℕ) → leads_row s (found s g) ≡ leads_row (record s { views = v }) (found s g)
        same g = λ i. is_this (sym me i) (leader_by s.config.mode (sym at i).coord (found s g).leader)

  -- a row changes
  pub at_row_for : (T U : List ℕ → Type 0) (s : Core) (g : List ℕ) (f : GroupRow → GroupRow) → KeepsName f → ((k : List ℕ) → U k → (g ≡ k → ⊥) → T k) → (U g → RowIs (s.records ++ records_of h.before) (leads_row s (f (found s g))) (f (found s g))) → At h T s → At h U (with_row s g f)
  unfolding with_row row_of
  at_row_for T U s g f keeps others own a =
      record {
        sends = a.sends;
        kept = a.kept;
        facts = a.facts;
        order = rows_ordered g f keeps s a.order;
        tallies = row_with (λ k row. U k → RowIs (s.records ++ records_of h.before) (leads_row s row) row) s g f keeps a.order own (λ k ne u. a.tallies k (others k u ne));
      }

  pub at_row : (T : List ℕ → Type 0) (s : Core) (g : List ℕ) (f : GroupRow → GroupRow) → KeepsName f → (T g → RowIs (s.records ++ records_of h.before) (leads_row s (f (found s g))) (f (found s g))) → At h T s → At h T (with_row s g f)
  at_row T s g f keeps own a = at_row_for T T s g f keeps (λ k t ne. t) own a
