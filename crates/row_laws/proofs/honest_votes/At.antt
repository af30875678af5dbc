-- In the middle of a step: all votes that the node has, sends and records were cast.
use Rattle.std.proofs.Common.{◌≡◌, ◌⊎◌, ℕ, List, [], ◌∷◌, ◌++◌, None, Bool, true, false, refl, sym, subst, inl, inr, ⊎_elim}
use Rattle.std.specs.Prelude.{find, reverse}
use Rattle.std.specs.Str.{bytes_eq}
use Rattle.std.proofs.lemmas.List.{reverse-append}
use Rattle.rsct_packet.specs.Providers.{differ}
use Rattle.rsct_packet.specs.Search.{Has}
use Rattle.rsct_packet.specs.Text.{name_lt}
use Rattle.rsct_packet.proofs.HasLaws.{has_append, append_has_left, append_has_right}
use Rattle.proposal_core.specs.Lists.{state_in}
use Rattle.session_state.specs.declared.state.KeptBallot.{KeptBallot}
use Rattle.session_state.specs.declared.state.SessionState.{SessionState}
use Rattle.view_state.specs.declared.views.Views.{Views}
use Rattle.node_state.specs.declared.group.GroupRow.{GroupRow}
use Rattle.node_state.specs.declared.happened.Happened.{Happened}
use Rattle.node_state.specs.declared.packet.Body.{Body}
use Rattle.node_state.specs.declared.packet.Packet.{Packet}
use Rattle.node_state.specs.declared.state.Core.{Core}
use Rattle.node_state.specs.State.{InNameOrder, new_row, row_found, row_of, rows_with, with_row, is_this, leader_by, leader_in, leads_in, leads, recorded, with_sessions, has_name}
use Rattle.node_state.specs.Sending.{packet_on, send_on}
use Rattle.run_safety.specs.Past.{History, records_of, Within}
use Rattle.node_state.proofs.NameOrder.{KeepsName, cases_text, row_here, row_there, rows_ordered}
use Rattle.row_laws.specs.honest_votes.Casts.{RecordCast, ListCast, BodyCast, KeptCast, ViewsCast, TallyCast}
use Rattle.row_laws.proofs.honest_votes.More.{entries_on, body_on, ballot_on, views_on, tally_on}

-- the node leads a group with this row
abbrev pub leads_row : Core → GroupRow → Bool
leads_row s row = is_this s.views.me (leader_by s.config.mode s.views.view.coord row.leader)

abbrev pub found : Core → List ℕ → GroupRow
found s g = row_found g (find (has_name g) s.groups)

pub leads_is : (s : Core) (g : List ℕ) → leads_row s (found s g) ≡ leads s g
unfolding leads leads_in leader_in row_of
leads_is s g = refl

-- a row has no tally, or the node leads the group and each vote of the tally was cast in the phase that runs
abbrev pub RowIs : List Happened → Bool → GroupRow → Type 0
RowIs rs led row = (row.led.tally ≡ None) ⊎ ((led ≡ true) × TallyCast rs row.led.tally (state_in row.list).running)

-- the joins that wait differ
abbrev pub RowApart : GroupRow → Type 0
RowApart row = differ row.led.waiting.joins ≡ true

-- T: the groups whose tally is of the phase that runs
pub record At (h : History) (T : List ℕ → Type 0) (s : Core) : Type 0 where
  pub sends : (p : Packet) → Has p s.sends → BodyCast (s.records ++ records_of h) p.body
  pub kept : (k : KeptBallot) → Has k s.sessions.kept → KeptCast (s.records ++ records_of h) k
  pub lists : (row : GroupRow) → Has row s.groups → ListCast (s.records ++ records_of h) row.list
  pub views : ViewsCast (s.records ++ records_of h) s.views
  pub puts : Within RecordCast (reverse s.records) h
  pub order : InNameOrder s.groups
  pub tallies : (g : List ℕ) → T g → RowIs (s.records ++ records_of h) (leads_row s (found s g)) (found s g)
  pub apart : (g : List ℕ) → RowApart (found s g)

pub row_is_on : (rs ts : List Happened) → ((r : Happened) → Has r rs → Has r ts) → (b : Bool) (row : GroupRow) → RowIs rs b row → RowIs ts b row
row_is_on rs ts more b row (inl e) = inl e
row_is_on rs ts more b row (inr k) = inr (k.0, tally_on rs ts more row.led.tally (state_in row.list).running k.1)

pub rows_has : (g : List ℕ) (f : GroupRow → GroupRow) (rows : List GroupRow) (y : GroupRow) → Has y (rows_with g f rows) → Has y rows ⊎ ((x : GroupRow) × (Has x rows ⊎ (x ≡ new_row g)) × (y ≡ f x))
unfolding rows_with
rows_has g f [] y (inl e) = inr (new_row g, inr refl, e)
rows_has g f [] y (inr z) = absurd z
rows_has g f (row ∷ rows) y i = by (bytes_eq row.name g) (name_lt g row.name) i (rows_has g f rows y)
  where
    by : (b c : Bool) → Has {A = GroupRow} y (elim b [ true ↦ f row ∷ rows | false ↦ elim c [ true ↦ f (new_row g) ∷ row ∷ rows | false ↦ row ∷ rows_with g f rows ] ]) → (Has y (rows_with g f rows) → Has y rows ⊎ ((x : GroupRow) × (Has x rows ⊎ (x ≡ new_row g)) × (y ≡ f x))) → Has y (row ∷ rows) ⊎ ((x : GroupRow) × (Has x (row ∷ rows) ⊎ (x ≡ new_row g)) × (y ≡ f x))
    by true c (inl e) k = inr (row, inl (inl refl), e)
    by true c (inr j) k = inl (inr j)
    by false true (inl e) k = inr (new_row g, inr refl, e)
    by false true (inr j) k = inl j
    by false false (inl e) k = inl (inl e)
    by false false (inr j) k = deeper (k j)
      where
        deeper : Has y rows ⊎ ((x : GroupRow) × (Has x rows ⊎ (x ≡ new_row g)) × (y ≡ f x)) → Has y (row ∷ rows) ⊎ ((x : GroupRow) × (Has x (row ∷ rows) ⊎ (x ≡ new_row g)) × (y ≡ f x))
        deeper (inl a) = inl (inr a)
        deeper (inr a) = inr (a.0, ⊎_elim (λ (z : Has a.0 rows). inl (inr z)) (λ (z : a.0 ≡ new_row g). inr z) a.1, a.2)

module _ (h : History) where
  abbrev all_of : Core → List Happened
  all_of s = s.records ++ records_of h

  -- of fewer groups
  pub at_fewer : (T U : List ℕ → Type 0) (s : Core) → ((g : List ℕ) → U g → T g) → At h T s → At h U s
  at_fewer T U s less a =
      record { sends = a.sends; kept = a.kept; lists = a.lists; views = a.views; puts = a.puts; order = a.order; tallies = λ g t. a.tallies g (less g t); apart = a.apart }

  module _ (T : List ℕ → Type 0) where
    pub at_sent_on : (s : Core) (network to : ℕ) (b : Body) → BodyCast (s.records ++ records_of h) b → At h T s → At h T (send_on s network to b)
    unfolding send_on packet_on
    at_sent_on s network to b ok a =
        record { sends = λ p i. by p (has_append p s.sends (packet_on s network to b ∷ []) i); kept = a.kept; lists = a.lists; views = a.views; puts = a.puts; order = a.order; tallies = a.tallies; apart = a.apart }
      where
        by : (p : Packet) → Has p s.sends ⊎ Has p (packet_on s network to b ∷ []) → BodyCast (s.records ++ records_of h) p.body
        by p (inl i) = a.sends p i
        by p (inr (inl e)) = subst (λ (q : Packet). BodyCast (s.records ++ records_of h) q.body) (sym e) ok
        by p (inr (inr z)) = absurd z

    pub more_pushed : (rs : List Happened) (r x : Happened) → Has x (rs ++ records_of h) → Has x ((rs ++ r ∷ []) ++ records_of h)
    more_pushed rs r x i =
        ⊎_elim (λ (j : Has x rs). append_has_left x (rs ++ r ∷ []) (records_of h) (append_has_left x rs (r ∷ []) j)) (λ (j : Has x (records_of h)). append_has_right x (rs ++ r ∷ []) (records_of h) j) (has_append x rs (records_of h) i)

    pub at_recorded : (s : Core) (r : Happened) → RecordCast (reverse s.records) h r → At h T s → At h T (recorded s r)
    unfolding recorded
    at_recorded s r ok a =
        let more : (x : Happened) → Has x (s.records ++ records_of h) → Has x ((s.records ++ r ∷ []) ++ records_of h) = λ x i. more_pushed s.records r x i in
        let rs : List Happened = s.records ++ records_of h in
        let ts : List Happened = (s.records ++ r ∷ []) ++ records_of h in
        record {
          sends = λ p i. body_on rs ts more p.body (a.sends p i);
          kept = λ k i. ballot_on rs ts more k.provider k.proto k.phase k.ballot.filled (a.kept k i);
          lists = λ row i e j. entries_on rs ts more _ (a.lists row i) e j;
          views = views_on rs ts more s.views a.views;
          puts = subst (λ l. Within RecordCast l h) (sym (reverse-append s.records (r ∷ []))) (ok, a.puts);
          order = a.order;
          tallies = λ g t. row_is_on rs ts more (leads_row s (found s g)) (found s g) (a.tallies g t);
          apart = a.apart;
        }

    pub at_sessions : (s : Core) (t : SessionState) → ((k : KeptBallot) → Has k t.kept → KeptCast (s.records ++ records_of h) k) → At h T s → At h T (with_sessions s t)
    unfolding with_sessions
    at_sessions s t ok a =
        record { sends = a.sends; kept = ok; lists = a.lists; views = a.views; puts = a.puts; order = a.order; tallies = a.tallies; apart = a.apart }

    pub at_views : (s : Core) (v : Views) → ViewsCast (s.records ++ records_of h) v → v.me ≡ s.views.me → v.view ≡ s.views.view → At h T s → At h T (record s { views = v })
    at_views s v ok me at a =
        record {
          sends = a.sends;
          kept = a.kept;
          lists = a.lists;
          views = ok;
          puts = a.puts;
          order = a.order;
          tallies = λ g t. subst (λ b. RowIs (s.records ++ records_of h) b (found s g)) (same g) (a.tallies g t);
          apart = a.apart;
        }
      where
        same : (g : List ℕ) → leads_row s (found s g) ≡ leads_row (record s { views = v }) (found s g)
        same g = λ i. is_this (sym me i) (leader_by s.config.mode (sym at i).coord (found s g).leader)

  -- a row changes
  pub at_row_for : (T U : List ℕ → Type 0) (s : Core) (g : List ℕ) (f : GroupRow → GroupRow) → KeepsName f → ((x : GroupRow) → ListCast (s.records ++ records_of h) x.list → ListCast (s.records ++ records_of h) (f x).list) → (RowApart (found s g) → RowApart (f (found s g))) → ((k : List ℕ) → U k → (g ≡ k → ⊥) → T k) → (U g → RowIs (s.records ++ records_of h) (leads_row s (f (found s g))) (f (found s g))) → At h T s → At h U (with_row s g f)
  unfolding with_row row_of
  at_row_for T U s g f keeps lists waits others own a =
      record {
        sends = a.sends;
        kept = a.kept;
        lists = λ row i. by row (rows_has g f s.groups row i);
        views = a.views;
        puts = a.puts;
        order = rows_ordered g f keeps s a.order;
        tallies = λ k u. tally k u (cases_text g k);
        apart = λ k. still k (cases_text g k);
      }
    where
      Is : GroupRow → Type 0
      Is row = RowIs (s.records ++ records_of h) (leads_row s row) row

      old : (x : GroupRow) → Has x s.groups ⊎ (x ≡ new_row g) → ListCast (s.records ++ records_of h) x.list
      old x (inl i) = a.lists x i
      old x (inr e) = subst (λ (z : GroupRow). ListCast (s.records ++ records_of h) z.list) (sym e) (λ e i. absurd i)

      by : (row : GroupRow) → Has row s.groups ⊎ ((x : GroupRow) × (Has x s.groups ⊎ (x ≡ new_row g)) × (row ≡ f x)) → ListCast (s.records ++ records_of h) row.list
      by row (inl i) = a.lists row i
      by row (inr k) = subst (λ (z : GroupRow). ListCast (s.records ++ records_of h) z.list) (sym k.2) (lists k.0 (old k.0 k.1))

      tally : (k : List ℕ) → U k → (g ≡ k) ⊎ (g ≡ k → ⊥) → Is (found (with_row s g f) k)
      tally k u (inl e) = subst (λ z. Is (found (with_row s g f) z)) e (subst Is (sym (row_here g f keeps s a.order)) (own (subst U (sym e) u)))
      tally k u (inr ne) = subst Is (sym (row_there g f keeps s k ne)) (a.tallies k (others k u ne))

      still : (k : List ℕ) → (g ≡ k) ⊎ (g ≡ k → ⊥) → RowApart (found (with_row s g f) k)
      still k (inl e) = subst (λ z. RowApart (found (with_row s g f) z)) e (subst RowApart (sym (row_here g f keeps s a.order)) (waits (a.apart g)))
      still k (inr ne) = subst RowApart (sym (row_there g f keeps s k ne)) (a.apart k)

  pub at_row : (T : List ℕ → Type 0) (s : Core) (g : List ℕ) (f : GroupRow → GroupRow) → KeepsName f → ((x : GroupRow) → ListCast (s.records ++ records_of h) x.list → ListCast (s.records ++ records_of h) (f x).list) → (RowApart (found s g) → RowApart (f (found s g))) → (T g → RowIs (s.records ++ records_of h) (leads_row s (f (found s g))) (f (found s g))) → At h T s → At h T (with_row s g f)
  at_row T s g f keeps lists waits own a = at_row_for T T s g f keeps lists waits (λ k t ne. t) own a
