-- A step from its call on: no provider comes in, what is recorded stays, and who casts was handed an entry.
use Rattle.std.proofs.Common.{◌≡◌, ◌⊎◌, ℕ, List, [], ◌∷◌, ◌++◌, Option, Some, None, refl, sym, subst, inl, inr}
use Rattle.std.specs.Prelude.{flat_map}
use Rattle.rsct_packet.specs.declared.ids.ProviderId.{ProviderId}
use Rattle.rsct_packet.specs.declared.ids.ProtoId.{ProtoId}
use Rattle.rsct_packet.specs.Search.{Has}
use Rattle.rsct_packet.proofs.HasLaws.{has_append, append_has_left, append_has_right}
use Rattle.proposal_core.specs.declared.entry.Entry.{Entry}
use Rattle.proposal_core.specs.declared.group_state.GroupState.{GroupState}
use Rattle.client_callbacks.specs.declared.ballot.Filled.{Filled}
use Rattle.client_callbacks.specs.declared.told.Why.{Why}
use Rattle.client_callbacks.specs.declared.told.Why.TheVariants.{Dissolved}
use Rattle.client_callbacks.specs.Ballots.{BallotView}
use Rattle.session_state.specs.declared.casts.Cast.{Cast}
use Rattle.session_state.specs.declared.state.SessionState.{SessionState}
use Rattle.session_state.specs.State.{outstanding}
use Rattle.session_state.specs.HandOn.{casts_out, take_telling, handed_on}
use Rattle.view_state.specs.declared.install.Install.{Install}
use Rattle.node_state.specs.declared.happened.Happened.{Happened}
use Rattle.node_state.specs.declared.happened.Happened.TheVariants as happened
use Rattle.node_state.specs.declared.packet.Body.TheVariants as body
use Rattle.node_state.specs.declared.state.Core.{Core}
use Rattle.node_state.specs.State.{with_row, with_led, set_leader, state_of, len_of, recorded, recorded_all, with_sessions}
use Rattle.node_state.specs.Sending.{send_on}
use Rattle.node_state.specs.HandOn.{Answering, cast_record, cast_records, heard}
use Rattle.node_state.specs.Leading.{put}
use Rattle.node_state.specs.Deciding.{keep_decision, is_idle_empty, wait_join}
use Rattle.node_state.specs.Applying.{level_set, number_of, dissolved}
use Rattle.node_state.specs.Step.{NodeEvent, stepped, at_work}
use Rattle.step_walk.proofs.Changes.{Whatever, put_sent, handing, viewing, KeepsRing, KeepsRules, KeepsViews}
use Rattle.step_walk.proofs.Parts.{IsEntering, entering, on_enters}
use Rattle.step_walk.proofs.Ringing.{by_ring}
use Rattle.step_walk.proofs.Walking.{whatever, on_stepped}
use Rattle.row_laws.proofs.hearing.Changes.{Sends, sends_all}
use Rattle.row_laws.proofs.failed_rows.Origin.{root_of}
use Rattle.call_laws.specs.Calls.{HeardAmong}
use Rattle.call_laws.proofs.Kin.{Kin, kin_same, kin_then, kin_handed, kin_told}

-- who casts was handed an entry, among these records; and nobody asks
abbrev pub Answers : List Happened → Happened → Type 0
Answers rs (happened.Cast p proto phase vote value message) = HeardAmong rs p
Answers rs (happened.Asked p r g x) = ⊥
Answers rs _ = Unit {0}

pub heard_more : (rs ts : List Happened) (p : ProviderId) → ((r : Happened) → Has r rs → Has r ts) → HeardAmong rs p → HeardAmong ts p
heard_more rs ts p more h =
    record { view = h.view; group = h.group; place = h.place; entry = h.entry; members = h.members; value = h.value; there = more (happened.Heard p h.view h.group h.place h.entry h.members h.value) h.there }

answers_more : (rs ts : List Happened) (r : Happened) → ((q : Happened) → Has q rs → Has q ts) → Answers rs r → Answers ts r
answers_more rs ts (happened.Cast p proto phase vote value message) more k = heard_more rs ts p more k
answers_more rs ts (happened.Asked p r g x) more k = k
answers_more rs ts _ more k = tt

-- ---- what an entry that is handed on records

heard_answers : (c : Core) (h : List ℕ) (i : ℕ) (e : Entry) (after : GroupState) (x : Cast) (all : List Happened) → ((q : Happened) → Has q (heard c h i e after x) → Has q all) → (r : Happened) → Has r (heard c h i e after x) → Answers all r
unfolding heard cast_records cast_record
heard_answers c h i e after x all more r (inl eq) = subst (Answers all) (sym eq) tt
heard_answers c h i e after x all more r (inr j) = by x.cast j
  where
    was : HeardAmong all x.provider
    was = record { view = c.views.view; group = h; place = i; entry = e; members = after.members; value = after.value; there = more (happened.Heard x.provider c.views.view h i e after.members after.value) (inl refl) }

    filled : (proto : ProtoId) (phase : ℕ) (b : Option Filled) → Has r (cast_record x.provider proto phase b) → Answers all r
    filled proto phase None k = absurd k
    filled proto phase (Some b) (inl eq) = subst (Answers all) (sym eq) was
    filled proto phase (Some b) (inr z) = absurd z

    by : (o : Option (ProtoId × ℕ × BallotView)) → Has r (cast_records x.provider o) → Answers all r
    by None k = absurd k
    by (Some k) l = filled k.0 k.1 (k.2).filled l

all_answer : (c : Core) (h : List ℕ) (i : ℕ) (e : Entry) (after : GroupState) (xs : List Cast) (all : List Happened) → ((q : Happened) → Has q (flat_map (heard c h i e after) xs) → Has q all) → (r : Happened) → Has r (flat_map (heard c h i e after) xs) → Answers all r
all_answer c h i e after [] all more r j = absurd j
all_answer c h i e after (x ∷ xs) all more r j =
    by (has_append r (heard c h i e after x) (flat_map (heard c h i e after) xs) j) (all_answer c h i e after xs all (λ q l. more q (append_has_right q (heard c h i e after x) (flat_map (heard c h i e after) xs) l)) r)
  where
    by : Has r (heard c h i e after x) ⊎ Has r (flat_map (heard c h i e after) xs) → (Has r (flat_map (heard c h i e after) xs) → Answers all r) → Answers all r
    by (inl k) rest = heard_answers c h i e after x all (λ q l. more q (append_has_left q (heard c h i e after x) (flat_map (heard c h i e after) xs) l)) r k
    by (inr k) rest = rest k

-- ---- a step

pub record Walked (root s : Core) : Type 0 where
  pub kin : Kin root.sessions s.sessions
  pub grown : (r : Happened) → Has r root.records → Has r s.records
  pub fresh : (r : Happened) → Has r s.records → Has r root.records ⊎ Answers s.records r

walked_self : (s : Core) → Walked s s
walked_self s = record { kin = kin_same s.sessions s.sessions refl; grown = λ r i. i; fresh = λ r i. inl i }

module _ (root : Core) where
  kin_on : (s : Core) (u : SessionState) → Kin s.sessions u → Walked root s → Walked root (record s { sessions = u })
  kin_on s u l k = record { kin = kin_then root.sessions s.sessions u k.kin l; grown = k.grown; fresh = k.fresh }

  added : (s : Core) (new : List Happened) → ((r : Happened) → Has r new → Answers (s.records ++ new) r) → Walked root s → Walked root (record s { records = s.records ++ new })
  added s new says k =
      record { kin = k.kin; grown = λ x i. append_has_left x s.records new (k.grown x i); fresh = λ x i. by x (has_append x s.records new i) }
    where
      old : (x : Happened) → Has x root.records ⊎ Answers s.records x → Has x root.records ⊎ Answers (s.records ++ new) x
      old x (inl i) = inl i
      old x (inr a) = inr (answers_more s.records (s.records ++ new) x (λ q i. append_has_left q s.records new i) a)

      by : (x : Happened) → Has x s.records ⊎ Has x new → Has x root.records ⊎ Answers (s.records ++ new) x
      by x (inl i) = old x (k.fresh x i)
      by x (inr i) = inr (says x i)

  pushed : (s : Core) (r : Happened) → Answers (s.records ++ r ∷ []) r → Walked root s → Walked root (record s { records = s.records ++ r ∷ [] })
  pushed s r says k = added s (r ∷ []) one k
    where
      one : (x : Happened) → Has x (r ∷ []) → Answers (s.records ++ r ∷ []) x
      one x (inl e) = subst (Answers (s.records ++ r ∷ [])) (sym e) says
      one x (inr z) = absurd z

  same : (s t : Core) → t.sessions ≡ s.sessions → t.records ≡ s.records → Walked root s → Walked root t
  same s t e f k =
      record {
        kin = subst (Kin root.sessions) (sym e) k.kin;
        grown = λ r i. subst (Has r) (sym f) (k.grown r i);
        fresh = λ r i. subst (λ z. Has r root.records ⊎ Answers z r) (sym f) (k.fresh r (subst (Has r) f i));
      }

  told : (s : Core) (p : ProviderId) (r : ℕ) (y : Why) → Walked root s → Walked root (recorded (with_sessions s (take_telling s.sessions p r y)) (happened.Told p r y))
  unfolding recorded with_sessions
  told s p r y k =
      pushed (record s { sessions = take_telling s.sessions p r y }) (happened.Told p r y) tt (kin_on s (take_telling s.sessions p r y) (kin_told s.sessions p r y) k)

  handed : (c : Core) (g : List ℕ) (i : ℕ) (before after : GroupState) (e : Entry) (bs : List (Option Filled)) → Walked root c → Walked root (handing c g i before after e bs)
  unfolding with_sessions recorded_all
  handed c g i before after e bs k =
      let cs : List Cast = casts_out c.sessions g before after e bs in
      let new : List Happened = flat_map (heard c g i e after) cs in
      let d : Core = record c { records = c.records ++ new } in
      kin_on d (handed_on c.sessions g before after e bs) (kin_handed c.sessions g before after e bs) (added c new (λ r j. all_answer c g i e after cs (c.records ++ new) (λ q l. append_has_right q c.records new l) r j) k)

  puts : (s : Core) (g : List ℕ) (e : Entry) → Walked root s → Walked root (put s g e)
  unfolding put with_row recorded
  puts s g e k = pushed (with_row s g _) (happened.Put s.views.me s.views.view g (len_of s g) e) tt (same s (with_row s g _) refl refl k)

  hands : (s : Core) (g : List ℕ) (e : Entry) (ns : List ℕ) (stable : ℕ) (bs : List (Option Filled)) → Walked root s → Walked root (handing (put_sent s g e ns stable) g (len_of s g) (state_of s g) (state_of (put s g e) g) e bs)
  hands s g e ns stable bs k =
      let t : Core = put s g e in
      let n : Sends t (put_sent s g e ns stable) = sends_all t ns _ in
      handed (put_sent s g e ns stable) g (len_of s g) (state_of s g) (state_of t g) e bs (same t (put_sent s g e ns stable) n.sessions n.records (puts s g e k))

  walked_keeps : KeepsRules (Walked root) Whatever
  unfolding with_row with_led keep_decision wait_join set_leader recorded send_on
  walked_keeps =
      record {
        keeps = record {
          row = λ s g f ok mild k. same s (with_row s g f) refl refl k;
          decides = λ s g q r y ok fair k. same s (keep_decision s g q r y) refl refl k;
          sends = λ s network to b spoken k. same s (send_on s network to b) refl refl k;
          notes = λ s n c v place t k. pushed s (happened.Noted n c v place t) tt k;
          hands = λ s g e ns stable bs ok k. hands s g e ns stable bs k;
        };
        names = λ s ns k. same s (record s { names = ns }) refl refl k;
        reach = λ s x k. same s (record s { reach = x }) refl refl k;
        leads = λ s g n k. same s (set_leader s g n) refl refl k;
        joins = λ s g q r a e k. same s (wait_join s g q r a (is_idle_empty (state_of s g))) refl refl k;
        tells = λ s q r y telling e k. told s q r y k;
      }

  walked_ring : KeepsRing (Walked root)
  unfolding send_on recorded
  walked_ring =
      record {
        rings = λ s rs k. same s (record s { rings = rs }) refl refl k;
        sends = λ s network to x k. same s (send_on s network to (body.Ring x)) refl refl k;
        records = λ s n network id ms b k. pushed s (happened.Ring n network id ms b) tt k;
      }

  entering_pushed : (s : Core) (r : Happened) → IsEntering r → Walked root s → Walked root (recorded s r)
  unfolding recorded
  entering_pushed s (happened.In n v ms) a k = pushed s (happened.In n v ms) tt k
  entering_pushed s (happened.Base n v g u len st) a k = pushed s (happened.Base n v g u len st) tt k
  entering_pushed s _ a k = absurd a

  entered : (s : Core) (i : Install) → Walked root s → Walked root (entering s i)
  unfolding level_set
  entered s i k =
      let t : SessionState = level_set s i.members in
      same (record s { sessions = t }) (entering s i) refl refl (kin_on s t (kin_same s.sessions t refl) k)

  walked_views : KeepsViews (Walked root)
  unfolding dissolved
  walked_views =
      record {
        views = λ s v k. same s (record s { views = (viewing s v).views }) refl refl k;
        enters = λ s i k. on_enters (Walked root) entering_pushed s i (entered s i k);
        dissolves = λ s q x e k. told s x.provider (number_of (outstanding s.sessions x.provider)) Dissolved k;
      }

-- from the call of a step on, or from the beginning of any other step
pub walked_stepped : (f : Answering) (s : Core) (e : NodeEvent) → Walked (root_of (at_work s) e) (stepped f s e)
walked_stepped f s e =
    let root : Core = root_of (at_work s) e in
    on_stepped (Walked root) Whatever (walked_keeps root) (by_ring (Walked root) Whatever (walked_keeps root) (walked_ring root)) (walked_views root) f s e (whatever e) (walked_self root)
