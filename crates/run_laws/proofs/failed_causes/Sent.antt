-- What any node's put of a join says of the provider's own node, in the whole run.
use Rattle.std.proofs.Common.{◌≡◌, ℕ, List, ◌∷◌, ◌++◌, Some, true, refl, sym, subst, ⊎_elim}
use Rattle.std.specs.Prelude.{slice_get}
use Rattle.rsct_packet.specs.declared.ids.ViewId.{ViewId}
use Rattle.rsct_packet.specs.declared.ids.Member.{Member}
use Rattle.rsct_packet.specs.declared.ids.ProviderId.{ProviderId}
use Rattle.rsct_packet.specs.Search.{Has}
use Rattle.client_callbacks.specs.declared.told.Why.{Why}
use Rattle.proposal_core.specs.declared.entry.Entry.{Entry}
use Rattle.proposal_core.specs.declared.proposal.Proposal.{Proposal}
use Rattle.node_state.specs.declared.config.Config.{Config}
use Rattle.node_state.specs.declared.happened.Happened.{Happened}
use Rattle.node_state.specs.declared.happened.Happened.TheVariants as happened
use Rattle.run_safety.specs.Group.{Request, Refusal, In, Put, Noted, Asked, Told, kept}
use Rattle.run_safety.specs.GroupLists.{WasIn}
use Rattle.run_safety.specs.Past.{records_of, view_now}
use Rattle.run_safety.specs.Requests.{carried, Meets}
use Rattle.run_safety.specs.Sight.{inc_in, lines_of, view_or_none}
use Rattle.run_safety.specs.Stays.{is_join_of}
use Rattle.run_safety.specs.ViewOrder.{Lt, Le}
use Rattle.run_safety.proofs.SightLaws.{put_seen, line_recorded}
use Rattle.run_safety.proofs.Whole.{Whole}
use Rattle.run_safety.proofs.Lives.{whole}
use Rattle.step_refinement.specs.Tied.{Scene, Rests, opening_of}
use Rattle.step_refinement.specs.Runs.{Reached}
use Rattle.step_refinement.proofs.RunLaw.{reached_rests}
use Rattle.step_refinement.proofs.ViewRules.{before_of}
use Rattle.row_laws.proofs.failed_rows.Asked.{join_carried}
use Rattle.run_laws.proofs.seen_runs.Sights.{told_line}
use Rattle.run_laws.proofs.seen_runs.Froms.{in_kept}

-- ---- of every scene

-- It was asked for, and its node was in the view in its incarnation; its node puts it in no earlier view, and was told of it in
-- later ones alone, in which it was in the same incarnation.
pub record SentIn (run : List Happened) (p : ProviderId) (g : List ℕ) (v : ViewId) : Type 0 where
  pub asked : (x : Proposal) × Has (happened.Asked p p.join g x) run
  pub inc : (ms : List Member) → Has (happened.In p.node v ms) run → p.inc ≡ inc_in p.node ms
  pub own : (u : ViewId) (i : ℕ) (e : Entry) → Has (happened.Put p.node u g i e) run → is_join_of p e ≡ true → Le v u
  pub told : (newer older : List Happened) (why : Why) (u : ViewId) → run ≡ newer ++ happened.Told p p.join why ∷ older → view_now p.node older ≡ Some u → Lt v u × ((ms : List Member) → Has (happened.In p.node u ms) run → p.inc ≡ inc_in p.node ms)

-- where any node puts an entry that names it in a join
abbrev pub JoinsSent : List Happened → Type 0
JoinsSent run =
    (n : ℕ) (v : ViewId) (g : List ℕ) (i : ℕ) (e : Entry) (p : ProviderId) → Has (happened.Put n v g i e) run → is_join_of p e ≡ true → SentIn run p g v

pub joins_sent : (c : Config) (w : Scene) → Reached c w → JoinsSent (records_of w.before)
joins_sent c w k n v g i e p put names =
    record {
      asked = (request.0, line_recorded g (Noted (Asked p p.join request.0)) (happened.Asked p p.join g request.0) refl w.before (subst (Has (Noted (Asked p p.join request.0))) t.lines sent.1));
      inc = λ ms h. one_inc v sent.0 ms h;
      own = λ u j f h joins. sent.2 u j f (put_there p.node u j f h) (join_carried p f joins);
      told = λ newer older why u moment in_view. told u (subst (Has (Noted (Told p p.join u))) (sym t.lines) (subst (λ o. Has (Noted (Told p p.join (view_or_none o))) (lines_of g w.before)) in_view (told_line g p p.join why newer older w.before moment)));
    }
  where
    t : Rests g w
    t = reached_rests c w k g

    o : Whole (opening_of w.config) t.ghost.nodes t.ghost.ps t.ghost.all t.ghost.leads t.ghost.bases
    o = whole t.life

    put_there : (m : ℕ) (u : ViewId) (j : ℕ) (f : Entry) → Has (happened.Put m u g j f) (records_of w.before) → Has (Put m u j f) (kept t.ghost.all)
    put_there m u j f h = subst (λ z. Has (Put m u j f) (kept z)) (sym t.lines) (put_seen m u g j f w.before h)

    get : slice_get (o.log v) i ≡ Some e
    get = o.good.inv.records (Put n v i e) (put_there n v i e put)

    its : Has (p, p.join) (carried e)
    its = join_carried p e names

    request : (x : Proposal) × Has (Request v p p.join x) t.ghost.ps × Meets p x e
    request = o.once.asked v i p p.join e get its

    sent : WasIn (kept t.ghost.all) p.node p.inc v × Has (Noted (Asked p p.join request.0)) t.ghost.all × ((u : ViewId) (j : ℕ) (f : Entry) → Has (Put p.node u j f) (kept t.ghost.all) → Has (p, p.join) (carried f) → Le v u) × ((u : ViewId) → Has (Noted (Told p p.join u)) t.ghost.all → Le v u)
    sent = o.once.sent v p p.join request.0 request.1

    -- a node is in a view in one incarnation
    one_inc : (u : ViewId) → WasIn (kept t.ghost.all) p.node p.inc u → (ms : List Member) → Has (happened.In p.node u ms) (records_of w.before) → p.inc ≡ inc_in p.node ms
    one_inc u was ms h =
        o.good.past.single p.node p.inc (inc_in p.node ms) u was (ms, subst (λ z. Has (In p.node (inc_in p.node ms) u ms) (kept z)) (sym t.lines) (in_kept g p.node u ms w.before h))

    -- what was told there is not begun there
    apart : (u : ViewId) → Has (Noted (Told p p.join u)) t.ghost.all → v ≡ u → ⊥
    apart u note same =
        ⊎_elim (λ (f : Has (Refusal u p p.join) t.ghost.ps). o.once.refused v i p p.join e (subst (λ z. Has (Refusal z p p.join) t.ghost.ps) (sym same) f) get its) (λ (none : (x : Proposal) → Has (Request u p p.join x) t.ghost.ps → ⊥). none request.0 (subst (λ z. Has (Request z p p.join request.0) t.ghost.ps) same request.1)) (o.once.told u p p.join note).1

    told : (u : ViewId) → Has (Noted (Told p p.join u)) t.ghost.all → Lt v u × ((ms : List Member) → Has (happened.In p.node u ms) (records_of w.before) → p.inc ≡ inc_in p.node ms)
    told u note = (before_of v u (sent.3 u note) (λ same. apart u note (sym same)), λ ms h. one_inc u (o.once.told u p p.join note).0 ms h)
