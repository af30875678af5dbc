-- Every life keeps all parts, so each law holds of it.
use Rattle.std.proofs.Common.{refl, Some, None, Option, true, ◌≡◌, ℕ, ◌+◌, ◌<◌, ◌⊎◌, List, [], ◌∷◌, length, sym, ◌∙◌, subst, inl, inr, arith}
use Rattle.std.specs.Prelude.{slice_get}
use Rattle.rsct_packet.specs.declared.ids.ViewId.{ViewId}
use Rattle.rsct_packet.specs.declared.ids.ProviderId.{ProviderId}
use Rattle.rsct_packet.specs.declared.ids.Member.{Member}
use Rattle.proposal_core.specs.declared.entry.Entry.{Entry}
use Rattle.proposal_core.specs.declared.proposal.Proposal.{Proposal}
use Rattle.proposal_core.specs.Fold.{fits}
use Rattle.rsct_packet.specs.Search.{Has}
use Rattle.run_safety.specs.ViewOrder.{Lt, Le}
use Rattle.run_safety.specs.Group.{member, Standing, Reply, members_of, Origin, Packet, Install, Append, Request, Refusal, In, Put, Told, Line, Kept, Noted, kept}
use Rattle.run_safety.specs.GroupLists.{OneEntryOf, puts_of}
use Rattle.run_safety.specs.Bases.{Bases, state_of_list, leader_of}
use Rattle.run_safety.specs.Requests.{carried}
use Rattle.run_safety.specs.Tallies.{IsTallied, Tallied, Fitted}
use Rattle.run_safety.specs.Moves.{Leads, Changes, Opening, Born, Collected, SetAt, entered, grown, Due, Life, Dawn, NextEvent, Promises, Answers, Appends, Follows, Starts, Enters, Founds, Names, Hears, Asks, Requests, Refuses, IsTold, Acknowledges, Settles}
use Rattle.run_safety.specs.GroupLaws.{Leading, OneBase, Brought, BaseOfInstall, HeardIsFold, RequestsOnce, StableHeld}
use Rattle.run_safety.proofs.Prefix.{prefix_get}
use Rattle.run_safety.proofs.Past as past
use Rattle.run_safety.proofs.Past.{born_number}
use Rattle.run_safety.proofs.Noted.{noted_in}
use Rattle.run_safety.proofs.CutLaw.{cut_by, law_same_members, law_same_lists, law_cut}
use Rattle.run_safety.proofs.Whole.{Whole, whole_dawn, whole_turn, whole_promises, whole_answers, whole_acks, whole_settles, whole_names, whole_asks}
use Rattle.run_safety.proofs.WholeNotes.{whole_requests, whole_refuses, whole_told, whole_hears}
use Rattle.run_safety.proofs.WholeLists.{whole_appends, whole_follows, whole_starts, whole_enters, whole_founds}
use Rattle.run_safety.specs.SafeGroups.{ComesFromNowhere, Settled, BasesSettled, NotedBasesWin, LivesAreSafe}
use Rattle.run_safety.specs.Bases.{BaseIs, Wins, side_state}
use Rattle.run_safety.specs.Always.{AlwaysOneList, AlwaysInOrder, AlwaysRising, AlwaysSameMembers, AlwaysOneInstall, AlwaysOneBase, AlwaysTogether, AlwaysCut, AlwaysFold, AlwaysBase, AlwaysLed, AlwaysOnce, AlwaysStable, AlwaysTallied, AlwaysApprovedByAll, AlwaysFitted}
use Rattle.run_safety.proofs.OnceLaw.{begun_once, carried_asked}
use Rattle.run_safety.proofs.HeardLaw.{heard_law, front_of, take_front}
use Rattle.run_safety.proofs.StableLaw.{stable_law}
use Rattle.run_safety.proofs.TallyLaw.{approved_by_all}

pub whole : {o : Opening} {nodes : ℕ → Standing} {ps : List Packet} {all : List Line} {leads : Leads} {bases : Bases} → Life o nodes ps all leads bases → Whole o nodes ps all leads bases
whole {o = o} (Dawn nodes new) = whole_dawn o nodes new
whole {o = o} (NextEvent nodes ps all leads bases life) = whole_turn o nodes ps all leads bases (whole life)
whole {o = o} (Promises nodes now ps all leads bases n x v life is le c) =
    let P : Standing → Type 0 = λ z. Le z.promise v → Changes nodes now n (record z { promise = v }) → Whole o now ps all leads bases in
    subst P is (whole_promises o nodes ps all leads bases (whole life) now n v) le c
whole {o = o} (Answers nodes ps all leads bases n x v life is up le lt) =
    whole_answers o nodes ps all leads bases (whole life) n x v is up le lt
whole {o = o} (Appends nodes now ps all leads bases n x e life is up led same due tallied room c) =
    let P : Standing → Type 0 = λ z. 0 < z.inc → leads z.view ≡ Some (member n z.inc) → z.view ≡ z.promise → ((p : ProviderId) (r : ℕ) → Has (p, r) (carried e) → Due ps z.view z.list e p r) → IsTallied e → fits (state_of_list bases z.view z.list) e ≡ true → Changes nodes now n (grown z e) → Whole o now (Append z.view (length z.list) e ∷ ps) (Kept (Put n z.view (length z.list) e) ∷ all) leads bases in
    subst P is (whole_appends o nodes ps all leads bases (whole life) now n e) up led same due tallied room c
whole {o = o} (Follows nodes now ps all leads bases n x e life is up same sent c) =
    let P : Standing → Type 0 = λ z. 0 < z.inc → z.view ≡ z.promise → Has (Append z.view (length z.list) e) ps → Changes nodes now n (grown z e) → Whole o now ps (Kept (Put n z.view (length z.list) e) ∷ all) leads bases in
    subst P is (whole_follows o nodes ps all leads bases (whole life) now n e) up same sent c
whole {o = o} (Starts nodes now ps all leads bases n x v ms life is quiet born how c) =
    let P : Standing → Type 0 = λ z. Born o n (z.inc + 1) v ms → Changes nodes now n (record { inc = z.inc + 1; view = v; promise = v; list = [] }) → Whole o now ps (Kept (In n (z.inc + 1) v ms) ∷ all) leads bases in
    subst P is (λ b k. whole_starts o nodes ps all leads bases (whole life) now n v ms quiet b how k) born c
whole {o = o} (Enters nodes now ps all leads bases n x v ms ss life is quiet up at lt among sent c) =
    let P : Standing → Type 0 = λ z. 0 < z.inc → z.promise ≡ v → Lt z.view v → Has (member n z.inc) ms → Changes nodes now n (record z { view = v; promise = v; list = [] }) → Whole o now ps (entered n z v ms ss (bases v) all) leads bases in
    subst P is (λ a b d e k. whole_enters o nodes ps all leads bases (whole life) now n v ms ss quiet a b d e sent k) up at lt among c
whole {o = o} (Founds nodes now ps all leads leads' bases bases' n x rs ss b life is quiet ok base set_base set_lead c) =
    let P : Standing → Type 0 = λ z. Collected ps n z rs ss → SetAt bases bases' z.promise b → SetAt leads leads' z.promise (leader_of z.promise b) → Changes nodes now n (record z { view = z.promise; list = [] }) → Whole o now (Install z.promise (members_of rs) ss ∷ ps) (entered n z z.promise (members_of rs) ss b all) leads' bases' in
    subst P is (λ k sb sl d. whole_founds o nodes ps all leads bases (whole life) now leads' bases' n rs ss b quiet k base sb sl d) ok set_base set_lead c
whole {o = o} (Names nodes ps all leads leads' bases v n j life was set led may) =
    whole_names o nodes ps all leads bases (whole life) leads' v n j was set led may
whole {o = o} (Hears nodes ps all more leads bases p v i e life put s is new) =
    whole_hears o nodes ps all leads bases (whole life) more p v i e s put is new
whole {o = o} (Asks nodes ps all leads bases p r x life) = whole_asks o nodes ps all leads bases (whole life) p r x
whole {o = o} (Requests nodes ps all leads bases p r x y life is up same asked never untold) =
    let P : Standing → Type 0 = λ z. 0 < z.inc → z.inc ≡ p.inc → Whole o nodes (Request z.view p r x ∷ ps) all leads bases in
    subst P is (λ a b. whole_requests o nodes ps all leads bases (whole life) p r x a b asked never untold) up same
whole {o = o} (Refuses nodes ps all leads bases v p r life why) = whole_refuses o nodes ps all leads bases (whole life) v p r why
whole {o = o} (IsTold nodes ps all leads bases p r y life is up same why) =
    let P : Standing → Type 0 = λ z. 0 < z.inc → z.inc ≡ p.inc → (Has (Refusal z.view p r) ps ⊎ ((x : Proposal) → Has (Request z.view p r x) ps → ⊥)) → Whole o nodes ps (Noted (Told p r z.view) ∷ all) leads bases in
    subst P is (whole_told o nodes ps all leads bases (whole life) p r) up same why
whole {o = o} (Acknowledges nodes ps all leads bases n x k life is le) =
    whole_acks o nodes ps all leads bases (whole life) n x k is le
whole {o = o} (Settles nodes ps all leads bases n j v ms k life was acked) =
    whole_settles o nodes ps all leads bases (whole life) n j v ms k was acked

module _ (o : Opening) (nodes : ℕ → Standing) (ps : List Packet) (all : List Line) (leads : Leads) (bases : Bases) (w : Whole o nodes ps all leads bases) where
  pub law_one_entry : OneEntryOf (kept all)
  law_one_entry n m v i e f h g =
      let a = w.good.inv.records (Put n v i e) h in
      let b = w.good.inv.records (Put m v i f) g in
      let c : Some e ≡ Some f = sym a ∙ b in cc

  pub law_leading : Leading o (kept all) leads bases
  law_leading = record { firsts = w.firsts.first; of_base = w.of_base; of_none = w.of_none }

  pub law_one_base : Life o nodes ps all leads bases → OneBase all bases
  law_one_base life = record { noted = w.based_ok.noted; by_all = w.based_ok.by_all; entered = noted_in life }

  pub law_base : BaseOfInstall ps (kept all) bases
  law_base v ms ss h =
      let k = w.based_ok.made v ms ss h in (
        k.0,
        record {
          members = k.1;
          from = λ r i. (w.good.past.answers v r (k.2 r i)).0;
          cut = λ r i. cut_by o nodes ps (kept all) w.log leads w.good.inv w.good.past v ms ss k.0 k.1 k.3 k.2 r.view (r, i, refl);
          entries = λ r i e q g. put_of r.view i e (prefix_get (ss r.view) (w.log r.view) ((w.good.inv.packet (Install v ms ss) h).sources r.view) i e g);
        },
        k.4,
      )
    where
      put_of : (u : ViewId) (i : ℕ) (e : Entry) → slice_get (w.log u) i ≡ Some e → (m : ℕ) × Has (Put m u i e) (kept all)
      put_of u i e g =
          let p = w.firsts.put u i e g in
          let a = w.good.inv.records (Put p.0 u i p.1) p.2 in
          let c : Some p.1 ≡ Some e = sym a ∙ g in
          let d : p.1 ≡ e = cc in
          (p.0, subst (λ f. Has (Put p.0 u i f) (kept all)) d p.2)

  -- a view is entered by its install, or it is one in which nodes start
  pub law_settled : BasesSettled all bases
  law_settled n j v ms h = at (w.good.past.origin n j v ms h)
    where
      none : (b : Option Origin) → bases v ≡ b → v.number ≡ 1 → bases v ≡ None
      none None e one = e
      none (Some b) e one = absurd (let k = w.based_ok.installed v b e in let l = (w.good.past.made v k.0 k.1 k.2).later in omega (arith, l, one))

      at : past.Origin o ps n j v ms → (ComesFromNowhere (kept all) n j v × (bases v ≡ None)) ⊎ Settled (kept all) bases v ms
      at (inl born) =
          let one : v.number ≡ 1 = born_number o n j v ms born in
          inl ((λ u f. let k = w.good.past.left n j v u ms h f in let l = (w.good.past.made v ms k.0 k.1).later in absurd (omega (arith, l, one))), none (bases v) refl one)
      at (inr k) =
          let q = law_base v ms k.0 k.1 in
          inr (record { replies = q.0; lists = k.0; brought = q.1; base = q.2 })

  pub law_heard : HeardIsFold all bases
  law_heard = heard_law o nodes ps all w.log leads bases w.good w.heard

  pub law_requests : RequestsOnce all
  law_requests =
      record {
        once = begun_once o nodes ps all w.log leads w.good w.once;
        asked_first = w.once.order;
        were_asked = carried_asked o nodes ps all w.log leads w.good w.once;
      }

  pub law_stable : StableHeld ps (kept all)
  law_stable = stable_law ps (kept all) w.stable (law_same_members o nodes ps (kept all) w.log leads w.good.inv w.good.past)

  pub law_tallied : Tallied (kept all)
  law_tallied n v i e h = w.tallied.entry v i e (w.good.inv.records (Put n v i e) h)

  pub law_fitted : Fitted (kept all) bases
  law_fitted n v i e h m l =
      let same = take_front i (puts_of m v (kept all)) (w.log v) (front_of o nodes ps all w.log leads bases w.good m v) l in
      subst (λ xs. fits (state_of_list bases v xs) e ≡ true) same (w.tallied.fitting v i e (w.good.inv.records (Put n v i e) h))

pub always_one_list : AlwaysOneList
always_one_list o nodes ps all leads bases life = law_one_entry o nodes ps all leads bases (whole life)

pub always_in_order : AlwaysInOrder
always_in_order o nodes ps all leads bases life = (whole life).good.past.order

pub always_rising : AlwaysRising
always_rising o nodes ps all leads bases life = (whole life).good.inv.rises

pub always_same_members : AlwaysSameMembers
always_same_members o nodes ps all leads bases life =
    let w = whole life in law_same_members o nodes ps (kept all) w.log leads w.good.inv w.good.past

pub always_one_install : AlwaysOneInstall
always_one_install o nodes ps all leads bases life = (whole life).good.inv.one

pub always_one_base : AlwaysOneBase
always_one_base o nodes ps all leads bases life = law_one_base o nodes ps all leads bases (whole life) life

pub always_together : AlwaysTogether
always_together o nodes ps all leads bases life =
    let w = whole life in law_same_lists o nodes ps (kept all) w.log leads w.good.inv w.good.past

pub always_cut : AlwaysCut
always_cut o nodes ps all leads bases life =
    let w = whole life in law_cut o nodes ps (kept all) w.log leads w.good.inv w.good.past

pub always_fold : AlwaysFold
always_fold o nodes ps all leads bases life = law_heard o nodes ps all leads bases (whole life)

pub always_base : AlwaysBase
always_base o nodes ps all leads bases life = law_base o nodes ps all leads bases (whole life)

pub always_led : AlwaysLed
always_led o nodes ps all leads bases life = law_leading o nodes ps all leads bases (whole life)

pub always_once : AlwaysOnce
always_once o nodes ps all leads bases life = law_requests o nodes ps all leads bases (whole life)

pub always_stable : AlwaysStable
always_stable o nodes ps all leads bases life = law_stable o nodes ps all leads bases (whole life)

pub always_tallied : AlwaysTallied
always_tallied o nodes ps all leads bases life = law_tallied o nodes ps all leads bases (whole life)

pub always_approved_by_all : AlwaysApprovedByAll
always_approved_by_all o nodes ps all leads bases life =
    approved_by_all (kept all) (law_tallied o nodes ps all leads bases (whole life))

pub always_fitted : AlwaysFitted
always_fitted o nodes ps all leads bases life = law_fitted o nodes ps all leads bases (whole life)

-- so a base that is noted is that of the winning side
pub noted_bases_win : NotedBasesWin
noted_bases_win o all safe n v b h = at (safe.settled n was.0 v was.1 was.2)
  where
    was : (j : ℕ) × (ms : List Member) × Has (In n j v ms) (kept all)
    was = safe.one_base.entered n v b h

    base : safe.bases v ≡ Some b
    base = safe.one_base.noted n v b h

    at : (ComesFromNowhere (kept all) n was.0 v × (safe.bases v ≡ None)) ⊎ Settled (kept all) safe.bases v was.1 → (j : ℕ) × (ms : List Member) × Has (In n j v ms) (kept all) × (rs : List Reply) × (ss : (ViewId → List Entry)) × Brought (kept all) safe.bases v ms rs ss × Wins rs ss (λ u. side_state safe.bases ss u) b
    at (inl none) = let q : None ≡ Some b = sym none.1 ∙ base in absurd (cc)
    at (inr s) = (was.0, was.1, was.2, s.replies, s.lists, s.brought, subst (λ c. BaseIs s.replies s.lists (λ u. side_state safe.bases s.lists u) c) base s.base)

pub lives_are_safe : LivesAreSafe
lives_are_safe o nodes ps all leads bases life =
    let w = whole life in
    record {
      leads = leads;
      bases = bases;
      one_list = law_one_entry o nodes ps all leads bases w;
      in_order = w.good.past.order;
      rising = w.good.inv.rises;
      members = law_same_members o nodes ps (kept all) w.log leads w.good.inv w.good.past;
      together = law_same_lists o nodes ps (kept all) w.log leads w.good.inv w.good.past;
      cut = law_cut o nodes ps (kept all) w.log leads w.good.inv w.good.past;
      one_base = law_one_base o nodes ps all leads bases w life;
      settled = law_settled o nodes ps all leads bases w;
      heard_fold = law_heard o nodes ps all leads bases w;
      leading = law_leading o nodes ps all leads bases w;
      requests = law_requests o nodes ps all leads bases w;
      tallied = law_tallied o nodes ps all leads bases w;
      fitted = law_fitted o nodes ps all leads bases w;
    }
