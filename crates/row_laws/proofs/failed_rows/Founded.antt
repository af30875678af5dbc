-- What holds of the base of every view: an empty state has it, and each entry that was put keeps it.
use Rattle.std.proofs.Common.{◌≡◌, ◌⊎◌, ℕ, ◌+◌, List, [], ◌∷◌, Option, Some, None, refl, sym, ap, ◌∙◌, subst, inl, inr}
use Rattle.std.specs.Prelude.{slice_get}
use Rattle.rsct_packet.specs.declared.ids.ViewId.{ViewId}
use Rattle.rsct_packet.specs.Search.{Has}
use Rattle.rsct_packet.proofs.HasLaws.{has_get}
use Rattle.proposal_core.specs.declared.entry.Entry.{Entry}
use Rattle.proposal_core.specs.declared.group_state.GroupState.{GroupState}
use Rattle.proposal_core.specs.Fold.{empty_state, after}
use Rattle.run_safety.specs.Past.{fold_from}
use Rattle.run_safety.specs.Group.{Standing, Reply, Origin, Packet, Answer, Put, Line, Kept}
use Rattle.run_safety.specs.Group as group
use Rattle.run_safety.specs.Bases.{Bases, base_state, side_state, marked, BaseIs}
use Rattle.run_safety.specs.Moves.{Leads, Opening, Collected, Life, Dawn, NextEvent, Promises, Answers, Appends, Follows, Starts, Enters, Founds, Names, Hears, Asks, Requests, Refuses, IsTold, Acknowledges, Settles}
use Rattle.run_safety.proofs.Order.{cases_view}
use Rattle.run_safety.proofs.Prefix.{IsPrefix, prefix_get}
use Rattle.run_safety.proofs.Lines.{has_entered, has_inserted}
use Rattle.run_safety.proofs.Whole.{Whole}
use Rattle.run_safety.proofs.Lives.{whole}
use Rattle.run_safety.proofs.SightLaws.{kept_line}
use Rattle.row_laws.proofs.hearing.Handing.{some_is}

-- ---- what was put

module _ (E : Entry → Type 0) where
  abbrev pub AllPut : List Line → Type 0
  AllPut all = (n : ℕ) (v : ViewId) (i : ℕ) (e : Entry) → Has (Kept (Put n v i e)) all → E e

  -- what begins the list of a view was put
  pub listed : (o : Opening) (nodes : ℕ → Standing) (ps : List Packet) (all : List Line) (leads : Leads) (bases : Bases) (w : Whole o nodes ps all leads bases) → AllPut all → (u : ViewId) (xs : List Entry) → IsPrefix xs (w.log u) → (e : Entry) → Has e xs → E e
  listed o nodes ps all leads bases w was_put u xs front e h =
      let at = has_get e xs h in
      let there : slice_get (w.log u) at.0 ≡ Some e = prefix_get xs (w.log u) front at.0 e at.2 in
      let put = w.firsts.put u at.0 e there in
      let is : slice_get (w.log u) at.0 ≡ Some put.1 = w.good.inv.records (Put put.0 u at.0 put.1) put.2 in
      subst E (some_is (sym is ∙ there)) (was_put put.0 u at.0 put.1 (kept_line (Put put.0 u at.0 put.1) all put.2))

  -- what a coordinator has collected was put
  collected : (o : Opening) (nodes : ℕ → Standing) (ps : List Packet) (all : List Line) (leads : Leads) (bases : Bases) → Whole o nodes ps all leads bases → AllPut all → (n : ℕ) (x : Standing) (rs : List Reply) (ss : ViewId → List Entry) → Collected ps n x rs ss → (u : ViewId) (e : Entry) → Has e (ss u) → E e
  collected o nodes ps all leads bases w was_put n x rs ss ok u e h = by (ok.longest.one u)
    where
      by : (ss u ≡ []) ⊎ ((r : Reply) × Has r rs × (r.view ≡ u) × (r.list ≡ ss u)) → E e
      by (inl none) = absurd (subst (Has e) none h)
      by (inr k) =
          let r = k.0 in
          let front : IsPrefix r.list (w.log r.view) = (w.good.inv.packet (Answer x.promise r) (ok.sent r k.1)).1 in
          listed o nodes ps all leads bases w was_put r.view r.list front e (subst (Has e) (sym k.3) h)

-- ---- of every life

module _ (E : Entry → Type 0) (B : GroupState → Type 0) (bare : B empty_state) (keeps : (s : GroupState) (v : ViewId) (i : ℕ) (e : Entry) → E e → B s → B (after s v i e)) (marks : (rs : List Reply) (u : ViewId) (s : GroupState) → B s → B (marked rs u s)) where
  pub folded : (v : ViewId) (s : GroupState) (i : ℕ) (es : List Entry) → B s → ((e : Entry) → Has e es → E e) → B (fold_from v s i es)
  folded v s i [] a n = a
  folded v s i (e ∷ es) a n = folded v (after s v i e) (i + 1) es (keeps s v i e (n e (inl refl)) a) (λ d h. n d (inr h))

  -- a base that is founded
  founded : (bases : Bases) (rs : List Reply) (ss : ViewId → List Entry) (b : Option Origin) → BaseIs rs ss (λ u. side_state bases ss u) b → ((u : ViewId) → B (side_state bases ss u)) → B (base_state b)
  founded bases rs ss None is sides = bare
  founded bases rs ss (Some b) is sides = subst B (sym is.state) (marks rs b.old (side_state bases ss b.old) (sides b.old))

  pub based : {o : Opening} {nodes : ℕ → Standing} {ps : List Packet} {all : List Line} {leads : Leads} {bases : Bases} → Life o nodes ps all leads bases → AllPut E all → (v : ViewId) → B (base_state (bases v))
  based (Dawn nodes new) was_put v = bare
  based (NextEvent nodes ps all leads bases life) was_put v = based life (λ n u i e h. was_put n u i e (inr h)) v
  based (Promises nodes now ps all leads bases n x u life is le c) was_put v = based life was_put v
  based (Answers nodes ps all leads bases n x u life is up le lt) was_put v = based life was_put v
  based (Appends nodes now ps all leads bases n x e life is up led same due tallied room c) was_put v = based life (λ m u i d h. was_put m u i d (inr h)) v
  based (Follows nodes now ps all leads bases n x e life is up same sent c) was_put v = based life (λ m u i d h. was_put m u i d (inr h)) v
  based (Starts nodes now ps all leads bases n x w ms life is quiet born how c) was_put v = based life (λ m u i d h. was_put m u i d (inr h)) v
  based (Enters nodes now ps all leads bases n x w ms ss life is quiet up at lt among sent c) was_put v =
      based life (λ m u i d h. was_put m u i d (has_entered (Kept (Put m u i d)) n x w ms ss (bases w) all h)) v
  based {o = o} (Founds nodes now ps all leads leads' bases bases' n x rs ss b life is quiet ok base set_base set_lead c) was_put v =
      by (λ m u i d h. was_put m u i d (has_entered (Kept (Put m u i d)) n x x.promise (group.members_of rs) ss b all h)) (λ old. based life old) (cases_view v x.promise)
    where
      by : AllPut E all → (AllPut E all → (u : ViewId) → B (base_state (bases u))) → (v ≡ x.promise) ⊎ (v ≡ x.promise → ⊥) → B (base_state (bases' v))
      by old rest (inr ne) = subst (λ z. B (base_state z)) (sym (set_base.there v ne)) (rest old v)
      by old rest (inl same) =
          let side : (u : ViewId) → B (side_state bases ss u) = λ u. folded u (base_state (bases u)) 0 (ss u) (rest old u) (collected E o nodes ps all leads bases (whole life) old n x rs ss ok u) in
          subst (λ z. B (base_state z)) (sym (ap bases' same ∙ set_base.here)) (founded bases rs ss b base side)
  based (Names nodes ps all leads leads' bases u n j life was set led may) was_put v = based life was_put v
  based (Hears nodes ps all more leads bases p u i e life put s is new) was_put v =
      based life (λ m w k d h. was_put m w k d (has_inserted (group.Heard p u i e s.members s.value) all more new (Kept (Put m w k d)) h)) v
  based (Asks nodes ps all leads bases p r x life) was_put v = based life (λ m u i d h. was_put m u i d (inr h)) v
  based (Requests nodes ps all leads bases p r x y life is up same asked never untold) was_put v = based life was_put v
  based (Refuses nodes ps all leads bases u p r life why) was_put v = based life was_put v
  based (IsTold nodes ps all leads bases p r y life is up same why) was_put v = based life (λ m u i d h. was_put m u i d (inr h)) v
  based (Acknowledges nodes ps all leads bases n x k life is le) was_put v = based life was_put v
  based (Settles nodes ps all leads bases n j u ms k life was acked) was_put v = based life was_put v
