-- Nodes start and stop, and no node takes a step.
use Rattle.std.proofs.Common.{◌≤◌, ◌≡◌, ℕ, ◌+◌, List, [], ◌∷◌, ◌++◌, None, Bool, true, false, refl, sym, ap, ◌∙◌, subst, inl, inr, arith}
use Rattle.std.specs.Prelude.{◌==◌, ◌&&◌}
use Rattle.std.specs.List.{list_any}
use Rattle.rsct_packet.specs.declared.ids.ProviderId.{ProviderId}
use Rattle.rsct_packet.specs.Providers.{same_provider}
use Rattle.rsct_packet.specs.Search.{Has}
use Rattle.proposal_core.specs.Fold.{joiners_fit_at, joiners_fit}
use Rattle.proposal_core.specs.declared.proposal.Proposal.{Proposal}
use Rattle.view_state.specs.Views.{views_new}
use Rattle.node_state.specs.declared.config.Config.{Config}
use Rattle.node_state.specs.declared.happened.Happened.{Happened}
use Rattle.node_state.specs.declared.happened.Happened.TheVariants as happened
use Rattle.session_state.specs.State.{provider_of}
use Rattle.node_state.specs.State.{with_sessions}
use Rattle.node_state.specs.Applying.{level_set}
use Rattle.node_state.specs.Step.{started}
use Rattle.world_model.specs.Run.{Happening}
use Rattle.run_safety.specs.Past.{History, records_of}
use Rattle.run_safety.specs.Stays.{asks_join}
use Rattle.run_safety.specs.Group.{Noted}
use Rattle.run_safety.specs.Group as group
use Rattle.step_refinement.specs.Ghost.{asking}
use Rattle.step_refinement.specs.Tied.{Scene, NodeIsIf, Rests}
use Rattle.step_refinement.proofs.SessionLaws.{provider_same}
use Rattle.run_induction.proofs.Idle.{Idle, AllIdle, Came, first_stay, came_stays}
use Rattle.row_laws.specs.failed_rows.Failures.{EachPut}
use Rattle.row_laws.proofs.failed_rows.Fitting.{asked_seen}
use Rattle.row_laws.proofs.failed_rows.Facts.{Unasked}
use Rattle.row_laws.proofs.failed_rows.Owners.{any_has}
use Rattle.row_laws.proofs.failed_rows.Between.{CoreFails}

pub idle_asks : (r : Happened) → Idle r → Unasked r
idle_asks (happened.Asked p r g x) a = a
idle_asks _ a = tt

-- nothing is put in such an event
pub idle_puts : (rs : List Happened) (h : History) → AllIdle rs → EachPut rs h
idle_puts [] h all = tt
idle_puts (r ∷ rs) h all = one r (all r (inl refl)) (idle_puts rs h (λ q i. all q (inr i)))
  where
    one : (r : Happened) → Idle r → EachPut rs h → EachPut (r ∷ rs) h
    one (happened.Put m v g i e) k rest = absurd k
    one (happened.In m v ms) k rest = tt
    one _ k rest = (tt, rest)

-- a provider of an incarnation that is to come asked for nothing
pub new_unasked : (w : Scene) → ((g : List ℕ) → Rests g w) → (n : ℕ) → w.cores n ≡ None → (p : ProviderId) → p.node ≡ n → p.inc ≡ w.incs n + 1 → list_any (asks_join p) (records_of w.before) ≡ false
new_unasked w rests n down p node inc = by (list_any (asks_join p) (records_of w.before)) refl
  where
    early : (q : ProviderId) (r : ℕ) (g : List ℕ) (x : Proposal) → Has (happened.Asked q r g x) (records_of w.before) → q.node ≡ n → q.inc ≤ w.incs n
    early q r g x i at =
        let k = rests g in
        let line : Has (Noted (group.Asked q r x)) (k.ghost).all = subst (Has (Noted (group.Asked q r x))) (sym k.lines) (asked_seen q r g x w.before i) in
        let a = k.sound.started (asking q r g) (k.sound.asked q r x line) in
        let b : ((k.ghost).nodes n).inc ≡ w.incs n = subst (NodeIsIf w.config k.ghost g n (w.incs n)) down (k.nodes n) in
        subst (λ z. q.inc ≤ z) (ap (λ m. ((k.ghost).nodes m).inc) at ∙ b) a

    none : (r : Happened) → Has r (records_of w.before) → asks_join p r ≡ true → ⊥
    none (happened.Asked q r g x) i e = by_provider (same_provider q p) refl e
      where
        by_provider : (b : Bool) → same_provider q p ≡ b → (b && (r == p.join)) ≡ true → ⊥
        by_provider true z e =
            let same : q ≡ p = provider_same q p z in
            let le : p.inc ≤ w.incs n = subst (λ (a : ProviderId). a.inc ≤ w.incs n) same (early q r g x i (ap (λ (a : ProviderId). a.node) same ∙ node)) in
            omega (arith, le, inc)
        by_provider false z e = cc
    none _ i e = cc

    by : (b : Bool) → list_any (asks_join p) (records_of w.before) ≡ b → b ≡ false
    by false e = refl
    by true e = let k = any_has (asks_join p) (records_of w.before) e in absurd (none k.0 k.1 k.2)

-- a node that starts
pub started_fails : (c : Config) (n j : ℕ) (e : Happening) (h : History) → Came c n j e.records → ((p : ProviderId) → p.node ≡ n → p.inc ≡ j → list_any (asks_join p) (e.records ++ records_of h) ≡ false) → CoreFails (e ∷ h) (started c n j)
unfolding started with_sessions level_set views_new joiners_fit joiners_fit_at provider_of
started_fails c n j e h came unasked =
    record {
      order = tt;
      tracks = λ g. record { stay = first_stay c n j; older = []; is = came_stays c n j e.records came g (records_of h); view = refl; len_is = refl; state = refl };
      marks = λ g p i. absurd (cc);
      tallies = λ g. inl refl;
      queues = λ g. inl refl;
      apart = λ g. refl;
      own = λ p node inc asked. absurd (let z : false ≡ true = sym (unasked p node inc) ∙ asked in cc);
      mine = λ x i. absurd i;
      whys = λ g d i. absurd i;
      takers = λ p y q. absurd (cc);
      owners = record { owner = λ x i. absurd i; low = λ y i. absurd i; high = λ y i. absurd i; single = λ y z i j e. absurd i };
    }
