-- What is open for a provider is the phase that it heard opened last.
use Rattle.std.proofs.Common.{◌≡◌, ◌≢◌, ℕ, List, ◌∷◌, Option, Some, None, Bool, true, false, refl, sym, ap, ◌∙◌, subst, inl, inr, ◌⊎◌, ⊎_elim}
use Rattle.std.specs.Prelude.{find, flat_map, if◌then◌else◌}
use Rattle.rsct_packet.specs.declared.ids.ViewId.{ViewId}
use Rattle.rsct_packet.specs.declared.ids.ProviderId.{ProviderId}
use Rattle.rsct_packet.specs.Search.{Has}
use Rattle.group_attr.specs.declared.attrs.Attrs.{Attrs}
use Rattle.proposal_core.specs.declared.entry.Entry.{Entry}
use Rattle.proposal_core.specs.declared.group_state.GroupState.{GroupState}
use Rattle.proposal_core.specs.Fold.{fits, after}
use Rattle.client_callbacks.specs.declared.ballot.Filled.{Filled}
use Rattle.subscribe_core.specs.declared.subs.ClientToken.{ClientToken}
use Rattle.session_state.specs.declared.casts.Cast.{Cast}
use Rattle.session_state.specs.declared.state.OpenPhase.{OpenPhase}
use Rattle.session_state.specs.declared.state.Provider.{Provider}
use Rattle.session_state.specs.declared.state.SessionState.{SessionState}
use Rattle.session_state.specs.State.{is_provider, provider_of}
use Rattle.session_state.specs.Calls.{new_provider, join_asked, keeps}
use Rattle.session_state.specs.HandOn.{asks, opens_phase, running_phase, is_late, hearers, casts_out, casts_of, handed_on}
use Rattle.node_state.specs.declared.happened.Happened.{Happened}
use Rattle.node_state.specs.declared.happened.Happened.TheVariants as happened
use Rattle.run_safety.specs.Past.{History, Within, earlier, records_of}
use Rattle.step_refinement.proofs.SessionLaws.{cast_has}
use Rattle.row_laws.specs.hearing.Changes.{Fewer}
use Rattle.row_laws.proofs.hearing.Handing.{hearer_found}
use Rattle.row_laws.proofs.hearing.Attending.{Attending, pushed, heard_at, has_cast}
use Rattle.provider_laws.specs.single_casts.Ballots.{opens, open_phase}
use Rattle.provider_laws.proofs.single_casts.Handed.{Opening, handed_open}
use Rattle.provider_laws.proofs.single_casts.Asking.{Silent, InPhase, in_phase, asks_opens}
use Rattle.provider_laws.proofs.single_casts.Opening.{Phased, silent_phased, silent_open, opens_running, opens_other, opens_late, opens_own, opens_law}
use Rattle.provider_laws.proofs.attending.Staying.{found_joined}

pub record Naming (n : ℕ) (before : History) (t : SessionState) (now : List Happened) : Type 0 where
  pub law : Within Phased now before
  pub others : (p : ProviderId) → p.node ≢ n → open_phase p (earlier now before) ≡ open_phase p (records_of before)
  pub named : (p : ProviderId) (x : Provider) (o : OpenPhase) → provider_of t p ≡ Some x → x.opened ≡ Some o → open_phase p (earlier now before) ≡ Some o

module _ (n : ℕ) (before : History) where
  pub naming_silent : (t : SessionState) (now : List Happened) (r : Happened) → Silent r → Naming n before t now → Naming n before t (r ∷ now)
  naming_silent t now r a k =
      record {
        law = (silent_phased now before r a, k.law);
        others = λ p ne. silent_open p r a (earlier now before) ∙ k.others p ne;
        named = λ p x o q z. silent_open p r a (earlier now before) ∙ k.named p x o q z;
      }

  pub naming_fewer : (t s : SessionState) (now : List Happened) → Fewer t s → Naming n before t now → Naming n before s now
  naming_fewer t s now f k = record { law = k.law; others = k.others; named = λ p x o q z. k.named p x o (f.providers p x q) z }

  pub naming_joined : (t : SessionState) (c : ClientToken) (h : List ℕ) (instance : ℕ) (attrs : Attrs) (now : List Happened) → Naming n before t now → Naming n before (join_asked t c h instance attrs) now
  unfolding join_asked provider_of
  naming_joined t c h instance attrs now k =
      record {
        law = k.law;
        others = k.others;
        named = λ p x o q z. ⊎_elim (λ (a : find (is_provider p) t.providers ≡ Some x). k.named p x o a z) (λ (a : (x ≡ y) × (p ≡ y.provider)). absurd (let b : None ≡ Some o = ap (λ (m : Provider). m.opened) (sym a.0) ∙ z in cc)) (found_joined y p t.providers x q);
      }
    where
      y : Provider
      y = record { provider = new_provider t instance; client = c; group = h; takes_part = false; opened = None }

  pub naming_votes : (t : SessionState) (x : Provider) (o : OpenPhase) (f : Filled) (now : List Happened) → provider_of t x.provider ≡ Some x → x.opened ≡ Some o → Naming n before t now → Naming n before (keeps t x o f) (happened.Cast x.provider o.proto o.phase f.vote f.value f.message ∷ now)
  unfolding provider_of
  naming_votes t x o f now found opened k = record { law = (k.named x.provider x o found opened, k.law); others = k.others; named = k.named }

pub naming_handed : (n inc : ℕ) (before : History) (v : ViewId) (t : SessionState) (now : List Happened) (lens : List ℕ → ℕ) (states : List ℕ → GroupState) → Attending n inc before v t now lens states → Naming n before t now → (h : List ℕ) (st : GroupState) (e : Entry) (bs : List (Option Filled)) → fits (states h) e ≡ true → st ≡ after (states h) v (lens h) e → Naming n before (handed_on t h (states h) st e bs) (pushed (flat_map (heard_at v h (lens h) e st) (casts_out t h (states h) st e bs)) (happened.Put n v h (lens h) e ∷ now))
unfolding casts_out
naming_handed n inc before v t now lens states at k h st e bs fit is_after =
    record {
      law = opens_law v h (lens h) e st before cs first (λ c z y q. let a : InPhase e st y = in_phase e st t.level ps bs c z y q in (a.0, sym (run a.0) ∙ a.1)) (tt, k.law);
      others = λ p ne. opens_other v h (lens h) e st before cs p first (λ c z q. ne (ap (λ (m : ProviderId). m.node) (sym q) ∙ node c z)) ∙ k.others p ne;
      named = named;
    }
  where
    ps : List ProviderId
    ps = hearers t h (states h) e

    cs : List Cast
    cs = casts_of e st t.level ps bs

    w : SessionState
    w = handed_on t h (states h) st e bs

    first : List Happened
    first = happened.Put n v h (lens h) e ∷ now

    last : List Happened
    last = pushed (flat_map (heard_at v h (lens h) e st) cs) first

    run : opens_phase e ≡ true → running_phase st.running ≡ opens e v (lens h)
    run k = ap (λ (s : GroupState). running_phase s.running) is_after ∙ opens_running (states h) v (lens h) e fit k

    node : (c : Cast) → Has c cs → c.provider.node ≡ n
    node c z = let f = hearer_found t h (states h) e c.provider (cast_has e st t.level ps bs c z) in (at.own c.provider f.0 f.1).0

    now_open : (p : ProviderId) (o : OpenPhase) → Has p ps → (b : Bool) → asks e st p ≡ b → (if b then running_phase st.running else None) ≡ Some o → open_phase p (earlier last before) ≡ Some o
    now_open p o hears false a q = absurd (cc)
    now_open p o hears true a q =
        let k = asks_opens e st p a in
        ⊎_elim (λ (z : open_phase p (earlier last before) ≡ opens e v (lens h)). z ∙ sym (run k) ∙ q) (λ (z : (open_phase p (earlier last before) ≡ open_phase p (earlier first before)) × ((c : Cast) → Has c cs → c.provider ≡ p → ⊥)). let c = has_cast e st t.level ps bs p hears in absurd (z.1 c.0 c.1 c.2)) (opens_own v h (lens h) e st before cs p first k)

    named : (p : ProviderId) (y : Provider) (o : OpenPhase) → provider_of w p ≡ Some y → y.opened ≡ Some o → open_phase p (earlier last before) ≡ Some o
    named p y o found is = let f = handed_open t h (states h) st e bs p y found in by f.0 f.1 f.2
      where
        by : (x : Provider) → provider_of t p ≡ Some x → Opening e st ps p x y → open_phase p (earlier last before) ≡ Some o
        by x was (inl z) = now_open p o z.1 (asks e st p) refl (sym z.0 ∙ is)
        by x was (inr z) = how z.1
          where
            old : open_phase p (earlier now before) ≡ Some o
            old = k.named p x o was (sym z.0 ∙ is)

            how : (is_late e ≡ true) ⊎ (Has p ps → ⊥) → open_phase p (earlier last before) ≡ Some o
            how (inl late) = opens_late v h (lens h) e st before cs p first late ∙ old
            how (inr out) = opens_other v h (lens h) e st before cs p first (λ c z q. out (subst (λ m. Has m ps) q (cast_has e st t.level ps bs c z))) ∙ old
