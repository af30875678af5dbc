-- Since a goodbye that is taken puts nothing, nobody need be left out but who was let go by an earlier event.
use Rattle.std.proofs.Common.{◌≡◌, ℕ, List, [], ◌∷◌, ◌++◌, Option, Some, None, Bool, true, false, refl, sym, ap, ◌∙◌, subst, inl, append_assoc}
use Rattle.std.specs.Prelude.{not, IsTrue}
use Rattle.std.specs.List.{list_any}
use Rattle.std.proofs.lemmas.Bool.{and_parts}
use Rattle.rsct_packet.specs.declared.ids.ProviderId.{ProviderId}
use Rattle.rsct_packet.specs.Search.{Has}
use Rattle.rsct_packet.proofs.HasLaws.{append_has_right}
use Rattle.node_state.specs.declared.happened.Happened.{Happened}
use Rattle.node_state.specs.declared.happened.Happened.TheVariants as happened
use Rattle.world_model.specs.Run.{Happening}
use Rattle.world_model.specs.declared.event.Event.{Event}
use Rattle.run_safety.specs.Past.{History, EachEvent, Within, earlier}
use Rattle.run_safety.specs.SafeHeard.{AllHear}
use Rattle.run_safety.specs.Stays.{stays, part, takes_part, client_of, goodbye_of, is_refused, was_let_go}
use Rattle.provider_laws.proofs.leaving.Events.{goodbye_is}
use Rattle.run_laws.specs.gapless.Heard.{leaves, AllHearUnlessLeaving, EachIsHeard, AllHearEachPut}
use Rattle.provider_laws.specs.resting.Rest.{GoodbyePutsNothing}
use Rattle.provider_laws.proofs.resting.Law.{goodbyes_put_nothing}
use Rattle.run_laws.proofs.gapless.HeardLaw.{each_put_is_heard}

module _ (event : Happening) (before : History) (quiet : GoodbyePutsNothing event) where
  one : (xs : List Happened) (r : Happened) (now : List Happened) → event.records ≡ xs ++ r ∷ now → AllHearUnlessLeaving event now before r → AllHear event now before r
  one xs (happened.Put n v g i e) now q k = λ p own takes was. by p own takes was (leaves p event before) refl
    where
      there : Has (happened.Put n v g i e) event.records
      there = subst (Has (happened.Put n v g i e)) (sym q) (append_has_right (happened.Put n v g i e) xs (happened.Put n v g i e ∷ now) (inl refl))

      taken : (b : Bool) → list_any is_refused event.records ≡ b → not (list_any is_refused event.records) ≡ true → list_any is_refused event.records ≡ false
      taken false a z = a
      taken true a z = absurd (let y : not (list_any is_refused event.records) ≡ false = ap not a in let u : true ≡ false = sym z ∙ y in cc)

      said : (p : ProviderId) (o : Option Event) → event.event ≡ o → goodbye_of p.node (client_of p before) o ≡ true → not (list_any is_refused event.records) ≡ true → ⊥
      said p None a y z = cc
      said p (Some x) a y z =
          let b = goodbye_is p.node (client_of p before) x y in
          quiet b.0 b.1 (a ∙ ap (λ (c : Event). Some c) b.2) (taken (list_any is_refused event.records) refl z) n v g i e there

      by : (p : ProviderId) → p.node ≡ n → IsTrue (takes_part i (part p (stays n g (happened.Put n v g i e ∷ earlier now before)))) → was_let_go p before ≡ false → (b : Bool) → leaves p event before ≡ b → (ms : List ProviderId) × (value : List ℕ) × Has (happened.Heard p v g i e ms value) event.records
      by p own takes was false a = k p own takes was a
      by p own takes was true a =
          let b = and_parts (goodbye_of p.node (client_of p before) event.event) (not (list_any is_refused event.records)) a in absurd (said p event.event refl b.0 b.1)
  one xs _ now q k = tt

  within : (xs now : List Happened) → event.records ≡ xs ++ now → Within (AllHearUnlessLeaving event) now before → Within (AllHear event) now before
  within xs [] q k = tt
  within xs (r ∷ now) q k = (one xs r now q k.0, within (xs ++ r ∷ []) now (q ∙ sym (append_assoc xs (r ∷ []) now)) k.1)

each : (h : History) → EachIsHeard h → EachEvent (λ event before. GoodbyePutsNothing event) h → EachEvent (λ event before. Within (AllHear event) event.records before) h
each [] k quiet = tt
each (x ∷ h) k quiet = (within x h quiet.0 [] x.records refl k.0, each h k.1 quiet.1)

pub all_hear : AllHearEachPut
all_hear c w k = each w.before (each_put_is_heard c w k) (goodbyes_put_nothing c w k)
