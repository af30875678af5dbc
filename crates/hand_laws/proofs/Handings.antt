-- The handings of a step, one after another: what is kept of every log and every ballot stays kept.
use Rattle.std.proofs.Common.{◌≡◌, ◌⊎◌, inl, inr, ℕ, zero, suc, ◌<◌, Bool, true, false, List, [], ◌∷◌, ◌++◌, length, map, Option, Some, None, refl, sym, ap, subst, ◌∙◌, arith, append-nil, append_assoc}
use Rattle.std.specs.Prelude.{find, reverse, slice_get, if◌then◌else◌}
use Rattle.std.proofs.lemmas.Bool.{eq-eqb}
use Rattle.std.proofs.lemmas.List.Sums.{fold-append}
use Rattle.rsct_packet.specs.declared.ids.ProviderId.{ProviderId}
use Rattle.rsct_packet.specs.Lists.{reverse_onto}
use Rattle.rsct_packet.specs.Providers.{same_provider}
use Rattle.rsct_packet.specs.Search.{Has}
use Rattle.rsct_packet.proofs.HasLaws.{has_append, has_filter, filter_has, find_has}
use Rattle.rsct_packet.proofs.SearchLaws.{place_is_in}
use Rattle.client_callbacks.specs.Handed.{Handed}
use Rattle.session_state.specs.declared.state.Provider.{Provider}
use Rattle.session_state.specs.declared.state.Session.{Session}
use Rattle.session_state.specs.declared.state.SessionState.{SessionState}
use Rattle.session_state.specs.State.{is_session, is_provider, provider_of, place_of}
use Rattle.session_clients.specs.Clients.{StandFor}
use Rattle.node_state.specs.declared.config.Config.{Config}
use Rattle.node_state.specs.declared.happened.Happened.{Happened}
use Rattle.node_state.specs.declared.happened.Happened.TheVariants as happened
use Rattle.node_state.specs.Handed.{is_handed, handed_in, Logged, logged_in}
use Rattle.node_state.specs.State.{state_of}
use Rattle.node_state.specs.Step.{NodeEvent, at_work}
use Rattle.entry_delivery.specs.Received.{Handing, IsFor, AreFor, IsLog, AreLogs, handed_by, told_by, logged, logged_by, given_at, given_to, after_handings}
use Rattle.world_model.specs.World.{Node}
use Rattle.world_laws.specs.world_runs.Runs.{Recorded}
use Rattle.world_laws.specs.world_answers.Answers.{Answered, answered_after}
use Rattle.world_safety.specs.HeardStates.{FoldAt, AreFolds}
use Rattle.world_safety.proofs.Turned.{onto_is}
use Rattle.step_refinement.proofs.SessionLaws.{provider_same}
use Rattle.run_hands.specs.Hands.{given_by}
use Rattle.run_hands.specs.Logs.{OfEach}
use Rattle.hearing_laws.specs.Walk.{Hearing, heard_after, heard_by}
use Rattle.hand_laws.specs.Hearers.{heard_in, heard_then, voice, IsUncast, Moment, IsKeptAlong}
use Rattle.hand_laws.proofs.Adding.{heard_with, heard_onto, heard_handed, heard_told, none_before, IsSilent, heard_silent, handed_uncast, onto_has, onto_append, Split, split_handed}
use Rattle.hand_laws.proofs.Sessions.{get_at, place_found, in_place}
use Rattle.hand_laws.proofs.Calls.{HasAll}

-- ---- logs with one handing more

given_none : (i : ℕ) (l : Logged) (now : List (List Logged)) → slice_get now i ≡ None → given_at i l now ≡ now
given_none i l [] e = refl
given_none zero l (x ∷ now) e = absurd (cc)
given_none (suc i) l (x ∷ now) e = ap (λ z. x ∷ z) (given_none i l now e)

given_length : (i : ℕ) (l : Logged) (now : List (List Logged)) → length (given_at i l now) ≡ length now
given_length i l [] = refl
given_length zero l (x ∷ now) = refl
given_length (suc i) l (x ∷ now) = let k : length (given_at i l now) ≡ length now = given_length i l now in omega (arith, k)

-- the log there has one more at its end; each other one stays
abbrev Given : ℕ → Logged → List (List Logged) → ℕ → List Logged → Type 0
Given i l now j log = ((j ≡ i) × (old : List Logged) × (slice_get now i ≡ Some old) × (log ≡ old ++ l ∷ [])) ⊎ ((j ≡ i → ⊥) × (slice_get now j ≡ Some log))

given_get : (i : ℕ) (l : Logged) (now : List (List Logged)) (j : ℕ) (log : List Logged) → slice_get (given_at i l now) j ≡ Some log → Given i l now j log
given_get i l [] j log e = absurd (cc)
given_get zero l (x ∷ now) zero log e = let same : log ≡ x ++ l ∷ [] = cc in inl (refl, x, refl, same)
given_get zero l (x ∷ now) (suc j) log e = inr ((λ q. absurd (omega (arith, q))), e)
given_get (suc i) l (x ∷ now) zero log e = inr ((λ q. absurd (omega (arith, q))), e)
given_get (suc i) l (x ∷ now) (suc j) log e = by (given_get i l now j log e)
  where
    by : Given i l now j log → Given (suc i) l (x ∷ now) (suc j) log
    by (inl (q, old, at, is)) = inl (ap suc q, old, at, is)
    by (inr (other, at)) = inr ((λ q. other (omega (arith, q))), at)

given_here : (i : ℕ) (l : Logged) (now : List (List Logged)) (old : List Logged) → slice_get now i ≡ Some old → slice_get (given_at i l now) i ≡ Some (old ++ l ∷ [])
given_here i l [] old e = absurd (cc)
given_here zero l (x ∷ now) old e = let same : x ≡ old = cc in ap (λ z. Some (z ++ l ∷ [])) same
given_here (suc i) l (x ∷ now) old e = given_here i l now old e

given_there : (i : ℕ) (l : Logged) (now : List (List Logged)) (j : ℕ) (old : List Logged) → slice_get now j ≡ Some old → (more : List Logged) × (slice_get (given_at i l now) j ≡ Some (old ++ more))
given_there i l [] j old e = absurd (cc)
given_there zero l (x ∷ now) zero old e = let same : x ≡ old = cc in (l ∷ [], ap (λ z. Some (z ++ l ∷ [])) same)
given_there zero l (x ∷ now) (suc j) old e = ([], e ∙ ap Some (sym (append-nil old)))
given_there (suc i) l (x ∷ now) zero old e = ([], e ∙ ap Some (sym (append-nil old)))
given_there (suc i) l (x ∷ now) (suc j) old e = given_there i l now j old e

-- each log goes on
extends : (hs : List Handing) (now : List (List Logged)) (j : ℕ) (old : List Logged) → slice_get now j ≡ Some old → (more : List Logged) × (slice_get (after_handings hs now) j ≡ Some (old ++ more))
unfolding after_handings
extends [] now j old e = ([], e ∙ ap Some (sym (append-nil old)))
extends (h ∷ hs) now j old e =
    let a = one h.place in
    let b = extends hs (given_to h.place (logged h) now) j (old ++ a.0) a.1 in
    (a.0 ++ b.0, b.1 ∙ ap Some (append_assoc old a.0 b.0))
  where
    one : (o : Option ℕ) → (more : List Logged) × (slice_get (given_to o (logged h) now) j ≡ Some (old ++ more))
    one None = ([], e ∙ ap Some (sym (append-nil old)))
    one (Some i) = given_there i (logged h) now j old e

each_at : (P : List Logged → Type 0) (now : List (List Logged)) (i : ℕ) (log : List Logged) → OfEach P now → slice_get now i ≡ Some log → P log
each_at P [] i log k e = absurd (cc)
each_at P (x ∷ now) zero log k e = let same : x ≡ log = cc in subst P same k.0
each_at P (x ∷ now) (suc i) log k e = each_at P now i log k.1 e

each_given : (P : List Logged → Type 0) (now : List (List Logged)) (i : ℕ) (l : Logged) (log : List Logged) → OfEach P now → slice_get now i ≡ Some log → P (log ++ l ∷ []) → OfEach P (given_at i l now)
each_given P [] i l log k e p = tt
each_given P (x ∷ now) zero l log k e p = let same : log ≡ x = cc in (subst (λ z. P (z ++ l ∷ [])) same p, k.1)
each_given P (x ∷ now) (suc i) l log k e p = (k.0, each_given P now i l log k.1 e p)

-- ---- who stands for a log

stands_at : {C : Type 0} (R : C → List Handed → Type 0) (clients : List C) (logs : List (List Logged)) (i : ℕ) (log : List Logged) → StandFor R clients (map handed_by logs) → slice_get logs i ≡ Some log → (c : C) × R c (handed_by log)
stands_at R clients [] i log k e = absurd (cc)
stands_at R [] (x ∷ logs) i log k e = absurd k
stands_at R (c ∷ clients) (x ∷ logs) zero log k e = let same : x ≡ log = cc in (c, subst (λ z. R c (handed_by z)) same k.0)
stands_at R (c ∷ clients) (x ∷ logs) (suc i) log k e = stands_at R clients logs i log k.1 e

logs_at : (logs : List (List Logged)) (i : ℕ) (log : List Logged) → AreLogs logs → slice_get logs i ≡ Some log → IsLog log
logs_at [] i log k e = absurd (cc)
logs_at (x ∷ logs) zero log k e = let same : x ≡ log = cc in subst IsLog same k.0
logs_at (x ∷ logs) (suc i) log k e = logs_at logs i log k.1 e

told_append : (xs ys : List Handing) → told_by (xs ++ ys) ≡ told_by xs ++ told_by ys
told_append [] ys = refl
told_append (x ∷ xs) ys = ap (λ rs. x.what ∷ rs) (told_append xs ys)

pub told_has : (r : Happened) (hs : List Handing) → Has r (told_by hs) → (b : Handing) × Has b hs × (r ≡ b.what)
told_has r [] j = absurd j
told_has r (b ∷ hs) (inl q) = (b, inl refl, q)
told_has r (b ∷ hs) (inr j) = let z = told_has r hs j in (z.0, inr z.1, z.2)

fold_of : (tr : List Happened) (given : List Logged) (before : List Handing) (h : Handing) (after : List Handing) → AreFolds tr (given ++ logged_by (before ++ h ∷ after)) → FoldAt tr h.what h.after
fold_of tr (g ∷ given) before h after k = fold_of tr given before h after k.1
fold_of tr [] (b ∷ before) h after k = fold_of tr [] before h after k.1
fold_of tr [] [] h after k = k.0

-- ---- what is heard with one more

then_more : (p : ProviderId) (hs : List Hearing) (before : List Handing) (h : Handing) → heard_then p hs (before ++ h ∷ []) ≡ heard_after p h.what (heard_then p hs before)
then_more p hs before h = fold-append (λ (old : List Hearing) (b : Handing). heard_after p b.what old) hs before (h ∷ [])

pub in_more : (p : ProviderId) (log : List Logged) (l : Logged) → heard_in p (log ++ l ∷ []) ≡ heard_after p l.what (heard_in p log)
in_more p log l = fold-append (λ (hs : List Hearing) (b : Logged). heard_after p b.what hs) [] log (l ∷ [])

-- neither heard nor cast
abbrev IsQuiet : Happened → Type 0
IsQuiet (happened.Heard p v g i e members value) = ⊥
IsQuiet (happened.Cast p proto phase vote value message) = ⊥
IsQuiet _ = Unit {0}

quiet_after : (p : ProviderId) (r : Happened) (hs : List Hearing) → IsQuiet r → heard_after p r hs ≡ hs
quiet_after p (happened.Heard q v g i e members value) hs a = absurd a
quiet_after p _ hs a = refl

quiet_uncast : (r : Happened) → IsQuiet r → IsUncast r
quiet_uncast (happened.Cast p proto phase vote value message) a = a
quiet_uncast _ a = tt

-- ---- the handings of a step

module _ {C : Type 0} (R : C → List Handed → Type 0) (c : Config) (whole : List Answered) (P : List Logged → Type 0) (K : Happened → Type 0) (kept : IsKeptAlong R c whole P K) where
  module _ (es fs : List Answered) (e : Answered) (is : whole ≡ es ++ e ∷ fs) (node : ℕ) (x : Node) (rs : List Happened) (ev : NodeEvent) (recorded : Recorded (answered_after c es) (answered_after c (es ++ e ∷ [])) rs) (folds : AreFolds (answered_after c (es ++ e ∷ [])).trace (logged_in rs (state_of x.core))) (silent : (r : Happened) → Has r (given_by (at_work x.core) ev) → IsSilent r) (old : (r : Happened) → Has r (answered_after c es).trace → K r) where
    module _ (t : SessionState) (owner : (y : Provider) → Has y t.providers → (z : Session) × Has z t.sessions × (z.token.number ≡ y.client.number)) (clients : List C) (fin : List (List Logged)) (stand : StandFor R clients (map handed_by fin)) (are_logs : AreLogs fin) where
      abbrev heard : List Handing → ProviderId → List Hearing
      heard before p = heard_then p (heard_by p (answered_after c es).trace) before

      -- the log that a handing goes to
      record Goes (h : Handing) (now : List (List Logged)) : Type 0 where
        place : ℕ
        log : List Logged
        to : h.place ≡ Some place
        at : slice_get now place ≡ Some log

      -- or it changes none, and says nothing of what is kept
      abbrev Passes : Handing → List (List Logged) → Type 0
      Passes h now = (given_to h.place (logged h) now ≡ now) × IsQuiet h.what

      goes_live : (h : Handing) (now : List (List Logged)) (p : ProviderId) → length now ≡ length t.sessions → (h.place ≡ place_of t p) × (provider_of t p ≡ None → ⊥) → Goes h now
      unfolding provider_of
      goes_live h now p aligned (place, live) = by (find (is_provider p) t.providers) refl
        where
          by : (o : Option Provider) → find (is_provider p) t.providers ≡ o → Goes h now
          by None q = absurd (live q)
          by (Some y) q =
              let z = owner y (find_has (is_provider p) t.providers y q).0 in
              let i = place_found (is_session y.client) t.sessions z.0 z.1 (eq-eqb (z.0).token.number y.client.number z.2) in
              let l : i.0 < length t.sessions = place_is_in (is_session y.client) t.sessions i.0 i.1 in
              let log = get_at i.0 now (omega (arith, l, aligned)) in
              record { place = i.0; log = log.0; to = place ∙ in_place heard_in [] (λ q. refl) (heard []) t p i.0 y q i.1; at = log.1 }

      goes_told : (h : Handing) (now : List (List Logged)) → IsQuiet h.what → Goes h now ⊎ Passes h now
      goes_told h now quiet = by h.place refl
        where
          by : (o : Option ℕ) → h.place ≡ o → Goes h now ⊎ ((given_to h.place (logged h) now ≡ now) × IsQuiet h.what)
          by None q = inr (ap (λ o. given_to o (logged h) now) q, quiet)
          by (Some i) q = at (slice_get now i) refl
            where
              at : (l : Option (List Logged)) → slice_get now i ≡ l → Goes h now ⊎ ((given_to h.place (logged h) now ≡ now) × IsQuiet h.what)
              at None k = inr (ap (λ o. given_to o (logged h) now) q ∙ given_none i (logged h) now k, quiet)
              at (Some log) k = inl (record { place = i; log = log; to = q; at = k })

      goes : (h : Handing) (now : List (List Logged)) → length now ≡ length t.sessions → IsFor t h.place h.what → Goes h now ⊎ Passes h now
      goes h now aligned for = by h.what refl for
        where
          by : (r : Happened) → h.what ≡ r → IsFor t h.place r → Goes h now ⊎ Passes h now
          by (happened.Heard p v g i e members value) q k = inl (goes_live h now p aligned k)
          by (happened.Cast p proto phase vote value message) q k = inl (goes_live h now p aligned k)
          by (happened.Told p r why) q k = goes_told h now (subst IsQuiet (sym q) tt)
          by (happened.Noted n name v i told) q k = goes_told h now (subst IsQuiet (sym q) tt)
          by _ q k = absurd k

      -- who hears or casts is of the client of that place
      its_place : (h : Handing) (p : ProviderId) → IsFor t h.place h.what → voice h.what ≡ Some p → h.place ≡ place_of t p
      its_place h p for = by h.what for
        where
          by : (r : Happened) → IsFor t h.place r → voice r ≡ Some p → h.place ≡ place_of t p
          by (happened.Heard q v g i e members value) k z = let same : q ≡ p = cc in k.0 ∙ ap (place_of t) same
          by (happened.Cast q proto phase vote value message) k z = let same : q ≡ p = cc in k.0 ∙ ap (place_of t) same
          by _ k z = absurd (cc)

      -- what another client's provider heard
      else_heard : (h : Handing) (p : ProviderId) (i j : ℕ) (hs : List Hearing) → IsFor t h.place h.what → h.place ≡ Some i → place_of t p ≡ Some j → (j ≡ i → ⊥) → heard_after p h.what hs ≡ hs
      else_heard h p i j hs for to at other = by h.what (λ q. its_place h q for)
        where
          by : (r : Happened) → ((q : ProviderId) → voice r ≡ Some q → h.place ≡ place_of t q) → heard_after p r hs ≡ hs
          by (happened.Heard q v g k f members value) its = of (same_provider q p) refl
            where
              of : (b : Bool) → same_provider q p ≡ b → (if b then record { view = v; group = g; place = k; entry = f } ∷ hs else hs) ≡ hs
              of false z = refl
              of true z =
                  let same : q ≡ p = provider_same q p z in
                  let both : Some i ≡ Some j = sym to ∙ its q refl ∙ ap (place_of t) same ∙ at in
                  let one : j ≡ i = cc in
                  absurd (other one)
          by _ its = refl

      -- one handing
      module _ (before after : List Handing) (h : Handing) (said : handed_in rs ≡ handed_in (given_by (at_work x.core) ev) ++ told_by (before ++ h ∷ after)) (stated : logged_in rs (state_of x.core) ≡ logged_in (given_by (at_work x.core) ev) (state_of x.core) ++ logged_by (before ++ h ∷ after)) (for : IsFor t h.place h.what) (ks : (b : Handing) → Has b before → K b.what) (now : List (List Logged)) (has : HasAll (heard before) t now) (each : OfEach P now) (end : after_handings (h ∷ after) now ≡ fin) where
        abbrev next : List (List Logged)
        next = given_to h.place (logged h) now

        abbrev Then : Type 0
        Then = HasAll (heard (before ++ h ∷ [])) t next × OfEach P next × K h.what

        same_heard : IsQuiet h.what → (p : ProviderId) → heard (before ++ h ∷ []) p ≡ heard before p
        same_heard quiet p = then_more p (heard_by p (answered_after c es).trace) before h ∙ quiet_after p h.what (heard before p) quiet

        passes : Passes h now → Then
        passes (same, quiet) = (
          record {
            aligned = ap (λ (ls : List (List Logged)). length ls) same ∙ has.aligned;
            all = λ p i log place at. has.all p i log place (subst (λ ls. slice_get ls i ≡ Some log) same at) ∙ sym (same_heard quiet p);
            none = λ i log at p none. has.none i log (subst (λ ls. slice_get ls i ≡ Some log) same at) p (sym (same_heard quiet p) ∙ none);
          },
          subst (OfEach P) (sym same) each,
          kept.uncast h.what (quiet_uncast h.what quiet),
        )

        module _ (g : Goes h now) where
          abbrev longer : List Logged
          longer = g.log ++ logged h ∷ []

          is_next : next ≡ given_at g.place (logged h) now
          is_next = ap (λ o. given_to o (logged h) now) g.to

          at_end : (more : List Logged) × (slice_get fin g.place ≡ Some (longer ++ more))
          unfolding after_handings
          at_end =
              let k = extends after next g.place longer (subst (λ ls. slice_get ls g.place ≡ Some longer) (sym is_next) (given_here g.place (logged h) now g.log g.at)) in
              (k.0, ap (λ ls. slice_get ls g.place) (sym end) ∙ k.1)

          stands : (client : C) × R client (handed_by (longer ++ at_end.0))
          stands = stands_at R clients fin g.place (longer ++ at_end.0) stand at_end.1

          split : Split rs (handed_in (given_by (at_work x.core) ev) ++ told_by before) h.what
          split =
              split_handed rs (handed_in (given_by (at_work x.core) ev) ++ told_by before) h.what (told_by after)
              (said ∙ ap (λ rs. handed_in (given_by (at_work x.core) ev) ++ rs) (told_append before (h ∷ after)) ∙ sym (append_assoc (handed_in (given_by (at_work x.core) ev)) (told_by before) (h.what ∷ told_by after)))

          abbrev older : List Happened
          older = reverse_onto split.older (answered_after c es).trace

          trace : (answered_after c (es ++ e ∷ [])).trace ≡ reverse split.newer ++ h.what ∷ older
          trace =
              recorded ∙ ap (λ rs. reverse_onto rs (answered_after c es).trace) split.is ∙ onto_append split.older (h.what ∷ split.newer) (answered_after c es).trace
              ∙ onto_is split.newer (h.what ∷ older)

          heard_older : (p : ProviderId) → heard_by p older ≡ heard before p
          heard_older p =
              heard_onto p split.older (answered_after c es).trace ∙ heard_handed p split.older (heard_by p (answered_after c es).trace) ∙ ap (heard_with p (heard_by p (answered_after c es).trace)) split.handed
              ∙ heard_silent p (handed_in (given_by (at_work x.core) ev)) (told_by before) (heard_by p (answered_after c es).trace) (λ r i. silent r (has_filter is_handed r (given_by (at_work x.core) ev) i).0)
              ∙ heard_told p before (heard_by p (answered_after c es).trace)

          known : (r : Happened) → Has r older → K r
          known r i = by (onto_has r split.older (answered_after c es).trace i)
            where
              handed : Has r (handed_in (given_by (at_work x.core) ev)) ⊎ Has r (told_by before) → K r
              handed (inl j) = kept.given (at_work x.core) ev refl r (has_filter is_handed r (given_by (at_work x.core) ev) j).0
              handed (inr j) = let z = told_has r before j in subst K (sym z.2) (ks z.0 z.1)

              of : (b : Bool) → is_handed r ≡ b → Has r split.older → K r
              of false q j = kept.uncast r (handed_uncast r q)
              of true q j = handed (has_append r (handed_in (given_by (at_work x.core) ev)) (told_by before) (subst (Has r) split.handed (filter_has is_handed r split.older j q)))

              by : Has r split.older ⊎ Has r (answered_after c es).trace → K r
              by (inl j) = of (is_handed r) refl j
              by (inr j) = old r j

          moment : Moment R c es e older h g.log
          moment =
              record {
                newer = reverse split.newer;
                now = trace;
                fold = fold_of (answered_after c (es ++ e ∷ [])).trace (logged_in (given_by (at_work x.core) ev) (state_of x.core)) before h after (subst (AreFolds (answered_after c (es ++ e ∷ [])).trace) stated folds);
                heard = λ p q. has.all p g.place g.log (sym (its_place h p for q) ∙ g.to) g.at ∙ sym (heard_older p);
                client = stands.0;
                more = at_end.0;
                stands = stands.1;
                is_log = logs_at fin g.place (longer ++ at_end.0) are_logs at_end.1;
              }

          result : P longer × K h.what
          result = kept.handed es fs e older h g.log is moment (each_at P now g.place g.log each g.at) known

          all_next : (p : ProviderId) (j : ℕ) (log : List Logged) → place_of t p ≡ Some j → Given g.place (logged h) now j log → heard_in p log ≡ heard (before ++ h ∷ []) p
          all_next p j log place (inl (q, was, at, more)) =
              ap (heard_in p) more ∙ in_more p was (logged h)
              ∙ ap (heard_after p h.what) (has.all p g.place was (place ∙ ap Some q) at)
              ∙ sym (then_more p (heard_by p (answered_after c es).trace) before h)
          all_next p j log place (inr (other, at)) =
              has.all p j log place at
              ∙ sym (then_more p (heard_by p (answered_after c es).trace) before h ∙ else_heard h p g.place j (heard before p) for g.to place other)

          none_next : (j : ℕ) (log : List Logged) (p : ProviderId) → heard (before ++ h ∷ []) p ≡ [] → Given g.place (logged h) now j log → heard_in p log ≡ []
          none_next j log p none (inl (q, was, at, more)) =
              let said : heard_after p h.what (heard before p) ≡ [] = sym (then_more p (heard_by p (answered_after c es).trace) before h) ∙ none in
              let old_none : heard before p ≡ [] = none_before p h.what (heard before p) said in
              ap (heard_in p) more ∙ in_more p was (logged h) ∙ ap (heard_after p h.what) (has.none g.place was at p old_none ∙ sym old_none) ∙ said
          none_next j log p none (inr (other, at)) =
              has.none j log at p (none_before p h.what (heard before p) (sym (then_more p (heard_by p (answered_after c es).trace) before h) ∙ none))

          goes_on : Then
          goes_on = (
            record {
              aligned = ap (λ (ls : List (List Logged)). length ls) is_next ∙ given_length g.place (logged h) now ∙ has.aligned;
              all = λ p j log place at. all_next p j log place (given_get g.place (logged h) now j log (subst (λ ls. slice_get ls j ≡ Some log) is_next at));
              none = λ j log at p none. none_next j log p none (given_get g.place (logged h) now j log (subst (λ ls. slice_get ls j ≡ Some log) is_next at));
            },
            subst (OfEach P) (sym is_next) (each_given P now g.place (logged h) g.log each g.at result.0),
            result.1,
          )

        one : Goes h now ⊎ Passes h now → Then
        one (inl g) = goes_on g
        one (inr k) = passes k

      -- all of them
      pub handings_keep : (before hs : List Handing) → handed_in rs ≡ handed_in (given_by (at_work x.core) ev) ++ told_by (before ++ hs) → logged_in rs (state_of x.core) ≡ logged_in (given_by (at_work x.core) ev) (state_of x.core) ++ logged_by (before ++ hs) → AreFor t hs → ((b : Handing) → Has b before → K b.what) → (now : List (List Logged)) → HasAll (heard before) t now → OfEach P now → after_handings hs now ≡ fin
          → HasAll (heard (before ++ hs)) t fin × OfEach P fin × ((b : Handing) → Has b hs → K b.what)
      unfolding after_handings
      handings_keep before [] said stated for ks now has each end =
          (subst (λ bs. HasAll (heard bs) t fin) (sym (append-nil before)) (subst (HasAll (heard before) t) end has), subst (OfEach P) end each, λ b h. absurd h)
      handings_keep before (h ∷ hs) said stated for ks now has each end =
          let k = one before hs h said stated for.0 ks now has each end (goes h now has.aligned for.0) in
          let more : (before ++ h ∷ []) ++ hs ≡ before ++ h ∷ hs = append_assoc before (h ∷ []) hs in
          let rest = handings_keep (before ++ h ∷ []) hs (subst (λ zs. handed_in rs ≡ handed_in (given_by (at_work x.core) ev) ++ told_by zs) (sym more) said) (subst (λ zs. logged_in rs (state_of x.core) ≡ logged_in (given_by (at_work x.core) ev) (state_of x.core) ++ logged_by zs) (sym more) stated) for.1 (λ b z. at b (has_append b before (h ∷ []) z) k.2) (given_to h.place (logged h) now) k.0 k.1 end in
          (subst (λ bs. HasAll (heard bs) t fin) more rest.0, rest.1, λ b z. here b z k.2 rest.2)
        where
          at : (b : Handing) → Has b before ⊎ Has b (h ∷ []) → K h.what → K b.what
          at b (inl z) own = ks b z
          at b (inr (inl q)) own = subst (λ (y : Handing). K y.what) (sym q) own
          at b (inr (inr z)) own = absurd z

          here : (b : Handing) → Has b (h ∷ hs) → K h.what → ((y : Handing) → Has y hs → K y.what) → K b.what
          here b (inl q) own rest = subst (λ (y : Handing). K y.what) (sym q) own
          here b (inr z) own rest = rest b z
