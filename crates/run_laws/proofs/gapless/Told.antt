-- Whoever is told in an event that its group is dissolved takes part at no later put of that event; so whoever takes part at a put
-- hears it.
use Rattle.std.proofs.Common.{◌≡◌, ◌⊎◌, ℕ, List, [], ◌∷◌, ◌++◌, Option, Some, None, Bool, true, false, refl, sym, ap, ◌∙◌, subst, inl, inr, ⊎_elim, append_assoc}
use Rattle.std.specs.Prelude.{◌&&◌, not, reverse, IsTrue, is_some, is_none}
use Rattle.std.proofs.lemmas.Bool.{and_parts}
use Rattle.std.proofs.lemmas.List.{reverse-append}
use Rattle.rsct_packet.specs.declared.ids.ProviderId.{ProviderId}
use Rattle.rsct_packet.specs.declared.ids.ViewId.{ViewId}
use Rattle.rsct_packet.specs.Providers.{among}
use Rattle.rsct_packet.specs.Search.{Has}
use Rattle.rsct_packet.proofs.HasLaws.{has_append, append_has_right, has_reverse}
use Rattle.rsct_packet.proofs.SearchLaws.{place_has}
use Rattle.proposal_core.specs.declared.entry.Entry.{Entry}
use Rattle.proposal_core.specs.declared.group_state.GroupState.{GroupState}
use Rattle.proposal_core.specs.Fold.{present}
use Rattle.client_callbacks.specs.declared.told.Why.{Why}
use Rattle.client_callbacks.specs.declared.told.Why.TheVariants as why
use Rattle.session_state.specs.declared.state.Provider.{Provider}
use Rattle.session_state.specs.State.{provider_of}
use Rattle.view_state.specs.declared.install.Install.{Install}
use Rattle.view_state.specs.Bases.{bases_of, base_named}
use Rattle.node_state.specs.declared.config.Config.{Config}
use Rattle.node_state.specs.declared.happened.Happened.{Happened}
use Rattle.node_state.specs.declared.happened.Happened.TheVariants as happened
use Rattle.node_state.specs.declared.state.Core.{Core}
use Rattle.node_state.specs.State.{recorded_all}
use Rattle.node_state.specs.HandOn.{Answering}
use Rattle.node_state.specs.Applying.{level_set, view_entered, is_in_base}
use Rattle.node_state.specs.Step.{NodeEvent, Ticks, Asks, Given, Calls, Garbage, at_work, stepped}
use Rattle.world_model.specs.declared.event.Event.{Event}
use Rattle.run_safety.specs.Past.{earlier, records_of}
use Rattle.run_safety.specs.Stays.{Stay, stays, is_join_of, is_dissolved, passes, first_in, last_in, part, from_first, up_to_last, takes_part, was_let_go}
use Rattle.run_safety.specs.ViewOrder.{Lt}
use Rattle.step_refinement.specs.Tied.{Scene}
use Rattle.step_refinement.specs.Rules.{Arises}
use Rattle.step_refinement.specs.Runs.{Reached}
use Rattle.row_laws.specs.hearing.Changes.{Aside, entering, Does}
use Rattle.row_laws.proofs.hearing.Added.{Adds, enters_add}
use Rattle.provider_laws.proofs.attending.Entering.{entered_stays}
use Rattle.run_laws.specs.seen_runs.Seen.{Seen, BeginsOnce, WasTold}
use Rattle.row_laws.specs.failed_rows.Scenes.{Names}
use Rattle.row_laws.proofs.failed_rows.Origin.{root_of}
use Rattle.provider_laws.specs.leaving.Scenes.{IsCall}
use Rattle.provider_laws.proofs.leaving.Keeping.{Clean}
use Rattle.run_laws.specs.gapless.Takers.{Taker, Stood, AskedJoin, Dissolving}
use Rattle.run_laws.proofs.gapless.Firsts.{taker_passed}
use Rattle.run_laws.proofs.gapless.Growing.{Over}
use Rattle.run_laws.proofs.gapless.Keeping.{Inv_at}
use Rattle.run_laws.proofs.gapless.Adding.{Walked}
use Rattle.run_laws.proofs.gapless.Resting.{Rested, dissolving_gone}
use Rattle.run_laws.proofs.gapless.Stepping as stepping
use Rattle.run_laws.proofs.gapless.Fair.{Fair, Mild}
use Rattle.run_laws.proofs.gapless.Moving.{Moves, Remains, Enters, NotCall}
use Rattle.run_laws.proofs.gapless.Spoken.{spoken_moves, reached_spoken}
use Rattle.run_laws.proofs.gapless.Tellings.{Leaves}
use Rattle.run_laws.proofs.gapless.Entered.{o, untold, told_left, not_passing}
use Rattle.run_laws.proofs.gapless.LeftTakers.{Stands, carries}
use Rattle.run_laws.proofs.gapless.Later.{Cut, cut_at, Later, Grown, grown}
use Rattle.row_laws.proofs.hearing.Handing.{some_is}
use Rattle.run_laws.proofs.seen_runs.Law.{seen_after}
use Rattle.run_laws.proofs.gapless.Putting.{asked_named}
use Rattle.row_laws.proofs.failed_rows.Asked.{join_carried}
use Rattle.row_laws.proofs.failed_rows.Bases.{base_is, new_stay}

dissolved_is : (y : Why) → is_dissolved y ≡ true → y ≡ why.Dissolved
dissolved_is why.Dissolved e = refl
dissolved_is _ e = absurd (cc)

told_all : (p : ProviderId) (r : ℕ) (xs rs : List Happened) → WasTold p r rs → WasTold p r (xs ++ rs)
told_all p r [] rs k = k
told_all p r (x ∷ xs) rs k = inr (told_all p r xs rs k)

regroup : (xs a : List Happened) (x : Happened) (b e r : List Happened) → ((xs ++ (a ++ x ∷ b)) ++ e) ++ r ≡ (xs ++ a) ++ x ∷ (b ++ (e ++ r))
regroup xs a x b e r = simp append_assoc

-- only a call records anything before the rest of a step
root_none : (s : Core) (e : NodeEvent) → NotCall e → (r : Happened) → Has r (root_of (at_work s) e).records → ⊥
root_none s Ticks calm r i = i
root_none s (Asks mask) calm r i = i
root_none s (Given q) calm r i = i
root_none s (Calls d) calm r i = calm
root_none s Garbage calm r i = i

-- who passes takes part in the new stay
passes_takes : (p : ProviderId) (v : ViewId) (base : GroupState) (older : List Stay) → passes p base (part p older) ≡ true → Taker p (new_stay v base ∷ older)
passes_takes p v base older e =
    record { first = 0; is = ap (first_in p []) e; last = ap (last_in p (new_stay v base)) (ap (first_in p []) e) }

lives_in : (p : ProviderId) (base : GroupState) (older : List Stay) → passes p base (part p older) ≡ true → (among (present base) p && not (among base.failed p)) ≡ true
lives_in p base older e =
    let a = and_parts (is_some (part p older).first) (is_none (part p older).last && (among (present base) p && not (among base.failed p))) e in
    (and_parts (is_none (part p older).last) (among (present base) p && not (among base.failed p)) a.1).1

module _ (c : Config) (w : Scene) (n : ℕ) (f : Answering) (s : Core) (e : NodeEvent) (v : Event) (reached : Reached c w) (up : w.cores n ≡ Some s) (arises : Arises w e) (says : Names n e v) (is : IsCall n e v) (clean : Clean w) (k : Rested w) (p : ProviderId) (node : p.node ≡ n) (spared : was_let_go p w.before ≡ false) (stays_on : stepping.Stays c w n f s e v reached up arises says is clean k p) where
  abbrev d : Core
  d = stepped f s e

  abbrev Q : Core → Type 0
  Q = Stands c w n f s e v reached up arises p node

  abbrev Dis : List Happened → Type 0
  Dis now = Dissolving p (earlier now w.before)

  -- who was told was told in the event
  told_now : (now : List Happened) → Dis now → (r : ℕ) × Has (happened.Told p r why.Dissolved) now
  told_now now z = by (has_append it now (records_of w.before) z.told)
    where
      it : Happened
      it = happened.Told p z.number z.why

      by : Has it now ⊎ Has it (records_of w.before) → (r : ℕ) × Has (happened.Told p r why.Dissolved) now
      by (inl i) = (z.number, subst (λ y. Has (happened.Told p z.number y) now) (dissolved_is z.why z.is) i)
      by (inr i) = absurd (dissolving_gone p w.before (record { number = z.number; why = z.why; told = i; is = z.is }) spared)

  abbrev Place : List Happened → ViewId → List ℕ → ℕ → Entry → List Happened → Type 0
  Place xs u g i x now = reverse d.records ≡ xs ++ happened.Put n u g i x ∷ now

  -- what comes before is of the event
  in_event : (xs : List Happened) (u : ViewId) (g : List ℕ) (i : ℕ) (x : Entry) (now : List Happened) → Place xs u g i x now → (r : Happened) → Has r now → Has r (reverse d.records)
  in_event xs u g i x now q r h = subst (Has r) (sym q) (append_has_right r xs (happened.Put n u g i x ∷ now) (inr h))

  -- where no view is entered
  remained : Fair (at_work s) d → (r : ℕ) → Has (happened.Told p r why.Dissolved) (reverse d.records) → ⊥
  remained fair r h = let z : true ≡ false = fair.mild (happened.Told p r why.Dissolved) (subst (Has (happened.Told p r why.Dissolved)) fair.is (has_reverse (happened.Told p r why.Dissolved) d.records h)) in cc

  module _ (calm : NotCall e) (t : Core) (i : Install) (does : Does (at_work s) t) (fair : Fair (at_work s) t) (q : Q t) (same : t.views.view ≡ s.views.view) (lt : Lt t.views.view i.view) (rest : Fair (entering t i) d) where
    ended : List Happened
    ended = (entering t i).records

    adds : Adds Aside t (entering t i)
    adds = enters_add t i

    whole : reverse d.records ≡ reverse rest.more ++ reverse (entering t i).records
    whole = ap reverse rest.is ∙ reverse-append (entering t i).records rest.more

    inner : reverse (entering t i).records ≡ reverse adds.more ++ reverse t.records
    inner = ap reverse adds.is ∙ reverse-append t.records adds.more

    abbrev then : List Happened
    then = earlier (reverse t.records) w.before

    inv : Inv_at n w.before p node d.records t
    inv = q.inv (adds.more ++ rest.more, sym (append_assoc t.records adds.more rest.more) ∙ ap (λ z. z ++ rest.more) (sym adds.is) ∙ sym rest.is)

    not_yet : (r : ℕ) → Has (happened.Told p r why.Dissolved) t.records → ⊥
    not_yet r h = untold c w n f s e v reached up arises t i does fair same lt rest p r h

    no_dis : Dis (reverse t.records) → ⊥
    no_dis z = let a = told_now (reverse t.records) z in not_yet a.0 (has_reverse (happened.Told p a.0 why.Dissolved) t.records a.1)

    -- a provider that was told took part, and does not live in its base
    module _ (r : ℕ) (told : Has (happened.Told p r why.Dissolved) (reverse d.records)) where
      left : Leaves (view_entered t i (bases_of i)).sessions t.views.view (bases_of i) p
      left = told_left c w n f s e v reached up arises t i does fair same lt rest p r told

      left_found : provider_of t.sessions p ≡ Some left.provider
      unfolding view_entered recorded_all level_set provider_of
      left_found = left.found

      same_is : (g : List ℕ) (b : Bool) → (x : Stood t.sessions p g b) → left.provider ≡ x.provider
      same_is g b x = some_is (sym left_found ∙ x.found)

      not_waits : (g : List ℕ) → Stood t.sessions p g false → ⊥
      not_waits g x = let z : true ≡ false = sym left.takes ∙ ap (λ (y : Provider). y.takes_part) (same_is g false x) ∙ x.part_is in cc

      not_passes : (g : List ℕ) → Stood t.sessions p g true → passes p (base_is (base_named (bases_of i) g)) (part p (stays n g then)) ≡ true → ⊥
      not_passes g x pass =
          let group : (left.provider).group ≡ g = ap (λ (y : Provider). y.group) (same_is g true x) ∙ x.group in
          let own = (o c w n f s e v reached up arises t i does fair same lt rest).strict.hearing.at.own p left.provider left_found in
          let out = not_passing c w n f s e v reached up arises t i does fair same lt rest p g own.0 own.1 (ap (λ z. is_in_base t.views.view p (base_named (bases_of i) z)) (sym group) ∙ left.out) in
          let z : true ≡ false = sym (lives_in p (base_is (base_named (bases_of i) g)) (stays n g then) pass) ∙ out in cc

      -- so it does not take part after the view was entered
      module _ (xs : List Happened) (u : ViewId) (g : List ℕ) (j : ℕ) (x : Entry) (now' : List Happened) (cut : reverse rest.more ≡ xs ++ happened.Put n u g j x ∷ now') where
        abbrev M : List Happened
        M = happened.Put n u g j x ∷ now'

        abbrev Y : List Happened
        Y = earlier (reverse (entering t i).records) w.before

        abbrev base : GroupState
        base = base_is (base_named (bases_of i) g)

        mild : (z : Happened) → Has z M → Mild z
        mild z h = rest.mild z (has_reverse z rest.more (subst (Has z) (sym cut) (append_has_right z xs M h)))

        at_entering : stays n g Y ≡ new_stay i.view base ∷ stays n g then
        at_entering = subst (λ m. stays m g Y ≡ new_stay i.view base ∷ stays m g then) q.me (entered_stays w.before t i g)

        grows : Grown n g M (stays n g (M ++ Y)) (new_stay i.view base) (stays n g then)
        grows = grown n g M Y (new_stay i.view base) (stays n g then) mild at_entering

        -- it does not pass
        no_pass : passes p grows.now.base (part p (stays n g then)) ≡ true → ⊥
        no_pass y = by (inv.takes g (taker_passed p i.view base (stays n g then) (passes_takes p i.view base (stays n g then) pass)).0)
          where
            pass : passes p base (part p (stays n g then)) ≡ true
            pass = ap (λ z. passes p z (part p (stays n g then))) (sym grows.base) ∙ y

            by : Stood t.sessions p g true ⊎ Dis (reverse t.records) → ⊥
            by (inl a) = not_passes g a pass
            by (inr a) = no_dis a

        -- nor does it join
        no_join : (z : Entry) → Has z grows.now.entries → is_join_of p z ≡ true → ⊥
        no_join z h join = ⊎_elim (λ (a : Later n g z M). later a) (λ (a : Has z []). a) (grows.entries z h)
          where
            later : Later n g z M → ⊥
            later l = by (inv.waits g asks)
              where
                past : List Happened
                past = l.older ++ Y

                once : BeginsOnce past n g z p p.join
                once = (seen_after (xs ++ l.newer) (happened.Put n l.view g l.place z ∷ past) (subst Seen (ap (λ y. y ++ records_of w.before) (whole ∙ ap (λ y. y ++ reverse (entering t i).records) (cut ∙ ap (λ y. xs ++ y) l.is)) ∙ regroup xs l.newer (happened.Put n l.view g l.place z) l.older (reverse (entering t i).records) (records_of w.before)) (stepping.seen c w n f s e v reached up arises says is clean k))).0.once p p.join node (join_carried p z join)

                -- what was then is past
                past_has : (y : Happened) → Has y then → Has y past
                past_has y h = append_has_right y l.older Y (subst (λ a. Has y (a ++ records_of w.before)) (sym inner) (subst (Has y) (sym (append_assoc (reverse adds.more) (reverse t.records) (records_of w.before))) (append_has_right y (reverse adds.more) then h)))

                asked_before : Has (happened.Asked p p.join g once.asked.0) (records_of w.before)
                asked_before = old (has_append it (reverse d.records) (records_of w.before) all)
                  where
                    it : Happened
                    it = happened.Asked p p.join g once.asked.0

                    all : Has it (reverse d.records ++ records_of w.before)
                    all = subst (Has it) (sym (ap (λ y. y ++ records_of w.before) (whole ∙ ap (λ y. y ++ reverse (entering t i).records) (cut ∙ ap (λ y. xs ++ y) l.is)) ∙ regroup xs l.newer (happened.Put n l.view g l.place z) l.older (reverse (entering t i).records) (records_of w.before))) (append_has_right it (xs ++ l.newer) (happened.Put n l.view g l.place z ∷ past) (inr once.asked.1))

                    walked : Has it (root_of (at_work s) e).records ⊎ Walked n it → Has it (records_of w.before)
                    walked (inl a) = absurd (root_none s e calm it a)
                    walked (inr a) = absurd a

                    old : Has it (reverse d.records) ⊎ Has it (records_of w.before) → Has it (records_of w.before)
                    old (inl a) = walked ((stepping.added c w n f s e v reached up arises says is clean k).all it (has_reverse it d.records a))
                    old (inr a) = a

                asks : AskedJoin g p then
                asks = record { proposal = once.asked.0; there = append_has_right (happened.Asked p p.join g once.asked.0) (reverse t.records) (records_of w.before) asked_before; joins = asked_named past n g p z once join }

                by : Stood t.sessions p g false ⊎ Over n g p then → ⊥
                by (inl a) = not_waits g a
                by (inr (inl a)) = once.once a.view g a.place a.entry (past_has (happened.Put n a.view g a.place a.entry) a.there) (join_carried p a.entry a.joins)
                by (inr (inr (inl a))) = once.untold (told_all p p.join l.older Y (subst (λ b. WasTold p p.join (b ++ records_of w.before)) (sym inner) (subst (WasTold p p.join) (sym (append_assoc (reverse adds.more) (reverse t.records) (records_of w.before))) (told_all p p.join (reverse adds.more) then a))))
                by (inr (inr (inr a))) = no_dis a

        after_it : IsTrue (takes_part j (part p (stays n g (M ++ Y)))) → ⊥
        after_it takes = by (passes p grows.now.base (part p (stays n g then))) refl (part p (grows.now ∷ stays n g then)).first refl (and_parts (from_first j (part p (grows.now ∷ stays n g then)).first) (up_to_last j (part p (grows.now ∷ stays n g then)).last) (subst (λ z. IsTrue (takes_part j (part p z))) grows.is takes)).0
          where
            by : (b : Bool) → passes p grows.now.base (part p (stays n g then)) ≡ b → (o : Option ℕ) → (part p (grows.now ∷ stays n g then)).first ≡ o → from_first j o ≡ true → ⊥
            by b y None z r = cc
            by true y (Some h) z r = no_pass y
            by false y (Some h) z r =
                let named = place_has (is_join_of p) grows.now.entries h (ap (first_in p grows.now.entries) (sym y) ∙ z) in no_join named.0 named.1 named.2

    -- no put of the event comes after it was told at which it takes part
    told_after : (xs : List Happened) (u : ViewId) (g : List ℕ) (j : ℕ) (x : Entry) (now : List Happened) → Place xs u g j x now → IsTrue (takes_part j (part p (stays n g (happened.Put n u g j x ∷ earlier now w.before)))) → (r : ℕ) → Has (happened.Told p r why.Dissolved) now → ⊥
    told_after xs u g j x now pos takes r told = first (cut_at (reverse rest.more) (reverse (entering t i).records) xs put now (sym whole ∙ pos))
      where
        put : Happened
        put = happened.Put n u g j x

        second : (ys : List Happened) → Cut (reverse adds.more) (reverse t.records) ys put now → ⊥
        second ys (inl a) = adds.all put (has_reverse put adds.more (subst (Has put) (sym a.1) (append_has_right put ys (put ∷ a.0) (inl refl))))
        second ys (inr a) = not_yet r (has_reverse (happened.Told p r why.Dissolved) t.records (subst (Has (happened.Told p r why.Dissolved)) (sym a.1) (append_has_right (happened.Told p r why.Dissolved) a.0 (put ∷ now) (inr told))))

        first : Cut (reverse rest.more) (reverse (entering t i).records) xs put now → ⊥
        first (inl a) =
            after_it r (in_event xs u g j x now pos (happened.Told p r why.Dissolved) told) xs u g j x a.0 a.1 (subst (λ z. IsTrue (takes_part j (part p (stays n g (put ∷ z))))) (ap (λ z. z ++ records_of w.before) a.2 ∙ append_assoc a.0 (reverse (entering t i).records) (records_of w.before)) takes)
        first (inr a) = second a.0 (cut_at (reverse adds.more) (reverse t.records) a.0 put now (sym inner ∙ a.1))

  moves : Moves Q (NotCall e) (at_work s) d
  moves = spoken_moves Q c w n f s e reached up arises (reached_spoken c w reached) (carries c w n f s e v reached up arises p node) (stepping.first_stands c w n f s e v reached up arises says is clean k p node spared stays_on)

  pub never : (xs : List Happened) (u : ViewId) (g : List ℕ) (j : ℕ) (x : Entry) (now : List Happened) → Place xs u g j x now → IsTrue (takes_part j (part p (stays n g (happened.Put n u g j x ∷ earlier now w.before)))) → Dis now → ⊥
  never xs u g j x now pos takes z = by moves
    where
      told : (r : ℕ) × Has (happened.Told p r why.Dissolved) now
      told = told_now now z

      by : Moves Q (NotCall e) (at_work s) d → ⊥
      by (Remains fair) = remained fair told.0 (in_event xs u g j x now pos (happened.Told p told.0 why.Dissolved) told.1)
      by (Enters calm t i does fair q same lt rest) = told_after calm t i does fair q same lt rest xs u g j x now pos takes told.0 told.1
