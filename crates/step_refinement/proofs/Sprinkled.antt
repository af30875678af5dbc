-- Notes stand among lines: what providers hear as a view is entered, between the puts of what the old list lacked.
use Rattle.std.proofs.Common.{◌≡◌, ℕ, ◌+◌, List, [], ◌∷◌, ◌++◌, take, refl, sym, ap, ◌∙◌, subst, inl, inr, append_assoc}
use Rattle.rsct_packet.specs.declared.ids.ViewId.{ViewId}
use Rattle.rsct_packet.specs.declared.ids.ProviderId.{ProviderId}
use Rattle.rsct_packet.specs.Search.{Has}
use Rattle.proposal_core.specs.declared.entry.Entry.{Entry}
use Rattle.proposal_core.specs.declared.group_state.GroupState.{GroupState}
use Rattle.run_safety.specs.Group.{Standing, Packet, Record, Put, Note, Heard, Line, Noted, kept}
use Rattle.run_safety.specs.GroupLists.{puts_of}
use Rattle.run_safety.specs.Bases.{Bases, state_of_list}
use Rattle.run_safety.specs.Moves.{Leads, Opening, Life, Hears}
use Rattle.run_safety.proofs.SightLaws.{kept_append}

-- lines with notes between them
pub data Sprinkled (P : Note → Type 0) : List Line → List Line → Type 0 where
  Bare : (all : List Line) → Sprinkled P all all
  Same : (l : Line) (all more : List Line) → Sprinkled P all more → Sprinkled P (l ∷ all) (l ∷ more)
  With : (x : Note) (all more : List Line) → P x → Sprinkled P all more → Sprinkled P all (Noted x ∷ more)

module _ (P : Note → Type 0) where
  pub kept_sprinkled : (all more : List Line) → Sprinkled P all more → kept more ≡ kept all
  kept_sprinkled all more (Bare _) = refl
  kept_sprinkled all more (Same l xs ys s) =
      kept_append (l ∷ []) ys ∙ ap (λ tr. kept (l ∷ []) ++ tr) (kept_sprinkled xs ys s) ∙ sym (kept_append (l ∷ []) xs)
  kept_sprinkled all more (With x xs ys p s) = kept_sprinkled xs ys s

  pub has_sprinkled : (y : Line) (all more : List Line) → Sprinkled P all more → Has y all → Has y more
  has_sprinkled y all more (Bare _) h = h
  has_sprinkled y all more (Same l xs ys s) (inl e) = inl e
  has_sprinkled y all more (Same l xs ys s) (inr h) = inr (has_sprinkled y xs ys s h)
  has_sprinkled y all more (With x xs ys p s) h = inr (has_sprinkled y xs ys s h)

  -- what is no such note stood there before
  pub had_sprinkled : (y : Line) → ((x : Note) → P x → y ≡ Noted x → ⊥) → (all more : List Line) → Sprinkled P all more → Has y more → Has y all
  had_sprinkled y no_note all more (Bare _) h = h
  had_sprinkled y no_note all more (Same l xs ys s) (inl e) = inl e
  had_sprinkled y no_note all more (Same l xs ys s) (inr h) = inr (had_sprinkled y no_note xs ys s h)
  had_sprinkled y no_note all more (With x xs ys p s) (inl e) = absurd (no_note x p e)
  had_sprinkled y no_note all more (With x xs ys p s) (inr h) = had_sprinkled y no_note xs ys s h

pub sprinkled_on : (P Q : Note → Type 0) → ((x : Note) → P x → Q x) → (all more : List Line) → Sprinkled P all more → Sprinkled Q all more
sprinkled_on P Q f all more (Bare xs) = Bare xs
sprinkled_on P Q f all more (Same l xs ys s) = Same l xs ys (sprinkled_on P Q f xs ys s)
sprinkled_on P Q f all more (With x xs ys p s) = With x xs ys (f x p) (sprinkled_on P Q f xs ys s)

-- a provider hears what these records put
pub record Hearing (bases : Bases) (tr : List Record) (x : Note) : Type 0 where
  pub provider : ProviderId
  pub v : ViewId
  pub i : ℕ
  pub e : Entry
  pub s : GroupState
  pub is : x ≡ Heard provider v i e s.members s.value
  pub put : Has (Put provider.node v i e) tr
  pub state : s ≡ state_of_list bases v (take (i + 1) (puts_of provider.node v tr))

-- a life goes on to be one with such notes
pub sprinkled_lives : (o : Opening) (nodes : ℕ → Standing) (ps : List Packet) (leads : Leads) (bases : Bases) (tr : List Record) (front all more : List Line) → Sprinkled (Hearing bases tr) all more → kept (front ++ all) ≡ tr → Life o nodes ps (front ++ all) leads bases → Life o nodes ps (front ++ more) leads bases
sprinkled_lives o nodes ps leads bases tr front all more (Bare _) e life = life
sprinkled_lives o nodes ps leads bases tr front all more (Same l xs ys s) e life =
    subst (λ z. Life o nodes ps z leads bases) (append_assoc front (l ∷ []) ys) (sprinkled_lives o nodes ps leads bases tr (front ++ l ∷ []) xs ys s (ap kept (append_assoc front (l ∷ []) xs) ∙ e) (subst (λ z. Life o nodes ps z leads bases) (sym (append_assoc front (l ∷ []) xs)) life))
sprinkled_lives o nodes ps leads bases tr front all more (With x xs ys h s) e life =
    let k : Life o nodes ps (front ++ ys) leads bases = sprinkled_lives o nodes ps leads bases tr front xs ys s e life in
    let q : kept (front ++ ys) ≡ tr = kept_append front ys ∙ ap (λ z. kept front ++ z) (kept_sprinkled (Hearing bases tr) xs ys s) ∙ sym (kept_append front xs) ∙ e in
    Hears nodes ps (front ++ ys) (front ++ Noted x ∷ ys) leads bases h.provider h.v h.i h.e k (subst (λ z. Has (Put h.provider.node h.v h.i h.e) z) (sym q) h.put) h.s (h.state ∙ ap (λ z. state_of_list bases h.v (take (h.i + 1) (puts_of h.provider.node h.v z))) (sym q)) (record { newer = front; older = ys; was = refl; is = ap (λ z. front ++ Noted z ∷ ys) h.is })
