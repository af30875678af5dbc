-- Each entry of a node's list was sent.
use Rattle.std.proofs.Common.{◌≡◌, ◌≢◌, ◌⊎◌, ℕ, zero, suc, ◌+◌, List, [], ◌∷◌, ◌++◌, length, Some, refl, sym, ap, ◌∙◌, subst, inl, inr, ⊎_elim}
use Rattle.std.specs.Prelude.{slice_get}
use Rattle.std.proofs.lemmas.Bool.{cases_eq}
use Rattle.proposal_core.specs.declared.entry.Entry.{Entry}
use Rattle.rsct_packet.specs.Search.{Has}
use Rattle.run_safety.specs.Group.{Standing, Packet, Install, Append, members_of, Line}
use Rattle.run_safety.specs.Bases.{Bases}
use Rattle.run_safety.specs.Moves.{Leads, Opening, Changes, Life, Dawn, NextEvent, Promises, Answers, Appends, Follows, Starts, Enters, Founds, Names, Hears, Asks, Requests, Refuses, IsTold, Acknowledges, Settles}

abbrev pub Sent : (ℕ → Standing) → List Packet → Type 0
Sent nodes ps = (m i : ℕ) (e : Entry) → slice_get (nodes m).list i ≡ Some e → Has (Append (nodes m).view i e) ps

get_pushed : (xs : List Entry) (i : ℕ) (e d : Entry) → slice_get (xs ++ e ∷ []) i ≡ Some d → (slice_get xs i ≡ Some d) ⊎ ((i ≡ length xs) × (d ≡ e))
get_pushed [] zero e d q = let z : d ≡ e = cc in inr (refl, z)
get_pushed [] (suc i) e d q = absurd (cc)
get_pushed (x ∷ xs) zero e d q = inl q
get_pushed (x ∷ xs) (suc i) e d q =
    ⊎_elim (λ (a : slice_get xs i ≡ Some d). inl a) (λ (a : (i ≡ length xs) × (d ≡ e)). inr (ap suc a.0, a.1)) (get_pushed xs i e d q)

-- a node changed: what its list has was sent
changed : (nodes now : ℕ → Standing) (ps qs : List Packet) (n : ℕ) (x : Standing) → Changes nodes now n x → ((p : Packet) → Has p ps → Has p qs) → ((i : ℕ) (e : Entry) → slice_get x.list i ≡ Some e → Has (Append x.view i e) qs) → Sent nodes ps → Sent now qs
changed nodes now ps qs n x c more new old m i e h = by (cases_eq m n)
  where
    by : (m ≡ n) ⊎ (m ≢ n) → Has (Append (now m).view i e) qs
    by (inl q) =
        let is : now m ≡ x = ap now q ∙ c.here in
        subst (λ (z : Standing). Has (Append z.view i e) qs) (sym is) (new i e (subst (λ (z : Standing). slice_get z.list i ≡ Some e) is h))
    by (inr ne) =
        let is : now m ≡ nodes m = c.there m ne in
        subst (λ (z : Standing). Has (Append z.view i e) qs) (sym is) (more (Append (nodes m).view i e) (old m i e (subst (λ (z : Standing). slice_get z.list i ≡ Some e) is h)))

none : {A : Type 0} (i : ℕ) (e : Entry) → slice_get [] i ≡ Some e → A
none i e q = absurd (cc)

-- a list with one more entry, which was sent
grown_sent : (nodes : ℕ → Standing) (ps qs : List Packet) (n : ℕ) (x : Standing) (e : Entry) → nodes n ≡ x → ((p : Packet) → Has p ps → Has p qs) → Has (Append x.view (length x.list) e) qs → Sent nodes ps → (i : ℕ) (d : Entry) → slice_get (x.list ++ e ∷ []) i ≡ Some d → Has (Append x.view i d) qs
grown_sent nodes ps qs n x e is more new old i d h =
    ⊎_elim (λ (a : slice_get x.list i ≡ Some d). more (Append x.view i d) (subst (λ (z : Standing). slice_get z.list i ≡ Some d → Has (Append z.view i d) ps) is (old n i d) a)) (λ (a : (i ≡ length x.list) × (d ≡ e)). subst (λ (z : ℕ × Entry). Has (Append x.view z.0 z.1) qs) (λ j. (sym a.0 j, sym a.1 j)) new) (get_pushed x.list i e d h)

pub all_sent : {o : Opening} {nodes : ℕ → Standing} {ps : List Packet} {all : List Line} {leads : Leads} {bases : Bases} → Life o nodes ps all leads bases → Sent nodes ps
all_sent (Dawn nodes new) = λ m i e h. none i e (subst (λ l. slice_get l i ≡ Some e) (new m).2 h)
all_sent (NextEvent nodes ps all leads bases life) = all_sent life
all_sent (Promises nodes now ps all leads bases n x v life is le c) =
    changed nodes now ps ps n (record x { promise = v }) c (λ p h. h) (λ i e h. subst (λ (z : Standing). slice_get z.list i ≡ Some e → Has (Append z.view i e) ps) is (all_sent life n i e) h) (all_sent life)
all_sent (Answers nodes ps all leads bases n x v life is up le lt) = λ m i e h. inr (all_sent life m i e h)
all_sent (Appends nodes now ps all leads bases n x e life is up led same due tallied room c) =
    let k = all_sent life in
    changed nodes now ps (Append x.view (length x.list) e ∷ ps) n (record x { list = x.list ++ e ∷ [] }) c (λ p h. inr h) (grown_sent nodes ps (Append x.view (length x.list) e ∷ ps) n x e is (λ p h. inr h) (inl refl) k) k
all_sent (Follows nodes now ps all leads bases n x e life is up same sent c) =
    let k = all_sent life in
    changed nodes now ps ps n (record x { list = x.list ++ e ∷ [] }) c (λ p h. h) (grown_sent nodes ps ps n x e is (λ p h. h) sent k) k
all_sent (Starts nodes now ps all leads bases n x v ms life is quiet born how c) =
    changed nodes now ps ps n (record { inc = x.inc + 1; view = v; promise = v; list = [] }) c (λ p h. h) (λ i e h. none i e h) (all_sent life)
all_sent (Enters nodes now ps all leads bases n x v ms ss life is quiet up at lt among sent c) =
    changed nodes now ps ps n (record x { view = v; promise = v; list = [] }) c (λ p h. h) (λ i e h. none i e h) (all_sent life)
all_sent (Founds nodes now ps all leads leads' bases bases' n x rs ss b life is quiet ok base set_base set_lead c) =
    changed nodes now ps (Install x.promise (members_of rs) ss ∷ ps) n (record x { view = x.promise; list = [] }) c (λ p h. inr h) (λ i e h. none i e h) (all_sent life)
all_sent (Names nodes ps all leads leads' bases v n j life was set led may) = all_sent life
all_sent (Hears nodes ps all more leads bases p v i e life put s is new) = all_sent life
all_sent (Asks nodes ps all leads bases p r x life) = all_sent life
all_sent (Requests nodes ps all leads bases p r x y life is up same asked never untold) = λ m i e h. inr (all_sent life m i e h)
all_sent (Refuses nodes ps all leads bases v p r life why) = λ m i e h. inr (all_sent life m i e h)
all_sent (IsTold nodes ps all leads bases p r y life is up same why) = all_sent life
all_sent (Acknowledges nodes ps all leads bases n x k life is le) = λ m i e h. inr (all_sent life m i e h)
all_sent (Settles nodes ps all leads bases n j v ms k life was acked) = λ m i e h. inr (all_sent life m i e h)
