-- Who notes a base has entered its view.
use Rattle.std.proofs.Common.{Some, Option, ◌≡◌, ℕ, ◌+◌, ◌⊎◌, List, ◌∷◌, length, drop, sym, subst, inl, inr}
use Rattle.rsct_packet.specs.declared.ids.ViewId.{ViewId}
use Rattle.rsct_packet.specs.declared.ids.Member.{Member}
use Rattle.proposal_core.specs.declared.entry.Entry.{Entry}
use Rattle.rsct_packet.specs.Search.{Has}
use Rattle.run_safety.specs.Group.{Standing, members_of, Origin, Packet, Record, In, Put, Begins, Note, Based, Heard, Asked, Told, Line, Kept, Noted, kept, puts_from}
use Rattle.run_safety.specs.Bases.{Bases}
use Rattle.run_safety.specs.Moves.{Leads, Opening, entered, Inserted, Life, Dawn, NextEvent, Promises, Answers, Appends, Follows, Starts, Enters, Founds, Names, Hears, Asks, Requests, Refuses, IsTold, Acknowledges, Settles}
use Rattle.run_safety.proofs.Lines.{note_entered, kept_entered, had_inserted, kept_inserted}
use Rattle.run_safety.proofs.Tracks.{has_many}

-- the node entered the view
abbrev Was : ℕ → ViewId → List Line → Type 0
Was n v all = (j : ℕ) × (ms : List Member) × Has (In n j v ms) (kept all)

was_on : (n : ℕ) (v : ViewId) (r : Record) (all : List Line) → Was n v all → Was n v (Kept r ∷ all)
was_on n v r all k = (k.0, k.1, inr k.2)

note_before : (x : Note) (r : Record) (all : List Line) → Has (Noted x) (Kept r ∷ all) → Has (Noted x) all
note_before x r all (inl e) = absurd (cc)
note_before x r all (inr h) = h

was_entered : (n : ℕ) (v : ViewId) (b : Origin) (m : ℕ) (x : Standing) (w : ViewId) (ms : List Member) (ss : ViewId → List Entry) (c : Option Origin) (all : List Line) → (Has (Noted (Based n v b)) all → Was n v all) → Has (Noted (Based n v b)) (entered m x w ms ss c all) → Was n v (entered m x w ms ss c all)
was_entered n v b m x w ms ss c all old h = at (note_entered (Based n v b) m x w ms ss c all h)
  where
    tr : List Record
    tr = puts_from m x.view (length x.list) (drop (length x.list) (ss x.view)) (kept all)

    here : kept (entered m x w ms ss c all) ≡ In m x.inc w ms ∷ tr
    here = kept_entered m x w ms ss c all

    at : ((d : Origin) × (c ≡ Some d) × (Based n v b ≡ Based m w d)) ⊎ Has (Noted (Based n v b)) all → Was n v (entered m x w ms ss c all)
    at (inl k) =
        let e = k.2 in
        let p : n ≡ m = cc in
        let q : v ≡ w = cc in
        (x.inc, ms, subst (Has (In n x.inc v ms)) (sym here) (inl (λ i. In (p i) x.inc (q i) ms)))
    at (inr k) =
        let z = old k in
        (z.0, z.1, subst (Has (In n z.0 v z.1)) (sym here) (inr (has_many (In n z.0 v z.1) m x.view (length x.list) (drop (length x.list) (ss x.view)) (kept all) z.2)))

was_heard : (n : ℕ) (v : ViewId) (b : Origin) (x : Note) (all more : List Line) → (Based n v b ≡ x → ⊥) → Inserted x all more → (Has (Noted (Based n v b)) all → Was n v all) → Has (Noted (Based n v b)) more → Was n v more
was_heard n v b x all more other new old h = at (had_inserted x all more new (Noted (Based n v b)) h)
  where
    at : (Noted (Based n v b) ≡ Noted x) ⊎ Has (Noted (Based n v b)) all → Was n v more
    at (inl e) = let q : Based n v b ≡ x = cc in absurd (other q)
    at (inr k) = let z = old k in (z.0, z.1, subst (Has (In n z.0 v z.1)) (sym (kept_inserted x all more new)) z.2)

was_noted : (n : ℕ) (v : ViewId) (b : Origin) (x : Note) (all : List Line) → (Based n v b ≡ x → ⊥) → (Has (Noted (Based n v b)) all → Was n v all) → Has (Noted (Based n v b)) (Noted x ∷ all) → Was n v all
was_noted n v b x all other old (inl e) = let q : Based n v b ≡ x = cc in absurd (other q)
was_noted n v b x all other old (inr h) = old h

pub noted_in : {o : Opening} {nodes : ℕ → Standing} {ps : List Packet} {all : List Line} {leads : Leads} {bases : Bases} → Life o nodes ps all leads bases → (n : ℕ) (v : ViewId) (b : Origin) → Has (Noted (Based n v b)) all → (j : ℕ) × (ms : List Member) × Has (In n j v ms) (kept all)
noted_in (Dawn nodes new) n v b h = absurd h
noted_in (NextEvent nodes ps all leads bases life) n v b h = was_on n v Begins all (noted_in life n v b (note_before (Based n v b) Begins all h))
noted_in (Promises nodes now ps all leads bases m x u life is le c) n v b h = noted_in life n v b h
noted_in (Answers nodes ps all leads bases m x u life is up le lt) n v b h = noted_in life n v b h
noted_in (Appends nodes now ps all leads bases m x e life is up led same due tallied room c) n v b h =
    was_on n v (Put m x.view (length x.list) e) all (noted_in life n v b (note_before (Based n v b) (Put m x.view (length x.list) e) all h))
noted_in (Follows nodes now ps all leads bases m x e life is up same sent c) n v b h =
    was_on n v (Put m x.view (length x.list) e) all (noted_in life n v b (note_before (Based n v b) (Put m x.view (length x.list) e) all h))
noted_in (Starts nodes now ps all leads bases m x u ms life is quiet born how c) n v b h =
    was_on n v (In m (x.inc + 1) u ms) all (noted_in life n v b (note_before (Based n v b) (In m (x.inc + 1) u ms) all h))
noted_in (Enters nodes now ps all leads bases m x u ms ss life is quiet up at lt among sent c) n v b h =
    was_entered n v b m x u ms ss (bases u) all (λ k. noted_in life n v b k) h
noted_in (Founds nodes now ps all leads leads' bases bases' m x rs ss d life is quiet ok base set_base set_lead c) n v b h =
    was_entered n v b m x x.promise (members_of rs) ss d all (λ k. noted_in life n v b k) h
noted_in (Names nodes ps all leads leads' bases u m j life was set led may) n v b h = noted_in life n v b h
noted_in (Hears nodes ps all more leads bases p u i e life put s is new) n v b h =
    was_heard n v b (Heard p u i e s.members s.value) all more (λ q. cc) new (λ k. noted_in life n v b k) h
noted_in (Asks nodes ps all leads bases p r x life) n v b h = was_noted n v b (Asked p r x) all (λ q. cc) (λ k. noted_in life n v b k) h
noted_in (Requests nodes ps all leads bases p r x y life is up same asked never untold) n v b h = noted_in life n v b h
noted_in (Refuses nodes ps all leads bases u p r life why) n v b h = noted_in life n v b h
noted_in (IsTold nodes ps all leads bases p r y life is up same why) n v b h = was_noted n v b (Told p r y.view) all (λ q. cc) (λ k. noted_in life n v b k) h
noted_in (Acknowledges nodes ps all leads bases m x k life is le) n v b h = noted_in life n v b h
noted_in (Settles nodes ps all leads bases m j u ms k life was acked) n v b h = noted_in life n v b h
