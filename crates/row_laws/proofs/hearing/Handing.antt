-- What handing an entry on leaves of a node's providers: who takes part goes on, who begins takes part, and of those who
-- heard it they are left who are present after it.
use Rattle.std.proofs.Common.{◌≡◌, ℕ, List, [], ◌∷◌, ◌++◌, Option, Some, None, Bool, true, false, refl, sym, ap, ◌∙◌, subst, inl, inr, ◌⊎◌, ⊎_elim}
use Rattle.std.specs.Prelude.{not, ◌&&◌, ◌||◌, filter, find, fold, if◌then◌else◌}
use Rattle.std.specs.Str.{bytes_eq}
use Rattle.std.proofs.lemmas.Bool.{and_parts}
use Rattle.rsct_packet.specs.declared.ids.ProviderId.{ProviderId}
use Rattle.rsct_packet.specs.Providers.{same_provider, among}
use Rattle.rsct_packet.specs.Search.{Has, edit_where}
use Rattle.rsct_packet.proofs.HasLaws.{has_filter, filter_has, has_append, append_has_left, append_has_right}
use Rattle.proposal_core.specs.declared.proposal.Proposal.{Proposal}
use Rattle.proposal_core.specs.declared.proposal.Proposal.TheVariants.{Join, Leave, Fail, Expel, State, Message, Attributes, Reflect}
use Rattle.proposal_core.specs.declared.entry.Entry.{Entry}
use Rattle.proposal_core.specs.declared.entry.Entry.TheVariants.{Once, Begin, Phase, Approve, Reject}
use Rattle.proposal_core.specs.declared.group_state.GroupState.{GroupState}
use Rattle.proposal_core.specs.Fold.{present, joiners_in}
use Rattle.client_callbacks.specs.declared.ballot.Filled.{Filled}
use Rattle.session_state.specs.declared.state.Provider.{Provider}
use Rattle.session_state.specs.declared.state.SessionState.{SessionState}
use Rattle.session_state.specs.State.{is_provider, provider_of, with_provider, end_request, without_providers}
use Rattle.session_state.specs.HandOn.{kept_ended, kept_after, hears, hearers_in, brought_by, beginners, hearers, taking_part, part_taken, opened_after, open_phases, keep_casts, proposal_begun, requests_after, is_present, removed_from, casts_out, heard, handed_on}
use Rattle.node_state.proofs.NameOrder.{text_same, text_self}
use Rattle.step_refinement.proofs.SessionLaws.{provider_same, provider_self}

-- ---- who is among some

pub among_is : (xs : List ProviderId) (p : ProviderId) → among xs p ≡ true → Has p xs
among_is [] p e = absurd (cc)
among_is (x ∷ xs) p e = by (same_provider x p) refl e (among_is xs p)
  where
    by : (b : Bool) → same_provider x p ≡ b → (b || among xs p) ≡ true → (among xs p ≡ true → Has p xs) → Has p (x ∷ xs)
    by true q e rest = inl (sym (provider_same x p q))
    by false q e rest = inr (rest e)

pub has_among : (xs : List ProviderId) (p : ProviderId) → Has p xs → among xs p ≡ true
has_among [] p h = absurd h
has_among (x ∷ xs) p (inl e) = ap (λ b. b || among xs p) (ap (λ z. same_provider z p) (sym e) ∙ provider_self p)
has_among (x ∷ xs) p (inr h) = by (same_provider x p) (has_among xs p h)
  where
    by : (b : Bool) → among xs p ≡ true → (b || among xs p) ≡ true
    by true e = refl
    by false e = e

-- ---- providers that are kept

-- who is there was there, in the group, and goes on taking part; only these begin to
pub record Kept (bs : List ProviderId) (t u : SessionState) : Type 0 where
  pub back : (p : ProviderId) (y : Provider) → provider_of u p ≡ Some y → (x : Provider) × (provider_of t p ≡ Some x) × (y.group ≡ x.group) × (x.takes_part ≡ true → y.takes_part ≡ true) × (y.takes_part ≡ true → (x.takes_part ≡ true) ⊎ Has p bs)

kept_same : (bs : List ProviderId) (t u : SessionState) → u.providers ≡ t.providers → Kept bs t u
unfolding provider_of
kept_same bs t u e = record { back = λ p y q. (y, ap (λ (z : List Provider). find (is_provider p) z) (sym e) ∙ q, refl, λ z. z, λ z. inl z) }

kept_then : (bs : List ProviderId) (t u w : SessionState) → Kept bs t u → Kept bs u w → Kept bs t w
kept_then bs t u w a b = record { back = back }
  where
    back : (p : ProviderId) (y : Provider) → provider_of w p ≡ Some y → (x : Provider) × (provider_of t p ≡ Some x) × (y.group ≡ x.group) × (x.takes_part ≡ true → y.takes_part ≡ true) × (y.takes_part ≡ true → (x.takes_part ≡ true) ⊎ Has p bs)
    back p y q =
        let k = b.back p y q in
        let j = a.back p k.0 k.1 in
        (j.0, j.1, k.2 ∙ j.2, λ z. k.3 (j.3 z), λ z. ⊎_elim (λ (i : (k.0).takes_part ≡ true). j.4 i) (λ (i : Has p bs). inr i) (k.4 z))

pub some_is : {A : Type 0} {a b : A} → Some a ≡ Some b → a ≡ b
some_is e = cc

-- who is found after an edit
pub edit_back : (q : ProviderId) (f : Provider → Provider) → ((x : Provider) → (f x).provider ≡ x.provider) → (p : ProviderId) (xs : List Provider) (y : Provider) → find (is_provider p) (edit_where (is_provider q) f xs) ≡ Some y → (x : Provider) × (find (is_provider p) xs ≡ Some x) × ((y ≡ x) ⊎ ((y ≡ f x) × (p ≡ q)))
edit_back q f keeps p [] y e = absurd (cc)
edit_back q f keeps p (x ∷ xs) y e = by (is_provider q x) (is_provider p x) refl refl e (edit_back q f keeps p xs y)
  where
    by : (b c : Bool) → is_provider q x ≡ b → is_provider p x ≡ c → find (is_provider p) (if b then f x ∷ xs else x ∷ edit_where (is_provider q) f xs) ≡ Some y → (find (is_provider p) (edit_where (is_provider q) f xs) ≡ Some y → (z : Provider) × (find (is_provider p) xs ≡ Some z) × ((y ≡ z) ⊎ ((y ≡ f z) × (p ≡ q)))) → (z : Provider) × ((if c then Some x else find (is_provider p) xs) ≡ Some z) × ((y ≡ z) ⊎ ((y ≡ f z) × (p ≡ q)))
    by true true k m e rest =
        let g : is_provider p (f x) ≡ true = ap (λ z. same_provider z p) (keeps x) ∙ m in
        let z : f x ≡ y = some_is (subst (λ c. (if c then Some (f x) else find (is_provider p) xs) ≡ Some y) g e) in
        (x, refl, inr (sym z, sym (provider_same x.provider p m) ∙ provider_same x.provider q k))
    by true false k m e rest =
        let g : is_provider p (f x) ≡ false = ap (λ z. same_provider z p) (keeps x) ∙ m in
        (y, subst (λ c. (if c then Some (f x) else find (is_provider p) xs) ≡ Some y) g e, inl refl)
    by false true k m e rest = let z : x ≡ y = some_is (subst (λ c. (if c then Some x else find (is_provider p) (edit_where (is_provider q) f xs)) ≡ Some y) m e) in (x, refl, inl (sym z))
    by false false k m e rest = rest (subst (λ c. (if c then Some x else find (is_provider p) (edit_where (is_provider q) f xs)) ≡ Some y) m e)

-- the provider itself is found as the edit makes it
pub edit_own : (p : ProviderId) (f : Provider → Provider) → ((x : Provider) → (f x).provider ≡ x.provider) → (xs : List Provider) (y : Provider) → find (is_provider p) (edit_where (is_provider p) f xs) ≡ Some y → (x : Provider) × (y ≡ f x)
edit_own p f keeps [] y e = absurd (cc)
edit_own p f keeps (x ∷ xs) y e = by (is_provider p x) refl e (edit_own p f keeps xs y)
  where
    by : (b : Bool) → is_provider p x ≡ b → find (is_provider p) (if b then f x ∷ xs else x ∷ edit_where (is_provider p) f xs) ≡ Some y → (find (is_provider p) (edit_where (is_provider p) f xs) ≡ Some y → (z : Provider) × (y ≡ f z)) → (z : Provider) × (y ≡ f z)
    by true k e rest =
        let g : is_provider p (f x) ≡ true = ap (λ z. same_provider z p) (keeps x) ∙ k in
        (x, sym (some_is (subst (λ c. (if c then Some (f x) else find (is_provider p) xs) ≡ Some y) g e)))
    by false k e rest = rest (subst (λ c. (if c then Some x else find (is_provider p) (edit_where (is_provider p) f xs)) ≡ Some y) k e)

-- an edit that lets nobody end, and only these begin
kept_edit : (bs : List ProviderId) (t : SessionState) (q : ProviderId) (f : Provider → Provider) → ((x : Provider) → (f x).provider ≡ x.provider) → ((x : Provider) → (f x).group ≡ x.group) → ((x : Provider) → x.takes_part ≡ true → (f x).takes_part ≡ true) → ((x : Provider) → (f x).takes_part ≡ true → (x.takes_part ≡ true) ⊎ Has q bs) → Kept bs t (with_provider t q f)
unfolding provider_of with_provider
kept_edit bs t q f keeps group on begins = record { back = back }
  where
    back : (p : ProviderId) (y : Provider) → find (is_provider p) (edit_where (is_provider q) f t.providers) ≡ Some y → (x : Provider) × (find (is_provider p) t.providers ≡ Some x) × (y.group ≡ x.group) × (x.takes_part ≡ true → y.takes_part ≡ true) × (y.takes_part ≡ true → (x.takes_part ≡ true) ⊎ Has p bs)
    back p y e = let k = edit_back q f keeps p t.providers y e in by k.0 k.1 k.2
      where
        by : (x : Provider) → find (is_provider p) t.providers ≡ Some x → (y ≡ x) ⊎ ((y ≡ f x) × (p ≡ q)) → (x : Provider) × (find (is_provider p) t.providers ≡ Some x) × (y.group ≡ x.group) × (x.takes_part ≡ true → y.takes_part ≡ true) × (y.takes_part ≡ true → (x.takes_part ≡ true) ⊎ Has p bs)
        by x k (inl z) = (x, k, ap (λ (a : Provider). a.group) z, λ i. ap (λ (a : Provider). a.takes_part) z ∙ i, λ i. inl (ap (λ (a : Provider). a.takes_part) (sym z) ∙ i))
        by x k (inr z) =
            (x, k, ap (λ (a : Provider). a.group) z.0 ∙ group x, λ i. ap (λ (a : Provider). a.takes_part) z.0 ∙ on x i, λ i. ⊎_elim (λ (b : x.takes_part ≡ true). inl b) (λ (b : Has q bs). inr (subst (λ a. Has a bs) (sym z.1) b)) (begins x (ap (λ (a : Provider). a.takes_part) (sym z.0) ∙ i)))

kept_fold : {A : Type 0} (bs : List ProviderId) (f : SessionState → A → SessionState) (ok : A → Type 0) → ((t : SessionState) (x : A) → ok x → Kept bs t (f t x)) → (xs : List A) → ((x : A) → Has x xs → ok x) → (t : SessionState) → Kept bs t (fold f t xs)
kept_fold bs f ok one [] all t = kept_same bs t t refl
kept_fold bs f ok one (x ∷ xs) all t = kept_then bs t (f t x) (fold f (f t x) xs) (one t x (all x (inl refl))) (kept_fold bs f ok one xs (λ y h. all y (inr h)) (f t x))

-- ---- those who begin take part

kept_parts : (bs : List ProviderId) (ps : List ProviderId) → ((p : ProviderId) → Has p ps → Has p bs) → (t : SessionState) → Kept bs t (part_taken t ps)
unfolding part_taken
kept_parts bs ps all t =
    kept_fold bs (λ t p. with_provider t p taking_part) (λ p. Has p bs) (λ t p h. kept_edit bs t p taking_part (λ x. refl) (λ x. refl) (λ x i. refl) (λ x i. inr h)) ps all t

parts_begun : (bs : List ProviderId) (ps : List ProviderId) → ((p : ProviderId) → Has p ps → Has p bs) → (t : SessionState) (p : ProviderId) → Has p ps → (y : Provider) → provider_of (part_taken t ps) p ≡ Some y → y.takes_part ≡ true
unfolding part_taken provider_of with_provider
parts_begun bs [] all t p h y e = absurd h
parts_begun bs (q ∷ ps) all t p (inr h) y e = parts_begun bs ps (λ r k. all r (inr k)) (with_provider t q taking_part) p h y e
parts_begun bs (q ∷ ps) all t p (inl h) y e =
    let k = (kept_parts bs ps (λ r k. all r (inr k)) (with_provider t q taking_part)).back p y e in k.3 (here k.0 k.1)
  where
    here : (x : Provider) → provider_of (with_provider t q taking_part) p ≡ Some x → x.takes_part ≡ true
    here x e =
        let z = edit_own q taking_part (λ x. refl) t.providers x (subst (λ a. find (is_provider a) (edit_where (is_provider q) taking_part t.providers) ≡ Some x) h e) in ap (λ (a : Provider). a.takes_part) z.1

-- ---- the rest of handing on

opened_p : (e : Entry) (after : GroupState) (x : Provider) → ((opened_after e after x).provider ≡ x.provider) × ((opened_after e after x).group ≡ x.group) × ((opened_after e after x).takes_part ≡ x.takes_part)
unfolding opened_after
opened_p (Once x) after y = (refl, refl, refl)
opened_p _ after y = (refl, refl, refl)

kept_opened : (bs : List ProviderId) (t : SessionState) (e : Entry) (after : GroupState) (ps : List ProviderId) → Kept bs t (open_phases t e after ps)
unfolding open_phases
kept_opened bs t e after ps =
    kept_fold bs (λ t p. with_provider t p (opened_after e after)) (λ p. Unit {0}) (λ t p h. kept_edit bs t p (opened_after e after) (λ x. (opened_p e after x).0) (λ x. (opened_p e after x).1) (λ x i. (opened_p e after x).2 ∙ i) (λ x i. inl (sym (opened_p e after x).2 ∙ i))) ps (λ x h. tt) t

kept_ballots : (bs : List ProviderId) (t : SessionState) (g : List ℕ) (e : Entry) → Kept bs t (kept_after t g e)
unfolding kept_after kept_ended
kept_ballots bs t g (Phase c) = kept_same bs t _ refl
kept_ballots bs t g (Approve c) = kept_same bs t _ refl
kept_ballots bs t g (Reject c) = kept_same bs t _ refl
kept_ballots bs t g _ = kept_same bs t t refl

kept_request : (bs : List ProviderId) (t : SessionState) (p : ProviderId) (r : ℕ) → Kept bs t (end_request t p r)
unfolding end_request
kept_request bs t p r = kept_same bs t _ refl

kept_begun : (bs : List ProviderId) (t : SessionState) (x : Proposal) → Kept bs t (proposal_begun t x)
unfolding proposal_begun
kept_begun bs t (Join ps attrs n) = kept_fold bs (λ t (p : ProviderId). end_request t p p.join) (λ p. Unit {0}) (λ t p h. kept_request bs t p p.join) ps (λ x h. tt) t
kept_begun bs t (Leave p r) = kept_request bs t p r
kept_begun bs t (Fail out) = kept_same bs t t refl
kept_begun bs t (Expel p r out) = kept_request bs t p r
kept_begun bs t (State p r value) = kept_request bs t p r
kept_begun bs t (Message p r bytes) = kept_request bs t p r
kept_begun bs t (Attributes p r attrs) = kept_request bs t p r
kept_begun bs t (Reflect view place value) = kept_same bs t t refl

kept_requests : (bs : List ProviderId) (t : SessionState) (e : Entry) → Kept bs t (requests_after t e)
unfolding requests_after
kept_requests bs t (Once x) = kept_begun bs t x
kept_requests bs t (Begin x) = kept_begun bs t x
kept_requests bs t _ = kept_same bs t t refl

-- who is left was not to go
find_left : (out : List ProviderId) (p : ProviderId) (xs : List Provider) (y : Provider) → find (is_provider p) (filter (λ (x : Provider). not (among out x.provider)) xs) ≡ Some y → (find (is_provider p) xs ≡ Some y) × (not (among out p) ≡ true)
find_left out p [] y e = absurd (cc)
find_left out p (x ∷ xs) y e = by (not (among out x.provider)) (is_provider p x) refl refl e (find_left out p xs y)
  where
    by : (b c : Bool) → not (among out x.provider) ≡ b → is_provider p x ≡ c → find (is_provider p) (if b then x ∷ filter (λ (x : Provider). not (among out x.provider)) xs else filter (λ (x : Provider). not (among out x.provider)) xs) ≡ Some y → (find (is_provider p) (filter (λ (x : Provider). not (among out x.provider)) xs) ≡ Some y → (find (is_provider p) xs ≡ Some y) × (not (among out p) ≡ true)) → ((if c then Some x else find (is_provider p) xs) ≡ Some y) × (not (among out p) ≡ true)
    by true true k m e rest = (subst (λ c. (if c then Some x else find (is_provider p) (filter (λ (x : Provider). not (among out x.provider)) xs)) ≡ Some y) m e, subst (λ z. not (among out z) ≡ true) (provider_same x.provider p m) k)
    by true false k m e rest = rest (subst (λ c. (if c then Some x else find (is_provider p) (filter (λ (x : Provider). not (among out x.provider)) xs)) ≡ Some y) m e)
    by false true k m e rest =
        let r = rest e in
        let z : not (among out p) ≡ false = subst (λ z. not (among out z) ≡ false) (provider_same x.provider p m) k in
        absurd (let u : true ≡ false = sym r.1 ∙ z in cc)
    by false false k m e rest = rest e

pub kept_without : (bs : List ProviderId) (t : SessionState) (out : List ProviderId) → Kept bs t (without_providers t out)
unfolding without_providers provider_of
kept_without bs t out = record { back = λ p y q. (y, (find_left out p t.providers y q).0, refl, λ z. z, λ z. inl z) }

pub left_stays : (t : SessionState) (out : List ProviderId) (p : ProviderId) (y : Provider) → provider_of (without_providers t out) p ≡ Some y → not (among out p) ≡ true
unfolding without_providers provider_of
left_stays t out p y e = (find_left out p t.providers y e).1

-- ---- handing on

module _ (s : SessionState) (g : List ℕ) (before after : GroupState) (e : Entry) (bs : List (Option Filled)) where
  abbrev ps : List ProviderId
  ps = hearers s g before e

  abbrev new : List ProviderId
  new = beginners s g e

  abbrev t : SessionState
  t = part_taken (kept_after s g e) new

  abbrev u : SessionState
  u = keep_casts (open_phases t e after ps) g (casts_out s g before after e bs)

  abbrev w : SessionState
  w = requests_after u e

  parts : Kept new s t
  parts = kept_then new s (kept_after s g e) t (kept_ballots new s g e) (kept_parts new new (λ p h. h) (kept_after s g e))

  casts : Kept new (open_phases t e after ps) u
  unfolding keep_casts open_phases
  casts = kept_same new (open_phases t e after ps) u refl

  rest : Kept new t w
  rest = kept_then new t (open_phases t e after ps) w (kept_opened new t e after ps) (kept_then new (open_phases t e after ps) u w casts (kept_requests new u e))

  pub handed_kept : Kept (beginners s g e) s (handed_on s g before after e bs)
  unfolding handed_on heard
  handed_kept =
      kept_then new s t (without_providers w (removed_from after ps)) parts (kept_then new t w (without_providers w (removed_from after ps)) rest (kept_without new w (removed_from after ps)))

  -- those who begin take part
  pub handed_begun : (p : ProviderId) → Has p (beginners s g e) → (y : Provider) → provider_of (handed_on s g before after e bs) p ≡ Some y → y.takes_part ≡ true
  unfolding handed_on heard
  handed_begun p h y q =
      let k = (kept_then new t w (without_providers w (removed_from after ps)) rest (kept_without new w (removed_from after ps))).back p y q in
      k.3 (parts_begun new new (λ p h. h) (kept_after s g e) p h k.0 k.1)

  -- of those who heard they are left who are present
  pub handed_present : (p : ProviderId) → Has p (hearers s g before e) → (y : Provider) → provider_of (handed_on s g before after e bs) p ≡ Some y → Has p (present after)
  unfolding handed_on heard removed_from is_present
  handed_present p h y q = by (among after.members p) (among (joiners_in after.running) p) refl refl
    where
      stays : not (among (filter (λ p. not (among after.members p || among (joiners_in after.running) p)) (hearers s g before e)) p) ≡ true
      stays = left_stays w (removed_from after ps) p y q

      by : (a b : Bool) → among after.members p ≡ a → among (joiners_in after.running) p ≡ b → Has p (present after)
      by true b k m = append_has_left p after.members (joiners_in after.running) (among_is after.members p k)
      by false true k m = append_has_right p after.members (joiners_in after.running) (among_is (joiners_in after.running) p m)
      by false false k m =
          let out : not (among after.members p || among (joiners_in after.running) p) ≡ true = (λ i. not (k i || m i)) in
          let there : among (filter (λ p. not (among after.members p || among (joiners_in after.running) p)) (hearers s g before e)) p ≡ true = has_among _ p (filter_has (λ p. not (among after.members p || among (joiners_in after.running) p)) p (hearers s g before e) h out) in
          absurd (let z : true ≡ false = sym stays ∙ ap not there in cc)

-- who hears is found, in the group, and takes part or begins to
pub hearer_found : (s : SessionState) (g : List ℕ) (before : GroupState) (e : Entry) (p : ProviderId) → Has p (hearers s g before e) → (x : Provider) × (provider_of s p ≡ Some x) × (x.group ≡ g) × ((x.takes_part ≡ true) ⊎ Has p (beginners s g e))
unfolding hearers hearers_in beginners
hearer_found s g before e p h =
    ⊎_elim (λ (a : Has p (filter (λ p. hears g true (provider_of s p)) before.members ++ filter (λ p. hears g true (provider_of s p)) (joiners_in before.running))). ⊎_elim (λ (b : Has p (filter (λ p. hears g true (provider_of s p)) before.members)). old before.members b) (λ (b : Has p (filter (λ p. hears g true (provider_of s p)) (joiners_in before.running))). old (joiners_in before.running) b) (has_append p (filter (λ p. hears g true (provider_of s p)) before.members) (filter (λ p. hears g true (provider_of s p)) (joiners_in before.running)) a)) (λ (b : Has p (beginners s g e)). begins b) (has_append p (filter (λ p. hears g true (provider_of s p)) before.members ++ filter (λ p. hears g true (provider_of s p)) (joiners_in before.running)) (beginners s g e) h)
  where
    Found : Type 0
    Found = (x : Provider) × (provider_of s p ≡ Some x) × (x.group ≡ g) × ((x.takes_part ≡ true) ⊎ Has p (beginners s g e))

    taking : (o : Option Provider) → provider_of s p ≡ o → hears g true o ≡ true → Found
    taking None q e = absurd (cc)
    taking (Some x) q e = let k = and_parts x.takes_part (bytes_eq x.group g) e in (x, q, text_same x.group g k.1, inl k.0)

    starting : (o : Option Provider) → provider_of s p ≡ o → hears g false o ≡ true → Has p (beginners s g e) → Found
    starting None q e h = absurd (cc)
    starting (Some x) q e h = let k = and_parts (not x.takes_part) (bytes_eq x.group g) e in (x, q, text_same x.group g k.1, inr h)

    old : (ps : List ProviderId) → Has p (filter (λ p. hears g true (provider_of s p)) ps) → Found
    old ps a = taking (provider_of s p) refl (has_filter (λ p. hears g true (provider_of s p)) p ps a).1

    begins : Has p (beginners s g e) → Found
    begins a = starting (provider_of s p) refl (has_filter (λ p. hears g false (provider_of s p)) p (brought_by e) a).1 a

-- who takes part in the group, and is present, hears
pub present_hears : (s : SessionState) (g : List ℕ) (before : GroupState) (e : Entry) (p : ProviderId) (x : Provider) → provider_of s p ≡ Some x → x.takes_part ≡ true → x.group ≡ g → Has p (present before) → Has p (hearers s g before e)
unfolding hearers hearers_in
present_hears s g before e p x found part group h =
    let a : List ProviderId = filter (λ p. hears g true (provider_of s p)) before.members in
    let b : List ProviderId = filter (λ p. hears g true (provider_of s p)) (joiners_in before.running) in
    append_has_left p (a ++ b) (beginners s g e) (⊎_elim (λ (i : Has p before.members). append_has_left p a b (filter_has (λ p. hears g true (provider_of s p)) p before.members i test)) (λ (i : Has p (joiners_in before.running)). append_has_right p a b (filter_has (λ p. hears g true (provider_of s p)) p (joiners_in before.running) i test)) (has_append p before.members (joiners_in before.running) h))
  where
    test : hears g true (provider_of s p) ≡ true
    test = ap (hears g true) found ∙ (λ i. part i && bytes_eq (group i) g) ∙ text_self g

pub new_hears : (s : SessionState) (g : List ℕ) (before : GroupState) (e : Entry) (p : ProviderId) → Has p (beginners s g e) → Has p (hearers s g before e)
unfolding hearers hearers_in
new_hears s g before e p h =
    append_has_right p (filter (λ p. hears g true (provider_of s p)) before.members ++ filter (λ p. hears g true (provider_of s p)) (joiners_in before.running)) (beginners s g e) h
