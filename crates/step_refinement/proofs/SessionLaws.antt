-- What handing an entry on leaves of a node's providers and outstanding requests.
use Rattle.std.proofs.Common.{◌≡◌, ℕ, List, [], ◌∷◌, ◌++◌, Option, Some, None, Bool, true, false, refl, sym, ap, ◌∙◌, inl, inr, ⊎_elim, arith}
use Rattle.std.specs.Prelude.{◌==◌, ◌&&◌, not, filter, map, fold, find, if◌then◌else◌}
use Rattle.std.proofs.lemmas.Bool.Decides.{nat_tests}
use Rattle.rsct_packet.specs.declared.ids.ProviderId.{ProviderId}
use Rattle.rsct_packet.specs.Providers.{among, same_provider}
use Rattle.rsct_packet.specs.Search.{Has, edit_where}
use Rattle.rsct_packet.proofs.HasLaws.{has_filter, filter_has, has_append, find_has}
use Rattle.proposal_core.specs.declared.proposal.Proposal.{Proposal}
use Rattle.proposal_core.specs.declared.proposal.Proposal.TheVariants.{Join, Leave, Fail, Expel, State, Message, Attributes, Reflect}
use Rattle.proposal_core.specs.declared.entry.Entry.{Entry}
use Rattle.proposal_core.specs.declared.entry.Entry.TheVariants.{Once, Begin, Phase, Approve, Reject, Late}
use Rattle.proposal_core.specs.declared.group_state.GroupState.{GroupState}
use Rattle.proposal_core.specs.Fold.{joiners_in}
use Rattle.client_callbacks.specs.declared.ballot.Filled.{Filled}
use Rattle.session_state.specs.declared.casts.Cast.{Cast}
use Rattle.session_state.specs.declared.state.Provider.{Provider}
use Rattle.session_state.specs.declared.state.Request.{Request}
use Rattle.session_state.specs.declared.state.SessionState.{SessionState}
use Rattle.session_state.specs.State.{is_provider, is_request, provider_of, with_provider, end_request, without_providers}
use Rattle.session_state.specs.HandOn.{kept_ended, kept_after, hears, hearers_in, beginners, hearers, part_taken, opened_after, open_phases, casts_of, keep_casts, proposal_begun, requests_after, removed_from, casts_out, cast_of, heard, handed_on, taking_part, brought_by}
use Rattle.run_safety.specs.Requests.{requests_of, carried}
use Rattle.step_refinement.specs.Ghost.{Ghost}
use Rattle.step_refinement.specs.Tied.{Owes}

pub provider_self : (p : ProviderId) → same_provider p p ≡ true
provider_self p = grind (arith, nat_tests)

pub provider_same : (a b : ProviderId) → same_provider a b ≡ true → a ≡ b
provider_same a b z = grind (arith, nat_tests)

-- each request is that of a provider that is there
abbrev pub Attended : SessionState → Type 0
Attended s = (q : Request) → Has q s.requests → (y : Provider) × Has y s.providers × (y.provider ≡ q.provider)

-- nothing comes in: each provider was there, and each request; and no provider goes without its requests
pub record Later (s t : SessionState) : Type 0 where
  pub me : t.me ≡ s.me
  pub inc : t.inc ≡ s.inc
  pub level : t.level ≡ s.level
  pub last : t.last_request ≡ s.last_request
  pub providers : (y : Provider) → Has y t.providers → (z : Provider) × Has z s.providers × (y.provider ≡ z.provider)
  pub requests : (q : Request) → Has q t.requests → Has q s.requests
  pub attended : Attended s → Attended t

pub later_same : (s : SessionState) → Later s s
later_same s = record { me = refl; inc = refl; level = refl; last = refl; providers = λ y h. (y, h, refl); requests = λ q h. h; attended = λ a. a }

pub later_then : (s t u : SessionState) → Later s t → Later t u → Later s u
later_then s t u a b =
    record {
      me = b.me ∙ a.me;
      inc = b.inc ∙ a.inc;
      level = b.level ∙ a.level;
      last = b.last ∙ a.last;
      providers = λ y h. let k = b.providers y h in let j = a.providers k.0 k.1 in (j.0, j.1, k.2 ∙ j.2);
      requests = λ q h. a.requests q (b.requests q h);
      attended = λ k. b.attended (a.attended k);
    }

-- what was owed is owed
pub owes_later : (x : Ghost) (g : List ℕ) (n inc : ℕ) (s t : SessionState) → Later s t → Owes x g n inc s → Owes x g n inc t
owes_later x g n inc s t l o =
    record {
      me = l.me ∙ o.me;
      inc_of = l.inc ∙ o.inc_of;
      providers = λ y h. let a = l.providers y h in let b = o.providers a.0 a.1 in (ap (λ (z : ProviderId). z.node) a.2 ∙ b.0, ap (λ (z : ProviderId). z.inc) a.2 ∙ b.1);
      own = λ q h. o.own q (l.requests q h);
      requests = λ q h. o.requests q (l.requests q h);
      attended = l.attended o.attended;
      given = λ a h e f. let k = o.given a h e f in let z = l.last in omega arith;
    }

later_fold : {A : Type 0} (f : SessionState → A → SessionState) → ((s : SessionState) (x : A) → Later s (f s x)) → (xs : List A) (s : SessionState) → Later s (fold f s xs)
later_fold f step [] s = later_same s
later_fold f step (x ∷ xs) s = later_then s (f s x) (fold f (f s x) xs) (step s x) (later_fold f step xs (f s x))

edited : (p : ProviderId) (f : Provider → Provider) → ((x : Provider) → (f x).provider ≡ x.provider) → (xs : List Provider) (y : Provider) → Has y (edit_where (is_provider p) f xs) → (z : Provider) × Has z xs × (y.provider ≡ z.provider)
edited p f keeps [] y h = absurd h
edited p f keeps (x ∷ xs) y h = by (is_provider p x) h (edited p f keeps xs y)
  where
    by : (b : Bool) → Has y (if b then f x ∷ xs else x ∷ edit_where (is_provider p) f xs) → (Has y (edit_where (is_provider p) f xs) → (z : Provider) × Has z xs × (y.provider ≡ z.provider)) → (z : Provider) × Has z (x ∷ xs) × (y.provider ≡ z.provider)
    by true (inl e) k = (x, inl refl, ap (λ (w : Provider). w.provider) e ∙ keeps x)
    by true (inr i) k = (y, inr i, refl)
    by false (inl e) k = (x, inl refl, ap (λ (w : Provider). w.provider) e)
    by false (inr i) k = let r = k i in (r.0, inr r.1, r.2)

edited_has : (p : ProviderId) (f : Provider → Provider) → ((x : Provider) → (f x).provider ≡ x.provider) → (xs : List Provider) (z : Provider) → Has z xs → (y : Provider) × Has y (edit_where (is_provider p) f xs) × (y.provider ≡ z.provider)
edited_has p f keeps [] z h = absurd h
edited_has p f keeps (x ∷ xs) z h = by (is_provider p x) h (edited_has p f keeps xs z)
  where
    by : (b : Bool) → Has z (x ∷ xs) → (Has z xs → (y : Provider) × Has y (edit_where (is_provider p) f xs) × (y.provider ≡ z.provider)) → (y : Provider) × Has y (if b then f x ∷ xs else x ∷ edit_where (is_provider p) f xs) × (y.provider ≡ z.provider)
    by true (inl e) k = (f x, inl refl, keeps x ∙ ap (λ (w : Provider). w.provider) (sym e))
    by true (inr i) k = (z, inr i, refl)
    by false (inl e) k = (x, inl refl, ap (λ (w : Provider). w.provider) (sym e))
    by false (inr i) k = let r = k i in (r.0, inr r.1, r.2)

later_provider : (s : SessionState) (p : ProviderId) (f : Provider → Provider) → ((x : Provider) → (f x).provider ≡ x.provider) → Later s (with_provider s p f)
unfolding with_provider
later_provider s p f keeps =
    record { me = refl; inc = refl; level = refl; last = refl; providers = λ y h. edited p f keeps s.providers y h; requests = λ q h. h; attended = λ a q h. let k = a q h in let e = edited_has p f keeps s.providers k.0 k.1 in (e.0, e.1, e.2 ∙ k.2) }

later_kept : (s : SessionState) (g : List ℕ) (e : Entry) → Later s (kept_after s g e)
unfolding kept_after kept_ended
later_kept s g (Once x) = later_same s
later_kept s g (Begin x) = later_same s
later_kept s g (Phase c) = record { me = refl; inc = refl; level = refl; last = refl; providers = λ y h. (y, h, refl); requests = λ q h. h; attended = λ a. a }
later_kept s g (Approve c) = record { me = refl; inc = refl; level = refl; last = refl; providers = λ y h. (y, h, refl); requests = λ q h. h; attended = λ a. a }
later_kept s g (Reject c) = record { me = refl; inc = refl; level = refl; last = refl; providers = λ y h. (y, h, refl); requests = λ q h. h; attended = λ a. a }
later_kept s g (Late proto phase ps) = later_same s

later_parts : (s : SessionState) (ps : List ProviderId) → Later s (part_taken s ps)
unfolding part_taken
later_parts s ps = later_fold (λ t p. with_provider t p taking_part) (λ t p. later_provider t p taking_part (λ x. refl)) ps s

opened_keeps : (e : Entry) (after : GroupState) (x : Provider) → (opened_after e after x).provider ≡ x.provider
unfolding opened_after
opened_keeps (Once x) after y = refl
opened_keeps (Begin x) after y = refl
opened_keeps (Phase c) after y = refl
opened_keeps (Approve c) after y = refl
opened_keeps (Reject c) after y = refl
opened_keeps (Late proto phase ps) after y = refl

later_opened : (s : SessionState) (e : Entry) (after : GroupState) (ps : List ProviderId) → Later s (open_phases s e after ps)
unfolding open_phases
later_opened s e after ps =
    later_fold (λ t p. with_provider t p (opened_after e after)) (λ t p. later_provider t p (opened_after e after) (opened_keeps e after)) ps s

later_casts : (s : SessionState) (g : List ℕ) (cs : List Cast) → Later s (keep_casts s g cs)
unfolding keep_casts
later_casts s g cs = record { me = refl; inc = refl; level = refl; last = refl; providers = λ y h. (y, h, refl); requests = λ q h. h; attended = λ a. a }

later_ended : (s : SessionState) (p : ProviderId) (r : ℕ) → Later s (end_request s p r)
unfolding end_request
later_ended s p r =
    record { me = refl; inc = refl; level = refl; last = refl; providers = λ y h. (y, h, refl); requests = λ q h. (has_filter (λ q. not (is_request p r q)) q s.requests h).0; attended = λ a q h. a q (has_filter (λ q. not (is_request p r q)) q s.requests h).0 }

pub later_without : (s : SessionState) (ps : List ProviderId) → Later s (without_providers s ps)
unfolding without_providers
later_without s ps =
    record {
      me = refl;
      inc = refl;
      level = refl;
      last = refl;
      providers = λ y h. (y, (has_filter (λ x. not (among ps x.provider)) y s.providers h).0, refl);
      requests = λ q h. (has_filter (λ q. not (among ps q.provider)) q s.requests h).0;
      attended = λ a q h. let i = has_filter (λ q. not (among ps q.provider)) q s.requests h in
          let k = a q i.0 in
          (k.0, filter_has (λ x. not (among ps x.provider)) k.0 s.providers k.1 (ap (λ z. not (among ps z)) k.2 ∙ i.1), k.2);
    }

later_begun : (s : SessionState) (x : Proposal) → Later s (proposal_begun s x)
unfolding proposal_begun
later_begun s (Join ps attrs n) = later_fold (λ t p. end_request t p p.join) (λ t p. later_ended t p p.join) ps s
later_begun s (Leave p r) = later_ended s p r
later_begun s (Fail out) = later_same s
later_begun s (Expel p r out) = later_ended s p r
later_begun s (State p r value) = later_ended s p r
later_begun s (Message p r bytes) = later_ended s p r
later_begun s (Attributes p r attrs) = later_ended s p r
later_begun s (Reflect view place value) = later_same s

later_requests : (s : SessionState) (e : Entry) → Later s (requests_after s e)
unfolding requests_after
later_requests s (Once x) = later_begun s x
later_requests s (Begin x) = later_begun s x
later_requests s (Phase c) = later_same s
later_requests s (Approve c) = later_same s
later_requests s (Reject c) = later_same s
later_requests s (Late proto phase ps) = later_same s

-- what begins is outstanding no longer
gone : (s : SessionState) (p : ProviderId) (r : ℕ) (q : Request) → Has q (end_request s p r).requests → q.provider ≡ p → q.request ≡ r → ⊥
unfolding end_request
gone s p r q h a b =
    let k = (has_filter (λ q. not (is_request p r q)) q s.requests h).1 in
    let e : is_request p r q ≡ true = (λ i. same_provider (a i) p && b i == r) ∙ self p r in
    let f : not (is_request p r q) ≡ false = ap not e in cc
  where
    self : (p : ProviderId) (r : ℕ) → (same_provider p p && r == r) ≡ true
    self p r = grind (arith, nat_tests)

one_gone : (s : SessionState) (p : ProviderId) (r : ℕ) (q : Request) → Has q (end_request s p r).requests → Has {A = ProviderId × ℕ} (q.provider, q.request) ((p, r) ∷ []) → ⊥
one_gone s p r q h (inl e) = gone s p r q h (ap (λ (k : ProviderId × ℕ). k.0) e) (ap (λ (k : ProviderId × ℕ). k.1) e)
one_gone s p r q h (inr z) = z

all_gone : (ps : List ProviderId) (s : SessionState) (q : Request) → Has q (fold (λ t (p : ProviderId). end_request t p p.join) s ps).requests → Has {A = ProviderId × ℕ} (q.provider, q.request) (map (λ (p : ProviderId). (p, p.join)) ps) → ⊥
all_gone [] s q h k = k
all_gone (p ∷ ps) s q h (inl e) =
    gone s p p.join q ((later_fold (λ t (p : ProviderId). end_request t p p.join) (λ t p. later_ended t p p.join) ps (end_request s p p.join)).requests q h) (ap (λ (k : ProviderId × ℕ). k.0) e) (ap (λ (k : ProviderId × ℕ). k.1) e)
all_gone (p ∷ ps) s q h (inr k) = all_gone ps (end_request s p p.join) q h k

begun_gone : (s : SessionState) (x : Proposal) (q : Request) → Has q (proposal_begun s x).requests → Has (q.provider, q.request) (requests_of x) → ⊥
unfolding proposal_begun
begun_gone s (Join ps attrs n) q h k = all_gone ps s q h k
begun_gone s (Leave p r) q h k = one_gone s p r q h k
begun_gone s (Fail out) q h k = k
begun_gone s (Expel p r out) q h k = one_gone s p r q h k
begun_gone s (State p r value) q h k = one_gone s p r q h k
begun_gone s (Message p r bytes) q h k = one_gone s p r q h k
begun_gone s (Attributes p r attrs) q h k = one_gone s p r q h k
begun_gone s (Reflect view place value) q h k = k

after_gone : (s : SessionState) (e : Entry) (q : Request) → Has q (requests_after s e).requests → Has (q.provider, q.request) (carried e) → ⊥
unfolding requests_after
after_gone s (Once x) q h k = begun_gone s x q h k
after_gone s (Begin x) q h k = begun_gone s x q h k
after_gone s (Phase c) q h k = k
after_gone s (Approve c) q h k = k
after_gone s (Reject c) q h k = k
after_gone s (Late proto phase ps) q h k = k

module _ (s : SessionState) (g : List ℕ) (before after : GroupState) (e : Entry) (bs : List (Option Filled)) where
  abbrev t : SessionState
  t = part_taken (kept_after s g e) (beginners s g e)

  abbrev u : SessionState
  u = keep_casts (open_phases t e after (hearers s g before e)) g (casts_out s g before after e bs)

  -- nothing comes in
  pub handed_later : Later s (handed_on s g before after e bs)
  unfolding handed_on heard
  handed_later =
      let a = later_then s (kept_after s g e) t (later_kept s g e) (later_parts (kept_after s g e) (beginners s g e)) in
      let b = later_then s t (open_phases t e after (hearers s g before e)) a (later_opened t e after (hearers s g before e)) in
      let c = later_then s (open_phases t e after (hearers s g before e)) u b (later_casts (open_phases t e after (hearers s g before e)) g (casts_out s g before after e bs)) in
      let d = later_then s u (requests_after u e) c (later_requests u e) in
      later_then s (requests_after u e) (without_providers (requests_after u e) (removed_from after (hearers s g before e))) d (later_without (requests_after u e) (removed_from after (hearers s g before e)))

  -- what the entry begins is outstanding no longer
  pub handed_gone : (q : Request) → Has q (handed_on s g before after e bs).requests → Has (q.provider, q.request) (carried e) → ⊥
  unfolding handed_on heard
  handed_gone q h k =
      after_gone u e q ((later_without (requests_after u e) (removed_from after (hearers s g before e))).requests q h) k

-- who hears is a provider of the node
pub hearer_has : (s : SessionState) (g : List ℕ) (before : GroupState) (e : Entry) (p : ProviderId) → Has p (hearers s g before e) → (x : Provider) × Has x s.providers × (x.provider ≡ p)
unfolding hearers hearers_in beginners provider_of
hearer_has s g before e p h =
    ⊎_elim (λ (a : Has p (hearers_in s g true before.members ++ hearers_in s g true (joiners_in before.running))). ⊎_elim (λ (b : Has p (hearers_in s g true before.members)). of_list true before.members b) (λ (b : Has p (hearers_in s g true (joiners_in before.running))). of_list true (joiners_in before.running) b) (has_append p (hearers_in s g true before.members) (hearers_in s g true (joiners_in before.running)) a)) (λ (b : Has p (beginners s g e)). of_list false (brought_by e) b) (has_append p (hearers_in s g true before.members ++ hearers_in s g true (joiners_in before.running)) (beginners s g e) h)
  where
    found : (part : Bool) (o : Option Provider) → find (is_provider p) s.providers ≡ o → hears g part o ≡ true → (x : Provider) × Has x s.providers × (x.provider ≡ p)
    found part None q r = none part r
      where
        none : (part : Bool) → hears g part None ≡ true → (x : Provider) × Has x s.providers × (x.provider ≡ p)
        none true r = absurd (cc)
        none false r = absurd (cc)
    found part (Some x) q r = let k = find_has (is_provider p) s.providers x q in (x, k.0, same x.provider p k.1)
      where
        same : (a b : ProviderId) → same_provider a b ≡ true → a ≡ b
        same a b z = grind (arith, nat_tests)

    of_list : (part : Bool) (ps : List ProviderId) → Has p (filter (λ p. hears g part (find (is_provider p) s.providers)) ps) → (x : Provider) × Has x s.providers × (x.provider ≡ p)
    of_list part ps a = found part (find (is_provider p) s.providers) refl (has_filter (λ p. hears g part (find (is_provider p) s.providers)) p ps a).1

-- who casts hears
pub cast_has : (e : Entry) (after : GroupState) (level : ℕ) (ps : List ProviderId) (bs : List (Option Filled)) (c : Cast) → Has c (casts_of e after level ps bs) → Has c.provider ps
unfolding cast_of
cast_has e after level [] bs c h = absurd h
cast_has e after level (p ∷ ps) [] c (inl q) = inl (ap (λ (z : Cast). z.provider) q)
cast_has e after level (p ∷ ps) [] c (inr i) = inr (cast_has e after level ps [] c i)
cast_has e after level (p ∷ ps) (b ∷ bs) c (inl q) = inl (ap (λ (z : Cast). z.provider) q)
cast_has e after level (p ∷ ps) (b ∷ bs) c (inr i) = inr (cast_has e after level ps bs c i)
